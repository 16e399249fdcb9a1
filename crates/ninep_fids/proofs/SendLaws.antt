-- A reply that is written.
use Rattle.std.proofs.Common.{◌≡◌, ◌≤◌, ◌<◌, ◌+◌, ◌-◌, ◌^◌, ℕ, zero, suc, List, [], ◌∷◌, ◌++◌, length, take, slice_index_or, Result, Ok}
use Rattle.std.proofs.Common.{Err, OnOk, inr, subst, refl, arith}
use Rattle.std.proofs.lemmas.List.{length-append}
use Rattle.std.specs.List.{AllByRecursion, flat_map}
use Rattle.ninep.specs.Fields.{Four, Field, Number, Fits, fields_bytes, number_bytes}
use Rattle.ninep.proofs.FieldLaws.{number_length}
use Rattle.ninep.specs.Requests.{spelling}
use Rattle.ninep.specs.Replies.{qid_fields, replied, reply_fields, size_of}
use Rattle.ninep.specs.declared.reply.Qid.{Qid}
use Rattle.ninep.specs.declared.reply.Reply.{Reply}
use Rattle.ninep.specs.declared.reply.Reply.TheVariants as reply
use Rattle.ninep.specs.declared.write_refusal.WriteRefusal.{WriteRefusal}
use Rattle.ninep.specs.declared.write_refusal.WriteRefusal.TheVariants.{TooLong, OutOfMemory}
use Rattle.ninep_fids.specs.declared.answer.Said.{Said}
use Rattle.ninep_fids.specs.Sending.{IsSent}
use Rattle.ninep_fids.specs.Written.{said_number, said_fields, too_long, IsWritten, IsSaidIn}

pub written : (limit tag : ℕ) (s : Said) (r : Reply) (old new : List ℕ) → IsSent (said_number s) (said_fields (limit - 24) s) r
    → (size_of r ≤ limit) × (new ≡ old ++ spelling (replied tag r)) → IsWritten limit tag s old new
written limit tag s r old new sent is =
    let P : ℕ → List Field → Type 0 = λ number fields.
    (new ≡ old ++ spelling (record { tag = tag; body = record { number = number; fields = fields } }))
    × (7 + length (fields_bytes fields) ≤ limit) in
    subst (λ (fields : List Field). P (said_number s) fields) sent.1
    (subst (λ (number : ℕ). P number (reply_fields r)) sent.0 (is.1, is.0))

-- the numbers of one qid more fit their fields
pub one_more : (qids : List Qid) (i : ℕ) (q : Qid) → i < length qids → q ≡ slice_index_or qids i q → q.kind < 2 ^ 8 → q.version < 2 ^ 32
    → q.path < 2 ^ 64 → AllByRecursion Fits (flat_map qid_fields (take i qids))
    → AllByRecursion Fits (flat_map qid_fields (take (suc i) qids))
one_more [] i q h e a b c rest = absurd (omega (arith, h))
one_more (x ∷ xs) zero q h e a b c rest =
    subst (λ (r : Qid). AllByRecursion Fits (flat_map qid_fields (r ∷ []))) e (a, (b, (c, tt)))
one_more (x ∷ xs) (suc i) q h e a b c rest =
    let less : i < length xs = omega (arith, h) in
    (rest.0, (rest.1.0, (rest.1.1.0, one_more xs i q less e a b c rest.1.1.1)))

-- a reply that is too long is so as what is said
pub too_much : {A E : Type 0} (limit tag : ℕ) (s : Said) (r : Reply) (old mid new : List ℕ) (res : Result A E)
    → IsSent (said_number s) (said_fields (limit - 24) s) r → (limit < size_of r) × (mid ≡ old)
    → OnOk res (IsWritten limit tag too_long mid new)
    → OnOk res (IsSaidIn limit tag s old new)
too_much limit tag s r old mid new (Err e) sent long h = tt
too_much limit tag s r old mid new (Ok a) sent long h = inr (
  subst (λ (fields : List Field). limit < 7 + length (fields_bytes fields)) sent.1 long.0,
  subst (λ (o : List ℕ). IsWritten limit tag too_long o new) long.1 h,
)

error_size : (n : ℕ) → length (fields_bytes (Number Four n ∷ [])) ≡ 4
error_size n =
    let whole : length (number_bytes Four n ++ []) ≡ 4 = omega (arith, length-append (number_bytes Four n) [], number_length Four n) in
    whole

-- a refusal has eleven bytes, and is never too long
pub no_room : (e : WriteRefusal) (n limit len capacity : ℕ) → (e ≡ TooLong → limit < size_of (reply.Error n))
    → (e ≡ OutOfMemory → capacity < len + size_of (reply.Error n)) → 4096 ≤ limit → capacity < len + 11
no_room TooLong n limit len capacity long full least = absurd (omega (arith, error_size n, long refl, least))
no_room OutOfMemory n limit len capacity long full least = omega (arith, error_size n, full refl)
