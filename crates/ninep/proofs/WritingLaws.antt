-- The bytes of fields, one list behind another.
use Rattle.std.proofs.Common.{◌≡◌, ℕ, zero, suc, get_or, ◌+◌, ◌-◌, ◌*◌, ◌<◌, ◌≤◌, List, [], ◌∷◌, ◌++◌, length, take, drop, refl, sym, ap}
use Rattle.std.proofs.Common.{◌∙◌, append_assoc, arith}
use Rattle.std.proofs.Common.{Result, Ok, Err, OnErr}
use Rattle.std.specs.List.{flat_map}
use Rattle.std.proofs.lemmas.List.{set-append_right, length-append, length-take, take_at, take-append-drop}
use Rattle.std.proofs.Math.ListN.{set}
use Rattle.std.proofs.lemmas.List.Concat.{flat_map-cons}
use Rattle.ninep.specs.declared.reply.Qid.{Qid}
use Rattle.ninep.specs.declared.reply.Reply.{Reply}
use Rattle.ninep.specs.declared.writing.Part.{Part}
use Rattle.ninep.specs.Puts.{StandsFirst, part_bytes}
use Rattle.ninep.specs.Fields.{One, Two, Four, Eight, Field, number_bytes, field_bytes, fields_bytes}
use Rattle.ninep.specs.Requests.{rest_bytes}
use Rattle.ninep.specs.Replies.{number_of, reply_fields, replied, size_of, qid_fields}
use Rattle.ninep.proofs.FieldLaws.{number_length}

pub fields_append : (a b : List Field) → fields_bytes (a ++ b) ≡ fields_bytes a ++ fields_bytes b
fields_append [] b = refl
fields_append (field ∷ a) b =
    flat_map-cons field_bytes field (a ++ b)
    ∙ ap (λ (x : List ℕ). field_bytes field ++ x) (fields_append a b)
    ∙ sym (append_assoc (field_bytes field) (fields_bytes a) (fields_bytes b))
    ∙ ap (λ (x : List ℕ). x ++ fields_bytes b) (sym (flat_map-cons field_bytes field a))

-- a byte set behind a list
set_behind : (front xs : List ℕ) (at i b : ℕ) → length front ≡ at → set (front ++ xs) (at + i) b ≡ front ++ set xs i b
set_behind front xs at i b long =
    let same : at + i - at ≡ i = omega arith in
    set-append_right front xs at (at + i) b long (omega arith) ∙ ap (λ k. front ++ set xs k b) same

-- four bytes set behind a list
pub four_set : (front rest : List ℕ) (at a b c d : ℕ) → length front ≡ at
    → set (set (set (set (front ++ (0 ∷ 0 ∷ 0 ∷ 0 ∷ rest)) at a) (at + 1) b) (at + 2) c) (at + 3) d ≡ front ++ (a ∷ b ∷ c ∷ d ∷ rest)
four_set front rest at a b c d long =
    let zero_th : at + 0 ≡ at = omega arith in
    ap (λ x. set (set (set x (at + 1) b) (at + 2) c) (at + 3) d)
    (ap (λ k. set (front ++ (0 ∷ 0 ∷ 0 ∷ 0 ∷ rest)) k a) (sym zero_th) ∙ set_behind front (0 ∷ 0 ∷ 0 ∷ 0 ∷ rest) at 0 a long)
    ∙ ap (λ x. set (set x (at + 2) c) (at + 3) d) (set_behind front (a ∷ 0 ∷ 0 ∷ 0 ∷ rest) at 1 b long)
    ∙ ap (λ x. set x (at + 3) d) (set_behind front (a ∷ b ∷ 0 ∷ 0 ∷ rest) at 2 c long)
    ∙ set_behind front (a ∷ b ∷ c ∷ 0 ∷ rest) at 3 d long

-- four bytes behind a list, and more behind these
pub put_behind : (old out rest : List ℕ) → out ≡ (old ++ (0 ∷ 0 ∷ 0 ∷ 0 ∷ [])) ++ rest → out ≡ old ++ (0 ∷ 0 ∷ 0 ∷ 0 ∷ rest)
put_behind old out rest is = is ∙ append_assoc old (0 ∷ 0 ∷ 0 ∷ 0 ∷ []) rest

-- they are so many
pub put_length_is : (old out rest : List ℕ) → out ≡ (old ++ (0 ∷ 0 ∷ 0 ∷ 0 ∷ [])) ++ rest → length out ≡ length old + (4 + length rest)
put_length_is old out rest is =
    let four : length (0 ∷ 0 ∷ 0 ∷ 0 ∷ rest) ≡ 4 + length rest = omega arith in
    ap length (put_behind old out rest is) ∙ length-append old (0 ∷ 0 ∷ 0 ∷ 0 ∷ rest) ∙ ap (λ n. length old + n) four

-- cut back to the list
pub cut_back : (old out rest : List ℕ) → out ≡ (old ++ (0 ∷ 0 ∷ 0 ∷ 0 ∷ [])) ++ rest → take (length old) out ≡ old
cut_back old out rest is = ap (take (length old)) (put_behind old out rest is) ∙ take_at old (0 ∷ 0 ∷ 0 ∷ 0 ∷ rest) (length old) refl

-- the size of an answer is that of its bytes
pub answer_size : (tag : ℕ) (r : Reply) → 4 + length (rest_bytes (replied tag r)) ≡ size_of r
answer_size tag r =
    let fields = fields_bytes (reply_fields r) in
    omega (
      arith,
      length-append (number_bytes One (number_of r)) (number_bytes Two tag ++ fields),
      number_length One (number_of r),
      length-append (number_bytes Two tag) fields,
      number_length Two tag,
    )

-- what holds holds of a refusal
pub on_err : {A E : Type 0} (r : Result A E) (P : Type 0) → P → OnErr r P
on_err (Ok a) P h = tt
on_err (Err e) P h = h

-- what stands before bytes that stand first does so
pub stands_first : (old mid new rest : List ℕ) → mid ≡ old ++ rest → StandsFirst mid new → StandsFirst old new
stands_first old mid new rest e first =
    let parts : new ≡ old ++ (rest ++ drop (length mid) new) =
    sym (take-append-drop (length mid) new) ∙ ap (λ (x : List ℕ). x ++ drop (length mid) new) (first ∙ e)
    ∙ append_assoc old rest (drop (length mid) new) in
    ap (take (length old)) parts ∙ take_at old (rest ++ drop (length mid) new) (length old) refl

pub qid_length : (q : Qid) → length (fields_bytes (qid_fields q)) ≡ 13
qid_length q =
    let whole : length (number_bytes One q.kind ++ (number_bytes Four q.version ++ (number_bytes Eight q.path ++ []))) ≡ 13 = omega (
      arith,
      length-append (number_bytes One q.kind) (number_bytes Four q.version ++ (number_bytes Eight q.path ++ [])),
      length-append (number_bytes Four q.version) (number_bytes Eight q.path ++ []),
      length-append (number_bytes Eight q.path) [],
      number_length One q.kind,
      number_length Four q.version,
      number_length Eight q.path,
    ) in
    whole

qids_length : (qids : List Qid) → length (fields_bytes (flat_map qid_fields qids)) ≡ 13 * length qids
qids_length [] = refl
qids_length (q ∷ qids) = omega (
  arith,
  ap length (fields_append (qid_fields q) (flat_map qid_fields qids)),
  length-append (fields_bytes (qid_fields q)) (fields_bytes (flat_map qid_fields qids)),
  qid_length q,
  qids_length qids,
)

-- where a qid has no room, all of them have none
pub no_room : (qids : List Qid) (i len before at : ℕ) (head : List ℕ) → i < length qids → before ≤ at
    → at < len + length (head ++ fields_bytes (flat_map qid_fields (take i qids))) + 13
    → before < len + length (head ++ fields_bytes (flat_map qid_fields qids))
no_room qids i len before at head less order full = omega (
  arith,
  length-append head (fields_bytes (flat_map qid_fields (take i qids))),
  length-append head (fields_bytes (flat_map qid_fields qids)),
  qids_length qids,
  qids_length (take i qids),
  length-take i qids,
)

-- the bytes of the parts before one, and its own, are among those of all
part_within : (parts : List Part) (i : ℕ) (d : Part) → i < length parts
    → length (flat_map part_bytes (take i parts)) + length (part_bytes (get_or parts i d)) ≤ length (flat_map part_bytes parts)
part_within [] i d less = absurd (omega arith)
part_within (part ∷ parts) zero d less = omega (arith, length-append (part_bytes part) (flat_map part_bytes parts))
part_within (part ∷ parts) (suc i) d less = omega (
  arith,
  length-append (part_bytes part) (flat_map part_bytes (take i parts)),
  length-append (part_bytes part) (flat_map part_bytes parts),
  part_within parts i d (omega arith),
)

-- where a part has no room, all of them have none
pub no_room_for : (parts : List Part) (i len before at : ℕ) (d : Part) → i < length parts → before ≤ at
    → at < len + length (flat_map part_bytes (take i parts)) + length (part_bytes (get_or parts i d))
    → before < len + length (flat_map part_bytes parts)
no_room_for parts i len before at d less order full = omega (arith, part_within parts i d less)
