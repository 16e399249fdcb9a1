-- The bytes of fields, one list behind another.
use Rattle.std.proofs.Common.{◌≡◌, ℕ, zero, suc, get_or, ◌+◌, ◌<◌, ◌≤◌, List, [], ◌∷◌, ◌++◌, length, take, drop, refl, sym, ap}
use Rattle.std.proofs.Common.{◌∙◌, append_assoc, arith}
use Rattle.std.proofs.Common.{Result, Ok, Err, OnErr}
use Rattle.std.specs.List.{flat_map}
use Rattle.std.proofs.lemmas.List.{length-append, take_at, take-append-drop}
use Rattle.std.proofs.lemmas.List.Concat.{flat_map-cons}
use Rattle.fields.specs.declared.putting.Part.{Part}
use Rattle.fields.specs.Puts.{StandsFirst, part_bytes}
use Rattle.std.specs.Int.{byte_len}
use Rattle.fields.specs.Fields.{width, number_bytes, Field, Number, Unused, Name, field_bytes, fields_bytes}
use Rattle.fields.proofs.FieldLaws.{number_length}

pub fields_append : (a b : List Field) → fields_bytes (a ++ b) ≡ fields_bytes a ++ fields_bytes b
fields_append [] b = refl
fields_append (field ∷ a) b =
    flat_map-cons field_bytes field (a ++ b)
    ∙ ap (λ (x : List ℕ). field_bytes field ++ x) (fields_append a b)
    ∙ sym (append_assoc (field_bytes field) (fields_bytes a) (fields_bytes b))
    ∙ ap (λ (x : List ℕ). x ++ fields_bytes b) (sym (flat_map-cons field_bytes field a))

-- what holds holds of a refusal
pub on_err : {A E : Type 0} (r : Result A E) (P : Type 0) → P → OnErr r P
on_err (Ok a) P h = tt
on_err (Err e) P h = h

-- what stands before bytes that stand first does so
pub stands_first : (old mid new rest : List ℕ) → mid ≡ old ++ rest → StandsFirst mid new → StandsFirst old new
stands_first old mid new rest e first =
    let parts : new ≡ old ++ (rest ++ drop (length mid) new) =
    sym (take-append-drop (length mid) new) ∙ ap (λ (x : List ℕ). x ++ drop (length mid) new) (first ∙ e)
    ∙ append_assoc old rest (drop (length mid) new) in
    ap (take (length old)) parts ∙ take_at old (rest ++ drop (length mid) new) (length old) refl

-- the bytes of the parts before one, and its own, are among those of all
part_within : (parts : List Part) (i : ℕ) (d : Part) → i < length parts
    → length (flat_map part_bytes (take i parts)) + length (part_bytes (get_or parts i d)) ≤ length (flat_map part_bytes parts)
part_within [] i d less = absurd (omega arith)
part_within (part ∷ parts) zero d less = omega (arith, length-append (part_bytes part) (flat_map part_bytes parts))
part_within (part ∷ parts) (suc i) d less = omega (
  arith,
  length-append (part_bytes part) (flat_map part_bytes (take i parts)),
  length-append (part_bytes part) (flat_map part_bytes parts),
  part_within parts i d (omega arith),
)

-- where a part has no room, all of them have none
pub no_room_for : (parts : List Part) (i len before at : ℕ) (d : Part) → i < length parts → before ≤ at
    → at < len + length (flat_map part_bytes (take i parts)) + length (part_bytes (get_or parts i d))
    → before < len + length (flat_map part_bytes parts)
no_room_for parts i len before at d less order full = omega (arith, part_within parts i d less)

-- how many bytes fields have
abbrev pub total_length : List Field → ℕ
total_length [] = 0
total_length (Number size n ∷ fields) = byte_len (width size) + total_length fields
total_length (Unused size n ∷ fields) = byte_len (width size) + total_length fields
total_length (Name bytes ∷ fields) = length bytes + 1 + total_length fields

pub fields_length : (fields : List Field) → length (fields_bytes fields) ≡ total_length fields
fields_length [] = refl
fields_length (Number size n ∷ fields) =
    omega (arith, length-append (number_bytes size n) (fields_bytes fields), number_length size n, fields_length fields)
fields_length (Unused size n ∷ fields) =
    omega (arith, length-append (number_bytes size n) (fields_bytes fields), number_length size n, fields_length fields)
fields_length (Name bytes ∷ fields) =
    omega (arith, length-append (bytes ++ 0 ∷ []) (fields_bytes fields), length-append bytes (0 ∷ []), fields_length fields)
