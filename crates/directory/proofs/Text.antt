-- The text in a field of 60 bytes.
use Rattle.std.proofs.Common.{◌≡◌, ◌≢◌, ◌<◌, ◌≤◌, ◌+◌, ◌*◌, ℕ, zero, suc, [], ◌∷◌, length, Bool, true, false, refl, sym, ap, ◌∙◌, arith}
use mathlib.Core.Logic.{inl, inr}
use Rattle.std.specs.Prelude.{not, ◌&&◌, ◌||◌, ◌==◌, nat_lt, nat_le, slice_index}
use Rattle.std.specs.List.{list_any}
use Rattle.std.proofs.lemmas.Bool.{cases_eq, cond-true, cond-false, eq-eqb, ne_eqb, eqb-true, leb-true, and_parts, and_from, or_parts, not-true, not-false, not_from_false, not_from_true}
use Rattle.lemmas.proofs.Bools.{and_false_right}
use Rattle.lemmas.specs.Sums.{some_below}
use Rattle.tree.specs.Names.{Name, is_name, is_dots, most_name, dot, dot_dot}
use Rattle.volume.specs.Nodes.{text_in, entry_name}
use Rattle.volume.proofs.Sums.{none_below, none_from}
use Rattle.directory.specs.Rows.{has_field, has_good_field, FieldIsName, NameIsField}

-- a byte that no name has
abbrev pub bad : ℕ → Bool
bad c = (c == 47) || (c == 0) || nat_lt 255 c

-- bytes without a bad one that fit into a field
pub record IsPlain (name : Name) : Type 0 where
  pub short : length name ≤ 60
  pub clean : list_any bad name ≡ false

-- 0 is bad
bad_zero : (x : ℕ) → x ≡ 0 → bad x ≡ true
bad_zero x e = ap bad e

some_byte : (x : ℕ) (xs : Name) → list_any bad (x ∷ xs) ≡ false → x ≢ 0
some_byte x xs clean e = let a = (or_parts (bad x) (list_any bad xs) clean).0 in let b = bad_zero x e in absurd (cc)

clean_rest : (x : ℕ) (xs : Name) → list_any bad (x ∷ xs) ≡ false → list_any bad xs ≡ false
clean_rest x xs clean = (or_parts (bad x) (list_any bad xs) clean).1

-- the text of bytes that are a name's and zeros is that name
text_of : (f : ℕ → ℕ) (k p : ℕ) (name : Name) → length name ≤ k → list_any bad name ≡ false → ((a : ℕ) → a < k → f (p + a) ≡ slice_index name a) → text_in f k p ≡ name
text_of f zero p [] low clean same = refl
text_of f zero p (x ∷ xs) low clean same = absurd (omega arith)
text_of f (suc k) p [] low clean same =
    let e : p ≡ p + 0 = omega arith in
    cond-true (f p == 0) [] (f p ∷ text_in f k (suc p)) (eq-eqb (f p) 0 (ap f e ∙ same 0 (omega arith)))
text_of f (suc k) p (x ∷ xs) low clean same =
    let e : p ≡ p + 0 = omega arith in
    let here : f p ≡ x = ap f e ∙ same 0 (omega arith) in
    let rest : text_in f k (suc p) ≡ xs = text_of f k (suc p) xs (omega arith) (clean_rest x xs clean) (λ a h. let d : suc p + a ≡ p + suc a = omega arith in ap f d ∙ same (suc a) (omega arith)) in
    cond-false (f p == 0) [] (f p ∷ text_in f k (suc p)) (ne_eqb (f p) 0 (λ none. some_byte x xs clean (sym here ∙ none)))
    ∙ (λ i. here i ∷ rest i)

-- after a zero all are zeros
zeros : (f : ℕ → ℕ) (k p : ℕ) → ((a : ℕ) → suc a < k → f (p + a) ≡ 0 → f (p + suc a) ≡ 0) → f p ≡ 0 → (a : ℕ) → a < k → f (p + a) ≡ 0
zeros f k p pad none zero low = let e : p + 0 ≡ p = omega arith in ap f e ∙ none
zeros f k p pad none (suc a) low = pad a low (zeros f k p pad none a (omega arith))

-- bytes where after a zero all are zeros are their text and zeros
fills : (f : ℕ → ℕ) (k p : ℕ) → ((a : ℕ) → suc a < k → f (p + a) ≡ 0 → f (p + suc a) ≡ 0) → (a : ℕ) → a < k → f (p + a) ≡ slice_index (text_in f k p) a
fills f zero p pad a low = absurd (omega arith)
fills f (suc k) p pad a low = elim (cases_eq (f p) 0) [
  | inl e ↦ zeros f (suc k) p pad e a low ∙ sym (ap (λ t. slice_index t a) (cond-true (f p == 0) [] (f p ∷ text_in f k (suc p)) (eq-eqb (f p) 0 e)))
  | inr d ↦ at (fills f k (suc p)) a low ∙ sym (ap (λ t. slice_index t a) (cond-false (f p == 0) [] (f p ∷ text_in f k (suc p)) (ne_eqb (f p) 0 d)))
]
  where
    at : (((c : ℕ) → suc c < k → f (suc p + c) ≡ 0 → f (suc p + suc c) ≡ 0) → (b : ℕ) → b < k → f (suc p + b) ≡ slice_index (text_in f k (suc p)) b)
        → (b : ℕ) → b < suc k → f (p + b) ≡ slice_index (f p ∷ text_in f k (suc p)) b
    at rest zero h = let e : p + 0 ≡ p = omega arith in ap f e
    at rest (suc b) h =
        let e : p + suc b ≡ suc p + b = omega arith in
        ap f e ∙ rest (λ c l none.
        let e0 : p + suc c ≡ suc p + c = omega arith in
        let e1 : suc p + suc c ≡ p + suc (suc c) = omega arith in
        ap f e1 ∙ pad (suc c) (omega arith) (ap f e0 ∙ none)) b (omega arith)

-- past a name's end there are zeros
past_end : (name : Name) (a : ℕ) → list_any bad name ≡ false → slice_index name a ≡ 0 → slice_index name (suc a) ≡ 0
past_end [] a clean none = refl
past_end (x ∷ xs) zero clean none = absurd (some_byte x xs clean none)
past_end (x ∷ xs) (suc a) clean none = past_end xs a (clean_rest x xs clean) none

module _ (f : ℕ → ℕ) (e : ℕ) where
  -- a field's bytes
  pub bytes_of_field : (name : Name) → has_field f e name ≡ true → (a : ℕ) → a < 60 → f (64 * e + 4 + a) ≡ slice_index name a
  bytes_of_field name is a low =
      let out = none_below (λ b. not (f (64 * e + 4 + b) == slice_index name b)) 60 (not-true _ is) a low in
      eqb-true (f (64 * e + 4 + a)) (slice_index name a) (not-false _ out)

  pub field_of_bytes : (name : Name) → ((a : ℕ) → a < 60 → f (64 * e + 4 + a) ≡ slice_index name a) → has_field f e name ≡ true
  field_of_bytes name bytes = not_from_false _ (none_from (λ b. not (f (64 * e + 4 + b) == slice_index name b)) 60 (λ a low. not_from_true _ (eq-eqb _ _ (bytes a low))))

  -- the name in a field that is a plain name's
  pub name_of_bytes : (name : Name) → IsPlain name → ((a : ℕ) → a < 60 → f (64 * e + 4 + a) ≡ slice_index name a) → entry_name f e ≡ name
  name_of_bytes name plain bytes = text_of f 60 (64 * e + 4) name plain.short plain.clean bytes

  abbrev unpadded : ℕ → Bool
  unpadded a = (f (64 * e + 4 + a) == 0) && not (f (64 * e + 4 + (a + 1)) == 0)

  -- a good field is its name's
  pub bytes_of_good : has_good_field f e ≡ true → (a : ℕ) → a < 60 → f (64 * e + 4 + a) ≡ slice_index (entry_name f e) a
  bytes_of_good good = fills f 60 (64 * e + 4) (λ a low none.
      let out = none_below unpadded 59 (not-true _ (and_parts (not (some_below unpadded 59)) (is_name (entry_name f e)) good).0) a (omega arith) in
      let next = and_false_right (f (64 * e + 4 + a) == 0) (not (f (64 * e + 4 + (a + 1)) == 0)) out (eq-eqb _ 0 none) in
      let d : 64 * e + 4 + suc a ≡ 64 * e + 4 + (a + 1) = omega arith in
      ap f d ∙ eqb-true _ 0 (not-false _ next))

  pub name_of_good : has_good_field f e ≡ true → is_name (entry_name f e) ≡ true
  name_of_good good = (and_parts (not (some_below unpadded 59)) (is_name (entry_name f e)) good).1

-- a name is plain
pub name_plain : (name : Name) → is_name name ≡ true → IsPlain name
name_plain name is =
    let a = nat_le 1 (length name) in
    let b = nat_le (length name) most_name in
    let c = not (list_any bad name) in
    let d = not (is_dots name) in
    let parts = and_parts (a && b && c) d is in
    let more = and_parts (a && b) c parts.0 in
    record { short = leb-true (length name) 60 (and_parts a b more.0).1; clean = not-true _ more.1 }

-- and neither . nor ..
pub name_not_dots : (name : Name) → is_name name ≡ true → is_dots name ≡ false
name_not_dots name is =
    let a = nat_le 1 (length name) in
    let b = nat_le (length name) most_name in
    let c = not (list_any bad name) in
    let d = not (is_dots name) in
    not-true _ (and_parts (a && b && c) d is).1

pub dot_plain : IsPlain dot
dot_plain = record { short = omega arith; clean = refl }

pub dot_dot_plain : IsPlain dot_dot
dot_dot_plain = record { short = omega arith; clean = refl }

-- bytes that are a good name's are a good field
pub good_of_bytes : (f : ℕ → ℕ) (e : ℕ) (name : Name) → is_name name ≡ true → ((a : ℕ) → a < 60 → f (64 * e + 4 + a) ≡ slice_index name a) → has_good_field f e ≡ true
good_of_bytes f e name is bytes =
    let plain = name_plain name is in
    and_from (not (some_below (unpadded f e) 59)) (is_name (entry_name f e))
    (not_from_false _ (none_from (unpadded f e) 59 (λ a low. elim (cases_eq (f (64 * e + 4 + a)) 0) [
      | inl none ↦
          let next : f (64 * e + 4 + (a + 1)) ≡ 0 = bytes (a + 1) (omega arith) ∙ past name a plain none (bytes a (omega arith)) in
          (λ i. (f (64 * e + 4 + a) == 0) && not (next i == 0)) ∙ and_out (f (64 * e + 4 + a) == 0)
      | inr some ↦ ap (λ b. b && not (f (64 * e + 4 + (a + 1)) == 0)) (ne_eqb _ 0 some)
    ])))
    (ap is_name (name_of_bytes f e name plain bytes) ∙ is)
  where
    and_out : (b : Bool) → (b && false) ≡ false
    and_out true = refl
    and_out false = refl

    past : (q : Name) (a : ℕ) → IsPlain q → f (64 * e + 4 + a) ≡ 0 → f (64 * e + 4 + a) ≡ slice_index q a → slice_index q (a + 1) ≡ 0
    past q a plain none same =
        let d : a + 1 ≡ suc a = omega arith in
        ap (slice_index q) d ∙ past_end q a plain.clean (sym same ∙ none)

-- 5
pub field_is_name : FieldIsName
field_is_name f n k e name row is past low field = name_of_bytes f e name (name_plain name is) (bytes_of_field f e name field)

pub name_is_field : NameIsField
name_is_field f n k e row past low = field_of_bytes f e (entry_name f e) (bytes_of_good f e (row.names e past low))
