-- Names in entries.
use Rattle.std.proofs.Common.{◌≡◌, ◌≢◌, ◌<◌, ◌≤◌, ◌+◌, ◌-◌, take, drop, ℕ, zero, suc, true, false, List, [], ◌∷◌, length, slice_index, get_or, refl, sym, ap, subst, ◌∙◌, add-one, arith}
use Rattle.std.specs.Prelude.{Bool, not, ◌&&◌, ◌||◌, ◌==◌, nat_lt, nat_le}
use Rattle.std.specs.List.{list_any}
use mathlib.Core.Logic.{inl, inr}
use lib.Pointwise.{pointwise}
use lib.Dec.{eqb}
use Rattle.tree.specs.Names.{same_name, is_name, is_dots, most_name}
use Rattle.std.proofs.lemmas.Bool.{cases_eq, cases_lt, cond-true, cond-false, eq-eqb, ne_eqb, eqb-true, not-true, not-false, le-ltb, le-leb, lt-leb, and_from, and_left, and_right}
use Rattle.lemmas.specs.Sums.{some_below}
use Rattle.volume.proofs.Sums.{some_from, none_below, none_from}
use Rattle.image.specs.Entry.{is_field, is_padded, name_in}
use Rattle.std.proofs.lemmas.List.{length-take, length-drop, length-take-le, get_or-take, get_or-drop}
use Rattle.volume.specs.Nodes.{text_in}

-- a list of the bytes before the first zero is the text
pub text_is : (f : ℕ → ℕ) (k p : ℕ) (xs : List ℕ) → length xs ≤ k → ((a : ℕ) → a < length xs → (f (p + a) ≢ 0) × (get_or xs a 0 ≡ f (p + a)))
    → (length xs < k → f (p + length xs) ≡ 0) → xs ≡ text_in f k p
text_is f zero p [] most each last = refl
text_is f zero p (x ∷ xs) most each last = absurd (omega arith)
text_is f (suc k) p [] most each last =
    let at : p + 0 ≡ p = omega arith in
    sym (cond-true (f p == 0) [] _ (eq-eqb (f p) 0 (sym (ap f at) ∙ last (omega arith))))
text_is f (suc k) p (x ∷ xs) most each last =
    let at : p + 0 ≡ p = omega arith in
    let here = each 0 (omega arith) in
    let some : f p ≢ 0 = λ e. here.0 (ap f at ∙ e) in
    let first : x ≡ f p = here.1 ∙ ap f at in
    let rest : xs ≡ text_in f k (suc p) = text_is f k (suc p) xs (omega arith)
    (λ a h. let step : suc p + a ≡ p + suc a = omega arith in let there = each (suc a) (omega arith) in
    (λ e. there.0 (ap f (sym step) ∙ e), there.1 ∙ ap f (sym step)))
    (λ h. let step : suc p + length xs ≡ p + suc (length xs) = omega arith in ap f step ∙ last (omega arith)) in
    (λ i. first i ∷ rest i) ∙ sym (cond-false (f p == 0) [] (f p ∷ text_in f k (suc p)) (ne_eqb (f p) 0 some))

-- a field with a byte that the name hasn't
pub no_field : (f : ℕ → ℕ) (name : List ℕ) (a wanted : ℕ) → a < 60 → f (4 + a) ≢ wanted → wanted ≡ slice_index name a → false ≡ is_field f name
no_field f name a wanted h differ is =
    sym (ap not (some_from (λ a. not (f (4 + a) == slice_index name a)) 60 a h (ap not (ne_eqb (f (4 + a)) (slice_index name a) (λ e. differ (e ∙ sym is))))))

-- a field with the name's bytes
pub all_field : (f : ℕ → ℕ) (name : List ℕ) (n : ℕ) → 60 ≤ n → ((k : ℕ) → k < n → not (f (4 + k) == slice_index name k) ≡ false) → true ≡ is_field f name
all_field f name n full same = sym (ap not (none_from (λ a. not (f (4 + a) == slice_index name a)) 60 (λ k h. same k (omega arith))))

-- a field with a byte behind a zero
pub no_padding : (f : ℕ → ℕ) (a : ℕ) → a < 59 → f (4 + a) ≡ 0 → f (5 + a) ≢ 0 → false ≡ is_padded f
no_padding f a h none some =
    let next : 4 + (a + 1) ≡ 5 + a = omega arith in
    sym (ap not (some_from (λ a. (f (4 + a) == 0) && not (f (4 + (a + 1)) == 0)) 59 a h
    (and_from _ _ (eq-eqb (f (4 + a)) 0 none) (ap not (ne_eqb (f (4 + (a + 1))) 0 (λ e. some (ap f (sym next) ∙ e)))))))

-- a field with none
pub all_padding : (f : ℕ → ℕ) (n : ℕ) → 59 ≤ n → ((k : ℕ) → k < n → ((f (4 + k) == 0) && not (f (4 + (k + 1)) == 0)) ≡ false) → true ≡ is_padded f
all_padding f n full same = sym (ap not (none_from (λ a. (f (4 + a) == 0) && not (f (4 + (a + 1)) == 0)) 59 (λ k h. same k (omega arith))))

module _ (xs : List ℕ) (whole : length xs ≡ 64) where
  -- the field of 60 bytes
  abbrev field : List ℕ
  field = take (length xs - 4) (drop 4 xs)

  -- its length
  sixty : length field ≡ 60
  sixty = simp (length-take, length-drop) (omega arith)

  -- a byte of it
  field_byte : (k : ℕ) → k < 60 → get_or field k 0 ≡ slice_index xs (4 + k)
  field_byte k h = let inside : k < length xs - 4 = omega arith in get_or-take (length xs - 4) (drop 4 xs) k 0 inside ∙ get_or-drop 4 xs k 0

  -- the bytes before the first zero are the name
  pub name_found : (n : ℕ) → n < length field → get_or field n 0 ≡ 0 → ((k : ℕ) → k < n → slice_index xs (4 + k) ≢ 0) → take n field ≡ name_in (slice_index xs)
  unfolding name_in
  name_found n h none some =
      let size = sixty in
      let len : length (take n field) ≡ n = length-take-le n field (omega arith) in
      text_is (slice_index xs) 60 4 (take n field) (omega arith)
      (λ a l. let near : a < n = omega arith in (some a near, get_or-take n field a 0 near ∙ field_byte a (omega arith)))
      (λ l. ap (λ m. slice_index xs (4 + m)) len ∙ sym (field_byte n (omega arith)) ∙ none)

  -- or all are, where none is zero
  pub name_whole : (n : ℕ) → length field ≤ n → ((k : ℕ) → k < n → slice_index xs (4 + k) ≢ 0) → field ≡ name_in (slice_index xs)
  unfolding name_in
  name_whole n far some =
      let size = sixty in
      text_is (slice_index xs) 60 4 field (omega arith)
      (λ a l. (some a (omega arith), field_byte a (omega arith)))
      (λ l. absurd (omega arith))

-- the code's equality of names is that of the definitions
pub same_names : (xs ys : List ℕ) → pointwise eqb xs ys ≡ same_name xs ys
same_names [] [] = refl
same_names [] (y ∷ ys) = refl
same_names (x ∷ xs) [] = refl
same_names (x ∷ xs) (y ∷ ys) = ap (λ b. (x == y) && b) (same_names xs ys)

-- a text has no zero byte
pub text_some : (f : ℕ → ℕ) (k p a : ℕ) → a < length (text_in f k p) → get_or (text_in f k p) a 0 ≢ 0
text_some f zero p a h = absurd (omega arith)
text_some f (suc k) p a h = elim (cases_eq (f p) 0) [
  | inl e ↦ let none : text_in f (suc k) p ≡ [] = cond-true (f p == 0) [] _ (eq-eqb (f p) 0 e) in let size : length (text_in f (suc k) p) ≡ 0 = ap length none in absurd (omega arith)
  | inr d ↦
      let more : text_in f (suc k) p ≡ f p ∷ text_in f k (suc p) = cond-false (f p == 0) [] (f p ∷ text_in f k (suc p)) (ne_eqb (f p) 0 d) in
      let P : List ℕ → Type 0 = λ xs. (b : ℕ) → b < length xs → get_or xs b 0 ≢ 0 in
      let all : P (f p ∷ text_in f k (suc p)) = at_each (f p) (text_in f k (suc p)) d (λ b. text_some f k (suc p) b) in
      subst P (sym more) all a h
]
  where
    at_each : (x : ℕ) (xs : List ℕ) → x ≢ 0 → ((b : ℕ) → b < length xs → get_or xs b 0 ≢ 0) → (b : ℕ) → b < length (x ∷ xs) → get_or (x ∷ xs) b 0 ≢ 0
    at_each x xs some rest zero h = some
    at_each x xs some rest (suc b) h = rest b (omega arith)

-- and is no longer than its field
pub text_most : (f : ℕ → ℕ) (k p : ℕ) → length (text_in f k p) ≤ k
text_most f zero p = omega arith
text_most f (suc k) p = elim (cases_eq (f p) 0) [
  | inl e ↦ let size : length (text_in f (suc k) p) ≡ 0 = ap length (cond-true (f p == 0) [] (f p ∷ text_in f k (suc p)) (eq-eqb (f p) 0 e)) in omega arith
  | inr d ↦
      let size : length (text_in f (suc k) p) ≡ suc (length (text_in f k (suc p))) = ap length (cond-false (f p == 0) [] (f p ∷ text_in f k (suc p)) (ne_eqb (f p) 0 d)) in
      let rest = text_most f k (suc p) in
      omega arith
]

-- so is a name
pub name_some : (f : ℕ → ℕ) (a : ℕ) → a < length (name_in f) → get_or (name_in f) a 0 ≢ 0
unfolding name_in
name_some f a h = text_some f 60 4 a h

pub name_most : (f : ℕ → ℕ) → length (name_in f) ≤ 60
unfolding name_in
name_most f = text_most f 60 4

-- the bytes that no name has, but for zero and numbers that are no bytes
pub plain : (xs : List ℕ) → ((k : ℕ) → k < length xs → get_or xs k 0 ≢ 0) → ((k : ℕ) → get_or xs k 0 < 256)
    → list_any (λ c. eqb c 47) xs ≡ list_any (λ c. (c == 47) || (c == 0) || nat_lt 255 c) xs
plain [] some low = refl
plain (x ∷ xs) some low =
    let here : (x == 0) ≡ false = ne_eqb x 0 (some 0 (omega arith)) in
    let byte : nat_lt 255 x ≡ false = le-ltb 255 x (let l = low 0 in omega arith) in
    let rest = plain xs (λ k h. some (suc k) (omega arith)) (λ k. low (suc k)) in
    let nothing : (b : Bool) → b ≡ b || false || false = λ b. elim b as (λ b. b ≡ b || false || false) [ true ↦ refl | false ↦ refl ] in
    ap (λ b. (x == 47) || b) rest ∙ ap (λ b. b || list_any (λ c. (c == 47) || (c == 0) || nat_lt 255 c) xs) (nothing (x == 47))
    ∙ sym (λ i. ((x == 47) || here i || byte i) || list_any (λ c. (c == 47) || (c == 0) || nat_lt 255 c) xs)

module _ (xs : List ℕ) where
  -- an empty list is no name
  pub not_empty : length xs ≡ 0 → false ≡ is_name xs
  not_empty e =
      let out : nat_le 1 (length xs) ≡ false = lt-leb 1 (length xs) (omega arith) in
      sym (ap (λ b. b && nat_le (length xs) most_name && not (list_any (λ c. (c == 47) || (c == 0) || nat_lt 255 c) xs) && not (is_dots xs)) out)

  module _ (short : length xs ≤ 60) (some : (k : ℕ) → k < length xs → get_or xs k 0 ≢ 0) (low : (k : ℕ) → get_or xs k 0 < 256) where
    -- one with a slash is none
    pub not_slash : list_any (λ c. eqb c 47) xs ≡ true → false ≡ is_name xs
    not_slash is =
        sym (ap (λ b. b && not (is_dots xs)) (and_right (nat_le 1 (length xs) && nat_le (length xs) most_name) _ (ap not (sym (plain xs some low) ∙ is))))

    -- any other is one but for the dots
    pub but_dots : length xs ≢ 0 → list_any (λ c. eqb c 47) xs ≡ false → not (is_dots xs) ≡ is_name xs
    but_dots long out =
        let first : nat_le 1 (length xs) ≡ true = le-leb 1 (length xs) (omega arith) in
        let second : nat_le (length xs) most_name ≡ true = le-leb (length xs) most_name short in
        let third : not (list_any (λ c. (c == 47) || (c == 0) || nat_lt 255 c) xs) ≡ true = ap not (sym (plain xs some low) ∙ out) in
        sym (λ i. first i && second i && third i && not (is_dots xs))

-- no byte is looked at yet, and all are zero
pub none_yet : (p : ℕ → Bool) → true ≡ not (some_below p 0)
unfolding some_below
none_yet p = refl

-- one byte more
pub one_more_blank : (z : ℕ → Bool) (n : ℕ) → (not (some_below (λ k. not (z k)) n) && z n) ≡ not (some_below (λ k. not (z k)) (n + 1))
unfolding some_below
one_more_blank z n =
    let turn : (a b : Bool) → (not a && b) ≡ not (a || not b) = λ a b. elim a as (λ a. (not a && b) ≡ not (a || not b)) [
      | true ↦ elim b as (λ b. (not true && b) ≡ not (true || not b)) [ true ↦ refl | false ↦ refl ]
      | false ↦ elim b as (λ b. (not false && b) ≡ not (false || not b)) [ true ↦ refl | false ↦ refl ]
    ] in
    turn (some_below (λ k. not (z k)) n) (z n) ∙ ap not (sym (ap (some_below (λ k. not (z k))) (add-one n)))

-- the bytes of a text aren't zero where they stand
pub text_front : (f : ℕ → ℕ) (k p a : ℕ) → a < length (text_in f k p) → f (p + a) ≢ 0
text_front f zero p a h = absurd (omega arith)
text_front f (suc k) p a h = elim (cases_eq (f p) 0) [
  | inl e ↦ let none : text_in f (suc k) p ≡ [] = cond-true (f p == 0) [] _ (eq-eqb (f p) 0 e) in let size : length (text_in f (suc k) p) ≡ 0 = ap length none in absurd (omega arith)
  | inr d ↦
      let size : length (text_in f (suc k) p) ≡ suc (length (text_in f k (suc p))) = ap length (cond-false (f p == 0) [] (f p ∷ text_in f k (suc p)) (ne_eqb (f p) 0 d)) in
      at_each (length (text_in f k (suc p))) d (λ b. text_front f k (suc p) b) a (omega arith)
]
  where
    at_each : (n : ℕ) → f p ≢ 0 → ((b : ℕ) → b < n → f (suc p + b) ≢ 0) → (a : ℕ) → a < suc n → f (p + a) ≢ 0
    at_each n some rest zero h = let at : p + 0 ≡ p = omega arith in λ e. some (ap f (sym at) ∙ e)
    at_each n some rest (suc b) h = let at : p + suc b ≡ suc p + b = omega arith in λ e. rest b (omega arith) (ap f (sym at) ∙ e)

module _ (xs : List ℕ) (whole : length xs ≡ 64) (n : ℕ) (is : n ≡ length (name_in (slice_index xs))) where
  -- the bytes behind the name
  abbrev rest : List ℕ
  rest = take (length xs - (4 + n)) (drop (4 + n) xs)

  -- a byte of the name
  front : (k : ℕ) → k < n → slice_index xs (4 + k) ≢ 0
  unfolding name_in
  front k h = text_front (slice_index xs) 60 4 k (omega arith)

  -- a field is padded where all bytes behind its name are zero
  pub padded_behind : not (some_below (λ k. not (slice_index rest k == 0)) (length rest)) ≡ true → true ≡ is_padded (slice_index xs)
  padded_behind blank =
      let most = name_most (slice_index xs) in
      let size : length rest ≡ 60 - n = simp (length-take, length-drop) (omega arith) in
      let behind : (k : ℕ) → n ≤ k → k < 60 → slice_index xs (4 + k) ≡ 0 = λ k low high.
      let inside : k - n < length xs - (4 + n) = omega arith in
      let here : k - n < length rest = omega arith in
      let none = none_below (λ k. not (slice_index rest k == 0)) (length rest) (not-true _ blank) (k - n) here in
      let at : 4 + n + (k - n) ≡ 4 + k = omega arith in
      sym (get_or-take (length xs - (4 + n)) (drop (4 + n) xs) (k - n) 0 inside ∙ get_or-drop (4 + n) xs (k - n) 0 ∙ ap (slice_index xs) at)
      ∙ eqb-true (slice_index rest (k - n)) 0 (not-false _ none)
      in
      all_padding (slice_index xs) 59 (omega arith) (λ k h. elim (cases_lt k n) [
        | inl low ↦ and_left _ _ (ne_eqb (slice_index xs (4 + k)) 0 (front k low))
        | inr high ↦ and_right _ _ (ap not (eq-eqb (slice_index xs (4 + (k + 1))) 0 (behind (k + 1) (omega arith) (omega arith))))
      ])
