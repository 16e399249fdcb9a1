-- What the searches for a free place and for a descriptor find.
use Rattle.std.proofs.Common.{◌≡◌, ◌<◌, ◌≤◌, ◌+◌, ℕ, zero, suc, Bool, true, false, List, [], ◌∷◌, length, get_or, Option, Some, None, refl, sym, ap, ◌∙◌, arith, inl, inr}
use Rattle.std.specs.Prelude.{◌==◌, is_none, is_some, not, Ok, Err, nat_lt, if◌then◌else◌, map}
use Rattle.std.specs.List.{position, position_or_len}
use Rattle.std.specs.Option.{ok_or}
use Rattle.std.proofs.lemmas.Bool.{cond-true, cond-false, eq-eqb, ne_eqb, cases_eq, cases_Bool, or_cases, or_left, or_right, lt-ltb, le-ltb, cases_lt}
use Rattle.lemmas.proofs.Bools.{false_not_true}
use Rattle.errno.specs.declared.Errno.{Errno}
use Rattle.lemmas.specs.Sums.{some_below, least_below}
use Rattle.tree.specs.Refusals.{free_place}

-- one number that passes is enough
pub found_below : (p : ℕ → Bool) (n k : ℕ) → k < n → p k ≡ true → some_below p n ≡ true
unfolding some_below
found_below p zero k l h = absurd (omega arith)
found_below p (suc n) k l h = elim (cases_eq k n) [
  | inl e ↦ or_right (some_below p n) (p n) (ap p (sym e) ∙ h)
  | inr d ↦ or_left (some_below p n) (p n) (found_below p n k (omega arith) h)
]

-- and there is one
pub one_below : (p : ℕ → Bool) (n : ℕ) → some_below p n ≡ true → (k : ℕ) × (k < n) × (p k ≡ true)
unfolding some_below
one_below p zero h = absurd (false_not_true h)
one_below p (suc n) h = elim (or_cases (some_below p n) (p n) h) [
  | inl e ↦ let found = one_below p n e in (found.0, omega (arith, found.1), found.2)
  | inr e ↦ (n, omega arith, e)
]

-- none passes where none below the bound does
pub none_below : (p : ℕ → Bool) (n : ℕ) → ((k : ℕ) → k < n → p k ≡ false) → some_below p n ≡ false
none_below p n h = elim (cases_Bool (some_below p n)) [
  | inl e ↦ let found = one_below p n e in absurd (false_not_true (sym (h found.0 found.1) ∙ found.2))
  | inr e ↦ e
]

-- none passes up to here, and this one doesn't
pub none_more : (p : ℕ → Bool) (n : ℕ) → some_below p n ≡ false → p n ≡ false → some_below p (n + 1) ≡ false
none_more p n h e = none_below p (n + 1) (λ k l. elim (cases_eq k n) [
  | inl is ↦ ap p is ∙ e
  | inr d ↦ elim (cases_Bool (p k)) [
    | inl y ↦ absurd (false_not_true (sym h ∙ found_below p n k (omega arith) y))
    | inr y ↦ y
  ]
])

-- The least that passes is the first before which none does.
pub least_at : (p : ℕ → Bool) (n k : ℕ) → k ≤ n → ((j : ℕ) → j < k → p j ≡ false) → (k < n → p k ≡ true) → least_below p n ≡ k
unfolding least_below
least_at p zero k le before here = omega arith
least_at p (suc n) k le before here = elim (cases_Bool (some_below p n)) [
  | inl s ↦
      let found = one_below p n s in
      let low : k ≤ n = elim (cases_lt found.0 k) [
        | inl l ↦ absurd (false_not_true (sym (before found.0 l) ∙ found.2))
        | inr l ↦ omega (arith, l, found.1)
      ] in
      cond-true (some_below p n) _ _ s ∙ least_at p n k low before (λ l. here (omega (arith, l)))
  | inr s ↦ cond-false (some_below p n) _ _ s ∙ elim (cases_lt k n) [
    | inl l ↦ absurd (false_not_true (sym s ∙ found_below p n k l (here (omega (arith, l)))))
    | inr l ↦ elim (cases_eq k n) [
      | inl e ↦ cond-true (p n) n (suc n) (ap p (sym e) ∙ here (omega (arith, e))) ∙ sym e
      | inr d ↦ let is : k ≡ suc n = omega (arith, l, d, le) in cond-false (p n) n (suc n) (before n (omega (arith, is))) ∙ sym is
    ]
  ]
]

-- before the first place that holds nothing each holds something
taken_before : {X : Type 0} (xs : List (Option X)) (k : ℕ) → k < position_or_len is_none xs → is_none (get_or xs k None) ≡ false
taken_before [] k l = absurd (omega arith)
taken_before (None ∷ xs) k l = absurd (omega arith)
taken_before (Some x ∷ xs) zero l = refl
taken_before (Some x ∷ xs) (suc k) l = taken_before xs k (omega arith)

-- and there is nothing there
free_there : {X : Type 0} (xs : List (Option X)) → position_or_len is_none xs < length xs → is_none (get_or xs (position_or_len is_none xs) None) ≡ true
free_there [] l = absurd (omega arith)
free_there (None ∷ xs) l = refl
free_there (Some x ∷ xs) l = ap (λ k. is_none (get_or (Some x ∷ xs) k None)) (one_more (position_or_len is_none xs)) ∙ free_there xs (omega arith)
  where
    one_more : (n : ℕ) → 1 + n ≡ suc n
    one_more n = omega arith

-- and it is within the list
free_within : {X : Type 0} (xs : List (Option X)) → position_or_len is_none xs ≤ length xs
free_within [] = omega arith
free_within (None ∷ xs) = omega arith
free_within (Some x ∷ xs) = omega (arith, free_within xs)

-- the first place that holds nothing is the least number that is free
least_free : {X : Type 0} (xs : List (Option X)) (limit : ℕ) → length xs ≡ limit → least_below (λ k. is_none (get_or xs k None)) limit ≡ position_or_len is_none xs
least_free xs limit is =
    least_at (λ k. is_none (get_or xs k None)) limit (position_or_len is_none xs) (omega (arith, free_within xs, is)) (taken_before xs)
    (λ l. free_there xs (omega (arith, l, is)))

-- so it is what a search for a free place answers
pub free_is : {X : Type 0} (xs : List (Option X)) (limit : ℕ) (e : Errno) → length xs ≡ limit
    → free_place (λ k. get_or xs k None) limit e ≡ ok_or (position is_none xs) e
free_is {X} xs limit e is = let n = position_or_len is_none xs in elim (cases_lt n (length xs)) [
  | inl l ↦
      let other : n ≡ limit → ⊥ = λ (s : n ≡ limit). omega (arith, s, l, is) in
      ap (λ k. if k == limit then Err e else Ok k) (least_free xs limit is) ∙ cond-false (n == limit) (Err e) (Ok n) (ne_eqb n limit other)
      ∙ sym (ap (λ o. ok_or o e) (cond-true (nat_lt n (length xs)) (Some n) None (lt-ltb n (length xs) l)))
  | inr l ↦
      let same : n ≡ limit = omega (arith, l, free_within xs, is) in
      ap (λ k. if k == limit then Err e else Ok k) (least_free xs limit is) ∙ cond-true (n == limit) (Err e) (Ok n) (eq-eqb n limit same)
      ∙ sym (ap (λ o. ok_or o e) (cond-false (nat_lt n (length xs)) (Some n) None (le-ltb n (length xs) l)))
]

-- the first free place of a list is that of another which holds something at the same places
pub same_first : {X Y : Type 0} (f : Option X → Option Y) (xs : List (Option X))
    → ((k : ℕ) → k < length xs → is_some (f (get_or xs k None)) ≡ is_some (get_or xs k None)) → position is_none (map f xs) ≡ position is_none xs
same_first {X} {Y} f xs h = ap (λ n. if nat_lt n (length (map f xs)) then Some n else None) (firsts xs h) ∙ ap (λ m. if nat_lt (position_or_len is_none xs) m then Some (position_or_len is_none xs) else None) (lengths xs)
  where
    firsts : (ys : List (Option X)) → ((k : ℕ) → k < length ys → is_some (f (get_or ys k None)) ≡ is_some (get_or ys k None)) → position_or_len is_none (map f ys) ≡ position_or_len is_none ys
    firsts [] g = refl
    firsts (y ∷ ys) g = ap (λ b. if not (not b) then 1 + position_or_len is_none (map f ys) else 0) (g zero (omega arith))
        ∙ ap (λ n. if not (is_none y) then 1 + n else 0) (firsts ys (λ k l. g (suc k) (omega (arith, l))))

    lengths : (ys : List (Option X)) → length (map f ys) ≡ length ys
    lengths [] = refl
    lengths (y ∷ ys) = ap suc (lengths ys)
