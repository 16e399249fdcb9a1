-- The order in which places were used last.
use Rattle.std.proofs.Common.{◌≡◌, ℕ, zero, suc, ◌+◌, ◌<◌, ◌≤◌, List, [], ◌∷◌, length, set, get_or, length-set, Bool, true, false, cond, refl, sym, ap, subst, ◌∙◌, arith}
use mathlib.Core.Logic.{inl, inr, ◌⊎◌}
use Rattle.std.specs.Prelude.{slice_index, nat_lt}
use Rattle.std.specs.List.{filter}
use Rattle.std.proofs.lemmas.Bool.{cases_eq, cases_lt, lt-ltb}
use Rattle.std.proofs.lemmas.Bool.Decides.{nat_tests}
use Rattle.lemmas.proofs.Numbers.{less_fails}
use Rattle.cache.specs.Uses.{AllBelow, IsNewest, IsLonger, rank, KeepsOrder}

-- one where this holds
abbrev one_if : Bool → ℕ
one_if true = 1
one_if false = 0

-- one more number
rank_more : (x z : ℕ) (xs : List ℕ) → rank x (z ∷ xs) ≡ one_if (nat_lt z x) + rank x xs
rank_more x z xs = by (nat_lt z x)
  where
    by : (b : Bool) → length (cond b (z ∷ filter (λ (o : ℕ). nat_lt o x) xs) (filter (λ (o : ℕ). nat_lt o x) xs)) ≡ one_if b + length (filter (λ (o : ℕ). nat_lt o x) xs)
    by true = omega arith
    by false = omega arith

-- a higher number has as many lower ones at least
rank_le : (x y : ℕ) (xs : List ℕ) → x ≤ y → rank x xs ≤ rank y xs
rank_le x y [] le = omega arith
rank_le x y (z ∷ xs) le = elim (cases_lt z x) [
  | inl lt ↦
      let a : one_if (nat_lt z x) ≡ 1 = ap one_if (lt-ltb z x lt) in
      let b : one_if (nat_lt z y) ≡ 1 = ap one_if (lt-ltb z y (omega (arith, lt, le))) in
      let rest = rank_le x y xs le in
      omega (arith, a, b, rest, rank_more x z xs, rank_more y z xs)
  | inr ge ↦
      let a : one_if (nat_lt z x) ≡ 0 = ap one_if (less_fails z x ge) in
      let rest = rank_le x y xs le in
      omega (arith, a, rest, rank_more x z xs, rank_more y z xs)
]

-- and more, if the lower one is among them
rank_lt : (x y : ℕ) (xs : List ℕ) (i : ℕ) → x < y → i < length xs → get_or xs i 0 ≡ x → rank x xs < rank y xs
rank_lt x y [] i lt in_range e = absurd (omega (arith, in_range))
rank_lt x y (z ∷ xs) zero lt in_range e =
    let a : one_if (nat_lt z x) ≡ 0 = ap one_if (less_fails z x (omega (arith, e))) in
    let b : one_if (nat_lt z y) ≡ 1 = ap one_if (lt-ltb z y (omega (arith, e, lt))) in
    let rest = rank_le x y xs (omega (arith, lt)) in
    omega (arith, a, b, rest, rank_more x z xs, rank_more y z xs)
rank_lt x y (z ∷ xs) (suc i) lt in_range e =
    let rest = rank_lt x y xs i lt (omega (arith, in_range)) e in
    elim (cases_lt z x) [
      | inl less ↦
          let a : one_if (nat_lt z x) ≡ 1 = ap one_if (lt-ltb z x less) in
          let b : one_if (nat_lt z y) ≡ 1 = ap one_if (lt-ltb z y (omega (arith, less, lt))) in
          omega (arith, a, b, rest, rank_more x z xs, rank_more y z xs)
      | inr ge ↦
          let a : one_if (nat_lt z x) ≡ 0 = ap one_if (less_fails z x ge) in
          omega (arith, a, rest, rank_more x z xs, rank_more y z xs)
    ]

-- no number has more lower ones than there are
pub rank_most : (x : ℕ) (xs : List ℕ) → rank x xs ≤ length xs
rank_most x [] = omega arith
rank_most x (z ∷ xs) = by (nat_lt z x) (rank_more x z xs) (rank_most x xs)
  where
    by : (b : Bool) → rank x (z ∷ xs) ≡ one_if b + rank x xs → rank x xs ≤ length xs → rank x (z ∷ xs) ≤ length (z ∷ xs)
    by true e le = omega (arith, e, le)
    by false e le = omega (arith, e, le)

-- numbers and how many are lower stand in the same order
pub same_order : (xs : List ℕ) (i j : ℕ) → i < length xs → j < length xs
    → nat_lt (rank (get_or xs i 0) xs) (rank (get_or xs j 0) xs) ≡ nat_lt (get_or xs i 0) (get_or xs j 0)
same_order xs i j ini inj = elim (cases_lt (get_or xs i 0) (get_or xs j 0)) [
  | inl lt ↦ lt-ltb _ _ (rank_lt (get_or xs i 0) (get_or xs j 0) xs i lt ini refl) ∙ sym (lt-ltb _ _ lt)
  | inr ge ↦ less_fails _ _ (rank_le (get_or xs j 0) (get_or xs i 0) xs ge) ∙ sym (less_fails _ _ ge)
]

-- an element of a list after another was set
pub set_same : (xs : List ℕ) (i x : ℕ) → i < length xs → get_or (set xs i x) i 0 ≡ x
set_same [] i x lt = absurd (omega (arith, lt))
set_same (y ∷ xs) zero x lt = refl
set_same (y ∷ xs) (suc i) x lt = set_same xs i x (omega (arith, lt))

-- the others stay
pub set_other : (xs : List ℕ) (i j x : ℕ) → (j ≡ i → ⊥) → get_or (set xs i x) j 0 ≡ get_or xs j 0
set_other [] i j x ne = refl
set_other (y ∷ xs) zero zero x ne = absurd (ne refl)
set_other (y ∷ xs) zero (suc j) x ne = refl
set_other (y ∷ xs) (suc i) zero x ne = refl
set_other (y ∷ xs) (suc i) (suc j) x ne = set_other xs i j x (λ e. ne (ap suc e))

-- places that were numbered anew
pub record Numbered (old new : List ℕ) (n : ℕ) : Type 0 where
  pub count : length new ≡ length old
  pub each : (i : ℕ) → i < n → slice_index new i ≡ rank (slice_index old i) old + 1

-- one more
pub numbered_more : (old new : List ℕ) (at : ℕ) → at < length old → Numbered old new at → Numbered old (set new at (rank (slice_index old at) old + 1)) (at + 1)
numbered_more old new at lt h = record {
  count = length-set new at (rank (slice_index old at) old + 1) ∙ h.count;
  each = λ i ini. elim (cases_eq i at) [
    | inl e ↦
        ap (λ k. get_or (set new at (rank (slice_index old at) old + 1)) k 0) e
        ∙ set_same new at (rank (slice_index old at) old + 1) (omega (arith, lt, h.count)) ∙ ap (λ k. rank (slice_index old k) old + 1) (sym e)
    | inr ne ↦ set_other new at i (rank (slice_index old at) old + 1) ne ∙ h.each i (less i ini ne)
  ];
}
  where
    less : (i : ℕ) → i < at + 1 → (i ≡ at → ⊥) → i < at
    less i ini ne = elim (cases_lt i at) [
      | inl k ↦ k
      | inr k ↦ absurd (ne (omega (arith, ini, k)))
    ]

-- all of them
pub numbered_all : (old new : List ℕ) (n : ℕ) → n ≤ length old → length old ≤ n → Numbered old new n → Numbered old new (length old)
numbered_all old new n le ge h = let all : n ≡ length old = omega (arith, le, ge) in subst (λ (k : ℕ). Numbered old new k) all h

-- all of them stand in their order
pub numbered_order : (old new : List ℕ) → Numbered old new (length old) → KeepsOrder old new
numbered_order old new h = record {
  count = h.count;
  order = λ i j ini inj. rw (h.each i ini, h.each j inj) (both (rank (get_or old i 0) old) (rank (get_or old j 0) old) ∙ same_order old i j ini inj);
}
  where
    both : (a b : ℕ) → nat_lt (a + 1) (b + 1) ≡ nat_lt a b
    both a b = grind (arith, nat_tests)

-- and below what comes next
pub numbered_below : (old new : List ℕ) → Numbered old new (length old) → AllBelow new (length old + 1)
numbered_below old new h = record {
  each = λ i ini.
      let lt : i < length old = omega (arith, ini, h.count) in
      let is = h.each i lt in
      let lower = rank_lt' old i lt in
      omega (arith, is, lower);
}
  where
    -- its own number isn't among the lower ones
    rank_lt' : (xs : List ℕ) (i : ℕ) → i < length xs → rank (get_or xs i 0) xs < length xs
    rank_lt' xs i lt =
        let more = rank_lt (get_or xs i 0) (get_or xs i 0 + 1) xs i (omega arith) lt refl in
        let most = rank_most (get_or xs i 0 + 1) xs in
        omega (arith, more, most)

-- ---- the place that was used last

-- what stands past the end
past_end : (xs : List ℕ) (i : ℕ) → length xs ≤ i → get_or xs i 0 ≡ 0
past_end [] i le = refl
past_end (x ∷ xs) zero le = absurd (let q : ⊥ = omega (arith, le) in q)
past_end (x ∷ xs) (suc i) le = past_end xs i (omega (arith, le))

-- of places that were numbered anew
pub newest_keeps : (old new : List ℕ) (at : ℕ) → KeepsOrder old new → IsNewest old at → IsNewest new at
newest_keeps old new at k h = record {
  above = λ i ini ne. by i (let c = k.count in omega arith) ne (cases_lt at (length old));
}
  where
    by : (i : ℕ) → i < length old → (i ≡ at → ⊥) → (at < length old) ⊎ (length old ≤ at) → get_or new i 0 < get_or new at 0
    by i ini ne (inl lt) = elim (cases_lt (get_or new i 0) (get_or new at 0)) [
      | inl less ↦ less
      | inr ge ↦
          let no = less_fails (get_or new i 0) (get_or new at 0) ge in
          let yes = lt-ltb (get_or old i 0) (get_or old at 0) (h.above i ini ne) in
          let same = k.order i at ini lt in
          absurd (let q : ⊥ = cc in q)
    ]
    by i ini ne (inr out) =
        -- a place out of range has the number 0
        let less = h.above i ini ne in
        let none = past_end old at out in
        absurd (let q : ⊥ = omega (arith, less, none) in q)

-- ---- the beginning

-- each place has its own number
pub record IsCounted (numbers : List ℕ) (n : ℕ) : Type 0 where
  pub each : (i : ℕ) → i < n → get_or numbers i 0 ≡ i

-- ---- more places, which were never used

-- of two places or more the one that was used last has a number above 0
newest_used : (numbers : List ℕ) (at : ℕ) → 1 < length numbers → IsNewest numbers at → 0 < get_or numbers at 0
newest_used numbers at two h = elim (cases_eq at 0) [
  | inl e ↦ let k = h.above 1 two (λ f. let q : ⊥ = omega (arith, e, f) in q) in omega (arith, k)
  | inr ne ↦ let k = h.above 0 (omega (arith, two)) (λ f. ne (sym f)) in omega (arith, k)
]

pub longer_by : (old mid new : List ℕ) (n count : ℕ) → mid ≡ old → n ≡ length old → length old ≤ count → length new ≡ count
    → ((k d : ℕ) → k < count → k < n → get_or new k d ≡ get_or mid k d) → ((k d : ℕ) → n ≤ k → k < count → get_or new k d ≡ 0)
    → IsLonger old new count
longer_by old mid new n count same many le is kept unused = record {
  count_is = is;
  kept = λ i lt. kept i 0 (omega (arith, lt, le)) (omega (arith, lt, many)) ∙ ap (λ (l : List ℕ). get_or l i 0) same;
  unused = λ i ge lt. unused i 0 (omega (arith, ge, many)) lt;
}

pub below_longer : (old new : List ℕ) (count next : ℕ) → 1 < length old → IsLonger old new count → AllBelow old next → AllBelow new next
below_longer old new count next two l h = record {
  each = λ i ini. elim (cases_lt i (length old)) [
    | inl lt ↦ let is = l.kept i lt in let k = h.each i lt in omega (arith, is, k)
    | inr ge ↦
        let is = l.unused i ge (let n = l.count_is in omega (arith, n, ini)) in
        let k = h.each 0 (omega (arith, two)) in
        omega (arith, is, k)
  ];
}

pub newest_longer : (old new : List ℕ) (count at : ℕ) → 1 < length old → IsLonger old new count → IsNewest old at → IsNewest new at
newest_longer old new count at two l h = record {
  above = λ i ini ne.
      let used = newest_used old at two h in
      let same = l.kept at here in
      elim (cases_lt i (length old)) [
        | inl lt ↦ let is = l.kept i lt in let k = h.above i lt ne in omega (arith, is, k, same)
        | inr ge ↦ let is = l.unused i ge (let n = l.count_is in omega (arith, n, ini)) in omega (arith, is, used, same)
      ];
}
  where
    here : at < length old
    here = elim (cases_lt at (length old)) [
      | inl lt ↦ lt
      | inr out ↦ let used = newest_used old at two h in let none = past_end old at out in absurd (let q : ⊥ = omega (arith, used, none) in q)
    ]
