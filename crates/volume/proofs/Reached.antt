-- A directory is reached by names within the bound exactly where its parents lead to the root.
use Rattle.std.proofs.Common.{◌≡◌, ◌≢◌, ◌⊎◌, ◌<◌, ◌≤◌, ◌+◌, ℕ, zero, suc, Bool, true, false, refl, sym, ap, ◌∙◌, arith}
use mathlib.Core.Logic.{inl, inr}
use Rattle.std.specs.Prelude.{not, ◌&&◌, ◌||◌, ◌==◌}
use Rattle.std.proofs.lemmas.Bool.{cases_eq, cases_Bool, or_cases, or_left, or_right, and_parts, and_from, eq-eqb, eqb-true, not-true, not_from_false, both_ways}
use Rattle.lemmas.specs.Sums.{sum_below, count_below, some_below, one_if}
use Rattle.volume.proofs.Reach.{reached, climb}
use Rattle.volume.proofs.Sums.{some_from, some_witness, none_below, one_true, count_most}

-- as many as there are numbers: all
count_full : (p : ℕ → Bool) (n : ℕ) → n ≤ count_below p n → (k : ℕ) → k < n → p k ≡ true
unfolding sum_below
count_full p zero h k l = absurd (omega arith)
count_full p (suc n) h k l = elim (cases_Bool (p n)) [
  | inl is ↦ elim (cases_eq k n) [
    | inl e ↦ ap p e ∙ is
    | inr d ↦ let one = one_true (p n) is in count_full p n (omega arith) k (omega arith)
  ]
  | inr out ↦ let most = count_most p n in let none : one_if (p n) ≡ 0 = ap one_if out in absurd (omega arith)
]

-- a test within another counts no more
one_within : (a b : Bool) → (a ≡ true → b ≡ true) → one_if a ≤ one_if b
one_within true b h = let e = one_true b (h refl) in omega arith
one_within false b h = omega arith

-- and so does a set within another
count_within : (p q : ℕ → Bool) (n : ℕ) → ((k : ℕ) → p k ≡ true → q k ≡ true) → count_below p n ≤ count_below q n
unfolding sum_below
count_within p q zero h = omega arith
count_within p q (suc n) h = let before = count_within p q n h in let here = one_within (p n) (q n) (h n) in omega arith

-- it counts less where one number more is in the other
count_more : (p q : ℕ → Bool) (n k : ℕ) → ((k : ℕ) → p k ≡ true → q k ≡ true) → k < n → p k ≡ false → q k ≡ true → count_below p n < count_below q n
unfolding sum_below
count_more p q zero k h l out is = absurd (omega arith)
count_more p q (suc n) k h l out is = elim (cases_eq k n) [
  | inl e ↦
      let before = count_within p q n h in
      let none : one_if (p n) ≡ 0 = ap one_if (sym (ap p e) ∙ out) in
      let one : one_if (q n) ≡ 1 = one_true (q n) (sym (ap q e) ∙ is) in
      omega arith
  | inr d ↦
      let before = count_more p q n k h (omega arith) out is in
      let here = one_within (p n) (q n) (h n) in
      omega arith
]

module _ (edge : ℕ → ℕ → Bool) (limit : ℕ) where
  -- reached in at most k steps
  abbrev r : ℕ → ℕ → Bool
  r k n = reached edge limit k n

  -- one step more
  next : (k n : ℕ) → r (suc k) n ≡ (r k n || some_below (λ m. edge m n && r k m) limit)
  unfolding reached
  next k n = refl

  -- no step
  at_root : (n : ℕ) → r 0 n ≡ (n == 1)
  unfolding reached
  at_root n = refl

  -- what is reached stays reached with one step more
  grows : (k n : ℕ) → r k n ≡ true → r (suc k) n ≡ true
  grows k n is = next k n ∙ or_left (r k n) _ is

  -- and with more
  pub grows_by : (j k n : ℕ) → r k n ≡ true → r (j + k) n ≡ true
  grows_by zero k n is = let e : 0 + k ≡ k = omega arith in ap (λ a. r a n) e ∙ is
  grows_by (suc j) k n is = let e : suc j + k ≡ suc (j + k) = omega arith in ap (λ a. r a n) e ∙ grows (j + k) n (grows_by j k n is)

  -- one step from what is reached
  pub along : (k m n : ℕ) → m < limit → r k m ≡ true → edge m n ≡ true → r (suc k) n ≡ true
  along k m n l is step = next k n ∙ or_right (r k n) _ (some_from _ limit m l (and_from (edge m n) (r k m) step is))

  -- one step more adds nothing
  abbrev Stable : ℕ → Type 0
  Stable k = (n : ℕ) → n < limit → r (suc k) n ≡ true → r k n ≡ true

  -- what adds nothing once never does
  stays : (k : ℕ) → Stable k → Stable (suc k)
  stays k still n l is = elim (or_cases (r (suc k) n) _ (sym (next (suc k) n) ∙ is)) [
    | inl e ↦ e
    | inr s ↦
        let w = some_witness (λ m. edge m n && r (suc k) m) limit s in
        let at = and_parts (edge w.0 n) (r (suc k) w.0) w.2 in
        along k w.0 n w.1 (still w.0 w.1 at.1) at.0
  ]

  -- nor do more
  stays_by : (j k : ℕ) → Stable k → Stable (j + k)
  stays_by zero k still n l is = let e : 0 + k ≡ k = omega arith in
      ap (λ a. r a n) e ∙ still n l (ap (λ a. r (suc a) n) (sym e) ∙ is)
  stays_by (suc j) k still n l is = let e : suc j + k ≡ suc (j + k) = omega arith in
      ap (λ a. r a n) e ∙ stays (j + k) (stays_by j k still) n l (ap (λ a. r (suc a) n) (sym e) ∙ is)

  -- after k steps more than k are reached, or nothing is added
  grown_or_stable : (k : ℕ) → 1 < limit → (k < count_below (r k) limit) ⊎ Stable k
  grown_or_stable zero big =
      let one = one_true (r 0 1) (at_root 1 ∙ eq-eqb 1 1 refl) in
      let more = count_more (λ _. false) (r 0) limit 1 (λ k e. absurd (cc)) big refl (at_root 1 ∙ eq-eqb 1 1 refl) in
      inl (omega arith)
  grown_or_stable (suc k) big = elim (grown_or_stable k big) [
    | inl more ↦ elim (cases_Bool (some_below (λ n. r (suc k) n && not (r k n)) limit)) [
      | inl new ↦
          let w = some_witness (λ n. r (suc k) n && not (r k n)) limit new in
          let at = and_parts (r (suc k) w.0) (not (r k w.0)) w.2 in
          let step = count_more (r k) (r (suc k)) limit w.0 (grows k) w.1 (not-true (r k w.0) at.1) at.0 in
          inl (omega arith)
      | inr none ↦ inr (stays k (λ n l is. elim (cases_Bool (r k n)) [
        | inl old ↦ old
        | inr out ↦ let f = none_below (λ n. r (suc k) n && not (r k n)) limit none n l in
            let t = and_from (r (suc k) n) (not (r k n)) is (not_from_false (r k n) out) in absurd (cc)
      ]))
    ]
    | inr still ↦ inr (stays k still)
  ]

  -- after as many steps as there are numbers nothing is added
  pub enough : (k : ℕ) → 1 < limit → limit ≡ suc k → Stable k
  enough k big e = elim (grown_or_stable k big) [
    | inl more ↦ λ n l is. count_full (r k) limit (omega arith) n l
    | inr still ↦ still
  ]

  -- what is reached in more steps is reached in as many as there are numbers
  within : (k j n : ℕ) → 1 < limit → limit ≡ suc k → n < limit → r (j + k) n ≡ true → r k n ≡ true
  within k zero n big e l is = let s : 0 + k ≡ k = omega arith in ap (λ a. r a n) (sym s) ∙ is
  within k (suc j) n big e l is =
      let s : suc j + k ≡ suc (j + k) = omega arith in
      within k j n big e l (stays_by j k (enough k big e) n l (ap (λ a. r a n) (sym s) ∙ is))

  -- the fuel is enough
  pub fuel_enough : (k j n : ℕ) → 1 < limit → limit ≡ suc k → n < limit → r j n ≡ true → r k n ≡ true
  fuel_enough k j n big e l is =
      within k j n big e l (let s : k + j ≡ j + k = omega arith in ap (λ a. r a n) (sym s) ∙ grows_by k j n is)

  -- a set that holds the root and what its numbers name holds all that is reached
  pub reached_inside : (set : ℕ → Bool) → set 1 ≡ true → ((m n : ℕ) → m < limit → set m ≡ true → edge m n ≡ true → set n ≡ true)
      → (k n : ℕ) → r k n ≡ true → set n ≡ true
  reached_inside set root closed zero n is = ap set (eqb-true n 1 (sym (at_root n) ∙ is)) ∙ root
  reached_inside set root closed (suc k) n is = elim (or_cases (r k n) _ (sym (next k n) ∙ is)) [
    | inl before ↦ reached_inside set root closed k n before
    | inr s ↦
        let w = some_witness (λ m. edge m n && r k m) limit s in
        let at = and_parts (edge w.0 n) (r k w.0) w.2 in
        closed w.0 n w.1 (reached_inside set root closed k w.0 at.1) at.0
  ]

  -- so a walk that ends with such a set, and added only what is reached, has found just what is reached
  pub walk_found : (set : ℕ → Bool) (k : ℕ) → 1 < limit → limit ≡ suc k → set 1 ≡ true
      → ((m n : ℕ) → m < limit → set m ≡ true → edge m n ≡ true → set n ≡ true)
      → ((n : ℕ) → set n ≡ true → (j : ℕ) × (r j n ≡ true))
      → (n : ℕ) → n < limit → set n ≡ r k n
  walk_found set k big e root closed found n l = elim (cases_Bool (set n)) [
    | inl is ↦ let w = found n is in is ∙ sym (fuel_enough k w.0 n big e l w.1)
    | inr out ↦ elim (cases_Bool (r k n)) [
      | inl is ↦ absurd (both_ways (set n) out (reached_inside set root closed k n is))
      | inr none ↦ out ∙ sym none
    ]
  ]

  module _ (dir : ℕ → Bool) (parent : ℕ → ℕ)
      (from : (m n : ℕ) → edge m n ≡ true → (m < limit) × (dir m ≡ true))
      (in_parent : (n : ℕ) → dir n ≡ true → n ≢ 1 → edge (parent n) n ≡ true)
      (orphan : (n : ℕ) → dir n ≡ false → parent n ≡ 0) (nowhere : dir 0 ≡ false) where
    -- k steps to the parent
    abbrev up : ℕ → ℕ → ℕ
    up k n = climb parent k n

    -- one step first
    up_next : (k n : ℕ) → up (suc k) n ≡ up k (parent n)
    unfolding climb
    up_next k n = refl

    -- no step
    up_none : (n : ℕ) → up 0 n ≡ n
    unfolding climb
    up_none n = refl

    -- 0 leads nowhere
    up_zero : (k : ℕ) → up k 0 ≡ 0
    up_zero zero = up_none 0
    up_zero (suc k) = up_next k 0 ∙ ap (up k) (orphan 0 nowhere) ∙ up_zero k

    -- where the parents lead to the root, the names lead back
    climbed : (j n : ℕ) → up j n ≡ 1 → r j n ≡ true
    climbed zero n e = at_root n ∙ eq-eqb n 1 (sym (up_none n) ∙ e)
    climbed (suc j) n e = elim (cases_eq n 1) [
      | inl o ↦ let s : suc j + 0 ≡ suc j = omega arith in ap (λ a. r a n) (sym s) ∙ grows_by (suc j) 0 n (at_root n ∙ eq-eqb n 1 o)
      | inr d ↦ elim (cases_Bool (dir n)) [
        | inl is ↦
            let step = in_parent n is d in
            along j (parent n) n (from (parent n) n step).0
            (climbed j (parent n) (sym (up_next j n) ∙ e)) step
        | inr out ↦ let z = sym (up_zero j) ∙ sym (ap (up j) (orphan n out)) ∙ sym (up_next j n) ∙ e in absurd (omega arith)
      ]
    ]

    -- within the bound
    pub climbed_reached : (k j n : ℕ) → 1 < limit → limit ≡ suc k → n < limit → up j n ≡ 1 → r k n ≡ true
    climbed_reached k j n big e l is = fuel_enough k j n big e l (climbed j n is)

    -- where a directory is named in its parent alone, its names lead from the root along its parents
    module _ (alone : (m n : ℕ) → dir n ≡ true → n ≢ 1 → edge m n ≡ true → m ≡ parent n) where
      pub reached_climbs : (k n : ℕ) → dir n ≡ true → r k n ≡ true → (j : ℕ) × (up j n ≡ 1)
      reached_climbs zero n is e = (0, up_none n ∙ eqb-true n 1 (sym (at_root n) ∙ e))
      reached_climbs (suc k) n is e = elim (or_cases (r k n) _ (sym (next k n) ∙ e)) [
        | inl before ↦ reached_climbs k n is before
        | inr s ↦ elim (cases_eq n 1) [
          | inl o ↦ (0, up_none n ∙ o)
          | inr d ↦
              let w = some_witness (λ m. edge m n && r k m) limit s in
              let at = and_parts (edge w.0 n) (r k w.0) w.2 in
              let before = reached_climbs k w.0 (from w.0 n at.0).1 at.1 in
              (suc before.0, up_next before.0 n ∙ ap (up before.0) (sym (alone w.0 n is d at.0)) ∙ before.1)
        ]
      ]
