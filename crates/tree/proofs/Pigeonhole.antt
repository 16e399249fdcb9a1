-- Steps to the parent that go round: each directory above another is met in few steps.
use Rattle.std.proofs.Common.{◌≡◌, ◌≢◌, ◌<◌, ◌≤◌, ◌+◌, ◌-◌, ℕ, zero, suc, Bool, true, false, refl, sym, ap, ◌∙◌, arith}
use mathlib.Core.Logic.{inl, inr}
use Rattle.std.specs.Prelude.{◌==◌}
use Rattle.std.proofs.lemmas.Bool.{cases_eq, cases_Bool, cases_lt, cond-true, cond-false, eqb-true, eq-eqb, ne_eqb}
use Rattle.lemmas.proofs.Bools.{false_not_true}
use Rattle.layout.specs.declared.Geometry.{Geometry}
use Rattle.lemmas.specs.Sums.{sum_below, count_below, some_below, one_if}
use Rattle.tree.specs.Tree.{Tree, parent_of}
use Rattle.tree.specs.IsTree.{above}
use Rattle.tree.specs.NameCalls.{is_within}
use Rattle.tree.proofs.Search.{found_below, one_below}
use Rattle.tree.proofs.Totals.{only_at, only_here, only_elsewhere, sum_gained, sum_of_none, one_for}
use Rattle.tree.proofs.Shapes.{Nodes, kind_of, IsShape, is_there, has_names}

-- a test that holds of no number
pub none_pass : (p : ℕ → Bool) (n : ℕ) → ((k : ℕ) → k < n → p k ≡ true → ⊥) → count_below p n ≡ 0
unfolding sum_below
none_pass p zero never = refl
none_pass p (suc n) never = elim (cases_Bool (p n)) [
  | inl t ↦ absurd (never n (omega arith) t)
  | inr f ↦ let rest = none_pass p n (λ k l. never k (omega (arith, l))) in let none : one_if (p n) ≡ 0 = cond-false (p n) 1 0 f in omega (arith, rest, none)
]

-- a test that holds of one number at most counts one at most
few_pass : (p : ℕ → Bool) (n : ℕ) → ((a b : ℕ) → a < b → b < n → p a ≡ true → p b ≡ true → ⊥) → count_below p n ≤ 1
unfolding sum_below
few_pass p zero once = omega arith
few_pass p (suc n) once = elim (cases_Bool (p n)) [
  | inl t ↦
      let rest : count_below p n ≡ 0 = none_pass p n (λ k l h. once k n l (omega arith) h t) in
      let one : one_if (p n) ≡ 1 = cond-true (p n) 1 0 t in
      omega (arith, rest, one)
  | inr f ↦
      let rest = few_pass p n (λ a b l k. once a b l (omega (arith, k))) in
      let none : one_if (p n) ≡ 0 = cond-false (p n) 1 0 f in
      omega (arith, rest, none)
]

-- how often each value is met adds up to how many numbers there are
all_met : (f : ℕ → ℕ) (limit n : ℕ) → ((k : ℕ) → k < n → f k < limit) → sum_below (λ v. count_below (λ k. f k == v) n) limit ≡ n
unfolding sum_below
all_met f limit zero within = sum_of_none (λ v. count_below (λ k. f k == v) 0) limit (λ v. refl)
all_met f limit (suc n) within =
    let more = sum_gained (λ v. count_below (λ k. f k == v) n) (λ v. count_below (λ k. f k == v) (suc n)) (f n) 1 limit (within n (omega arith)) (λ v. ap (λ x. count_below (λ k. f k == v) n + x) (as_only v)) in
    let rest = all_met f limit n (λ k l. within k (omega (arith, l))) in
    omega (arith, more, rest)
  where
    as_only : (v : ℕ) → one_if (f n == v) ≡ only_at (f n) 1 v
    as_only v = elim (cases_eq v (f n)) [
      | inl e ↦ cond-true (f n == v) 1 0 (eq-eqb (f n) v (sym e)) ∙ sym (only_here (f n) 1 v e)
      | inr d ↦ cond-false (f n == v) 1 0 (ne_eqb (f n) v (λ e. d (sym e))) ∙ sym (only_elsewhere (f n) 1 v d)
    ]

-- what is met once at most, and 0 never, is met few times
few_in_all : (c : ℕ → ℕ) (n : ℕ) → c 0 ≡ 0 → ((v : ℕ) → c v ≤ 1) → sum_below c (suc n) ≤ n
unfolding sum_below
few_in_all c zero none few = omega (arith, none)
few_in_all c (suc n) none few = let rest = few_in_all c n none few in let one = few (suc n) in omega (arith, rest, one)

-- two of n + 1 numbers from 1 to n are the same
pub two_alike : (f : ℕ → ℕ) (n : ℕ) → ((k : ℕ) → k < n + 1 → (1 ≤ f k) × (f k ≤ n)) → (a b : ℕ) × (a < b) × (b < n + 1) × (f a ≡ f b)
two_alike f n within = elim (cases_Bool (some_below (λ b. some_below (λ a. f a == f b) b) (n + 1))) [
  | inl t ↦
      let outer = one_below (λ b. some_below (λ a. f a == f b) b) (n + 1) t in
      let inner = one_below (λ a. f a == f outer.0) outer.0 outer.2 in
      (inner.0, outer.0, inner.1, outer.1, eqb-true (f inner.0) (f outer.0) inner.2)
  | inr none ↦
      let c : ℕ → ℕ = λ v. count_below (λ k. f k == v) (n + 1) in
      let met = all_met f (n + 1) (n + 1) (λ k l. let is = within k l in omega (arith, is.1)) in
      let few : (v : ℕ) → c v ≤ 1 = λ v. few_pass (λ k. f k == v) (n + 1) (λ a b l k p q.
      false_not_true (sym none ∙ found_below (λ b. some_below (λ a. f a == f b) b) (n + 1) b k
      (found_below (λ a. f a == f b) b a l (eq-eqb (f a) (f b) (eqb-true (f a) v p ∙ sym (eqb-true (f b) v q)))))) in
      let zero_none : c 0 ≡ 0 = none_pass (λ k. f k == 0) (n + 1) (λ k l h. let is = within k l in let e = eqb-true (f k) 0 h in absurd (omega (arith, is.0, e))) in
      let all = few_in_all c n zero_none few in
      let same : sum_below c (n + 1) ≡ sum_below c (suc n) = ap (sum_below c) (omega arith) in
      absurd (omega (arith, met, all, same))
]

-- steps and then more steps
above_plus : (nodes : Nodes) (j i m : ℕ) → above nodes (j + i) m ≡ above nodes i (above nodes j m)
above_plus nodes zero i m = let e : zero + i ≡ i = omega arith in ap (λ k. above nodes k m) e
above_plus nodes (suc j) i m = let e : suc j + i ≡ suc (j + i) = omega arith in ap (λ k. above nodes k m) e ∙ above_plus nodes j i (parent_of (nodes m))

module _ (g : Geometry) (nodes : Nodes) (shape : IsShape g nodes) where
  -- the parent of a directory is a directory
  parent_directory : (m : ℕ) → kind_of (nodes m) ≡ true → kind_of (nodes (parent_of (nodes m))) ≡ true
  parent_directory m h = elim (cases_eq m 1) [
    | inl e ↦ ap (λ k. kind_of (nodes k)) (ap (λ k. parent_of (nodes k)) e ∙ shape.root_parent) ∙ shape.root
    | inr e ↦ has_names (one_for m) (nodes (parent_of (nodes m))) (let one = shape.in_parent m e h in omega (arith, one))
  ]

  above_directory : (k m : ℕ) → kind_of (nodes m) ≡ true → kind_of (nodes (above nodes k m)) ≡ true
  above_directory zero m h = h
  above_directory (suc k) m h = above_directory k (parent_of (nodes m)) (parent_directory m h)

  above_inside : (k m : ℕ) → kind_of (nodes m) ≡ true → (1 ≤ above nodes k m) × (above nodes k m ≤ g.inodes)
  above_inside k m h = shape.inside (above nodes k m) (is_there (nodes (above nodes k m)) (above_directory k m h))

  -- what is met in some number of steps is met in few
  few_steps : (limit k m : ℕ) → k ≤ limit → kind_of (nodes m) ≡ true → (j : ℕ) × (j < g.inodes + 1) × (above nodes j m ≡ above nodes k m)
  few_steps zero k m l h = (k, omega (arith, l), refl)
  few_steps (suc limit) k m l h = elim (cases_lt k (g.inodes + 1)) [
    | inl within ↦ (k, within, refl)
    | inr past ↦
        let alike = two_alike (λ i. above nodes i m) g.inodes (λ i _. above_inside i m h) in
        let a = alike.0 in
        let b = alike.1 in
        let shorter = few_steps limit (a + (k - b)) m (omega (arith, l, alike.2, alike.3, past)) h in
        let is : b + (k - b) ≡ k = omega (arith, alike.3, past) in
        let same = above_plus nodes a (k - b) m ∙ ap (above nodes (k - b)) alike.4 ∙ sym (above_plus nodes b (k - b) m) ∙ ap (λ i. above nodes i m) is in
        (shorter.0, shorter.1, shorter.2 ∙ same)
  ]

-- what isn't within a directory isn't above it in any number of steps
pub never_above : (g : Geometry) (t : Tree) → IsShape g t.nodes → (d n : ℕ) → kind_of (t.nodes d) ≡ true → is_within g t d n ≡ false → (k : ℕ) → above t.nodes k d ≢ n
never_above g t shape d n h none k e =
    let few = few_steps g t.nodes shape k k d (omega arith) h in
    false_not_true (sym none ∙ found_below (λ i. above t.nodes i d == n) (g.inodes + 1) few.0 few.1 (eq-eqb (above t.nodes few.0 d) n (few.2 ∙ e)))
