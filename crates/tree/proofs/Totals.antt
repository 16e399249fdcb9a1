-- What the weights of names tell of the names, and sums over all directories.
use Rattle.std.proofs.Common.{◌≡◌, ◌≢◌, ◌<◌, ◌≤◌, ◌+◌, ℕ, zero, suc, true, false, refl, sym, ap, ◌∙◌, arith, [], ◌∷◌, length}
use mathlib.Core.Logic.{inl, inr}
use Rattle.std.specs.Prelude.{Some, is_some, ◌==◌, if◌then◌else◌}
use Rattle.std.specs.Ordering.{eq_by_cmp, is_eq}
use Rattle.std.specs.Cmp.{tied_itself}
use Rattle.std.specs.Cmp.Lexicographic.{nat_list_cmp_total}
use Rattle.std.specs.FinMap.Entries.{is_sorted, below_all}
use Rattle.std.proofs.lemmas.Bool.{cases_eq, cases_Bool, cond-true, cond-false, eq-eqb, ne_eqb, and_parts}
use Rattle.lemmas.proofs.Bools.{false_not_true}
use Rattle.lemmas.proofs.Options.{some_same}
use Rattle.lemmas.specs.Sums.{sum_below, one_if}
use Rattle.tree.specs.Names.{Name, Names, name_cmp, inode_of}
use Rattle.lemmas.proofs.Maps.{not_nothing}
use Rattle.tree.proofs.Weights.{weigh, once, sum_with_more}
use Rattle.tree.proofs.Freed.{part_below}

-- 1 for that number, 0 for each other
abbrev pub one_for : ℕ → ℕ → ℕ
one_for b k = one_if (k == b)

-- 1 for the number itself
pub one_for_itself : (b : ℕ) → one_for b b ≡ 1
one_for_itself b = cond-true (b == b) 1 0 (eq-eqb b b refl)

-- 0 for another
pub none_for_other : (b k : ℕ) → k ≢ b → one_for b k ≡ 0
none_for_other b k d = cond-false (k == b) 1 0 (ne_eqb k b d)

-- x at that place, 0 elsewhere
abbrev pub only_at : ℕ → ℕ → ℕ → ℕ
only_at d x m = if m == d then x else 0

-- x at the place
pub only_here : (d x m : ℕ) → m ≡ d → only_at d x m ≡ x
only_here d x m e = cond-true (m == d) x 0 (eq-eqb m d e)

-- 0 elsewhere
pub only_elsewhere : (d x m : ℕ) → m ≢ d → only_at d x m ≡ 0
only_elsewhere d x m e = cond-false (m == d) x 0 (ne_eqb m d e)

-- nothing is nothing everywhere
pub only_nothing : (d x m : ℕ) → x ≡ 0 → only_at d x m ≡ 0
only_nothing d x m z = elim (cases_eq m d) [ inl e ↦ only_here d x m e ∙ z | inr e ↦ only_elsewhere d x m e ]

-- x at most
pub only_few : (d x m : ℕ) → only_at d x m ≤ x
only_few d x m = elim (cases_eq m d) [ inl e ↦ let all = only_here d x m e in omega (arith, all) | inr e ↦ let none = only_elsewhere d x m e in omega (arith, none) ]

-- 1 at n is 1 for n
pub only_one : (n m : ℕ) → only_at n 1 m ≡ one_for m n
only_one n m = elim (cases_eq m n) [
  | inl e ↦ only_here n 1 m e ∙ sym (ap (λ k. one_for k n) e ∙ one_for_itself n)
  | inr e ↦ only_elsewhere n 1 m e ∙ sym (none_for_other m n (λ x. e (sym x)))
]

-- Sums over the names.

-- equal weights, equal sums
pub weigh_same : (w v : ℕ → ℕ) → ((k : ℕ) → w k ≡ v k) → (es : Names) → weigh w es ≡ weigh v es
weigh_same w v same [] = refl
weigh_same w v same (e ∷ es) = λ i. same e.1 i + weigh_same w v same es i

-- each name weighs 1
pub weigh_one : (es : Names) → weigh (λ _. 1) es ≡ length es
weigh_one [] = refl
weigh_one (e ∷ es) = let rest = weigh_one es in omega (arith, rest)

-- weights that differ only for a node that isn't named
pub weigh_off : (w v : ℕ → ℕ) (n : ℕ) → ((k : ℕ) → k ≢ n → w k ≡ v k) → (es : Names) → weigh (one_for n) es ≡ 0 → weigh w es ≡ weigh v es
weigh_off w v n same [] h = refl
weigh_off w v n same (e ∷ es) h =
    let first : one_for n e.1 ≡ 0 = omega (arith, h) in
    let rest = weigh_off w v n same es (omega (arith, h)) in
    let here = same e.1 (λ is. absurd (let one : one_for n e.1 ≡ 1 = cond-true (e.1 == n) 1 0 (eq-eqb e.1 n is) in omega (arith, first, one))) in
    omega (arith, here, rest)

-- a name that is found has its part of the sum
pub weigh_found : (w : ℕ → ℕ) (es : Names) (name : Name) (n : ℕ) → inode_of es name ≡ Some n → w n ≤ weigh w es
weigh_found w [] name n h = absurd (not_nothing n h)
weigh_found w (e ∷ es) name n h = elim (cases_Bool (eq_by_cmp name_cmp name e.0)) [
  | inl t ↦
      let is : w e.1 ≡ w n = ap w (some_same _ _ (sym (cond-true (eq_by_cmp name_cmp name e.0) (Some e.1) (inode_of es name) t) ∙ h)) in
      omega (arith, is)
  | inr f ↦ let rest = weigh_found w es name n (sym (cond-false (eq_by_cmp name_cmp name e.0) (Some e.1) (inode_of es name) f) ∙ h) in omega (arith, rest)
]

-- a name that counts is found
pub name_found : (es : Names) (n : ℕ) → is_sorted name_cmp es ≡ true → 1 ≤ weigh (one_for n) es → (name : Name) × (inode_of es name ≡ Some n)
name_found [] n s l = absurd (omega (arith, l))
name_found (e ∷ es) n s l = elim (cases_eq e.1 n) [
  | inl is ↦ (e.0, cond-true (eq_by_cmp name_cmp e.0 e.0) (Some e.1) (inode_of es e.0) (ap is_eq (tied_itself nat_list_cmp_total e.0)) ∙ ap Some is)
  | inr d ↦
      let other = none_for_other n e.1 d in
      let rest = name_found es n (and_parts (below_all name_cmp e.0 es) (is_sorted name_cmp es) s).1 (omega (arith, l, other)) in
      (rest.0, cond-false (eq_by_cmp name_cmp rest.0 e.0) (Some e.1) (inode_of es rest.0) (differs rest.0 rest.1) ∙ rest.1)
]
  where
    differs : (q : Name) → inode_of es q ≡ Some n → eq_by_cmp name_cmp q e.0 ≡ false
    differs q h = elim (cases_Bool (eq_by_cmp name_cmp q e.0)) [
      | inl t ↦ absurd (false_not_true (sym (once q e es s t) ∙ ap is_some h))
      | inr f ↦ f
    ]

-- Sums over the directories.

-- a sum of zeros
pub sum_of_none : (f : ℕ → ℕ) (n : ℕ) → ((k : ℕ) → f k ≡ 0) → sum_below f n ≡ 0
unfolding sum_below
sum_of_none f zero h = refl
sum_of_none f (suc n) h = let front = sum_of_none f n h in let last = h n in omega arith

-- a sum that is more at one place
pub sum_gained : (f h : ℕ → ℕ) (d x n : ℕ) → d < n → ((m : ℕ) → h m ≡ f m + only_at d x m) → sum_below h n ≡ sum_below f n + x
sum_gained f h d x n l each =
    sum_with_more f h d x n l
    (let a = each d in let b = only_here d x d refl in omega (arith, a, b))
    (λ m e. let a = each m in let b = only_elsewhere d x m e in omega (arith, a, b))

-- what goes at one place and comes at another
pub sum_moved : (f h : ℕ → ℕ) (p x d y n : ℕ) → p < n → d < n → ((m : ℕ) → h m + only_at p x m ≡ f m + only_at d y m) → sum_below h n + x ≡ sum_below f n + y
sum_moved f h p x d y n l k each =
    sym (sum_gained h (λ m. h m + only_at p x m) p x n l (λ m. refl)) ∙ sum_gained f (λ m. h m + only_at p x m) d y n k each

-- what stands at two places is all in the sum
pub two_parts : (f : ℕ → ℕ) (n a b : ℕ) → a < n → b < n → a ≢ b → f a + f b ≤ sum_below f n
unfolding sum_below
two_parts f zero a b l k d = absurd (omega (arith, l))
two_parts f (suc n) a b l k d = elim (cases_eq a n) [
  | inl e ↦ let here : f a ≡ f n = ap f e in let rest = part_below f n b (omega (arith, k, d, e)) in omega (arith, here, rest)
  | inr ne ↦ elim (cases_eq b n) [
    | inl e ↦ let here : f b ≡ f n = ap f e in let rest = part_below f n a (omega (arith, l, ne)) in omega (arith, here, rest)
    | inr nb ↦ let rest = two_parts f n a b (omega (arith, l, ne)) (omega (arith, k, nb)) d in omega (arith, rest)
  ]
]
