-- How the zones needed change with the pages that are held.
use Rattle.std.proofs.Common.{◌≡◌, ◌<◌, ◌+◌, ◌-◌, ◌*◌, ℕ, zero, suc, Bool, true, false, refl, sym, ap, subst, ◌∙◌, arith}
use mathlib.Core.Logic.{inl, inr}
use Rattle.std.specs.Prelude.{not, ◌&&◌, nat_lt, if◌then◌else◌}
use Rattle.std.proofs.lemmas.Bool.{cases_eq, cases_Bool, cond-true, cond-false, and_parts}
use Rattle.lemmas.proofs.Bools.{false_not_true}
use Rattle.lemmas.specs.Sums.{sum_below, count_below, some_below, one_if, put}
use Rattle.tree.specs.ZonesNeeded.{page_limit, from_page, quotients, double_blocks, triple_blocks}
use Rattle.lemmas.proofs.Maps.{put-same, put-other}
use Rattle.tree.specs.Zones.{only_in, newly_some, newly_used, new_double, new_triple, pages_below, NeedGrows, OnePageMore, PagesLetGo}
use Rattle.tree.proofs.Search.{found_below, one_below}
use Rattle.tree.proofs.Fewer.{some_less}
use Rattle.tree.proofs.Totals.{only_at, only_here, only_elsewhere, sum_gained, sum_of_none}
use Rattle.tree.proofs.Pigeonhole.{none_pass}

-- a sum of sums
sum_of_both : (f h : ℕ → ℕ) (n : ℕ) → sum_below (λ k. f k + h k) n ≡ sum_below f n + sum_below h n
unfolding sum_below
sum_of_both f h zero = refl
sum_of_both f h (suc n) = let front = sum_of_both f h n in omega (arith, front)

-- equal parts, equal sums
same_below : (f h : ℕ → ℕ) (n : ℕ) → ((k : ℕ) → f k ≡ h k) → sum_below f n ≡ sum_below h n
same_below f h n same = ap (λ x. sum_below x n) (λ i k. same k i)

-- a test and one that it implies
one_split : (more fewer : Bool) → (fewer ≡ true → more ≡ true) → one_if more ≡ one_if fewer + one_if (more && not fewer)
one_split true true h = refl
one_split true false h = refl
one_split false true h = absurd (false_not_true (h refl))
one_split false false h = refl

-- a count and what it has more
count_split : (more fewer : ℕ → Bool) (n : ℕ) → ((k : ℕ) → fewer k ≡ true → more k ≡ true) → count_below more n ≡ count_below fewer n + count_below (only_in more fewer) n
count_split more fewer n less =
    same_below (λ k. one_if (more k)) (λ k. one_if (fewer k) + one_if (only_in more fewer k)) n (λ k. one_split (more k) (fewer k) (less k))
    ∙ sum_of_both (λ k. one_if (fewer k)) (λ k. one_if (only_in more fewer k)) n

-- the blocks of a range, and the test whether it has any
quotients_split : (more fewer : ℕ → Bool) (width n : ℕ) → ((k : ℕ) → fewer k ≡ true → more k ≡ true) → quotients more width n ≡ quotients fewer width n + newly_used more fewer width n
quotients_split more fewer width n less =
    count_split (λ k. some_below (λ j. more (k * width + j)) width) (λ k. some_below (λ j. fewer (k * width + j)) width) n
    (λ k. some_less (λ j. fewer (k * width + j)) (λ j. more (k * width + j)) width (λ j. less (k * width + j)))

-- a place within a block is before the end of the block
before_last : (k d width j : ℕ) → j < width → k * width + j < (k + 1 + d) * width
before_last k d width j l = omega (arith, l)

-- and before the end of all blocks
in_range : (k n width j : ℕ) → k < n → j < width → k * width + j < n * width
in_range k n width j l m =
    let is : k + 1 + (n - (k + 1)) ≡ n = omega (arith, l) in
    subst (λ x. k * width + j < x * width) is (before_last k (n - (k + 1)) width j m)

-- a range without a page has no block
no_blocks : (held : ℕ → Bool) (width n : ℕ) → some_below held (n * width) ≡ false → quotients held width n ≡ 0
no_blocks held width n none = none_pass (λ k. some_below (λ j. held (k * width + j)) width) n (λ k l h.
    let one = one_below (λ j. held (k * width + j)) width h in
    false_not_true (sym none ∙ found_below held (n * width) (k * width + one.0) (in_range k n width one.0 l one.1) one.2))

-- a test and what it finds more
some_split : (more fewer : ℕ → Bool) (n : ℕ) → ((k : ℕ) → fewer k ≡ true → more k ≡ true) → one_if (some_below more n) ≡ one_if (some_below fewer n) + one_if (newly_some more fewer n)
some_split more fewer n less = one_split (some_below more n) (some_below fewer n) (some_less fewer more n less)

-- the test in front is as good as none
with_front : (b : Bool) (x : ℕ) → (b ≡ false → x ≡ 0) → (if b then 1 + x else 0) ≡ one_if b + x
with_front true x h = refl
with_front false x h = let none = h refl in omega (arith, none)

-- the double range
double_split : (n : ℕ) (more fewer : ℕ → Bool) → ((k : ℕ) → fewer k ≡ true → more k ≡ true) → double_blocks n more ≡ double_blocks n fewer + new_double n more fewer
double_split n more fewer less =
    let a = with_front (some_below more (n * n)) (quotients more n n) (no_blocks more n n) in
    let b = with_front (some_below fewer (n * n)) (quotients fewer n n) (no_blocks fewer n n) in
    let c = some_split more fewer (n * n) less in
    let d = quotients_split more fewer n n less in
    omega (arith, a, b, c, d)

-- the test in front of the triple range is as good as none
triple_front : (n : ℕ) (held : ℕ → Bool) → triple_blocks n held ≡ one_if (some_below held (n * n * n)) + (quotients held (n * n) n + quotients held n (n * n))
triple_front n held = elim (cases_Bool (some_below held (n * n * n))) [
  | inl t ↦
      let a : triple_blocks n held ≡ 1 + quotients held (n * n) n + quotients held n (n * n) = cond-true (some_below held (n * n * n)) _ _ t in
      let b : one_if (some_below held (n * n * n)) ≡ 1 = ap one_if t in
      omega (arith, a, b)
  | inr f ↦
      let a : triple_blocks n held ≡ 0 = cond-false (some_below held (n * n * n)) _ _ f in
      let b : one_if (some_below held (n * n * n)) ≡ 0 = ap one_if f in
      let order : n * (n * n) ≡ n * n * n = omega arith in
      let c = no_blocks held (n * n) n (ap (some_below held) order ∙ f) in
      let d = no_blocks held n (n * n) f in
      omega (arith, a, b, c, d)
]

-- the triple range
triple_split : (n : ℕ) (more fewer : ℕ → Bool) → ((k : ℕ) → fewer k ≡ true → more k ≡ true) → triple_blocks n more ≡ triple_blocks n fewer + new_triple n more fewer
triple_split n more fewer less =
    let a = triple_front n more in
    let b = triple_front n fewer in
    let c = some_split more fewer (n * n * n) less in
    let d = quotients_split more fewer (n * n) n less in
    let e = quotients_split more fewer n (n * n) less in
    omega (arith, a, b, c, d, e)

-- all ranges
pub need_grows : NeedGrows
need_grows n more fewer less =
    let pages = count_split more fewer (page_limit n) less in
    let single = some_split (from_page 7 more) (from_page 7 fewer) n (λ k. less (7 + k)) in
    let double = double_split n (from_page (7 + n) more) (from_page (7 + n) fewer) (λ k. less (7 + n + k)) in
    let triple = triple_split n (from_page (7 + n + n * n) more) (from_page (7 + n + n * n) fewer) (λ k. less (7 + n + n * n + k)) in
    omega (arith, pages, single, double, triple)

-- with one page more, that page alone is new
one_new : (held : ℕ → Bool) (q n : ℕ) → held q ≡ false → q < n → count_below (only_in (put held q true) held) n ≡ 1
one_new held q n free l =
    sum_gained (λ _. 0) (λ k. one_if (only_in (put held q true) held k)) q 1 n l new_at
    ∙ ap (λ x. x + 1) (sum_of_none (λ _. 0) n (λ _. refl))
  where
    neither : (b : Bool) → (b && not b) ≡ false
    neither true = refl
    neither false = refl

    new_at : (k : ℕ) → one_if (only_in (put held q true) held k) ≡ 0 + only_at q 1 k
    new_at k = elim (cases_eq k q) [
      | inl e ↦
          let here : put held q true k ≡ true = ap (put held q true) e ∙ put-same held q true in
          let was : held k ≡ false = ap held e ∙ free in
          let is : one_if (only_in (put held q true) held k) ≡ 1 = λ i. one_if (here i && not (was i)) in
          let one = only_here q 1 k e in
          omega (arith, is, one)
      | inr d ↦
          let here : put held q true k ≡ held k = put-other held q true k d in
          let is : one_if (only_in (put held q true) held k) ≡ 0 = (λ i. one_if (here i && not (held k))) ∙ ap one_if (neither (held k)) in
          let none = only_elsewhere q 1 k d in
          omega (arith, is, none)
    ]

-- one page
pub one_page_more : OnePageMore
one_page_more n held q free l =
    let grows = need_grows n (put held q true) held still in
    let one = one_new held q (page_limit n) free l in
    omega (arith, grows, one)
  where
    still : (k : ℕ) → held k ≡ true → put held q true k ≡ true
    still k h = elim (cases_eq k q) [ inl e ↦ ap (put held q true) e ∙ put-same held q true | inr d ↦ put-other held q true k d ∙ h ]

-- all pages from one on
pub pages_let_go : PagesLetGo
pages_let_go n held p = need_grows n held (pages_below p held) (λ q h. (and_parts (held q) (nat_lt q p) h).0)
