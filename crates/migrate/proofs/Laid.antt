-- The zones that a directory's pages take, number by number.
use Rattle.std.proofs.Common.{◌≡◌, ◌<◌, ◌≤◌, ◌+◌, ◌-◌, ◌*◌, ℕ, zero, suc, List, length, Bool, true, refl, sym, ap, ◌∙◌, arith}
use mathlib.Core.Logic.{inl, inr}
use Rattle.std.specs.Prelude.{◌/◌, ◌==◌, min, nat_lt}
use Rattle.std.proofs.lemmas.Bool.{cases_lt, cond-true, cond-false, ne_eqb, lt-ltb, le-ltb}
use Rattle.lemmas.specs.Sums.{sum_below, count_below, one_if}
use Rattle.lemmas.proofs.Maps.{same_sum}
use Rattle.tree.proofs.Needs.{sum_add}
use Rattle.image.specs.Entered.{level_of}
use Rattle.migrate.specs.Pages.{pages_below, pages_for, pages_from, first_page, zones_under}
use Rattle.migrate.specs.Used.{zones_for, blocks_over}

-- a sum's beginning is no more than the sum
pub sum_front : (f : ℕ → ℕ) (k n : ℕ) → k ≤ n → sum_below f k ≤ sum_below f n
sum_front f k n h =
    let rest : k + (n - k) ≡ n = omega arith in
    let parts = sum_add f k (n - k) in
    let all : sum_below f (k + (n - k)) ≡ sum_below f n = ap (sum_below f) rest in
    omega arith

-- one more
pub sum_next : (f : ℕ → ℕ) (k : ℕ) → sum_below f (k + 1) ≡ sum_below f k + f k
unfolding sum_below
sum_next f k = let e : sum_below f (k + 1) ≡ sum_below f k + f k = ap (sum_below f) (let s : k + 1 ≡ suc k = omega arith in s) in e

-- pages and the blocks that name them; and those that name such blocks
abbrev with_blocks : ℕ → ℕ
with_blocks r = r + (r + 255) / 256

abbrev with_both : ℕ → ℕ
with_both r = r + (r + 255) / 256 + (r + 65535) / 65536

-- one full block more, or none
more_blocks : (n d : ℕ) → with_blocks (min (n * 256) d) + with_blocks (min 256 (d - n * 256)) ≡ with_blocks (min (suc n * 256) d)
more_blocks n d = elim (cases_lt d (n * 256)) [
  | inl low ↦
      let a : min (n * 256) d ≡ d = omega arith in
      let b : min 256 (d - n * 256) ≡ 0 = omega arith in
      let c : min (suc n * 256) d ≡ d = omega arith in
      (λ i. with_blocks (a i) + with_blocks (b i)) ∙ (let e : with_blocks d + with_blocks 0 ≡ with_blocks d = omega arith in e)
      ∙ ap with_blocks (sym c)
  | inr high ↦
      let a : min (n * 256) d ≡ n * 256 = omega arith in
      let b : ℕ = min 256 (d - n * 256) in
      let c : min (suc n * 256) d ≡ n * 256 + b = omega arith in
      ap (λ r. with_blocks r + with_blocks b) a ∙ whole n b ∙ ap with_blocks (sym c)
]
  where
    whole : (n b : ℕ) → with_blocks (n * 256) + with_blocks b ≡ with_blocks (n * 256 + b)
    whole n b = omega arith

more_both : (n d : ℕ) → with_both (min (n * 65536) d) + with_both (min 65536 (d - n * 65536)) ≡ with_both (min (suc n * 65536) d)
more_both n d = elim (cases_lt d (n * 65536)) [
  | inl low ↦
      let a : min (n * 65536) d ≡ d = omega arith in
      let b : min 65536 (d - n * 65536) ≡ 0 = omega arith in
      let c : min (suc n * 65536) d ≡ d = omega arith in
      (λ i. with_both (a i) + with_both (b i)) ∙ (let e : with_both d + with_both 0 ≡ with_both d = omega arith in e) ∙ ap with_both (sym c)
  | inr high ↦
      let a : min (n * 65536) d ≡ n * 65536 = omega arith in
      let b : ℕ = min 65536 (d - n * 65536) in
      let c : min (suc n * 65536) d ≡ n * 65536 + b = omega arith in
      ap (λ r. with_both r + with_both b) a ∙ whole n b ∙ ap with_both (sym c)
]
  where
    whole : (n b : ℕ) → with_both (n * 65536) + with_both b ≡ with_both (n * 65536 + b)
    whole n b = omega arith

-- all pages, by the four kinds of numbers
all_pages : (p : ℕ) → p ≤ 16777216 → min 7 (p - 0) + with_blocks (min 256 (p - 7)) + with_both (min 65536 (p - 263))
    + (with_both (min 16777216 (p - 65799)) + min 1 (p - 65799)) ≡ p + blocks_over p 7 256 + blocks_over p 263 65536 + min 1 (p - 65799)
all_pages p few = elim (cases_lt p 264) [
  | inl low ↦
      let b : min 65536 (p - 263) ≡ 0 = omega arith in
      let c : min 16777216 (p - 65799) ≡ 0 = omega arith in
      let d : min 256 (p - 7) ≡ p - 7 = omega arith in
      (λ i. min 7 (p - 0) + with_blocks (d i) + with_both (b i) + (with_both (c i) + min 1 (p - 65799)))
      ∙ (let e : min 7 (p - 0) + with_blocks (p - 7) + with_both 0 + (with_both 0 + min 1 (p - 65799))
      ≡ p + blocks_over p 7 256 + blocks_over p 263 65536 + min 1 (p - 65799) = omega arith in e)
  | inr more ↦ elim (cases_lt p 65800) [
    | inl low ↦
        let a : min 256 (p - 7) ≡ 256 = omega arith in
        let c : min 16777216 (p - 65799) ≡ 0 = omega arith in
        let d : min 65536 (p - 263) ≡ p - 263 = omega arith in
        let f : min 7 (p - 0) ≡ 7 = omega arith in
        (λ i. f i + with_blocks (a i) + with_both (d i) + (with_both (c i) + min 1 (p - 65799)))
        ∙ (let e : 7 + with_blocks 256 + with_both (p - 263) + (with_both 0 + min 1 (p - 65799))
        ≡ p + blocks_over p 7 256 + blocks_over p 263 65536 + min 1 (p - 65799) = omega arith in e)
    | inr far ↦
        let a : min 256 (p - 7) ≡ 256 = omega arith in
        let c : min 65536 (p - 263) ≡ 65536 = omega arith in
        let d : min 16777216 (p - 65799) ≡ p - 65799 = omega arith in
        let f : min 7 (p - 0) ≡ 7 = omega arith in
        (λ i. f i + with_blocks (a i) + with_both (c i) + (with_both (d i) + min 1 (p - 65799)))
        ∙ (let e : 7 + with_blocks 256 + with_both 65536 + (with_both (p - 65799) + min 1 (p - 65799))
        ≡ p + blocks_over p 7 256 + blocks_over p 263 65536 + min 1 (p - 65799) = omega arith in e)
  ]
]

-- the first seven numbers lead to a page each
low_level : (s : ℕ) → s < 7 → level_of s ≡ 0
low_level s h = cond-true (nat_lt s 7) 0 (s - 6) (lt-ltb s 7 h)

pub low_page : (s : ℕ) → s < 7 → first_page s ≡ 0 + s * 1
low_page s h =
    let same : s ≡ 0 + s * 1 = omega arith in
    cond-false (s == 8) 263 _ (ne_eqb s 8 (λ e. absurd (omega arith)))
    ∙ cond-false (s == 9) 65799 s (ne_eqb s 9 (λ e. absurd (omega arith)))
    ∙ same

-- how many zones a number takes that leads to a page and those behind it, where there are so many pages
abbrev laid_below : ℕ → ℕ → ℕ → ℕ
laid_below pages zero p = one_if (nat_lt p pages)
laid_below pages (suc l) p = one_if (nat_lt p pages) + sum_below (λ j. laid_below pages l (p + j * pages_below l)) 256

module _ (pages : ℕ) where
  -- a page
  laid_page : (p : ℕ) → laid_below pages 0 p ≡ min 1 (pages - p)
  laid_page p = elim (cases_lt p pages) [
    | inl l ↦ let e : one_if (nat_lt p pages) ≡ 1 = ap one_if (lt-ltb p pages l) in omega arith
    | inr m ↦ let e : one_if (nat_lt p pages) ≡ 0 = ap one_if (le-ltb p pages m) in omega arith
  ]

  -- the pages that n numbers lead to
  laid_pages : (p n : ℕ) → sum_below (λ j. laid_below pages 0 (p + j * 1)) n ≡ min n (pages - p)
  unfolding sum_below
  laid_pages p zero = omega arith
  laid_pages p (suc n) =
      let before = laid_pages p n in
      let here = laid_page (p + n * 1) in
      omega arith

  -- a block of pages
  laid_single : (p : ℕ) → laid_below pages 1 p ≡ with_blocks (min 256 (pages - p))
  laid_single p =
      let below = laid_pages p 256 in
      let here = laid_page p in
      omega arith

  -- n of them
  laid_singles : (p n : ℕ) → sum_below (λ j. laid_below pages 1 (p + j * 256)) n ≡ with_blocks (min (n * 256) (pages - p))
  unfolding sum_below
  laid_singles p zero = omega arith
  laid_singles p (suc n) =
      let here : laid_below pages 1 (p + n * 256) ≡ with_blocks (min 256 (pages - p - n * 256))
      = laid_single (p + n * 256)
      ∙ ap (λ r. with_blocks (min 256 r)) (let e : pages - (p + n * 256) ≡ pages - p - n * 256 = omega arith in e) in
      (λ i. laid_singles p n i + here i) ∙ more_blocks n (pages - p)

  -- a block of those
  laid_double : (p : ℕ) → laid_below pages 2 p ≡ with_both (min 65536 (pages - p))
  laid_double p =
      let below = laid_singles p 256 in
      let here = laid_page p in
      omega arith

  -- n of them
  laid_doubles : (p n : ℕ) → sum_below (λ j. laid_below pages 2 (p + j * 65536)) n ≡ with_both (min (n * 65536) (pages - p))
  unfolding sum_below
  laid_doubles p zero = omega arith
  laid_doubles p (suc n) =
      let here : laid_below pages 2 (p + n * 65536) ≡ with_both (min 65536 (pages - p - n * 65536))
      = laid_double (p + n * 65536)
      ∙ ap (λ r. with_both (min 65536 r)) (let e : pages - (p + n * 65536) ≡ pages - p - n * 65536 = omega arith in e) in
      (λ i. laid_doubles p n i + here i) ∙ more_both n (pages - p)

  -- a block of those
  laid_triple : (p : ℕ) → laid_below pages 3 p ≡ with_both (min 16777216 (pages - p)) + min 1 (pages - p)
  laid_triple p =
      let below = laid_doubles p 256 in
      let here = laid_page p in
      omega arith

  -- the ten numbers of an inode
  laid_all : pages ≤ 16777216 → sum_below (λ s. laid_below pages (level_of s) (first_page s)) 10 ≡ zones_for pages
  unfolding sum_below
  laid_all few =
      let f : ℕ → ℕ = λ s. laid_below pages (level_of s) (first_page s) in
      let seven : sum_below f 7 ≡ min 7 (pages - 0)
      = same_sum f (λ j. laid_below pages 0 (0 + j * 1)) 7
      (λ s h. λ i. laid_below pages (low_level s h i) (low_page s h i)) ∙ laid_pages 0 7 in
      let single : f 7 ≡ with_blocks (min 256 (pages - 7)) = laid_single 7 in
      let double : f 8 ≡ with_both (min 65536 (pages - 263)) = laid_double 263 in
      let triple : f 9 ≡ with_both (min 16777216 (pages - 65799)) + min 1 (pages - 65799) = laid_triple 65799 in
      let last : one_if (nat_lt 65799 pages) ≡ min 1 (pages - 65799) = laid_page 65799 in
      let whole = all_pages pages few in
      (λ i. seven i + single i + double i + triple i) ∙ whole
      ∙ ap (λ t. pages + blocks_over pages 7 256 + blocks_over pages 263 65536 + t) (sym last)

-- these are the zones of a row of bytes
laid_is : (bytes : List ℕ) (l p : ℕ) → zones_under (pages_from bytes) l p ≡ laid_below (pages_for (length bytes)) l p
laid_is bytes zero p = refl
laid_is bytes (suc l) p = ap (λ s. one_if (nat_lt p (pages_for (length bytes))) + s)
    (same_sum _ _ 256 (λ j _. laid_is bytes l (p + j * pages_below l)))

-- all of them
pub all_laid : (bytes : List ℕ) → pages_for (length bytes) ≤ 16777216
    → sum_below (λ s. zones_under (pages_from bytes) (level_of s) (first_page s)) 10 ≡ zones_for (pages_for (length bytes))
all_laid bytes few = same_sum _ _ 10 (λ s _. laid_is bytes (level_of s) (first_page s)) ∙ laid_all (pages_for (length bytes)) few

-- a count of which the first two pass
pub two_first : (p : ℕ → Bool) (n : ℕ) → p 0 ≡ true → p 1 ≡ true → count_below p (n + 2) ≡ count_below (λ e. p (e + 2)) n + 2
unfolding sum_below
two_first p zero a b =
    let first : one_if (p 0) ≡ 1 = ap one_if a in
    let second : one_if (p 1) ≡ 1 = ap one_if b in
    omega arith
two_first p (suc n) a b =
    let before = two_first p n a b in
    let top : count_below p (suc n + 2) ≡ count_below p (n + 2) + one_if (p (n + 2))
    = ap (count_below p) (let e : suc n + 2 ≡ suc (n + 2) = omega arith in e) in
    omega arith

-- a block's page is near
pub near_below : (j w : ℕ) → j < 256 → w ≤ 65536 → j * w ≤ 16711680
near_below j w h few =
    let d : ℕ = 255 - j in
    let parts : (j + d) * w ≡ j * w + d * w = grind arith in
    let all : j + d ≡ 255 = omega arith in
    let whole : (j + d) * w ≡ 255 * w = ap (λ k. k * w) all in
    omega arith
