-- The zones that the first pages of a file need.
use Rattle.std.proofs.Common.{◌≡◌, ◌<◌, ◌≤◌, ◌+◌, ◌*◌, ℕ, zero, suc, Bool, true, sym, ap, ◌∙◌, arith}
use mathlib.Core.Logic.{inl, inr}
use Rattle.std.specs.Prelude.{nat_lt}
use Rattle.std.proofs.lemmas.Bool.{cases_Bool, cases_lt, lt-ltb, le-ltb, ltb-true}
use Rattle.lemmas.specs.Sums.{sum_below, count_below, some_below, one_if}
use Rattle.tree.specs.ZonesNeeded.{page_limit, zones_needed}
use Rattle.tree.specs.ZonesNeededByPlace.{last_needed, second_needed, third_needed}
use Rattle.lemmas.proofs.Maps.{same_sum}
use Rattle.tree.proofs.Needs.{zones_needed_is_by_place}
use Rattle.volume.proofs.Sums.{some_from, none_from}
use Rattle.migrate.specs.Used.{blocks_over, zones_for}

-- tests of two bounds that say the same
same_test : (a b c d : ℕ) → (a < b → c < d) → (c < d → a < b) → nat_lt a b ≡ nat_lt c d
same_test a b c d there back = elim (cases_lt a b) [
  | inl l ↦ lt-ltb a b l ∙ sym (lt-ltb c d (there l))
  | inr m ↦ le-ltb a b m ∙ sym (elim (cases_lt c d) [
    | inl l ↦ let e = back l in absurd (omega arith)
    | inr k ↦ le-ltb c d k
  ])
]

-- the numbers below a bound
count_to : (a n : ℕ) → a ≤ n → count_below (λ k. nat_lt k a) n ≡ a
unfolding sum_below
count_to a zero h = omega arith
count_to a (suc n) h = elim (cases_lt n a) [
  | inl here ↦
      let all : count_below (λ k. nat_lt k a) n ≡ count_below (λ k. nat_lt k n) n
      = same_sum _ _ n (λ k l. ap one_if (lt-ltb k a (omega arith) ∙ sym (lt-ltb k n l))) in
      let before = count_to n n (omega arith) in
      let last : one_if (nat_lt n a) ≡ 1 = ap one_if (lt-ltb n a here) in
      omega arith
  | inr past ↦
      let before = count_to a n past in
      let last : one_if (nat_lt n a) ≡ 0 = ap one_if (le-ltb n a past) in
      omega arith
]

-- where one passes only if the first does, some pass if it does
first_of_all : (p : ℕ → Bool) (n : ℕ) → 0 < n → ((j : ℕ) → p j ≡ true → p 0 ≡ true) → some_below p n ≡ p 0
first_of_all p n some falls = elim (cases_Bool (p 0)) [
  | inl is ↦ some_from p n 0 some is ∙ sym is
  | inr out ↦ none_from p n (λ j _. elim (cases_Bool (p j)) [
    | inl is ↦ let e = falls j is in absurd (cc)
    | inr o ↦ o
  ]) ∙ sym out
]

module _ (pages : ℕ) where
  -- the first pages are held
  abbrev held : ℕ → Bool
  held q = nat_lt q pages

  -- a block that names pages is needed where its first page is held
  last_held : (k : ℕ) → last_needed 256 held k ≡ nat_lt (7 + k * 256) pages
  last_held k =
      first_of_all (λ j. held (7 + (k * 256 + j))) 256 (omega arith)
      (λ j is. let l = ltb-true (7 + (k * 256 + j)) pages is in lt-ltb (7 + (k * 256 + 0)) pages (omega arith))
      ∙ ap (λ q. nat_lt q pages) (let e : 7 + (k * 256 + 0) ≡ 7 + k * 256 = omega arith in e)

  -- a block that names such blocks
  second_held : (m : ℕ) → second_needed 256 held m ≡ nat_lt (263 + m * 65536) pages
  second_held m =
      first_of_all (λ j. last_needed 256 held (1 + (m * 256 + j))) 256 (omega arith)
      (λ j is. let l = ltb-true (7 + (1 + (m * 256 + j)) * 256) pages (sym (last_held (1 + (m * 256 + j))) ∙ is) in
      last_held (1 + (m * 256 + 0)) ∙ lt-ltb (7 + (1 + (m * 256 + 0)) * 256) pages (omega arith))
      ∙ last_held (1 + (m * 256 + 0))
      ∙ ap (λ q. nat_lt q pages) (let e : 7 + (1 + (m * 256 + 0)) * 256 ≡ 263 + m * 65536 = omega arith in e)

  -- the triple's
  third_held : third_needed 256 held ≡ nat_lt 65799 pages
  third_held =
      first_of_all (λ j. second_needed 256 held (1 + j)) 256 (omega arith)
      (λ j is. let l = ltb-true (263 + (1 + j) * 65536) pages (sym (second_held (1 + j)) ∙ is) in
      second_held (1 + 0) ∙ lt-ltb (263 + (1 + 0) * 65536) pages (omega arith))
      ∙ second_held (1 + 0)
      ∙ ap (λ q. nat_lt q pages) (let e : 263 + (1 + 0) * 65536 ≡ 65799 = omega arith in e)

  -- as many blocks as cover the pages
  last_covers : (k : ℕ) → nat_lt (7 + k * 256) pages ≡ nat_lt k (blocks_over pages 7 256)
  last_covers k = same_test (7 + k * 256) pages k (blocks_over pages 7 256) (λ h. omega arith) (λ h. omega arith)

  second_covers : (m : ℕ) → nat_lt (263 + m * 65536) pages ≡ nat_lt m (blocks_over pages 263 65536)
  second_covers m = same_test (263 + m * 65536) pages m (blocks_over pages 263 65536) (λ h. omega arith) (λ h. omega arith)

  -- what the first pages need
  pub first_pages : pages ≤ 16777216 → zones_needed 256 held ≡ zones_for pages
  first_pages few =
      let limit : ℕ = page_limit 256 in
      let a : count_below held (page_limit 256) ≡ pages = count_to pages (page_limit 256) (omega arith) in
      let b : count_below (last_needed 256 held) (1 + 256 + 256 * 256) ≡ blocks_over pages 7 256
      = same_sum _ _ (1 + 256 + 256 * 256) (λ k _. ap one_if (last_held k ∙ last_covers k))
      ∙ count_to (blocks_over pages 7 256) (1 + 256 + 256 * 256) (omega arith) in
      let c : count_below (second_needed 256 held) (1 + 256) ≡ blocks_over pages 263 65536
      = same_sum _ _ (1 + 256) (λ k _. ap one_if (second_held k ∙ second_covers k))
      ∙ count_to (blocks_over pages 263 65536) (1 + 256) (omega arith) in
      let d : one_if (third_needed 256 held) ≡ one_if (nat_lt 65799 pages) = ap one_if third_held in
      zones_needed_is_by_place 256 held ∙ (λ i. a i + b i + c i + d i)
