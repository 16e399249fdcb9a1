-- One page more, behind all others.
use Rattle.std.proofs.Common.{◌≡◌, ◌≢◌, ◌<◌, ◌≤◌, ◌+◌, ◌-◌, ◌*◌, ◌/◌, ◌%◌, ℕ, zero, suc, Bool, true, refl, sym, ap, subst, ◌∙◌, arith}
use mathlib.Core.Logic.{inl, inr}
use Rattle.std.specs.Prelude.{◌&&◌, ◌||◌, ◌==◌, nat_lt, nat_le, IsTrue}
use Rattle.std.proofs.lemmas.Bool.{cases_eq, cases_lt, cases_Bool, eq-eqb, ne_eqb, eqb-true, lt-ltb, le-ltb, le-leb, leb-true, ltb-true, and_parts, and_from, or_cases}
use Rattle.lemmas.proofs.Bools.{false_not_true}
use Rattle.layout.specs.Places.{is_block_size}
use Rattle.lemmas.specs.Sums.{sum_below, count_below, some_below, one_if}
use Rattle.tree.specs.ZonesNeeded.{zones_needed, page_limit}
use Rattle.tree.specs.ZonesNeededByPlace.{last_needed, second_needed, third_needed}
use Rattle.tree.proofs.Needs.{zones_needed_is_by_place}
use Rattle.tree.proofs.Search.{found_below, one_below}
use Rattle.calls_rename.specs.Sizes.{first_pages}

-- one of some pages is among the first p where the first of them is
row_is_held : (p n : ℕ) (f : ℕ → ℕ) → 0 < n → ((j : ℕ) → f 0 ≤ f j) → some_below (λ j. nat_lt (f j) p) n ≡ nat_lt (f 0) p
row_is_held p n f some least = elim (cases_lt (f 0) p) [
  | inl low ↦ found_below (λ j. nat_lt (f j) p) n 0 some (lt-ltb (f 0) p low) ∙ sym (lt-ltb (f 0) p low)
  | inr high ↦ elim (cases_Bool (some_below (λ j. nat_lt (f j) p) n)) [
    | inl found ↦
        let one = one_below (λ j. nat_lt (f j) p) n found in
        let near = ltb-true (f one.0) p one.2 in
        let more = least one.0 in
        absurd (omega (arith, near, more, high))
    | inr none ↦ none ∙ sym (le-ltb (f 0) p high)
  ]
]

-- the first pages of the blocks that name pages, and of those above
abbrev last_first : ℕ → ℕ → ℕ
last_first n k = 7 + (k * n + 0)

abbrev second_first : ℕ → ℕ → ℕ
second_first n m = last_first n (1 + (m * n + 0))

abbrev third_first : ℕ → ℕ
third_first n = second_first n (1 + 0)

-- the zones of the first p pages
abbrev counted : ℕ → ℕ → ℕ
counted n p =
    count_below (first_pages p) (page_limit n)
    + count_below (λ k. nat_lt (last_first n k) p) (1 + n + n * n)
    + count_below (λ m. nat_lt (second_first n m) p) (1 + n)
    + one_if (nat_lt (third_first n) p)

module _ (n p : ℕ) (some : 0 < n) where
  last_is : (k : ℕ) → last_needed n (first_pages p) k ≡ nat_lt (last_first n k) p
  last_is k = row_is_held p n (λ j. 7 + (k * n + j)) some (λ j. omega arith)

  second_is : (m : ℕ) → second_needed n (first_pages p) m ≡ nat_lt (second_first n m) p
  second_is m =
      ap (λ (h : ℕ → Bool). some_below h n) (λ i j. last_is (1 + (m * n + j)) i)
      ∙ row_is_held p n (λ j. last_first n (1 + (m * n + j))) some (λ j. omega arith)

  third_is : third_needed n (first_pages p) ≡ nat_lt (third_first n) p
  third_is =
      ap (λ (h : ℕ → Bool). some_below h n) (λ i j. second_is (1 + j) i)
      ∙ row_is_held p n (λ j. second_first n (1 + j)) some (λ j. grind arith)

  by_count : zones_needed n (first_pages p) ≡ counted n p
  by_count =
      zones_needed_is_by_place n (first_pages p)
      ∙ (λ i. count_below (first_pages p) (page_limit n) + count_below (λ k. last_is k i) (1 + n + n * n) + count_below (λ m. second_is m i) (1 + n) + one_if (third_is i))

-- one page more
one_more : (x p : ℕ) → one_if (nat_lt x (p + 1)) ≡ one_if (nat_lt x p) + one_if (x == p)
one_more x p = elim (cases_eq x p) [
  | inl e ↦
      let a : one_if (nat_lt x (p + 1)) ≡ 1 = ap one_if (lt-ltb x (p + 1) (omega arith)) in
      let b : one_if (nat_lt x p) ≡ 0 = ap one_if (le-ltb x p (omega arith)) in
      let c : one_if (x == p) ≡ 1 = ap one_if (eq-eqb x p e) in
      omega arith
  | inr d ↦
      let c : one_if (x == p) ≡ 0 = ap one_if (ne_eqb x p d) in
      elim (cases_lt x p) [
        | inl low ↦
            let a : one_if (nat_lt x (p + 1)) ≡ 1 = ap one_if (lt-ltb x (p + 1) (omega arith)) in
            let b : one_if (nat_lt x p) ≡ 1 = ap one_if (lt-ltb x p low) in
            omega arith
        | inr high ↦
            let a : one_if (nat_lt x (p + 1)) ≡ 0 = ap one_if (le-ltb x (p + 1) (omega arith)) in
            let b : one_if (nat_lt x p) ≡ 0 = ap one_if (le-ltb x p high) in
            omega arith
      ]
]

-- how many of some numbers are this one
abbrev hits : (ℕ → ℕ) → ℕ → ℕ → ℕ
hits f p n = count_below (λ k. f k == p) n

more_counted : (f : ℕ → ℕ) (p n : ℕ) → count_below (λ k. nat_lt (f k) (p + 1)) n ≡ count_below (λ k. nat_lt (f k) p) n + hits f p n
unfolding sum_below
more_counted f p zero = refl
more_counted f p (suc n) =
    let front = more_counted f p n in
    let last = one_more (f n) p in
    omega (arith, front, last)

no_hit : (f : ℕ → ℕ) (p n : ℕ) → ((k : ℕ) → k < n → f k ≢ p) → hits f p n ≡ 0
unfolding sum_below
no_hit f p zero none = refl
no_hit f p (suc n) none =
    let front = no_hit f p n (λ k few. none k (omega arith)) in
    let last : one_if (f n == p) ≡ 0 = ap one_if (ne_eqb (f n) p (none n (omega arith))) in
    omega (arith, front, last)

one_hit : (f : ℕ → ℕ) (p n q : ℕ) → q < n → f q ≡ p → ((k : ℕ) → f k ≡ p → k ≡ q) → hits f p n ≡ 1
unfolding sum_below
one_hit f p zero q low at only = absurd (omega arith)
one_hit f p (suc n) q low at only = elim (cases_eq n q) [
  | inl e ↦
      let front : hits f p n ≡ 0 = no_hit f p n (λ k few same. let z = only k same in absurd (omega arith)) in
      let last : one_if (f n == p) ≡ 1 = ap one_if (eq-eqb (f n) p (ap f e ∙ at)) in
      omega (arith, front, last)
  | inr d ↦
      let front : hits f p n ≡ 1 = one_hit f p n q (omega arith) at only in
      let last : one_if (f n == p) ≡ 0 = ap one_if (ne_eqb (f n) p (λ same. d (only n same))) in
      omega (arith, front, last)
]

-- how often a page is the first of a block, by a test that finds the block
by_test : (f : ℕ → ℕ) (p n q : ℕ) (b : Bool) → (b ≡ true → (q < n) × (f q ≡ p)) → ((k : ℕ) → f k ≡ p → (k ≡ q) × (b ≡ true)) → hits f p n ≡ one_if b
by_test f p n q b right only = elim (cases_Bool b) [
  | inl is ↦ one_hit f p n q (right is).0 (right is).1 (λ k e. (only k e).0) ∙ sym (ap one_if is)
  | inr out ↦ no_hit f p n (λ k few e. false_not_true (sym out ∙ (only k e).1)) ∙ sym (ap one_if out)
]

-- a page is the first of a block that names pages, or of one above
abbrev pub is_last_first : ℕ → ℕ → Bool
is_last_first n p = nat_le 7 p && ((p - 7) % n == 0)

abbrev pub is_second_first : ℕ → ℕ → Bool
is_second_first n p = nat_le (7 + n) p && ((p - 7 - n) % (n * n) == 0)

abbrev pub is_third_first : ℕ → ℕ → Bool
is_third_first n p = p == 7 + n + n * n

abbrev Hits : ℕ → Type 0
Hits n = (p : ℕ) → p < 2097152 → (hits (last_first n) p (1 + n + n * n) ≡ one_if (is_last_first n p)) × (hits (second_first n) p (1 + n) ≡ one_if (is_second_first n p))
    × ((third_first n == p) ≡ is_third_first n p) × (p < page_limit n)

-- what the tests say of numbers
le_and : (a b c : ℕ) → (nat_le a b && (c == 0)) ≡ true → (a ≤ b) × (c ≡ 0)
le_and a b c h = let x = and_parts (nat_le a b) (c == 0) h in (leb-true a b x.0, eqb-true c 0 x.1)

and_le : (a b c : ℕ) → a ≤ b → c ≡ 0 → (nat_le a b && (c == 0)) ≡ true
and_le a b c l e = and_from (nat_le a b) (c == 0) (le-leb a b l) (eq-eqb c 0 e)

swapped : (a b : ℕ) → (a == b) ≡ (b == a)
swapped a b = elim (cases_eq a b) [
  | inl e ↦ eq-eqb a b e ∙ sym (eq-eqb b a (sym e))
  | inr d ↦ ne_eqb a b d ∙ sym (ne_eqb b a (λ e. d (sym e)))
]

hits_256 : Hits 256
hits_256 p low = (
  by_test (last_first 256) p 65793 ((p - 7) / 256) (is_last_first 256 p)
      (λ h. let x = le_and 7 p ((p - 7) % 256) h in (omega (arith, low, x), omega (arith, x)))
      (λ k e. (omega (arith, e), and_le 7 p ((p - 7) % 256) (omega (arith, e)) (omega (arith, e)))),
  by_test (second_first 256) p 257 ((p - 7 - 256) / 65536) (is_second_first 256 p)
      (λ h. let x = le_and 263 p ((p - 7 - 256) % 65536) h in (omega (arith, low, x), omega (arith, x)))
      (λ k e. (omega (arith, e), and_le 263 p ((p - 7 - 256) % 65536) (omega (arith, e)) (omega (arith, e)))),
  swapped 65799 p,
  omega (arith, low),
)

hits_512 : Hits 512
hits_512 p low = (
  by_test (last_first 512) p 262657 ((p - 7) / 512) (is_last_first 512 p)
      (λ h. let x = le_and 7 p ((p - 7) % 512) h in (omega (arith, low, x), omega (arith, x)))
      (λ k e. (omega (arith, e), and_le 7 p ((p - 7) % 512) (omega (arith, e)) (omega (arith, e)))),
  by_test (second_first 512) p 513 ((p - 7 - 512) / 262144) (is_second_first 512 p)
      (λ h. let x = le_and 519 p ((p - 7 - 512) % 262144) h in (omega (arith, low, x), omega (arith, x)))
      (λ k e. (omega (arith, e), and_le 519 p ((p - 7 - 512) % 262144) (omega (arith, e)) (omega (arith, e)))),
  swapped 262663 p,
  omega (arith, low),
)

hits_1024 : Hits 1024
hits_1024 p low = (
  by_test (last_first 1024) p 1049601 ((p - 7) / 1024) (is_last_first 1024 p)
      (λ h. let x = le_and 7 p ((p - 7) % 1024) h in (omega (arith, low, x), omega (arith, x)))
      (λ k e. (omega (arith, e), and_le 7 p ((p - 7) % 1024) (omega (arith, e)) (omega (arith, e)))),
  by_test (second_first 1024) p 1025 ((p - 7 - 1024) / 1048576) (is_second_first 1024 p)
      (λ h. let x = le_and 1031 p ((p - 7 - 1024) % 1048576) h in (omega (arith, low, x), omega (arith, x)))
      (λ k e. (omega (arith, e), and_le 1031 p ((p - 7 - 1024) % 1048576) (omega (arith, e)) (omega (arith, e)))),
  swapped 1049607 p,
  omega (arith, low),
)

-- so it is for each size of a block
each_hits : (b : ℕ) → IsTrue (is_block_size b) → (0 < b / 4) × Hits (b / 4)
each_hits b size = elim (or_cases ((b == 1024) || (b == 2048)) (b == 4096) size) [
  | inr c ↦ subst (λ (w : ℕ). (0 < w / 4) × Hits (w / 4)) (sym (eqb-true b 4096 c)) (omega arith, hits_1024)
  | inl ab ↦ elim (or_cases (b == 1024) (b == 2048) ab) [
    | inl a ↦ subst (λ (w : ℕ). (0 < w / 4) × Hits (w / 4)) (sym (eqb-true b 1024 a)) (omega arith, hits_256)
    | inr c ↦ subst (λ (w : ℕ). (0 < w / 4) × Hits (w / 4)) (sym (eqb-true b 2048 c)) (omega arith, hits_512)
  ]
]

-- A page behind all others takes a zone, and one for each block of which it is the first.
pub page_more : (b p : ℕ) → IsTrue (is_block_size b) → p < 2097152
    → zones_needed (b / 4) (first_pages (p + 1)) ≡ zones_needed (b / 4) (first_pages p)
    + (1 + one_if (is_last_first (b / 4) p) + one_if (is_second_first (b / 4) p) + one_if (is_third_first (b / 4) p))
page_more b p size low =
    let n : ℕ = b / 4 in
    let x = each_hits b size in
    let h = x.1 p low in
    let before = by_count n p x.0 in
    let after = by_count n (p + 1) x.0 in
    let pages = more_counted (λ k. k) p (page_limit n) in
    let page : hits (λ k. k) p (page_limit n) ≡ 1 = one_hit (λ k. k) p (page_limit n) p h.3 refl (λ k e. e) in
    let last = more_counted (last_first n) p (1 + n + n * n) in
    let second = more_counted (second_first n) p (1 + n) in
    let third = one_more (third_first n) p in
    let top : one_if (third_first n == p) ≡ one_if (is_third_first n p) = ap one_if h.2 in
    omega (arith, before, after, pages, page, last, h.0, second, h.1, third, top)

-- of two sizes 64 bytes apart the greater covers as many pages, or one more
abbrev Next : ℕ → ℕ → Type 0
Next s w = (s + w - 1) / w ≢ (s - 64 + w - 1) / w → ((s + w - 1) / w ≡ (s - 64 + w - 1) / w + 1) × ((s - 64 + w - 1) / w < 2097152)

pub kept_or_next : (b s : ℕ) → IsTrue (is_block_size b) → 64 ≤ s → s ≤ 2147483647 → (s + b - 1) / b ≢ (s - 64 + b - 1) / b
    → ((s + b - 1) / b ≡ (s - 64 + b - 1) / b + 1) × ((s - 64 + b - 1) / b < 2097152)
kept_or_next b s size some most other = elim (or_cases ((b == 1024) || (b == 2048)) (b == 4096) size) [
  | inr c ↦ subst (Next s) (sym (eqb-true b 4096 c)) (λ d. (omega (arith, some, d), omega (arith, most))) other
  | inl ab ↦ elim (or_cases (b == 1024) (b == 2048) ab) [
    | inl a ↦ subst (Next s) (sym (eqb-true b 1024 a)) (λ d. (omega (arith, some, d), omega (arith, most))) other
    | inr c ↦ subst (Next s) (sym (eqb-true b 2048 c)) (λ d. (omega (arith, some, d), omega (arith, most))) other
  ]
]
