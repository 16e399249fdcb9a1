-- The numbers of a map that stand in one of its blocks.
use Rattle.std.proofs.Common.{◌≡◌, ◌<◌, ◌≤◌, ◌+◌, ◌-◌, ◌*◌, ◌/◌, ◌%◌, ℕ, zero, suc, List, Bool, refl, sym, ap, subst, ◌∙◌, arith}
use Rattle.std.specs.Prelude.{not, IsTrue, Some, None, max, min, slice_index}
use Rattle.std.proofs.Math.Nat.{add-mul, mul-mod_left, mul_assoc}
use Rattle.std.proofs.lemmas.Bool.{cases_lt}
use Rattle.std.proofs.lemmas.Nat.{div-mul-add, mod-mul-add}
use mathlib.Core.Logic.{inl, inr}
use Rattle.layout.specs.declared.Geometry.{Geometry}
use Rattle.layout.specs.Places.{is_block_size}
use Rattle.layout.proofs.Parsed.{block_sizes}
use Rattle.lemmas.specs.Sums.{count_below, sum_below, one_if}
use Rattle.volume.specs.Reading.{Disk, bit_in}
use Rattle.volume.specs.Pieces.{pieces}
use Rattle.bitmap.specs.declared.Map.{Map}
use Rattle.bitmap.specs.Numbers.{AllIn, IsLowestFree, count_free_in, words_for}
use Rattle.bitmap.specs.Maps.{numbers_in, last_number, first_block, reach}
use Rattle.bitmap.proofs.Maps.{by_bit}

-- the first bits of a row, moved to where their numbers are
module _ (set row : ℕ → Bool) (first from end : ℕ) (same : (b : ℕ) → from ≤ b → b < end → set (first + b) ≡ row b) where
  moved : (last : ℕ) → last ≤ end → AllIn row from last → AllIn set (first + from) (first + last)
  moved last within all j low high =
      let b = j - first in
      let at : j ≡ first + b = omega arith in
      ap set at ∙ same b (omega arith) (omega arith) ∙ all b (omega arith) (omega arith)

  pub lowest_moved : (x : ℕ) (low high : ℕ) → first + from ≡ low → first + end ≡ high → IsLowestFree (Some x) row from end → IsLowestFree (Some (first + x)) set low high
  lowest_moved x low high l h lowest =
      let at = lowest.0 in
      let before = lowest.1 in (
        omega (arith, at, l),
        omega (arith, before, h),
        same x at before ∙ lowest.2,
        subst (λ k. AllIn set k (first + x)) l (moved x (omega (arith, before)) lowest.3),
      )

  pub none_moved : (low high : ℕ) → first + from ≡ low → first + end ≡ high → IsLowestFree None row from end → IsLowestFree None set low high
  none_moved low high l h all = subst (λ k. AllIn set low k) h (subst (λ k. AllIn set k (first + end)) l (moved end (omega arith) all))

  -- as many are free
  counted : (n : ℕ) → n + from ≤ end → count_below (λ k. not (row (k + from))) n ≡ count_below (λ k. not (set (k + (first + from)))) n
  unfolding sum_below
  counted zero within = refl
  counted (suc n) within =
      let rest = counted n (omega arith) in
      let at : n + (first + from) ≡ first + (n + from) = omega arith in
      let last : one_if (not (row (n + from))) ≡ one_if (not (set (n + (first + from)))) =
      ap (λ z. one_if (not z)) (sym (same (n + from) (omega arith) (omega arith)) ∙ ap set (sym at)) in
      omega (arith, rest, last)

  pub count_moved : (low high : ℕ) → from ≤ end → first + from ≡ low → first + end ≡ high → count_free_in row from end ≡ count_free_in set low high
  count_moved low high some l h = counted (end - from) (omega arith) ∙ ap (λ k. count_below (λ j. not (set (j + k))) (end - from)) l
      ∙ ap (count_below (λ j. not (set (j + low)))) (omega (arith, l, h, some))

-- the bits of a block, by their numbers
pub in_block : (m : Map) (g : Geometry) (d : Disk) (k block first from end : ℕ) (bytes : List ℕ) → block ≡ first_block m g + k → first ≡ k * (8 * g.block_size)
    → first + end ≡ reach m g (k + 1) → end ≤ 8 * g.block_size → d block ≡ slice_index bytes
    → (b : ℕ) → from ≤ b → b < end → numbers_in m (pieces g d) (first + b) ≡ bit_in (slice_index bytes) b
in_block m g d k block first from end bytes at begins ends within shown b low high =
    let width = 8 * g.block_size in
    let under : b < width = omega (arith, high, within) in
    let last : first + b ≤ last_number m g = omega (arith, ends, high) in
    by_bit m g d (first + b) last
    ∙ ap (λ (z : ℕ). bit_in (d (first_block m g + (z + b) / width)) ((z + b) % width)) begins
    ∙ ap (λ (z : ℕ). bit_in (d (first_block m g + z)) ((k * width + b) % width)) (div-mul-add k width b under)
    ∙ ap (λ (z : ℕ). bit_in (d (first_block m g + k)) z) (mod-mul-add k width b under)
    ∙ ap (λ (z : ℕ). bit_in (d z) b) (sym at)
    ∙ ap (λ (f : ℕ → ℕ). bit_in f b) shown

-- a block has whole words
pub sized_words : (size : ℕ) → IsTrue (is_block_size size) → size % 8 ≡ 0
sized_words size sized = elim (block_sizes size sized) [ inl e ↦ omega (arith, e) | inr r ↦ elim r [ inl e ↦ omega (arith, e) | inr e ↦ omega (arith, e) ] ]

-- so do the blocks before one
pub whole_words : (k size : ℕ) → IsTrue (is_block_size size) → k * (8 * size) % 64 ≡ 0
whole_words k size sized =
    let eight = sized_words size sized in
    let apart : 8 * size ≡ (size / 8) * 64 = omega (arith, eight) in
    ap (λ (n : ℕ). k * n % 64) apart ∙ ap (λ (n : ℕ). n % 64) (sym (mul_assoc k (size / 8) 64)) ∙ mul-mod_left (k * (size / 8)) 64

-- the words of a map's blocks up to one, and those of that one
pub words_more : (last width k a b c : ℕ) → 0 < width → b ≤ a + words_for (min (last + 1) (k * width))
    → c + words_for (k * width) ≤ b + words_for (min (last + 1) (max 1 ((k + 1) * width)))
    → c ≤ a + words_for (min (last + 1) ((k + 1) * width))
words_more last width k a b c some before one =
    let next : (k + 1) * width ≡ k * width + width = omega (arith, add-mul k 1 width) in
    elim (cases_lt last (k * width)) [ inl past ↦ omega (arith, some, before, one, next, past) | inr low ↦ omega (arith, some, before, one, next, low) ]
