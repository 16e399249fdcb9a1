-- Fewer pages need no more zones.
use Rattle.std.proofs.Common.{◌≡◌, ◌≤◌, ◌+◌, ◌*◌, ℕ, zero, suc, Bool, true, false, refl, sym, arith}
use Rattle.std.specs.Prelude.{◌||◌}
use Rattle.std.proofs.lemmas.Bool.{false≢true}
use Rattle.lemmas.specs.Sums.{sum_below, some_below, count_below, one_if}
use Rattle.tree.specs.ZonesNeeded.{zones_needed, page_limit}
use Rattle.tree.specs.ZonesNeededByPlace.{last_needed, second_needed, third_needed}
use Rattle.tree.proofs.Needs.{zones_needed_is_by_place}

-- one test implies the other
abbrev IsLess : (ℕ → Bool) → (ℕ → Bool) → Type 0
IsLess fewer more = (k : ℕ) → fewer k ≡ true → more k ≡ true

some_less : (fewer more : ℕ → Bool) (n : ℕ) → IsLess fewer more → some_below fewer n ≡ true → some_below more n ≡ true
unfolding some_below
some_less fewer more zero less h = h
some_less fewer more (suc n) less h = both (some_below fewer n) (fewer n) (some_below more n) (more n) (some_less fewer more n less) (less n) h
  where
    both : (a b c d : Bool) → (a ≡ true → c ≡ true) → (b ≡ true → d ≡ true) → a || b ≡ true → c || d ≡ true
    both a b true d front last h = refl
    both a b false true front last h = refl
    both true b false false front last h = front refl
    both false true false false front last h = last refl
    both false false false false front last h = h

one_less : (a b : Bool) → (a ≡ true → b ≡ true) → one_if a ≤ one_if b
one_less true true h = omega arith
one_less true false h = absurd (false≢true (h refl))
one_less false b h = omega arith

count_less : (fewer more : ℕ → Bool) (n : ℕ) → IsLess fewer more → count_below fewer n ≤ count_below more n
unfolding sum_below
count_less fewer more zero less = omega arith
count_less fewer more (suc n) less = let front = count_less fewer more n less in let last = one_less (fewer n) (more n) (less n) in omega arith

pub need_less : (n : ℕ) (fewer more : ℕ → Bool) → IsLess fewer more → zones_needed n fewer ≤ zones_needed n more
need_less n fewer more less =
    let last : IsLess (last_needed n fewer) (last_needed n more) = λ k. some_less _ _ n (λ j. less (7 + (k * n + j))) in
    let second : IsLess (second_needed n fewer) (second_needed n more) = λ m. some_less _ _ n (λ j. last (1 + (m * n + j))) in
    let third = one_less (third_needed n fewer) (third_needed n more) (some_less _ _ n (λ j. second (1 + j))) in
    let pages = count_less fewer more (page_limit n) less in
    let lasts = count_less (last_needed n fewer) (last_needed n more) (1 + n + n * n) last in
    let seconds = count_less (second_needed n fewer) (second_needed n more) (1 + n) second in
    let a = zones_needed_is_by_place n fewer in
    let b = zones_needed_is_by_place n more in
    omega arith
