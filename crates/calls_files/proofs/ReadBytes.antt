-- The bytes of a read.
use Rattle.std.proofs.Common.{◌≡◌, ℕ, suc, ◌+◌, ◌-◌, ◌<◌, List, [], ◌∷◌, length, refl, sym, ap, subst, ◌∙◌, arith}
use mathlib.Core.Logic.{inl, inr}
use Rattle.std.proofs.Math.Seq.{take-append_seam}
use Rattle.std.specs.Prelude.{take, ◌++◌, slice_index, nat_lt}
use Rattle.std.proofs.lemmas.Bool.{cases_lt, lt-ltb, le-ltb, cond-true, cond-false}
use Rattle.tree.specs.Tree.{File}
use Rattle.tree.specs.FileCalls.{bytes_from, bytes_read}
use Rattle.file.specs.Reading.{HasFileBytes, read_count}

-- a list whose places have these bytes
from_list : (byte : ℕ → ℕ) (at : ℕ) (xs : List ℕ) → ((k : ℕ) → k < length xs → slice_index xs k ≡ byte (at + k)) → xs ≡ bytes_from byte at (length xs)
from_list byte at [] h = refl
from_list byte at (x ∷ xs) h =
    let first : x ≡ byte at = h 0 (omega arith) ∙ ap byte (let e : at + 0 ≡ at = omega arith in e) in
    let rest = from_list byte (suc at) xs (λ k lt. h (suc k) (omega (arith, lt)) ∙ ap byte (let e : at + suc k ≡ suc at + k = omega arith in e)) in
    λ i. first i ∷ rest i

-- as many as there are, where no more are asked for
no_more : (size at count n : ℕ) → n ≡ read_count size at count → read_count size at n ≡ n
no_more size at count n is = elim (cases_lt (size - at) n) [
  | inl l ↦ absurd (elim (cases_lt (size - at) count) [
    | inl k ↦ let e : n ≡ size - at = is ∙ cond-true (nat_lt (size - at) count) (size - at) count (lt-ltb (size - at) count k) in omega (arith, e, l)
    | inr k ↦ let e : n ≡ count = is ∙ cond-false (nat_lt (size - at) count) (size - at) count (le-ltb (size - at) count k) in omega (arith, e, l, k)
  ])
  | inr k ↦ cond-false (nat_lt (size - at) n) (size - at) n (le-ltb (size - at) n k)
]

-- what was read
pub bytes_are : (f : File) (at count n : ℕ) (xs : List ℕ) → length xs ≡ read_count f.size at count → n ≡ read_count f.size at (length xs)
    → HasFileBytes f at n xs → xs ≡ bytes_read f at count
bytes_are f at count n xs long got h =
    let all : n ≡ length xs = got ∙ no_more f.size at count (length xs) long in
    from_list f.byte at xs (λ k lt. h k (subst (λ (m : ℕ). k < m) (sym all) lt)) ∙ ap (bytes_from f.byte at) long

-- what stands in memory is what was filled in
pub whole_taken : (n : ℕ) (xs ys : List ℕ) (zs : List ℕ) → n ≡ length xs → xs ≡ zs → take n (xs ++ ys) ≡ zs
whole_taken n xs ys zs e is = ap (λ (m : ℕ). take m (xs ++ ys)) e ∙ take-append_seam xs ys ∙ is
