-- Lists of numbers.
use Rattle.std.proofs.Common.{◌≡◌, ℕ, zero, suc, ◌+◌, ◌<◌, ◌≤◌, List, ◌++◌, length, take, drop, get_or, replicate, refl, sym, ap, subst, ◌∙◌, arith, length-append, Fits, w8}
use Rattle.std.specs.List.{All}
use Rattle.std.proofs.lemmas.List.{get_or_default}
use Rattle.std.proofs.Math.Seq.{take-append_seam, drop-append_seam}

pub zero_at : (n o : ℕ) → get_or (replicate n zero) o zero ≡ zero
zero_at zero o = refl
zero_at (suc n) zero = refl
zero_at (suc n) (suc o) = zero_at n o

-- what stands in front, and what behind it
pub front_of : (rest own after : List ℕ) (n : ℕ) → rest ≡ own ++ after → n ≡ length own
    → (n ≤ length rest) × (take n rest ≡ own) × (drop n rest ≡ after)
front_of rest own after n h k =
    (omega (arith, ap length h, length-append own after), rw (h, k) (take-append_seam own after), rw (h, k) (drop-append_seam own after))

pub bytes_are_low : (bytes : List ℕ) → ((i : ℕ) → Fits w8 (get_or bytes i 0)) → All (λ b. b < 256) bytes
bytes_are_low bytes fits = λ k d within. subst (λ b. b < 256) (get_or_default bytes k 0 d within) (omega (arith, fits k))
