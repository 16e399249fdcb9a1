-- Bytes that digits write.
use Rattle.std.proofs.Common.{◌≡◌, ℕ, ◌/◌, List, [], ◌∷◌, length, refl, arith}
use Rattle.call_text.specs.Bytes.{hex_bytes}

-- two digits write a byte
pub half_as_long : (digits : List ℕ) → length (hex_bytes digits) ≡ length digits / 2
half_as_long [] = refl
half_as_long (high ∷ []) = refl
half_as_long (high ∷ low ∷ more) = let shorter = half_as_long more in omega arith
