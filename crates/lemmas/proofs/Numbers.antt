-- Numbers, and tests of them.
use Rattle.std.proofs.Common.{◌≡◌, ◌≢◌, ◌⊎◌, ℕ, ◌+◌, ◌<◌, ◌≤◌, Bool, true, false, refl, arith}
use Rattle.std.specs.Prelude.{nat_lt, nat_le, ◌&&◌, ◌==◌, not}
use Rattle.std.proofs.lemmas.Bool.{not-true, eqb-false}
use Rattle.std.proofs.lemmas.Bool.Decides.{nat_tests}

pub less_holds : (n m : ℕ) → n < m → nat_lt n m ≡ true
less_holds n m h = grind (arith, nat_tests)

pub less_from : (n m : ℕ) → nat_lt n m ≡ true → n < m
less_from n m h = grind (arith, nat_tests, h)

pub less_fails : (a b : ℕ) → b ≤ a → nat_lt a b ≡ false
less_fails a b h = grind (arith, nat_tests)

pub not_zero : (z : ℕ) → not (z == 0) ≡ true → z ≢ 0
not_zero z h = eqb-false z 0 (not-true _ h)

-- a place outside of a range of n from a position on, and one within it; w is what else the test asks
pub outside_fails : (w : Bool) (position n place : ℕ) → (place < position) ⊎ (position + n ≤ place)
    → (w && nat_le position place && nat_lt place (position + n)) ≡ false
outside_fails true position n place h = grind (arith, nat_tests)
outside_fails false position n place h = refl

pub within_holds : (w : Bool) (position n place : ℕ) → w ≡ true → position ≤ place → place < position + n
    → (w && nat_le position place && nat_lt place (position + n)) ≡ true
within_holds true position n place h low high = grind (arith, nat_tests)
within_holds false position n place h low high = cc
