-- A flag is contained exactly where its bit is set.
use Rattle.std.specs.Prelude.{◌≡◌, ℕ, ◌*◌, ◌/◌, ◌%◌, ◌==◌}
use Rattle.std.specs.Int.RustNames.{bit_and}
use Rattle.std.proofs.Common.{arith}
use Rattle.std.proofs.lemmas.Bool.Decides.{nat_tests}
use Rattle.std.proofs.lemmas.Nat.Bits.{and_high}
use Rattle.tree.specs.Flags.{reads, writes, appends, creates, is_exclusive, truncates}

pub has_read : (flags : ℕ) → (bit_and flags 1 == 1) ≡ reads flags
has_read flags = let e : bit_and flags 1 ≡ (flags / 1 % 2) * 1 = and_high flags 1 0 in grind (arith, nat_tests, e)

pub has_write : (flags : ℕ) → (bit_and flags 2 == 2) ≡ writes flags
has_write flags = let e : bit_and flags 2 ≡ (flags / 2 % 2) * 2 = and_high flags 1 1 in grind (arith, nat_tests, e)

pub has_append : (flags : ℕ) → (bit_and flags 4 == 4) ≡ appends flags
has_append flags = let e : bit_and flags 4 ≡ (flags / 4 % 2) * 4 = and_high flags 1 2 in grind (arith, nat_tests, e)

pub has_create : (flags : ℕ) → (bit_and flags 8 == 8) ≡ creates flags
has_create flags = let e : bit_and flags 8 ≡ (flags / 8 % 2) * 8 = and_high flags 1 3 in grind (arith, nat_tests, e)

pub has_exclusive : (flags : ℕ) → (bit_and flags 16 == 16) ≡ is_exclusive flags
has_exclusive flags = let e : bit_and flags 16 ≡ (flags / 16 % 2) * 16 = and_high flags 1 4 in grind (arith, nat_tests, e)

pub has_truncate : (flags : ℕ) → (bit_and flags 32 == 32) ≡ truncates flags
has_truncate flags = let e : bit_and flags 32 ≡ (flags / 32 % 2) * 32 = and_high flags 1 5 in grind (arith, nat_tests, e)
