use Rattle.std.proofs.Common.{◌+◌, ◌*◌}
use Rattle.new_volume.specs.Image.{is_set}
use Rattle.new_volume.proofs.Bits.{IsSumTo}
use Rattle.new_volume.proofs.map_byte.Given as goal

-- the set bits so far
abbrev pub invariant-loop-bit : goal.invariant-loop-bit
invariant-loop-bit l = IsSumTo (λ j. is_set l.last (8 * l.place + j)) l.bit l.byte
