use Rattle.std.specs.Prelude.{slice_index}
use Rattle.directory.specs.Standing.{NoneNamed}
use Rattle.directory.proofs.positions.position_in.Given as goal

abbrev pub invariant-loop-at : goal.invariant-loop-at
invariant-loop-at l = NoneNamed (slice_index l.bytes) l.name l.from l.at
