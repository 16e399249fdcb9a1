use Rattle.std.proofs.Common.{◌+◌, ◌-◌}
use Rattle.block_store.specs.World.{Reads}
use Rattle.calls_rename.proofs.Climbing.{ClimbsTo}
use Rattle.calls_rename.proofs.ancestors.is_within.Given as goal

abbrev pub invariant-loop-steps : goal.invariant-loop-steps
invariant-loop-steps g l = Reads g.B.Blocks.world l.fn.blocks l.blocks (λ d. ClimbsTo l.geometry d l.fn.number l.top l.steps l.here)

abbrev pub decreases-loop-steps : goal.decreases-loop-steps
decreases-loop-steps g l = l.geometry.inodes + 1 - l.steps
