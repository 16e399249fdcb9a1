use Rattle.std.proofs.Common.{◌≤◌, ◌-◌, ◌/◌}
use Rattle.volume.specs.Nodes.{file_byte}
use Rattle.volume.specs.Pieces.{pieces}
use Rattle.block_store.specs.World.{Reads}
use Rattle.directory.specs.Standing.{NoneNamed}
use Rattle.directory.proofs.positions.position.Given as goal

abbrev pub invariant-loop-from : goal.invariant-loop-from
invariant-loop-from g l = record {
  reads : Reads g.B.Blocks.world l.fn.blocks l.blocks (λ d. NoneNamed (file_byte l.geometry (pieces l.geometry d) l.inode) l.name 2 l.from);
  low : 2 ≤ l.from;
}

abbrev pub decreases-loop-from : goal.decreases-loop-from
decreases-loop-from g l = l.count - l.from
