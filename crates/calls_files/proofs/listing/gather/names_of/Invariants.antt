use Rattle.std.proofs.Common.{◌≡◌, ◌≤◌, ◌-◌, ◌/◌}
use Rattle.volume.specs.Nodes.{file_byte, names_in}
use Rattle.volume.specs.Pieces.{pieces}
use Rattle.block_store.specs.World.{Reads}
use Rattle.calls_files.proofs.listing.gather.names_of.Given as goal

-- the names of the entries so far
abbrev pub invariant-loop-k : goal.invariant-loop-k
invariant-loop-k g l = record {
  reads : Reads g.B.Blocks.world l.fn.blocks l.blocks (λ d. l.names ≡ names_in (file_byte l.geometry (pieces l.geometry d) l.inode) (l.k - 2));
  within : l.k - 2 ≤ l.inode.size / 64 - 2;
}
