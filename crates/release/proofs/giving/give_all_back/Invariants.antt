use Rattle.std.proofs.Common.{◌≡◌}
use Rattle.volume.specs.Nodes.{nodes_of}
use Rattle.image.specs.Contents.{contents}
use Rattle.block_store.specs.World.{Turns}
use Rattle.release.specs.Nameless.{unlinked_below}
use Rattle.release.specs.Giving.{GivesBackBelow}
use Rattle.release.proofs.giving.give_all_back.Given as goal

abbrev pub invariant-loop-number : goal.invariant-loop-number
invariant-loop-number g l = record {
  turns : Turns g.B.Blocks.world l.fn.blocks l.blocks (λ d e. GivesBackBelow l.image l.number d e);
  count : l.count ≡ unlinked_below (nodes_of l.image.geometry (contents l.image)) l.number;
}
