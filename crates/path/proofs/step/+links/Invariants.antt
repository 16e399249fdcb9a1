use Rattle.std.proofs.Common.{◌≤◌, ◌+◌, ◌*◌, length}
use Rattle.std.specs.Prelude.{IsTrue, is_some}
use Rattle.tree.specs.Tree.{Tree}
use Rattle.volume.specs.Holds.{Holds}
use Rattle.block_store.specs.World.{Reads}
use Rattle.path.proofs.Arriving.{IsOnWay}
use Rattle.path.proofs.step.+links.Given as goal

abbrev pub decreases-follow : goal.decreases-follow
decreases-follow g l = 2 * l.at.links

abbrev pub decreases-lead : goal.decreases-lead
decreases-lead g l = 2 * l.first.links + 1

abbrev pub invariant-lead-loop-part : goal.invariant-lead-loop-part
invariant-lead-loop-part g l = record {
  reads : Reads g.B.Blocks.world l.fn.blocks l.blocks (λ d. (t : Tree) → Holds l.geometry d t → IsTrue (is_some (t.nodes l.fn.first.here))
      → IsOnWay t l.user l.fn.first l.fn.parts l.at l.parts);
  links : l.at.links ≤ l.fn.first.links;
}

abbrev pub decreases-lead-loop-part : goal.decreases-lead-loop-part
decreases-lead-loop-part g l = length l.parts
