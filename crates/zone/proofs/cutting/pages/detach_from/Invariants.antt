use Rattle.std.proofs.Common.{◌≤◌}
use Rattle.block_store.specs.World.{Turns}
use Rattle.zone.proofs.CuttingLaws.{Going}
use Rattle.zone.proofs.cutting.pages.detach_from.Given as goal

abbrev pub decreases-loop-held : goal.decreases-loop-held
decreases-loop-held g l = l.end

abbrev pub invariant-loop-held : goal.invariant-loop-held
invariant-loop-held g l = (l.page ≤ l.end) × Turns g.B.Blocks.world l.fn.blocks l.blocks (λ d e. Going l.geometry l.inode l.end d e)
