use Rattle.std.proofs.Common.{◌≤◌, ◌+◌, ◌*◌}
use Rattle.std.specs.Prelude.{min}
use Rattle.volume.specs.Pieces.{pieces}
use Rattle.block_store.specs.World.{Reads}
use Rattle.bitmap.specs.Numbers.{AllIn, words_for}
use Rattle.bitmap.specs.Maps.{numbers_in, last_number, reach}
use Rattle.bitmap.proofs.search.lowest_free.Given as goal

abbrev pub invariant-loop-k : goal.invariant-loop-k
invariant-loop-k g l = record {
  reads : Reads g.B.Blocks.world l.fn.blocks l.blocks (λ d. AllIn (numbers_in l.map (pieces l.geometry d)) 1 (reach l.map l.geometry l.k));
  cost : l.steps ≤ l.fn.steps + words_for (min (last_number l.map l.geometry + 1) (l.k * (8 * l.geometry.block_size)));
}
