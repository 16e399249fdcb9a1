use Rattle.std.proofs.Common.{◌≡◌}
use Rattle.fixtures.specs.Caches.{IsOfBlocks}
use Rattle.cached_blocks.specs.World.{stored_caching}
use Rattle.tests_frames.proofs.blocks.first_other.Given as goal

abbrev pub invariant-loop-step : goal.invariant-loop-step
invariant-loop-step g l = record {
  volume : IsOfBlocks 512 (stored_caching g.L.Link l.blocks);
  size : l.blocks.cache.shape.block_size ≡ 4096;
}
