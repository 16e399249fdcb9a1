use Rattle.std.specs.Prelude.{◌≤◌}
use Rattle.cache.specs.Calls.{caching}
use Rattle.fixtures.specs.Caches.{IsOfBlocks}
use Rattle.tests_frames.proofs.runs.do_each.Given as goal

-- the cache may be called, and a block has 1024 bytes at least
abbrev pub invariant-loop-step : goal.invariant-loop-step
invariant-loop-step g l = IsOfBlocks 512 (caching g.L.Link l.cache) × (1024 ≤ l.cache.shape.block_size)
