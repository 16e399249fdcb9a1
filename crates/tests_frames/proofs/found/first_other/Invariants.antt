use Rattle.cache.specs.Calls.{caching}
use Rattle.fixtures.specs.Caches.{IsOfBlocks}
use Rattle.tests_frames.proofs.found.first_other.Given as goal

abbrev pub invariant-loop-step : goal.invariant-loop-step
invariant-loop-step g l = record { volume : IsOfBlocks 512 (caching g.L.Link l.cache) }
