use Rattle.cache.specs.Calls.{caching, IsReady, AreWritable}
use Rattle.bench_service.proofs.bench_frames.work.fetch_again.Given as goal

abbrev pub invariant-loop-turn : goal.invariant-loop-turn
invariant-loop-turn g l = IsReady (caching g.L.Link l.cache) × AreWritable l.zones (caching g.L.Link l.cache)
