use Rattle.cache.specs.Calls.{caching, IsReady, AreWritable}
use Rattle.bench_service.proofs.bench_frames.work.write_16.Given as goal

abbrev pub invariant-loop-nth : goal.invariant-loop-nth
invariant-loop-nth g l = IsReady (caching g.L.Link l.cache) × AreWritable l.zones (caching g.L.Link l.cache)
