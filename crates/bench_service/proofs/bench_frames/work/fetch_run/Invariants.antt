use Rattle.cache.specs.Calls.{caching, IsReady, AreWritable}
use Rattle.bench_service.proofs.bench_frames.work.fetch_run.Given as goal

abbrev pub invariant-loop-block : goal.invariant-loop-block
invariant-loop-block g l = IsReady (caching g.L.Link l.cache) × AreWritable l.zones (caching g.L.Link l.cache)
