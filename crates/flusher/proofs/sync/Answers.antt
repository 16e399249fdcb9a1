use Rattle.std.proofs.Common.{arith}
use Rattle.cache.proofs.Placing.{keeps_none}
use Rattle.flusher.proofs.Flushing.{idle, syncs_ok}
use Rattle.flusher.proofs.sync.Goals as goal

pub returns-clause-runs : goal.returns-clause-runs
returns-clause-runs g c =
    syncs_ok _ _ (omega (arith, c.args.cache.now.shape.least)) c.if-not-is_clean.ensures.clean (keeps_none _ c.requires.ready)

pub returns-clause-idle : goal.returns-clause-idle
returns-clause-idle g c = idle _ c.requires.ready c.if-not-is_clean.ensures.clean
