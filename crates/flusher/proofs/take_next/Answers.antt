use Rattle.cache.specs.Calls.{caching}
use Rattle.cache.proofs.Placing.{keeps_none, keeps_took}
use Rattle.flusher.proofs.Flushing.{busy_unclean}
use Rattle.flusher.proofs.take_next.Goals as goal

pub take-requires-clause-busy : goal.take-requires-clause-busy
take-requires-clause-busy g c = λ live.
    busy_unclean (caching g.L.Link c.args.cache.now) c.requires.ready (c.requires.stuck live) c.requires.unclean

pub returns-clause-keeps : goal.returns-clause-keeps
returns-clause-keeps g c = keeps_took _ _ _ _ (keeps_none _ c.requires.ready) c.take.ensures.runs

pub returns-in_err-take-clause-keeps : goal.returns-in_err-take-clause-keeps
returns-in_err-take-clause-keeps g c = keeps_took _ _ _ _ (keeps_none _ c.requires.ready) c.take.ensures.runs

pub returns-clause-frames : goal.returns-clause-frames
returns-clause-frames g c = λ f is. c.take.ensures.leaves.at f.at f.block is

pub returns-in_err-take-clause-frames : goal.returns-in_err-take-clause-frames
returns-in_err-take-clause-frames g c = λ f is. c.take.ensures.leaves.at f.at f.block is
