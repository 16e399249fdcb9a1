use Rattle.cache.proofs.Placing.{keeps_none}
use Rattle.cache.proofs.Edits.{leaves_none}
use Rattle.cache.proofs.Staying.{but_none}
use Rattle.cache.proofs.Flushes.{follows_none}
use Rattle.cache.proofs.cache.Cache.clean.Goals as goal

pub returns-then-not-is_unclean-clause-keeps : goal.returns-then-not-is_unclean-clause-keeps
returns-then-not-is_unclean-clause-keeps g c = keeps_none _ c.requires.ready

pub returns-then-not-is_unclean-clause-goes : goal.returns-then-not-is_unclean-clause-goes
returns-then-not-is_unclean-clause-goes g c = g.met.L.Link.stays _

pub returns-then-not-is_unclean-clause-leaves : goal.returns-then-not-is_unclean-clause-leaves
returns-then-not-is_unclean-clause-leaves g c = leaves_none _

pub returns-then-not-is_unclean-clause-others : goal.returns-then-not-is_unclean-clause-others
returns-then-not-is_unclean-clause-others g c = but_none c.args.at _

pub returns-then-not-is_unclean-clause-flush : goal.returns-then-not-is_unclean-clause-flush
returns-then-not-is_unclean-clause-flush g c = follows_none _ _
