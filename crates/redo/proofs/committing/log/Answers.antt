use Rattle.redo.proofs.CallLaws.{log_moments, log_under_way, log_current}
use Rattle.redo.proofs.committing.log.Goals as goal

pub returns-clause-any_moment : goal.returns-clause-any_moment
returns-clause-any_moment g c =
    log_moments c.args.name c.ranges.name.fits c.args.at c.requires.room (g.P.Puts.puts c.args.changes.now) c.log_by_plan.ensures.fits
    (g.S.Storage.known c.args.storage.now) (g.S.Storage.known c.log_by_plan.new.storage) c.log_by_plan.result c.log_by_plan.ensures.follows

pub returns-clause-under_way : goal.returns-clause-under_way
returns-clause-under_way g c =
    log_under_way c.args.name c.ranges.name.fits c.args.at c.requires.room (g.P.Puts.puts c.args.changes.now) c.log_by_plan.ensures.fits
    (g.S.Storage.known c.args.storage.now) (g.S.Storage.known c.log_by_plan.new.storage) c.log_by_plan.result c.log_by_plan.ensures.follows

pub returns-clause-ok : goal.returns-clause-ok
returns-clause-ok g c =
    log_current c.args.name c.ranges.name.fits c.args.at c.requires.room (g.P.Puts.puts c.args.changes.now) c.log_by_plan.ensures.fits
    (g.S.Storage.known c.args.storage.now) (g.S.Storage.known c.log_by_plan.new.storage) c.log_by_plan.result c.log_by_plan.ensures.follows
