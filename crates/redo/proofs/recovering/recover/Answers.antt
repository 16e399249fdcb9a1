use Rattle.redo.proofs.CallLaws.{recover_moments, recover_rests}
use Rattle.redo.proofs.recovering.recover.Goals as goal

pub returns-clause-any_moment : goal.returns-clause-any_moment
returns-clause-any_moment g c before after h =
    recover_moments c.args.name before after (g.S.Storage.known c.args.storage.now) (g.S.Storage.known c.recover_by_plan.new.storage) c.recover_by_plan.result c.recover_by_plan.ensures.follows h

pub returns-clause-ok : goal.returns-clause-ok
returns-clause-ok g c before after h =
    recover_rests c.args.name before after (g.S.Storage.known c.args.storage.now) (g.S.Storage.known c.recover_by_plan.new.storage) c.recover_by_plan.result c.recover_by_plan.ensures.follows h
