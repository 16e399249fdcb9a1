use Rattle.std.proofs.Common.{sym, ◌∙◌}
use Rattle.modeldisk.proofs.FaultLaws.{keeps_short, keeps_error}
use Rattle.modeldisk.proofs.fault.play.Goals as goal

pub returns-in-Some-clause-keeps : goal.returns-in-Some-clause-keeps
returns-in-Some-clause-keeps c =
    rw (c.end.ensures.step, c.end.ensures.rest)
    (keeps_short c.args.mover.now c.in-Some.run' c.leading.result c.args.media.now c.args.generation c.if-not-mover.false
    (sym c.plan.ensures.value ∙ c.in-Some.is) c.leading.ensures.within c.leading.ensures.leading)

pub returns-in-Some-plan-clause-keeps : goal.returns-in-Some-plan-clause-keeps
returns-in-Some-plan-clause-keeps c =
    rw (c.end-in-Some-plan.ensures.step, c.end-in-Some-plan.ensures.rest)
    (keeps_error c.args.mover.now c.in-Some-plan.field-0 c.in-Error.errno c.args.media.now c.args.generation c.if-not-mover.false
    (sym c.plan-in-Error.ensures.value ∙ c.in-Some-plan.is))
