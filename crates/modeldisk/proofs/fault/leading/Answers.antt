use Rattle.std.proofs.Common.{◌≡◌, ◌+◌, ◌-◌, arith}
use Rattle.modeldisk.specs.Order.{below}
use Rattle.modeldisk.proofs.FaultLaws.{leading_all, leading_rising, leading_swept}
use Rattle.modeldisk.proofs.fault.leading.Goals as goal

pub returns-then-mover-run-clause-leading : goal.returns-then-mover-run-clause-leading
returns-then-mover-run-clause-leading c = leading_all c.args.mover.now c.args.run c.if-mover-run.true

pub returns-then-below-eq0-clause-leading : goal.returns-then-below-eq0-clause-leading
returns-then-below-eq0-clause-leading c = leading_rising c.args.mover.now c.args.run c.if-mover-run.false (omega arith)

pub returns-clause-leading : goal.returns-clause-leading
returns-clause-leading c =
    let e : below c.args.mover.now.from c.args.run ≡ c.min-below.result = omega arith in
    let same : c.saturating_sub-2.result ≡ below c.args.mover.now.from c.args.run + c.args.mover.now.done - c.args.run.count = omega arith in
    rw same (leading_swept c.args.mover.now c.args.run c.if-mover-run.false (omega arith))
