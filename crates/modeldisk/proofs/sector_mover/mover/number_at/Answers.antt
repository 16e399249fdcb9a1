use Rattle.std.proofs.Common.{◌≡◌, ◌∙◌, arith}
use Rattle.modeldisk.specs.Order.{below}
use Rattle.modeldisk.proofs.OrderLaws.{order_high, order_low}
use Rattle.modeldisk.proofs.sector_mover.mover.number_at.Goals as goal

pub returns-then-number-run-clause-at : goal.returns-then-number-run-clause-at
returns-then-number-run-clause-at c =
    let e : below c.args.from c.args.run ≡ c.min-below.result = omega arith in
    order_high c.args.from c.args.run c.args.done (omega arith) ∙ omega arith

pub returns-else-number-run-clause-at : goal.returns-else-number-run-clause-at
returns-else-number-run-clause-at c =
    let e : below c.args.from c.args.run ≡ c.min-below.result = omega arith in
    order_low c.args.from c.args.run c.args.done (omega arith) (omega arith) ∙ omega arith
