use Rattle.std.specs.Arc.{arc_value}
use Rattle.service_start.proofs.Starts.{all_started}
use Rattle.fixtures_orders.proofs.served.watched_link.Goals as goal

pub returns : goal.returns
returns g c =
    all_started g.N.ServiceParameters c.args.board c.args.seat c.args.setup.now _
    c.args.prepared.media c.args.prepared.range c.requires _ _ _ (λ made. arc_value made.0) (λ made. made.1) c.counted_drivers.result
    c.counted_drivers.ensures.board c.counted_drivers.ensures.marks c.counted_drivers.ensures.history c.counted_drivers.ensures.budget
    c.counted_drivers.ensures.truth (λ link. tt)
