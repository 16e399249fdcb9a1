use Rattle.std.proofs.Common.{◌∙◌, sym, ap, Some}
use Rattle.lemmas.proofs.Bools.{not_false}
use Rattle.bdev.specs.Promises.{IsDriver}
use Rattle.volume_mount.specs.Starting.{is_same_range, is_ready_for}
use Rattle.volume_mount.proofs.Starts.{ready_more}
use Rattle.volume_mount.proofs.prepared.are_ready.Goals as goal

pub loop-driver-preserved : goal.loop-driver-preserved
loop-driver-preserved g c =
    let range = c.args.range in
    let minor = c.args.minor in
    let same = not_false (is_same_range c.ready_here.result (Some range)) (sym c.ne.ensures ∙ c.if-ne.false) in
    ready_more (λ d. is_ready_for minor range (g.D.LocalDriver.state d)) (λ d. IsDriver (g.D.LocalDriver.state d)) c.args.supply.now _ c.driver-item.result
    c.loop-driver-test.true c.driver-item.is (ap (λ r. is_same_range r (Some range)) (sym c.ready_here.ensures.value) ∙ same) c.ready_here.ensures.driver
    c.loop-driver.invariant
