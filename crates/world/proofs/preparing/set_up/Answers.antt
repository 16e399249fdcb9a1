use Rattle.std.proofs.Common.{map, subst, sym}
use Rattle.world.specs.declared.run_refusal.RunRefusal.{RunRefusal}
use Rattle.world.specs.Beginning.{IsNotSetUp, range_of}
use Rattle.world.proofs.Begun.{good_setup, not_set_up}
use Rattle.world.proofs.preparing.set_up.Goals as goal

pub returns-in-Ok-clause-fits : goal.returns-in-Ok-clause-fits
returns-in-Ok-clause-fits g c =
    good_setup c.args.setup.now c.args.range (map g.D.LocalDriver.state c.args.supply.now) c.in-Ok.ensures.fits

pub returns-in-Err-clause-refusal : goal.returns-in-Err-clause-refusal
returns-in-Err-clause-refusal g c =
    let supply = map g.D.LocalDriver.state c.args.supply.now in
    subst (λ (x : RunRefusal). IsNotSetUp c.args.setup.now (range_of c.args.range) supply x) (sym c.setup_refusal.ensures)
    (not_set_up c.args.setup.now c.args.range supply c.in-Err.refusal c.in-Err.ensures.refusal)
