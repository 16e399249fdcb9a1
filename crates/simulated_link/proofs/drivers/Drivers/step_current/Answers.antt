use Rattle.std.proofs.Common.{sym}
use Rattle.simulated_link.specs.Disks.{NoStep, CurrentIsDead}
use Rattle.simulated_link.proofs.DisksLaws.{current_steps}
use Rattle.simulated_link.proofs.drivers.Drivers.step_current.Goals as goal

pub returns-then-not-self : goal.returns-then-not-self
returns-then-not-self g c = NoStep (CurrentIsDead (sym c.args.self.now.current_is) c.if-not-self.true)

pub returns : goal.returns
returns g c = current_steps _ _ _ _ _ _ _ (sym c.args.self.now.current_is) c.if-not-self.false c.step_unit-step.ensures c.send.ensures
