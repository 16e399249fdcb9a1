use Rattle.std.proofs.Common.{sym}
use Rattle.simulated_link.specs.Disks.{NoneDies, CurrentIsDead}
use Rattle.simulated_link.proofs.DisksLaws.{current_dies}
use Rattle.simulated_link.proofs.drivers.Drivers.current_dies.Goals as goal

pub returns-then-not-self : goal.returns-then-not-self
returns-then-not-self g c = NoneDies (CurrentIsDead (sym c.args.self.now.current_is) c.if-not-self.true)

pub returns : goal.returns
returns g c = current_dies _ _ _ _ _ (sym c.args.self.now.current_is) c.if-not-self.false c.in_work_here-sector.ensures.value c.tear.ensures.torn
