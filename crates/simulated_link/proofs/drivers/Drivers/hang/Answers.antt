use Rattle.std.proofs.Common.{◌∙◌, sym}
use Rattle.simulated_link.specs.Disks.{CurrentHangs}
use Rattle.simulated_link.proofs.drivers.Drivers.hang.Goals as goal

pub returns-then-generation-self : goal.returns-then-generation-self
returns-then-generation-self g c = CurrentHangs (c.if-generation-self.true ∙ sym c.args.self.now.current_is)
