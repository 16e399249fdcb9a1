use Rattle.modeldisk.proofs.MoverLaws.{is_driver}
use Rattle.modeldisk.proofs.ram.RamDriverBlockDriver.step.Goals as goal

pub returns-clause-driver : goal.returns-clause-driver
returns-clause-driver c = is_driver c.step.new.self c.step.ensures.few
