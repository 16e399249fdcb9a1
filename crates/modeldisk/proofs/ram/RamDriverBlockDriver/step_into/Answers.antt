use Rattle.modeldisk.proofs.MoverLaws.{is_driver}
use Rattle.modeldisk.proofs.ram.RamDriverBlockDriver.step_into.Goals as goal

pub returns-clause-driver : goal.returns-clause-driver
returns-clause-driver c = is_driver c.step_into.new.self c.step_into.ensures.few
