use Rattle.modeldisk.proofs.MoverLaws.{is_driver}
use Rattle.modeldisk.proofs.ram.RamDriverBlockDriver.accept.Goals as goal

pub returns-clause-driver : goal.returns-clause-driver
returns-clause-driver c = is_driver c.accept.new.self c.accept.ensures.few
