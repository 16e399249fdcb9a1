use Rattle.modeldisk.proofs.MoverLaws.{is_driver}
use Rattle.modeldisk.proofs.ram.RamDriverBlockDriver.ready.Goals as goal

pub returns-clause-driver : goal.returns-clause-driver
returns-clause-driver c = is_driver c.args.self.now.mover c.args.self.now.few
