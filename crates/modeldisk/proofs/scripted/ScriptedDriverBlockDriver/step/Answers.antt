use Rattle.modeldisk.proofs.MoverLaws.{is_driver}
use Rattle.modeldisk.proofs.scripted.ScriptedDriverBlockDriver.step.Goals as goal

pub returns-clause-driver : goal.returns-clause-driver
returns-clause-driver c = is_driver c.advance-stepped.new.self.mover c.advance-stepped.ensures.few
