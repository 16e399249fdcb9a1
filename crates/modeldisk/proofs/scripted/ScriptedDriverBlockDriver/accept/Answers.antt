use Rattle.modeldisk.proofs.MoverLaws.{is_driver}
use Rattle.modeldisk.proofs.scripted.ScriptedDriverBlockDriver.accept.Goals as goal

pub returns-then-eq-clause-driver : goal.returns-then-eq-clause-driver
returns-then-eq-clause-driver c = is_driver c.accept-accept.new.self c.accept-accept.ensures.few

pub returns-else-eq-clause-driver : goal.returns-else-eq-clause-driver
returns-else-eq-clause-driver c = is_driver c.accept-accept.new.self c.accept-accept.ensures.few
