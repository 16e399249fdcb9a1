use Rattle.bdev.proofs.FailLaws.{accepts, fails, is_driver}
use Rattle.bdev.proofs.failing.failing_keeps.Goals as goal

pub returns-clause-step : goal.returns-clause-step
returns-clause-step c = fails

pub returns-clause-driver : goal.returns-clause-driver
returns-clause-driver c = is_driver

pub returns-clause-accept : goal.returns-clause-accept
returns-clause-accept c = accepts
