use Rattle.schedule.proofs.FaultlessLaws as law
use Rattle.schedule.proofs.faultless.faults_change_nothing.Goals as goal

pub returns : goal.returns
returns c = law.faults_change_nothing
