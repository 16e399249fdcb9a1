use Rattle.schedule.proofs.FaultlessLaws as law
use Rattle.schedule.proofs.faultless.messages_leave_same_mark.Goals as goal

pub returns : goal.returns
returns c = law.leave_same_mark
