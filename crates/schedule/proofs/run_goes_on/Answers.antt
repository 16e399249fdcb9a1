use Rattle.schedule.proofs.GoingOn.{groups_stay, replies_stay}
use Rattle.schedule.proofs.run_goes_on.Goals as goal

pub returns-clause-groups : goal.returns-clause-groups
returns-clause-groups c = groups_stay

pub returns-clause-replies : goal.returns-clause-replies
returns-clause-replies c = replies_stay
