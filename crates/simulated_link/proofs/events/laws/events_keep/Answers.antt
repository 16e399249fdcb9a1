use Rattle.simulated_link.proofs.Keeping as law
use Rattle.simulated_link.proofs.events.laws.events_keep.Goals as goal

pub returns : goal.returns
returns c = law.events_keep
