use Rattle.simulated_link.proofs.Keeping as law
use Rattle.simulated_link.proofs.events.laws.opening_keeps.Goals as goal

pub returns : goal.returns
returns c = law.opening_keeps
