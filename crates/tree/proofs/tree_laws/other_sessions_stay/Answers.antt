use Rattle.tree.proofs.OtherSessions.{other_sessions_stay}
use Rattle.tree.proofs.tree_laws.other_sessions_stay.Goals as goal

pub returns : goal.returns
returns c = other_sessions_stay
