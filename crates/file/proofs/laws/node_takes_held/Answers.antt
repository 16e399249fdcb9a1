use Rattle.file.proofs.Spaces.{node_takes_held}
use Rattle.file.proofs.laws.node_takes_held.Goals as goal

pub returns : goal.returns
returns c = node_takes_held
