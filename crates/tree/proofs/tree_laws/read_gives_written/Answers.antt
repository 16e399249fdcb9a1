use Rattle.tree.proofs.ReadBack.{read_gives_written}
use Rattle.tree.proofs.tree_laws.read_gives_written.Goals as goal

pub returns : goal.returns
returns c = read_gives_written
