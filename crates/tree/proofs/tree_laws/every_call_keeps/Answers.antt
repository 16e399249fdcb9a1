use Rattle.tree.proofs.EveryCall.{every_call_keeps}
use Rattle.tree.proofs.tree_laws.every_call_keeps.Goals as goal

pub returns : goal.returns
returns c = every_call_keeps
