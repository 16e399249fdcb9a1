use Rattle.tree.proofs.SpacedCalls.{every_call_fits}
use Rattle.tree.proofs.tree_laws.every_call_fits.Goals as goal

pub returns : goal.returns
returns c = every_call_fits
