use Rattle.tree.proofs.SpacedCalls.{too_big_is_refused, full_makes_none, others_have_room}
use Rattle.tree.proofs.OneMoreCalls.{full_is_refused, enospc_means}
use Rattle.tree.proofs.tree_laws.enospc_is_exact.Goals as goal

pub returns-clause-too_big : goal.returns-clause-too_big
returns-clause-too_big c = too_big_is_refused

pub returns-clause-no_inode : goal.returns-clause-no_inode
returns-clause-no_inode c = full_is_refused

pub returns-clause-means : goal.returns-clause-means
returns-clause-means c = enospc_means

pub returns-clause-full : goal.returns-clause-full
returns-clause-full c = full_makes_none

pub returns-clause-others : goal.returns-clause-others
returns-clause-others c = others_have_room
