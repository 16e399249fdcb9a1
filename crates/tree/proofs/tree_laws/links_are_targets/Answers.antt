use Rattle.tree.proofs.Targets.{link_has_target, target_is_written, link_is_its_target}
use Rattle.tree.proofs.tree_laws.links_are_targets.Goals as goal

pub returns-clause-made : goal.returns-clause-made
returns-clause-made c = link_has_target

pub returns-clause-written : goal.returns-clause-written
returns-clause-written c = target_is_written

pub returns-clause-only : goal.returns-clause-only
returns-clause-only c = link_is_its_target
