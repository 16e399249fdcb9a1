use Rattle.tree.proofs.Order.{link_order, open_order, found_order, rename_order}
use Rattle.tree.proofs.tree_laws.first_refusal_is_answered.Goals as goal

pub returns-clause-link : goal.returns-clause-link
returns-clause-link c = link_order

pub returns-clause-open : goal.returns-clause-open
returns-clause-open c = open_order

pub returns-clause-found : goal.returns-clause-found
returns-clause-found c = found_order

pub returns-clause-rename : goal.returns-clause-rename
returns-clause-rename c = rename_order
