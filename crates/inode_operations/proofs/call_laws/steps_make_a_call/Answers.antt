use Rattle.inode_operations.proofs.Between.{nothing_is_done, step_is_done, node_stands, directory_stands, holds_at_end}
use Rattle.inode_operations.proofs.call_laws.steps_make_a_call.Goals as goal

pub returns-clause-first : goal.returns-clause-first
returns-clause-first c = nothing_is_done

pub returns-clause-step : goal.returns-clause-step
returns-clause-step c = step_is_done

pub returns-clause-node : goal.returns-clause-node
returns-clause-node c = node_stands

pub returns-clause-directory : goal.returns-clause-directory
returns-clause-directory c = directory_stands

pub returns-clause-end : goal.returns-clause-end
returns-clause-end c = holds_at_end
