use Rattle.descriptors.proofs.TreeCalls.{put_is_open, dup_is_dup, close_is_close, file_is_found, moved_is_moved, open_is_open}
use Rattle.descriptors.proofs.laws.calls_are_of_the_tree.Goals as goal

pub returns-clause-put : goal.returns-clause-put
returns-clause-put c = put_is_open

pub returns-clause-dup : goal.returns-clause-dup
returns-clause-dup c = dup_is_dup

pub returns-clause-close : goal.returns-clause-close
returns-clause-close c = close_is_close

pub returns-clause-get : goal.returns-clause-get
returns-clause-get c = file_is_found

pub returns-clause-set_position : goal.returns-clause-set_position
returns-clause-set_position c = moved_is_moved

pub returns-clause-is_open : goal.returns-clause-is_open
returns-clause-is_open c = open_is_open
