use Rattle.inode_operations.proofs.Entering.{name_is_there, name_may_be_put, room_is_for_name}
use Rattle.inode_operations.proofs.call_laws.names_are_put_and_taken.Goals as goal

pub returns-clause-taken : goal.returns-clause-taken
returns-clause-taken c = name_is_there

pub returns-clause-put : goal.returns-clause-put
returns-clause-put c = name_may_be_put

pub returns-clause-room : goal.returns-clause-room
returns-clause-room c = room_is_for_name
