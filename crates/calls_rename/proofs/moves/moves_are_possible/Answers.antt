use Rattle.calls_rename.proofs.Possible.{may_drop_other, may_move_in_directory, may_move_onto, may_move_where_it_fits}
use Rattle.calls_rename.proofs.moves.moves_are_possible.Goals as goal

pub returns-clause-within : goal.returns-clause-within
returns-clause-within c = may_move_in_directory

pub returns-clause-other : goal.returns-clause-other
returns-clause-other c = may_move_where_it_fits

pub returns-clause-over : goal.returns-clause-over
returns-clause-over c = may_move_onto

pub returns-clause-dropped : goal.returns-clause-dropped
returns-clause-dropped c = may_drop_other
