use Rattle.board.specs.Words.{mark_of}
use Rattle.board.proofs.board.Board.note.Given as goal

abbrev pub ghosts-note_as : goal.ghosts-note_as
ghosts-note_as a = record { mark = mark_of a.message.now }
