use Rattle.board.proofs.Moves.{starts}
use Rattle.board.proofs.board.Board.new.Goals as goal

pub of_words-requires : goal.of_words-requires
of_words-requires c = starts
