use Rattle.records.specs.Marks.{Took}
use Rattle.tree.specs.Answers.{answer_of}
use Rattle.board.proofs.board.Board.count.Given as goal

abbrev pub ghosts-count_as : goal.ghosts-count_as
ghosts-count_as a = record { mark = Took a.who a.now a.call.now (answer_of a.reply.now) }
