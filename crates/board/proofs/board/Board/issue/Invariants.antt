use Rattle.records.specs.Marks.{Issued}
use Rattle.board.proofs.board.Board.issue.Given as goal

abbrev pub ghosts-issue_as : goal.ghosts-issue_as
ghosts-issue_as a = record { mark = Issued a.request.now a.to }
