use Rattle.records.specs.Told.{heard}
use Rattle.board.proofs.told.History.heard.Given as goal

abbrev pub ghosts-hear : goal.ghosts-hear
ghosts-hear a = record { after = heard a._message.now }
