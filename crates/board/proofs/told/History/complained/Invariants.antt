use Rattle.std.specs.Prelude.{◌∷◌, List}
use Rattle.records.specs.Told.{Told, Complained}
use Rattle.board.proofs.told.History.complained.Given as goal

abbrev pub ghosts-complain : goal.ghosts-complain
ghosts-complain a = record { after = λ (told : List Told). Complained a._about ∷ told }
