use Rattle.std.specs.Prelude.{◌∷◌, List}
use Rattle.records.specs.Told.{Told, Posted}
use Rattle.board.proofs.told.History.posted.Given as goal

abbrev pub ghosts-post : goal.ghosts-post
ghosts-post a = record { after = λ (told : List Told). Posted a._to a._request.now a._accepted ∷ told }
