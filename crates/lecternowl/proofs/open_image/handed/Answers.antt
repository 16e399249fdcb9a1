use Rattle.std.specs.Prelude.{⊤}
use Rattle.lecternowl.proofs.ServedLaws.{taken_if_put}
use Rattle.lecternowl.proofs.open_image.handed.Goals as goal

pub returns-clause-taken : goal.returns-clause-taken
returns-clause-taken g c =
    taken_if_put g.A.Archive.ends (λ _ _ _ _. ⊤) _ _ _ _ _ _ _ c.hand_on.new.place c.hand_on.new.beside c.deref.ensures.value
    c.hand_on.ensures
