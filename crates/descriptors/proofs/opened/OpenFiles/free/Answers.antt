use Rattle.std.proofs.Common.{◌∙◌, ap}
use Rattle.std.specs.Prelude.{is_none, position}
use Rattle.descriptors.proofs.Keys.{first_is}
use Rattle.descriptors.proofs.opened.OpenFiles.free.Goals as goal

pub returns-clause-number : goal.returns-clause-number
returns-clause-number c =
    c.first_free.ensures ∙ ap (position is_none) c.deref.ensures.value
    ∙ first_is c.self.inside.files c.self.inside.keys.items c.self.invariant ∙ ap (position is_none) c.self.view_is
