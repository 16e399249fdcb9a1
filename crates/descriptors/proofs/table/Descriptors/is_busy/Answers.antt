use Rattle.std.proofs.Common.{ap, ◌∙◌}
use Rattle.std.specs.Prelude.{is_some}
use Rattle.lemmas.specs.Sums.{some_below}
use Rattle.tree.specs.Tree.{most_open_files}
use Rattle.descriptors.specs.Table.{Table, files_of}
use Rattle.descriptors.proofs.Calls.{any_is}
use Rattle.descriptors.proofs.table.Descriptors.is_busy.Goals as goal

pub returns : goal.returns
returns c =
    c.has_some.ensures ∙ any_is is_some c.self.inside.files most_open_files c.self.invariant.files
    ∙ ap (λ (u : Table). some_below (λ k. is_some ((files_of u).opened k)) most_open_files) c.self.view_is
