use Rattle.std.proofs.Common.{ap, ◌∙◌}
use Rattle.tree.specs.Tree.{most_open_files}
use Rattle.descriptors.specs.Table.{Table, files_of}
use Rattle.descriptors.proofs.Calls.{any_is}
use Rattle.tree.specs.Tree.{is_open, opens}
use Rattle.descriptors.specs.Files.{tree_with}
use Rattle.descriptors.proofs.table.Descriptors.is_open.Goals as goal

pub returns : goal.returns
returns c =
    c.has_inode.ensures ∙ any_is (opens c.args.inode) c.self.inside.files most_open_files c.self.invariant.files
    ∙ ap (λ (u : Table). is_open (tree_with (files_of u)) c.args.inode) c.self.view_is
