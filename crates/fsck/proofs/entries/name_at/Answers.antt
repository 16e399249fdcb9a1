use Rattle.std.proofs.Common.{sym, ap, ◌∙◌}
use Rattle.volume.specs.Nodes.{file_byte}
use Rattle.image.specs.Contents.{contents}
use Rattle.fsck.specs.Form.{form_of}
use Rattle.fsck.specs.Nodes.{entry_name}
use Rattle.fsck.proofs.EntryBytes.{whole_name}
use Rattle.fsck.proofs.entries.name_at.Goals as goal

pub returns-in-V3 : goal.returns-in-V3
returns-in-V3 c =
    let i = c.args.image.now in
    let f = file_byte i.geometry (contents i) c.args.inode.now in
    c.name_of.ensures ∙ whole_name f c.args.number c.entry.result.now c.entry.ensures.bytes
    ∙ ap (λ t. entry_name (form_of t) f c.args.number) (sym c.in-V3.is)
