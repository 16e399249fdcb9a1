use Rattle.std.proofs.Common.{◌+◌, ap, ◌∙◌}
use Rattle.layout.specs.Bytes.{u16_at}
use Rattle.image.specs.Contents.{contents}
use Rattle.image.proofs.Places.{inode_read}
use Rattle.image.proofs.Image.mode.Goals as goal

pub returns : goal.returns
unfolding contents
returns c =
    let i = c.args.self.now in
    c.u16_at.ensures ∙ ap (λ p. u16_at i.bytes.now p) c.inode_place.ensures.value
    ∙ ap (λ x. x.mode) (inode_read i.bytes.now i.geometry i.parsed c.args.n c.requires)
