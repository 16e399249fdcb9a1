use Rattle.std.proofs.Common.{slice_index, ap, ◌∙◌}
use Rattle.volume.specs.Reading.{inode_in}
use Rattle.image.specs.Contents.{contents}
use Rattle.image.proofs.Places.{inode_read}
use Rattle.image.proofs.Image.inode.Goals as goal

pub returns : goal.returns
unfolding contents
returns c =
    let i = c.args.self.now in
    c.decode_in.ensures ∙ ap (inode_in (slice_index i.bytes.now)) c.inode_place.ensures.value ∙ inode_read i.bytes.now i.geometry i.parsed c.args.n c.requires
