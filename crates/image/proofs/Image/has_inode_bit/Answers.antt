use Rattle.std.proofs.Common.{◌∙◌}
use Rattle.image.specs.Contents.{contents}
use Rattle.image.proofs.Places.{inode_bit_inside, inode_bit_read}
use Rattle.image.proofs.Image.has_inode_bit.Goals as goal

pub bit-requires : goal.bit-requires
bit-requires c = let i = c.args.self.now in inode_bit_inside i.bytes.now i.geometry i.parsed c.args.n c.requires

pub returns : goal.returns
unfolding contents
returns c = let i = c.args.self.now in c.bit.ensures ∙ inode_bit_read i.bytes.now i.geometry i.parsed c.args.n c.requires
