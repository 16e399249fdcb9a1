use Rattle.std.proofs.Common.{◌∙◌}
use Rattle.image.specs.Contents.{contents}
use Rattle.image.proofs.Places.{zone_bit_inside, zone_bit_read}
use Rattle.image.proofs.Image.has_zone_bit.Goals as goal

pub bit-requires : goal.bit-requires
bit-requires c = let i = c.args.self.now in zone_bit_inside i.bytes.now i.geometry i.parsed c.args.k c.requires

pub returns : goal.returns
unfolding contents
returns c = let i = c.args.self.now in c.bit.ensures ∙ zone_bit_read i.bytes.now i.geometry i.parsed c.args.k c.requires
