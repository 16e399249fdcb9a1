use Rattle.std.proofs.Common.{sym, ◌∙◌}
use Rattle.image.specs.Contents.{contents}
use Rattle.image.proofs.Places.{word_inside, word_read, no_word}
use Rattle.image.proofs.Image.number.Goals as goal

pub u32_at-requires : goal.u32_at-requires
u32_at-requires c =
    let i = c.args.self.now in
    word_inside i.bytes.now i.geometry i.parsed c.args.zone c.args.j (sym c.is_data_zone.ensures ∙ c.if-is_data_zone.true) c.requires

pub returns-then-is_data_zone : goal.returns-then-is_data_zone
unfolding contents
returns-then-is_data_zone c =
    let i = c.args.self.now in
    c.u32_at.ensures ∙ word_read i.bytes.now i.geometry i.parsed c.args.zone c.args.j (sym c.is_data_zone.ensures ∙ c.if-is_data_zone.true) c.requires

pub returns-else-is_data_zone : goal.returns-else-is_data_zone
unfolding contents
returns-else-is_data_zone c =
    let i = c.args.self.now in
    no_word i.bytes.now i.geometry i.parsed c.args.zone c.args.j (sym c.is_data_zone.ensures ∙ c.if-is_data_zone.false)
