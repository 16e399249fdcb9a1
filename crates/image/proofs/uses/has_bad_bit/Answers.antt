use Rattle.std.proofs.Common.{◌+◌, ◌-◌, sym, ap, ◌∙◌}
use Rattle.image.specs.Contents.{contents}
use Rattle.image.proofs.Counting.{bit_differs}
use Rattle.image.proofs.uses.has_bad_bit.Goals as goal

pub returns-then-is_data_zone : goal.returns-then-is_data_zone
returns-then-is_data_zone c =
    let i = c.args.image.now in
    bit_differs i c.args.uses.now c.requires c.args.zone (sym c.is_data_zone.ensures ∙ c.if-is_data_zone.true) c.has_zone_bit.result
    (c.has_zone_bit.ensures ∙ ap (λ g. (contents i).zone_map (c.args.zone - g.first_zone + 1)) c.geometry.ensures)
