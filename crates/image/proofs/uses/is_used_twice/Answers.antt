use Rattle.std.proofs.Common.{sym, ◌∙◌}
use Rattle.image.proofs.Counting.{twice_read}
use Rattle.image.proofs.uses.is_used_twice.Goals as goal

pub returns-then-is_data_zone : goal.returns-then-is_data_zone
returns-then-is_data_zone c = twice_read c.args.image.now c.args.uses.now c.requires c.args.zone (sym c.is_data_zone.ensures ∙ c.if-is_data_zone.true)
