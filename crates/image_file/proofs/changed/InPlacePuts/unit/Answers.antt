use Rattle.std.proofs.Common.{◌∙◌}
use Rattle.image_file.proofs.Lying.{unit_in_place}
use Rattle.image_file.proofs.changed.InPlacePuts.unit.Goals as goal

pub returns : goal.returns
returns c = c.unit_at.ensures ∙ unit_in_place c.args.self.now.image.now c.args.self.now.numbers.now c.args.at c.requires
