use Rattle.image_file.proofs.Lying.{numbers_in_place}
use Rattle.image_file.proofs.changed.InPlacePuts.numbers.Goals as goal

pub returns-clause-numbers : goal.returns-clause-numbers
returns-clause-numbers c = numbers_in_place c.args.self.now.image.now c.args.self.now.numbers.now
