use Rattle.std.proofs.Common.{◌∙◌}
use Rattle.image_file.proofs.Lying.{numbers_copied}
use Rattle.image_file.proofs.changed.CopiesPuts.numbers.Goals as goal

pub returns-clause-numbers : goal.returns-clause-numbers
returns-clause-numbers c =
    let changes = c.args.self.now.changes.now in
    c.deref.ensures.value ∙ numbers_copied changes.numbers.items changes.units.items changes.same
