use Rattle.records.proofs.ActLaws.{acts_compose}
use Rattle.records.proofs.marks.laws.acts_compose.Goals as goal

pub returns : goal.returns
returns c = acts_compose
