use Rattle.records.proofs.Inside.{head_and_tail_stay}
use Rattle.records.proofs.marks.laws.head_and_tail_stay.Goals as goal

pub returns : goal.returns
returns c = head_and_tail_stay
