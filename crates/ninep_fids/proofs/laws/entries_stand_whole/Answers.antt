use Rattle.ninep_fids.proofs.EntryLaws.{entries_stand_whole}
use Rattle.ninep_fids.proofs.laws.entries_stand_whole.Goals as goal

pub returns : goal.returns
returns c = entries_stand_whole
