use Rattle.ninep_fids.proofs.EntryLaws.{each_is_told_once}
use Rattle.ninep_fids.proofs.laws.each_is_told_once.Goals as goal

pub returns : goal.returns
returns c = each_is_told_once
