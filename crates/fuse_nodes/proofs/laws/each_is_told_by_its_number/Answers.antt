use Rattle.fuse_nodes.proofs.SoundLaws.{told_by_its_number}
use Rattle.fuse_nodes.proofs.laws.each_is_told_by_its_number.Goals as goal

pub returns : goal.returns
returns c = told_by_its_number
