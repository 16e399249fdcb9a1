use Rattle.fuse_nodes.proofs.SoundLaws.{numbers_stay}
use Rattle.fuse_nodes.proofs.laws.numbers_stay.Goals as goal

pub returns : goal.returns
returns c = numbers_stay
