use Rattle.fuse_nodes.proofs.SoundLaws.{stays_sound}
use Rattle.fuse_nodes.proofs.laws.tables_stay_sound.Goals as goal

pub returns : goal.returns
returns c = stays_sound
