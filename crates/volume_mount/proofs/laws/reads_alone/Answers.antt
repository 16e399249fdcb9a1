use Rattle.volume_mount.proofs.ReadAlone.{reads_alone}
use Rattle.volume_mount.proofs.laws.reads_alone.Goals as goal

pub returns : goal.returns
returns c = reads_alone
