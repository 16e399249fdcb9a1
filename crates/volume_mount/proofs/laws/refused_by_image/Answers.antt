use Rattle.volume_mount.proofs.OfImage.{refused_by_image}
use Rattle.volume_mount.proofs.laws.refused_by_image.Goals as goal

pub returns : goal.returns
returns c = refused_by_image
