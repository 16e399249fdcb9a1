use Rattle.volume_mount.proofs.OfImage.{sizes_of_image}
use Rattle.volume_mount.proofs.laws.sizes_of_image.Goals as goal

pub returns : goal.returns
returns c = sizes_of_image
