use Rattle.volume_mount.proofs.InPlace.{cut_out}
use Rattle.volume_mount.proofs.in_place.bytes_in.Goals as goal

pub returns : goal.returns
returns c = cut_out c.args.media.now.sectors _ _ c.args.range c.as_flattened.ensures.value c.as_sectors.ensures
