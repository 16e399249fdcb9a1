use Rattle.std.specs.List.{concat}
use Rattle.volume_mount.specs.Starting.{bytes_of}
use Rattle.volume_mount.proofs.InPlace.{holds, sizes}
use Rattle.volume_mount.proofs.in_place.check_volume.Goals as goal

pub returns-in-Ok-clause-holds : goal.returns-in-Ok-clause-holds
returns-in-Ok-clause-holds c =
    holds (bytes_of (concat c.args.media.now.sectors) c.args.range) _ c.checked.result c.bytes_in-volume.ensures c.checked.ensures

pub returns-in-Ok-clause-sizes : goal.returns-in-Ok-clause-sizes
returns-in-Ok-clause-sizes c =
    sizes (bytes_of (concat c.args.media.now.sectors) c.args.range) _ c.checked.result c.bytes_in-volume.ensures c.checked.ensures
