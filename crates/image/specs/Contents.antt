-- The pieces of the volume in an image.
use Rattle.volume.specs.Reading.{disk_of}
use Rattle.volume.specs.Pieces.{Pieces, pieces}
use Rattle.image.specs.declared.Image.{Image}

-- the pieces of the volume that the image holds
unfoldable pub contents : Image → Pieces
contents i = pieces i.geometry (disk_of i.geometry i.bytes.now)
