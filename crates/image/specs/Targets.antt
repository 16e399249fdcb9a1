-- The targets of symbolic links.
use Rattle.std.specs.Prelude.{◌≡◌, ◌≢◌, ◌<◌, ℕ, List, length, slice_index}
use Rattle.volume.specs.declared.Inode.{Inode}
use Rattle.volume.specs.Nodes.{file_byte, page_zone}
use Rattle.image.specs.declared.Image.{Image}
use Rattle.image.specs.Contents.{contents}

-- these bytes are those of the inode's file, whose page 0 is held
pub record IsTarget (i : Image) (x : Inode) (bytes : List ℕ) : Type 0 where
  pub held : page_zone i.geometry (contents i) x 0 ≢ 0
  pub size : length bytes ≡ x.size
  pub each : (k : ℕ) → k < x.size → slice_index bytes k ≡ file_byte i.geometry (contents i) x k
