-- Laws of version 2 volumes and of their migration.
use Rattle.std.specs.Prelude.{◌≡◌, ◌≤◌, ◌<◌, ℕ, All, List}
use Rattle.layout.specs.declared.Geometry.{Geometry}
use Rattle.layout.specs.Places.{IsGeometry}
use Rattle.volume.specs.Reading.{Disk}
use Rattle.volume.specs.Pieces.{Pieces, pieces}
use Rattle.volume.specs.Holds.{IsSound as SoundVolume}
use Rattle.volume.specs.Verdict.{Clean}
use Rattle.tree.specs.Space.{data_zones}
use Rattle.image.specs.declared.Image.{Image}
use Rattle.image.specs.Contents.{contents}
use Rattle.fsck.specs.Form.{version_2}
use Rattle.fsck.specs.Nodes.{nodes_of}
use Rattle.migrate.specs.Holds.{IsSound}
use Rattle.migrate.specs.Used.{SizesAreGood, zones_of_all}
use Rattle.migrate.specs.Written.{IsWritten, IsWrittenImage}
use Rattle.migrate.specs.Migrated.{IsConfirmed}
use Rattle.fsck.specs.Verdict.{verdict_of_pieces}

-- a volume in which the check finds nothing keeps the rules of the format that a tree doesn't show
abbrev pub CleanIsSound : Type 0
CleanIsSound = (g : Geometry) (d : Disk) → IsGeometry g → verdict_of_pieces version_2 g (pieces g d) ≡ Clean
    → IsSound version_2 g (pieces g d)

-- the old volume is sound, and the new one has blocks of 1024 bytes, as many inodes, and room for the tree
pub record HasPlace (i : Image) (h : Geometry) : Type 0 where
  pub sound : IsSound version_2 i.geometry (contents i)
  pub sizes : SizesAreGood i
  pub old_block : i.geometry.block_size ≡ 1024
  pub geometry : IsGeometry h
  pub block : h.block_size ≡ 1024
  pub inodes : h.inodes ≡ i.geometry.inodes
  pub room : zones_of_all i.geometry (nodes_of version_2 i.geometry (contents i)) ≤ data_zones h

-- a volume that is written so keeps the rules of the format that a tree doesn't show
abbrev pub WrittenIsSound : Type 0
WrittenIsSound = (i : Image) (h : Geometry) (w : Pieces) → HasPlace i h → IsWritten i.geometry (contents i) h w → SoundVolume h w

-- The image of a clean old volume that is written so is confirmed: it is clean, and holds a tree with the old one's nodes.
abbrev pub WrittenIsConfirmed : Type 0
WrittenIsConfirmed = (i : Image) (h : Geometry) (image : List ℕ) → HasPlace i h
    → verdict_of_pieces version_2 i.geometry (contents i) ≡ Clean → All (λ b. b < 256) image
    → IsWrittenImage i.geometry (contents i) h image → IsConfirmed i h image
