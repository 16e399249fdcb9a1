-- What a write of any length to one inode's file leaves.
use Rattle.std.specs.Prelude.{◌≢◌, ◌≤◌, ◌<◌, ℕ, ◌+◌, List, length, slice_index, Bool}
use Rattle.layout.specs.declared.Geometry.{Geometry}
use Rattle.tree.specs.Tree.{File}
use Rattle.tree.specs.Changes.{file_after_write}
use Rattle.tree.specs.ZonesNeeded.{zones_needed}
use Rattle.tree.specs.Space.{numbers_in_zone, data_zones}
use Rattle.volume.specs.Reading.{Disk}
use Rattle.volume.specs.Pieces.{Pieces, pieces}
use Rattle.zone.specs.ZoneSteps.{marked_in}
use Rattle.zone.specs.Chunks.{grown, resized}
use Rattle.zone.specs.PlaceParts.{HasZones}
use Rattle.block_store.specs.Volume.{SameHead}
use Rattle.file.specs.PageChanges.{MayChange, BecomesFile, file_at}

-- that file after a write
abbrev pub written_at : Geometry → Pieces → ℕ → ℕ → List ℕ → File
written_at g v n at bytes = file_after_write g (file_at g v n) at bytes

-- there are zones enough for the file of inode n to hold these pages
abbrev pub HasZonesFor : Geometry → Pieces → ℕ → (ℕ → Bool) → Type 0
HasZonesFor g v n held =
    marked_in g v + zones_needed (numbers_in_zone g) held ≤ data_zones g + zones_needed (numbers_in_zone g) (file_at g v n).held

-- a file that may change, and zones enough for the pages that a write holds
pub record MayWriteAt (g : Geometry) (v : Pieces) (n at : ℕ) (bytes : List ℕ) : Type 0 where
  pub change : MayChange g v n
  pub room : HasZonesFor g v n (written_at g v n at bytes).held

-- These bytes are written into the file of inode n, where they may be.
pub record WritesAt (g : Geometry) (n at : ℕ) (bytes : List ℕ) (d e : Disk) : Type 0 where
  pub head : SameHead d e
  pub becomes : let v = pieces g d in
      MayWriteAt g v n at bytes → BecomesFile g v (pieces g e) n (v.inodes n) (written_at g v n at bytes)

-- the same of bytes that don't reach over the end of the file
pub record MayWriteInside (g : Geometry) (v : Pieces) (n at : ℕ) (bytes : List ℕ) : Type 0 where
  pub write : MayWriteAt g v n at bytes
  pub inside : at + length bytes ≤ (v.inodes n).size

pub record WritesInside (g : Geometry) (n at : ℕ) (bytes : List ℕ) (d e : Disk) : Type 0 where
  pub head : SameHead d e
  pub becomes : let v = pieces g d in
      MayWriteInside g v n at bytes → BecomesFile g v (pieces g e) n (v.inodes n) (written_at g v n at bytes)

-- these are the zones of pages of inode n that stand side by side, from a page on, and all of these are held
pub record IsHeldRow (g : Geometry) (v : Pieces) (n page : ℕ) (row : List ℕ) : Type 0 where
  pub names : HasZones g v (v.inodes n) page (length row) row
  pub held : (k : ℕ) → k < length row → slice_index row k ≢ 0

-- The file of inode n is made that long where it is shorter, and may change.
pub record Grows (g : Geometry) (n size : ℕ) (d e : Disk) : Type 0 where
  pub head : SameHead d e
  pub becomes : let v = pieces g d in
      MayChange g v n → BecomesFile g v (pieces g e) n (v.inodes n) (resized (file_at g v n) (grown (file_at g v n) size))
