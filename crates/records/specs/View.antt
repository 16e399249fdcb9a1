-- What a server would read back.
use Rattle.std.specs.Prelude.{ℕ, ◌/◌, List, Option, Some, None, IsSome, IsTrue, slice_index}
use Rattle.layout.specs.declared.Geometry.{Geometry}
use Rattle.tree.specs.Tree.{Tree}
use Rattle.volume.specs.Reading.{Disk, blocks_of}
use Rattle.volume.specs.Holds.{HoldsVolume}
use Rattle.records.specs.Marks.{Mark}
use Rattle.records.specs.Disk.{Contents, disk_after, unsure}
use Rattle.records.specs.Legal.{tree_after}

-- the bytes of the frame of each block that has one, a block's length of them
abbrev pub Frames : Type 0
Frames = ℕ → Option (List ℕ)

-- a frame's bytes if there is one, else the disk's
abbrev pub frame_or : Option (List ℕ) → (ℕ → ℕ) → ℕ → ℕ
frame_or (Some bytes) disk = slice_index bytes
frame_or None disk = disk

-- for each block the bytes of its frame if it has one, else the disk's
abbrev pub server_view : Geometry → Frames → Contents → List Mark → Disk
server_view g frames image marks =
    λ block. frame_or (frames block) (blocks_of g (disk_after image marks) block)

-- each unsure place lies in a block with a frame
pub record IsCovered (g : Geometry) (frames : Frames) (marks : List Mark) : Type 0 where
  pub each : (place : ℕ) → IsTrue (unsure marks place) → IsSome (frames (place / g.block_size))

-- what the server would read back is the tree now, and each unsure place lies in a block with a frame
pub record ReadsBack (g : Geometry) (frames : Frames) (image : Contents) (tree : Tree) (marks : List Mark) : Type 0 where
  pub holds : HoldsVolume g (server_view g frames image marks) (tree_after g tree marks)
  pub covered : IsCovered g frames marks
