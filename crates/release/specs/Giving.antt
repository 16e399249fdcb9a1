-- The nodes of a volume that have no link are given back, one by one.
use Rattle.std.specs.Prelude.{◌≡◌, ℕ, ◌+◌}
use Rattle.volume.specs.Reading.{Disk}
use Rattle.volume.specs.Pieces.{pieces}
use Rattle.volume.specs.Nodes.{nodes_of}
use Rattle.volume.specs.Holds.{IsSound}
use Rattle.image.specs.declared.Image.{Image}
use Rattle.image.specs.Contents.{contents}
use Rattle.block_store.specs.Volume.{SameHead}
use Rattle.inode_operations.specs.Steps.{BecomesAt}
use Rattle.release.specs.Nameless.{if_linked, linked_below}

-- a sound volume, whose node of this number is the image's
pub record MayGiveBack (i : Image) (n : ℕ) (d : Disk) : Type 0 where
  pub sound : IsSound i.geometry (pieces i.geometry d)
  pub same : nodes_of i.geometry (pieces i.geometry d) n ≡ nodes_of i.geometry (contents i) n

-- the blocks before the maps stay, and the node is there only if it has a link
pub record GivesBack (i : Image) (n : ℕ) (d e : Disk) : Type 0 where
  pub head : SameHead d e
  pub becomes : MayGiveBack i n d
      → BecomesAt i.geometry (pieces i.geometry d) (pieces i.geometry e) n (if_linked (nodes_of i.geometry (contents i) n))

-- a sound volume that has the image's nodes
pub record HasImage (i : Image) (d : Disk) : Type 0 where
  pub sound : IsSound i.geometry (pieces i.geometry d)
  pub same : nodes_of i.geometry (pieces i.geometry d) ≡ nodes_of i.geometry (contents i)

-- a sound volume that has them without those below k that have no link
pub record IsLeft (i : Image) (k : ℕ) (e : Disk) : Type 0 where
  pub sound : IsSound i.geometry (pieces i.geometry e)
  pub nodes : nodes_of i.geometry (pieces i.geometry e) ≡ linked_below (nodes_of i.geometry (contents i)) k

-- those were given back
pub record GivesBackBelow (i : Image) (k : ℕ) (d e : Disk) : Type 0 where
  pub head : SameHead d e
  pub left : HasImage i d → IsLeft i k e

-- all were
abbrev pub GivesAllBack : Image → Disk → Disk → Type 0
GivesAllBack i d e = GivesBackBelow i (i.geometry.inodes + 1) d e
