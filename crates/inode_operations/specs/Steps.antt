-- Steps of client calls that change one node of a volume.
use Rattle.std.specs.Prelude.{◌≡◌, ◌≤◌, ◌==◌, ◌&&◌, ℕ, not, Option, None, Some, IsTrue, if◌then◌else◌}
use Rattle.layout.specs.declared.Geometry.{Geometry}
use Rattle.layout.specs.Places.{IsGeometry}
use Rattle.lemmas.specs.Sums.{put}
use Rattle.tree.specs.Tree.{Node, is_open, most_links}
use Rattle.tree.specs.Changes.{more_links, with_ctime, with_link_lost}
use Rattle.volume.specs.declared.Inode.{Inode}
use Rattle.volume.specs.Reading.{Disk}
use Rattle.volume.specs.Pieces.{Pieces, pieces}
use Rattle.volume.specs.Nodes.{is_directory_mode, is_marked, is_mode, node_of, nodes_of}
use Rattle.volume.specs.Holds.{IsSound}
use Rattle.descriptors.specs.Files.{Files, tree_with}
use Rattle.zone.specs.ZoneSteps.{node_from}
use Rattle.block_store.specs.Volume.{SameHead}
use Rattle.file.specs.PageChanges.{file_at}

-- a marked inode of a sound volume
pub record IsOfNode (g : Geometry) (v : Pieces) (n : ℕ) : Type 0 where
  pub geometry : IsGeometry g
  pub sound : IsSound g v
  pub marked : IsTrue (is_marked g v n)

-- the node of inode n
abbrev pub node_at : Geometry → Pieces → ℕ → Node
node_at g v n = node_of g v (v.inodes n)

-- The volume stays sound, and the node at n becomes this one, or is gone.
pub record BecomesAt (g : Geometry) (v w : Pieces) (n : ℕ) (x : Option Node) : Type 0 where
  pub sound : IsSound g w
  pub nodes : nodes_of g w ≡ put (nodes_of g v) n x

-- The blocks before the maps stay, and where this holds before, the node at n becomes that, or is gone.
pub record Changes (g : Geometry) (n : ℕ) (May : Type 0) (x : Option Node) (d e : Disk) : Type 0 where
  pub head : SameHead d e
  pub becomes : May → BecomesAt g (pieces g d) (pieces g e) n x

-- Other attributes of a node: of its inode the size, the zones and the type stay.
pub record MaySetAttributes (g : Geometry) (v : Pieces) (n : ℕ) (i : Inode) : Type 0 where
  pub of : IsOfNode g v n
  pub size : i.size ≡ (v.inodes n).size
  pub zones : i.zones ≡ (v.inodes n).zones
  pub mode : IsTrue (is_mode i.mode)
  pub kind : is_directory_mode i.mode ≡ is_directory_mode (v.inodes n).mode

-- the node has the attributes of this inode
abbrev pub SetsAttributes : Geometry → ℕ → Inode → Disk → Disk → Type 0
SetsAttributes g n i d e = let v = pieces g d in Changes g n (MaySetAttributes g v n i) (Some (node_from i (file_at g v n))) d e

-- a node with no more links than there may be
pub record MayAddLink (g : Geometry) (v : Pieces) (n : ℕ) : Type 0 where
  pub of : IsOfNode g v n
  pub links : (v.inodes n).links ≤ most_links

-- the node has a link more at `now`
abbrev pub AddsLink : Geometry → ℕ → ℕ → Disk → Disk → Type 0
AddsLink g n now d e = let v = pieces g d in Changes g n (MayAddLink g v n) (Some (with_ctime now (more_links 1 (node_at g v n)))) d e

-- the node has a link less at `now`
abbrev pub DropsLink : Geometry → ℕ → ℕ → Disk → Disk → Type 0
DropsLink g n now d e = let v = pieces g d in Changes g n (IsOfNode g v n) (Some (with_link_lost now (node_at g v n))) d e

-- the node is gone
abbrev pub FreesNode : Geometry → ℕ → Disk → Disk → Type 0
FreesNode g n d e = Changes g n (IsOfNode g (pieces g d) n) None d e

-- what is left of a node where these files are open: nothing where it has no link and isn't open
abbrev pub left_of : Files → ℕ → Node → Option Node
left_of f n node = if (node.links == 0) && not (is_open (tree_with f) n) then None else Some node

-- the node is gone where it has no link and isn't open
abbrev pub LosesNode : Geometry → Files → ℕ → Disk → Disk → Type 0
LosesNode g f n d e = let v = pieces g d in Changes g n (IsOfNode g v n) (left_of f n (node_at g v n)) d e

-- the node has a link less at `now`, and is gone where that was the last and it isn't open
abbrev pub LosesName : Geometry → Files → ℕ → ℕ → Disk → Disk → Type 0
LosesName g f n now d e = let v = pieces g d in Changes g n (IsOfNode g v n) (left_of f n (with_link_lost now (node_at g v n))) d e
