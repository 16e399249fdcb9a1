-- When a volume's bytes hold a tree.
use Rattle.std.specs.Prelude.{◌≡◌, ◌≢◌, ◌↔◌, ℕ, suc, ◌+◌, ◌-◌, ◌/◌, ◌%◌, ◌<◌, ◌≤◌, List, slice_index, Ok, true, IsTrue}
use Rattle.layout.specs.declared.Geometry.{Geometry}
use Rattle.layout.specs.Places.{geometry_of}
use Rattle.volume.specs.declared.Inode.{Inode}
use Rattle.tree.specs.Names.{dot, dot_dot}
use Rattle.tree.specs.Tree.{Tree}
use Rattle.tree.specs.IsTree.{IsTree}
use Rattle.tree.specs.Space.{pages_of}
use Rattle.volume.specs.Reading.{Disk, is_data_zone}
use Rattle.volume.specs.Pieces.{Pieces, pieces}
use Rattle.volume.specs.Nodes.{page_zone, is_mode, is_marked, nodes_of}
use Rattle.volume.specs.Places.{zone_at, Use, IsSamePlace, has_number}
use Rattle.volume.specs.Entries.{is_directory_inode, entry_count, name_at, target_at, is_field, is_name_field}

-- each zone that is named is a data zone and named once, and the zone map is the set of these; bit 0 of both maps is set
pub record ZonesAgree (g : Geometry) (v : Pieces) : Type 0 where
  pub inode_bit_0 : v.inode_map 0 ≡ true
  pub zone_bit_0 : v.zone_map 0 ≡ true
  pub numbers : (z : ℕ) → z ≢ 0 → Use g v z → IsTrue (is_data_zone g z)
  pub once : (z : ℕ) → z ≢ 0 → (a b : Use g v z) → IsSamePlace a b
  pub mapped : (z : ℕ) → IsTrue (is_data_zone g z) → (v.zone_map (z - g.first_zone + 1) ≡ true) ↔ Use g v z

-- the mode is one of the format, no page at or past the end has a zone, and no indirect block is without a number
pub record IsSoundInode (g : Geometry) (v : Pieces) (i : Inode) : Type 0 where
  pub mode : IsTrue (is_mode i.mode)
  pub inside : (p : ℕ) → page_zone g v i p ≢ 0 → p < pages_of g i.size
  pub full : (l k : ℕ) → zone_at g v i (suc l) k ≢ 0 → IsTrue (has_number g v (zone_at g v i (suc l) k))

-- a directory has no hole and no free entry; its entries are ., .. and names that differ
pub record IsSoundDirectory (g : Geometry) (v : Pieces) (n : ℕ) : Type 0 where
  pub sized : (v.inodes n).size % 64 ≡ 0
  pub two : 2 ≤ entry_count v n
  pub whole : (p : ℕ) → p < pages_of g (v.inodes n).size → page_zone g v (v.inodes n) p ≢ 0
  pub dot_entry : IsTrue (is_field g v n 0 dot) × (target_at g v n 0 ≡ n)
  pub dot_dot_entry : IsTrue (is_field g v n 1 dot_dot)
  pub used : (e : ℕ) → e < entry_count v n → target_at g v n e ≢ 0
  pub names : (e : ℕ) → 2 ≤ e → e < entry_count v n → IsTrue (is_name_field g v n e)
  pub distinct : (e f : ℕ) → e < f → f < entry_count v n → name_at g v n e ≢ name_at g v n f

-- The rules of the format that a tree doesn't show.
pub record IsSound (g : Geometry) (v : Pieces) : Type 0 where
  pub zones : ZonesAgree g v
  pub inodes : (n : ℕ) → IsTrue (is_marked g v n) → IsSoundInode g v (v.inodes n)
  pub directories : (n : ℕ) → IsTrue (is_directory_inode g v n) → IsSoundDirectory g v n

-- the pieces are those of the tree's nodes
pub record HoldsNodes (g : Geometry) (v : Pieces) (t : Tree) : Type 0 where
  pub nodes : t.nodes ≡ nodes_of g v
  pub sound : IsSound g v
  pub tree : IsTree g t

-- the volume's bytes hold the tree's nodes
abbrev pub Holds : Geometry → Disk → Tree → Type 0
Holds g d t = HoldsNodes g (pieces g d) t

-- the bytes of the superblock are those of an image that is read as this geometry
pub record HasSuperblock (g : Geometry) (d : Disk) : Type 0 where
  pub image : List ℕ
  pub parsed : geometry_of image ≡ Ok g
  pub same : (p : ℕ) → 1024 ≤ p → p < 1055 → d (p / g.block_size) (p % g.block_size) ≡ slice_index image p

-- the bytes are a volume of this geometry, which holds the tree
pub record HoldsVolume (g : Geometry) (d : Disk) (t : Tree) : Type 0 where
  pub superblock : HasSuperblock g d
  pub nodes : Holds g d t

-- whatever two trees a volume's bytes hold, their nodes are equal
abbrev pub OneMapOfNodes : Type 0
OneMapOfNodes = (g : Geometry) (d : Disk) (t u : Tree) → Holds g d t → Holds g d u → t.nodes ≡ u.nodes
