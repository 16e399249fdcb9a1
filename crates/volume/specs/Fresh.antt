-- A new volume: a root alone, in the first data zone.
use Rattle.std.specs.Prelude.{◌<◌, ◌^◌, ◌+◌, ◌==◌, ℕ, List, ◌∷◌, ◌++◌, replicate, slice_index, nat_le, if◌then◌else◌}
use Rattle.layout.specs.declared.Geometry.{Geometry}
use Rattle.layout.specs.Places.{IsGeometry}
use Rattle.tree.specs.Names.{dot, dot_dot}
use Rattle.tree.specs.Tree.{directory_type}
use Rattle.tree.specs.Laws.{fresh_tree}
use Rattle.volume.specs.declared.Inode.{Inode}
use Rattle.volume.specs.Reading.{is_inode, inode_in}
use Rattle.volume.specs.Pieces.{Pieces, blank}
use Rattle.volume.specs.Holds.{HoldsNodes}

-- the root's inode: mode 0040755, two links, two entries in one zone
abbrev pub fresh_inode : Geometry → ℕ → Inode
fresh_inode g now = record {
  mode = directory_type + 493;
  links = 2;
  uid = 0;
  gid = 0;
  size = 128;
  atime = now;
  mtime = now;
  ctime = now;
  zones = g.first_zone ∷ replicate 9 0;
}

-- its two entries, . and .., both of inode 1
abbrev pub fresh_entries : List ℕ
fresh_entries = (1 ∷ 0 ∷ 0 ∷ 0 ∷ dot) ++ replicate 59 0 ++ (1 ∷ 0 ∷ 0 ∷ 0 ∷ dot_dot)

-- The pieces of a new volume: bits 0 and 1 of both maps, inode 1, and the first data zone; all else is zero.
abbrev pub fresh_pieces : Geometry → ℕ → Pieces
fresh_pieces g now = record {
  inode_map = λ n. nat_le n 1;
  zone_map = λ k. nat_le k 1;
  inodes = λ n. if n == 1 then fresh_inode g now else (if is_inode g n then inode_in (λ p. 0) 0 else blank);
  zones = λ z o. if z == g.first_zone then slice_index fresh_entries o else 0;
}

-- a new volume holds a root alone
abbrev pub FreshHolds : Type 0
FreshHolds = (g : Geometry) (now : ℕ) → IsGeometry g → now < 2 ^ 32 → HoldsNodes g (fresh_pieces g now) (fresh_tree now)
