-- When a volume whose entries have this form holds a tree.
use Rattle.std.specs.Prelude.{◌≡◌, ◌≢◌, ℕ, ◌%◌, ◌<◌, ◌≤◌, List, Ok, false, IsTrue}
use Rattle.layout.specs.declared.Geometry.{Geometry}
use Rattle.tree.specs.Names.{dot, dot_dot}
use Rattle.tree.specs.Tree.{Tree}
use Rattle.tree.specs.IsTree.{IsTree, IsClosed}
use Rattle.tree.specs.Space.{pages_of}
use Rattle.volume.specs.Reading.{disk_of}
use Rattle.volume.specs.Pieces.{Pieces, pieces}
use Rattle.volume.specs.Nodes.{page_zone, is_marked}
use Rattle.volume.specs.Entries.{is_directory_inode}
use Rattle.volume.specs.Holds.{ZonesAgree, IsSoundInode}
use Rattle.migrate.specs.Superblock.{old_geometry_of}
use Rattle.fsck.specs.Form.{EntryForm, version_2}
use Rattle.fsck.specs.Nodes.{nodes_of}
use Rattle.fsck.specs.Entries.{entry_count, target_at, name_at, is_free_at, is_field, is_name_field}

-- A directory has no hole; its entries are ., .. and names that differ. An entry that leads nowhere is free, and may be.
pub record IsSoundDirectory (form : EntryForm) (g : Geometry) (v : Pieces) (n : ℕ) : Type 0 where
  pub sized : (v.inodes n).size % form.size ≡ 0
  pub two : 2 ≤ entry_count form v n
  pub whole : (p : ℕ) → p < pages_of g (v.inodes n).size → page_zone g v (v.inodes n) p ≢ 0
  pub dot_entry : IsTrue (is_field form g v n 0 dot) × (target_at form g v n 0 ≡ n)
  pub dot_dot_entry : IsTrue (is_field form g v n 1 dot_dot)
  pub used : (e : ℕ) → e < entry_count form v n → is_free_at form g v n e ≡ false → target_at form g v n e ≢ 0
  pub names : (e : ℕ) → 2 ≤ e → e < entry_count form v n → is_free_at form g v n e ≡ false → IsTrue (is_name_field form g v n e)
  pub distinct : (e f : ℕ) → e < f → f < entry_count form v n → is_free_at form g v n e ≡ false → is_free_at form g v n f ≡ false
      → name_at form g v n e ≢ name_at form g v n f

-- The rules of the format that a tree doesn't show. Those of zones and of inodes are one for all forms.
pub record IsSound (form : EntryForm) (g : Geometry) (v : Pieces) : Type 0 where
  pub zones : ZonesAgree g v
  pub inodes : (n : ℕ) → IsTrue (is_marked g v n) → IsSoundInode g v (v.inodes n)
  pub directories : (n : ℕ) → IsTrue (is_directory_inode g v n) → IsSoundDirectory form g v n

-- the pieces are those of the tree's nodes
pub record HoldsNodes (form : EntryForm) (g : Geometry) (v : Pieces) (t : Tree) : Type 0 where
  pub nodes : t.nodes ≡ nodes_of form g v
  pub sound : IsSound form g v
  pub tree : IsTree g t

-- a version 2 image holds a tree without open files
pub record HoldsOld (image : List ℕ) (t : Tree) : Type 0 where
  pub geometry : Geometry
  pub parsed : old_geometry_of image ≡ Ok geometry
  pub holds : HoldsNodes version_2 geometry (pieces geometry (disk_of geometry image)) t
  pub closed : IsClosed t
