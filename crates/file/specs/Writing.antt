-- What a write to one page of a file changes.
use Rattle.std.specs.Prelude.{◌≡◌, ◌≢◌, ℕ, List, Some, IsTrue}
use Rattle.layout.specs.declared.Geometry.{Geometry}
use Rattle.layout.specs.Places.{IsGeometry}
use Rattle.lemmas.specs.Sums.{put}
use Rattle.tree.specs.Tree.{File}
use Rattle.volume.specs.Reading.{Disk}
use Rattle.volume.specs.Pieces.{Pieces, pieces}
use Rattle.volume.specs.Nodes.{file_of, is_marked, nodes_of, page_zone}
use Rattle.block_store.specs.Rows.{with_bytes}
use Rattle.zone.specs.ZoneSteps.{IsSoundBut, node_from}
use Rattle.zone.specs.Raw.{Writes, with_bytes as with_page_bytes}
use Rattle.block_store.specs.Volume.{SameHead}

-- page p of a marked inode lies in this zone, of a volume of which directory n may be out of order
pub record MayWrite (g : Geometry) (v : Pieces) (n p z : ℕ) : Type 0 where
  pub geometry : IsGeometry g
  pub marked : IsTrue (is_marked g v n)
  pub rules : IsSoundBut g v n 0 0
  pub names : page_zone g v (v.inodes n) p ≡ z
  pub held : z ≢ 0

-- some page does
abbrev pub IsPageZone : Geometry → Pieces → ℕ → Type 0
IsPageZone g v z = (n : ℕ) × (p : ℕ) × MayWrite g v n p z

-- the file with these bytes on page p, from an offset on, up to its size; the page's other bytes are those of its zone
abbrev pub with_chunk : Geometry → Pieces → ℕ → ℕ → ℕ → ℕ → List ℕ → File
with_chunk g v n p z from bytes = with_page_bytes g.block_size (file_of g v (v.inodes n)) p (with_bytes from bytes (v.zones z))

-- These bytes come to stand on page p of inode n, where it lies in this zone; no number and no other file changes.
pub record PageIsWritten (g : Geometry) (v w : Pieces) (n p z from : ℕ) (bytes : List ℕ) : Type 0 where
  pub writes : Writes g v w n p
  pub row : w.zones z ≡ with_bytes from bytes (v.zones z)
  pub rules : IsSoundBut g w n 0 0
  pub names : page_zone g w (w.inodes n) p ≡ z
  pub files : (m : ℕ) → IsTrue (is_marked g v m) → m ≢ n → file_of g w (w.inodes m) ≡ file_of g v (v.inodes m)
  pub file : file_of g w (w.inodes n) ≡ with_chunk g v n p z from bytes
  pub nodes : nodes_of g w ≡ put (nodes_of g v) n (Some (node_from (v.inodes n) (with_chunk g v n p z from bytes)))

-- Where that may be, they do.
pub record WritesPage (g : Geometry) (n p z from : ℕ) (bytes : List ℕ) (d e : Disk) : Type 0 where
  pub head : SameHead d e
  pub written : MayWrite g (pieces g d) n p z → PageIsWritten g (pieces g d) (pieces g e) n p z from bytes
