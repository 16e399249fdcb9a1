-- What letting pages go does to a file, and to the nodes.
use Rattle.std.specs.Prelude.{◌≡◌, ◌≢◌, ℕ, suc, ◌<◌, ◌≤◌, ◌/◌, ◌&&◌, nat_lt, if◌then◌else◌, IsTrue, Option, None, Some}
use Rattle.layout.specs.declared.Geometry.{Geometry}
use Rattle.layout.specs.Places.{IsGeometry}
use Rattle.lemmas.specs.Sums.{put}
use Rattle.tree.specs.Tree.{File}
use Rattle.volume.specs.declared.Inode.{Inode}
use Rattle.volume.specs.Reading.{Disk}
use Rattle.volume.specs.Pieces.{Pieces, pieces}
use Rattle.volume.specs.Nodes.{file_of, is_marked, nodes_of}
use Rattle.volume.specs.Places.{zone_at, has_number}
use Rattle.zone.specs.ZoneSteps.{SameInodes, IsSoundBut, node_from}
use Rattle.block_store.specs.Volume.{SameHead}

-- the last place of a level that has a zone
pub record IsLastAt (g : Geometry) (v : Pieces) (i : Inode) (l k : ℕ) : Type 0 where
  pub held : zone_at g v i l k ≢ 0
  pub last : (m : ℕ) → k < m → zone_at g v i l m ≡ 0

-- each indirect block has a number
abbrev pub IsFull : Geometry → Pieces → Inode → Type 0
IsFull g v i = (a k : ℕ) → zone_at g v i (suc a) k ≢ 0 → IsTrue (has_number g v (zone_at g v i (suc a) k))

-- the last page that has a zone, or there is none
abbrev pub IsLastHeld : Geometry → Pieces → Inode → Option ℕ → Type 0
IsLastHeld g v i None = (p : ℕ) → zone_at g v i 0 p ≡ 0
IsLastHeld g v i (Some p) = IsLastAt g v i 0 p

-- no page from an end on has a zone
abbrev pub HasNoneFrom : Geometry → Pieces → Inode → ℕ → Type 0
HasNoneFrom g v i end = (p : ℕ) → end ≤ p → zone_at g v i 0 p ≡ 0

-- the last page before an end that has a zone
abbrev pub IsLastBefore : Geometry → Pieces → Inode → ℕ → ℕ → Type 0
IsLastBefore g v i end p = (p < end) × (zone_at g v i 0 p ≢ 0) × ((q : ℕ) → p < q → q < end → zone_at g v i 0 q ≡ 0)

-- the last page that has a zone, or there is none, of the pages from one on
abbrev pub IsLastFrom : Geometry → Pieces → Inode → ℕ → Option ℕ → Type 0
IsLastFrom g v i from None = (p : ℕ) → from ≤ p → zone_at g v i 0 p ≡ 0
IsLastFrom g v i from (Some p) = (from ≤ p) × IsLastAt g v i 0 p

-- the file of which the pages from one on are let go
abbrev pub cut_at : ℕ → File → ℕ → File
cut_at width f p = record f { byte = λ q. if nat_lt (q / width) p then f.byte q else 0; held = λ q. f.held q && nat_lt q p }

-- a marked inode of a volume of which directory n may be out of order
pub record MayDetach (g : Geometry) (v : Pieces) (n : ℕ) : Type 0 where
  pub geometry : IsGeometry g
  pub marked : IsTrue (is_marked g v n)
  pub rules : IsSoundBut g v n 0 0

-- The pages of inode n from one on are let go, with the blocks that have no number then.
pub record LetGo (g : Geometry) (v w : Pieces) (n p : ℕ) : Type 0 where
  pub rules : IsSoundBut g w n 0 0
  pub inodes : SameInodes g v w
  pub files : (m : ℕ) → IsTrue (is_marked g v m) → m ≢ n → file_of g w (w.inodes m) ≡ file_of g v (v.inodes m)
  pub file : file_of g w (w.inodes n) ≡ cut_at g.block_size (file_of g v (v.inodes n)) p

-- Where that may be, they are, and the nodes change at n alone.
pub record DetachesFrom (g : Geometry) (n p : ℕ) (d e : Disk) : Type 0 where
  pub head : SameHead d e
  pub let_go : MayDetach g (pieces g d) n → LetGo g (pieces g d) (pieces g e) n p
  pub nodes : MayDetach g (pieces g d) n → let v = pieces g d in
      nodes_of g (pieces g e) ≡ put (nodes_of g v) n (Some (node_from (v.inodes n) (cut_at g.block_size (file_of g v (v.inodes n)) p)))
