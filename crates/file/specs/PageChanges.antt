-- What a change of one inode's file leaves, of its size, and of its times.
use Rattle.std.specs.Prelude.{◌≡◌, ◌≢◌, ◌≤◌, ◌<◌, ℕ, ◌+◌, ◌/◌, ◌%◌, Some, IsTrue}
use Rattle.layout.specs.declared.Geometry.{Geometry}
use Rattle.layout.specs.Places.{IsGeometry}
use Rattle.lemmas.specs.Sums.{put}
use Rattle.tree.specs.Tree.{File}
use Rattle.tree.specs.Changes.{file_after_resize}
use Rattle.tree.specs.ZonesNeeded.{zones_needed}
use Rattle.tree.specs.Space.{numbers_in_zone, pages_of}
use Rattle.volume.specs.declared.Inode.{Inode}
use Rattle.volume.specs.Reading.{Disk}
use Rattle.volume.specs.Pieces.{Pieces, pieces}
use Rattle.volume.specs.Nodes.{file_of, is_marked, nodes_of, page_zone}
use Rattle.zone.specs.ZoneSteps.{IsSoundBut, node_from, marked_in}
use Rattle.zone.specs.Chunks.{resized}
use Rattle.block_store.specs.Volume.{SameHead}

-- a marked inode of a volume of which directory n may be out of order
pub record MayChange (g : Geometry) (v : Pieces) (n : ℕ) : Type 0 where
  pub geometry : IsGeometry g
  pub marked : IsTrue (is_marked g v n)
  pub rules : IsSoundBut g v n 0 0

-- Inode n has this file now, and the attributes of i; the other inodes keep theirs, and their files. The zone map marks as many
-- zones more or less as the file takes more or less.
pub record BecomesFile (g : Geometry) (v w : Pieces) (n : ℕ) (i : Inode) (f : File) : Type 0 where
  pub rules : IsSoundBut g w n 0 0
  pub marks : w.inode_map ≡ v.inode_map
  pub inode : w.inodes n ≡ record i { size = f.size; zones = (w.inodes n).zones }
  pub others : (m : ℕ) → m ≢ n → w.inodes m ≡ record (v.inodes m) { zones = (w.inodes m).zones }
  pub files : (m : ℕ) → IsTrue (is_marked g v m) → m ≢ n → file_of g w (w.inodes m) ≡ file_of g v (v.inodes m)
  pub file : file_of g w (w.inodes n) ≡ f
  pub nodes : nodes_of g w ≡ put (nodes_of g v) n (Some (node_from i f))
  pub count : marked_in g w + zones_needed (numbers_in_zone g) (file_of g v (v.inodes n)).held ≡ marked_in g v + zones_needed (numbers_in_zone g) f.held

-- the file of inode n
abbrev pub file_at : Geometry → Pieces → ℕ → File
file_at g v n = file_of g v (v.inodes n)

-- The file of inode n is made that long, where it may change.
pub record SetsSize (g : Geometry) (n size : ℕ) (d e : Disk) : Type 0 where
  pub head : SameHead d e
  pub becomes : let v = pieces g d in
      MayChange g v n → BecomesFile g v (pieces g e) n (v.inodes n) (file_after_resize g (file_at g v n) size)

-- no page at or past that size is held
pub record MayResize (g : Geometry) (v : Pieces) (n size : ℕ) : Type 0 where
  pub change : MayChange g v n
  pub inside : (p : ℕ) → page_zone g v (v.inodes n) p ≢ 0 → p < pages_of g size

-- The size of inode n is set, and bytes up to it that weren't the file's are zeros.
pub record Resized (g : Geometry) (n size : ℕ) (d e : Disk) : Type 0 where
  pub head : SameHead d e
  pub becomes : let v = pieces g d in
      MayResize g v n size → BecomesFile g v (pieces g e) n (v.inodes n) (resized (file_at g v n) size)

-- the zones of inode n hold zeros from the end of its file on
abbrev pub IsPadded : Geometry → Pieces → ℕ → Type 0
IsPadded g v n = (q : ℕ) → (v.inodes n).size ≤ q → page_zone g v (v.inodes n) (q / g.block_size) ≢ 0
    → v.zones (page_zone g v (v.inodes n) (q / g.block_size)) (q % g.block_size) ≡ 0

-- Zeros are written there, and the file stays.
pub record PadsRest (g : Geometry) (n : ℕ) (d e : Disk) : Type 0 where
  pub head : SameHead d e
  pub becomes : let v = pieces g d in MayChange g v n → BecomesFile g v (pieces g e) n (v.inodes n) (file_at g v n)
  pub inodes : MayChange g (pieces g d) n → (pieces g e).inodes ≡ (pieces g d).inodes
  pub padded : MayChange g (pieces g d) n → IsPadded g (pieces g e) n

-- the inode whose bytes or names changed at `now`
abbrev pub stamped : ℕ → Inode → Inode
stamped now i = record i { mtime = now; ctime = now }

-- The times of inode n are set, where it may change.
pub record Stamps (g : Geometry) (n now : ℕ) (d e : Disk) : Type 0 where
  pub head : SameHead d e
  pub becomes : let v = pieces g d in
      MayChange g v n → BecomesFile g v (pieces g e) n (stamped now (v.inodes n)) (file_at g v n)
