-- What the image of a migrated volume is.
use Rattle.std.specs.Prelude.{◌≡◌, ◌≤◌, ◌<◌, ℕ, zero, suc, ◌+◌, ◌*◌, List, length, take, drop, true, false, not, ◌==◌, ◌||◌, nat_le, Ok}
use Rattle.layout.specs.declared.Geometry.{Geometry}
use Rattle.layout.specs.Places.{geometry_of}
use Rattle.lemmas.specs.Sums.{sum_below, count_below}
use Rattle.tree.specs.Space.{zones_of, data_zones}
use Rattle.volume.specs.declared.Inode.{Inode}
use Rattle.volume.specs.Reading.{u32_in, disk_of, inode_in}
use Rattle.volume.specs.Pieces.{Pieces, pieces}
use Rattle.volume.specs.Nodes.{slot, file_byte, is_marked, is_directory_mode}
use Rattle.image.specs.Entered.{level_of}
use Rattle.fsck.specs.Form.{version_2}
use Rattle.fsck.specs.Nodes.{nodes_of, entry_count_of, is_dropped}
use Rattle.fsck.specs.Widened.{IsWidened}
use Rattle.migrate.specs.Pages.{Pages, pages_in, pages_from, first_page, zones_under}
use Rattle.migrate.specs.Used.{zones_of_all}

-- Number z is a copy of the number of a key, in the zones from e on, whose bytes are d's. A hole stays one. A page lies at e. A block lies
-- behind all that it leads to; each of its numbers is a copy, in the zones behind those of the numbers before.
abbrev pub IsCopy : Pages → (ℕ → ℕ → ℕ) → ℕ → ℕ → ℕ → ℕ → Type 0
IsCopy s d zero e k z = (s.some k ≡ false → z ≡ 0) × (s.some k ≡ true → (z ≡ e) × ((o : ℕ) → o < 1024 → d e o ≡ s.byte k o))
IsCopy s d (suc l) e k z = (s.some k ≡ false → z ≡ 0)
    × (s.some k ≡ true → (z ≡ e + sum_below (λ j. zones_under s l (s.below l k j)) 256)
    × ((j : ℕ) → j < 256 → IsCopy s d l (e + sum_below (λ i. zones_under s l (s.below l k i)) j) (s.below l k j) (u32_in (d z) (4 * j))))

-- two inodes agree but for their sizes and zones
pub record SameAttributes (x y : Inode) : Type 0 where
  pub mode : x.mode ≡ y.mode
  pub links : x.links ≡ y.links
  pub uid : x.uid ≡ y.uid
  pub gid : x.gid ≡ y.gid
  pub atime : x.atime ≡ y.atime
  pub mtime : x.mtime ≡ y.mtime
  pub ctime : x.ctime ≡ y.ctime

-- An inode as it is moved: its attributes stay, its size is given, and its ten numbers are copies, one behind the other, from zone e on.
pub record IsMoved (s : Pages) (keys : ℕ → ℕ) (bytes : ℕ) (d : ℕ → ℕ → ℕ) (e : ℕ) (x y : Inode) : Type 0 where
  pub attributes : SameAttributes x y
  pub size : y.size ≡ bytes
  pub copied : (r : ℕ) → r < 10 → IsCopy s d (level_of r) (e + sum_below (λ q. zones_under s (level_of q) (keys q)) r) (keys r) (slot y r)

-- how many of a directory's first entries aren't free
abbrev pub kept_of : (ℕ → ℕ) → ℕ → ℕ
kept_of f e = count_below (λ d. not (is_dropped version_2 f d)) e

-- the bytes are a directory's entries in their order, without the free ones, each in the 64 bytes of version 3
pub record AreEntries (f : ℕ → ℕ) (count : ℕ) (bytes : List ℕ) : Type 0 where
  pub size : length bytes ≡ 64 * kept_of f count
  pub each : (e : ℕ) → e < count → is_dropped version_2 f e ≡ false → IsWidened version_2 f e (take 64 (drop (64 * kept_of f e) bytes))

-- a directory's inode as it is moved: its pages hold its entries
pub record IsMovedDirectory (g : Geometry) (v : Pieces) (d : ℕ → ℕ → ℕ) (e : ℕ) (x y : Inode) : Type 0 where
  pub bytes : List ℕ
  pub entries : AreEntries (file_byte g v x) (entry_count_of version_2 x) bytes
  pub moved : IsMoved (pages_from bytes) first_page (length bytes) d e x y

-- a node's inode as it is moved
pub record IsMovedNode (g : Geometry) (v : Pieces) (d : ℕ → ℕ → ℕ) (e : ℕ) (x y : Inode) : Type 0 where
  pub directory : is_directory_mode x.mode ≡ true → IsMovedDirectory g v d e x y
  pub other : is_directory_mode x.mode ≡ false → IsMoved (pages_in v) (slot x) x.size d e x y

-- where the zones of node n of the old volume begin in the new one: behind those of the nodes before it
abbrev pub zones_begin : Geometry → Pieces → Geometry → ℕ → ℕ
zones_begin g v h n = h.first_zone + sum_below (λ m. zones_of g (nodes_of version_2 g v m)) n

-- The pieces of the new volume. The old one's inodes are marked, and moved, the zones of one node behind those of the other; the zones that
-- they take are marked. All else is zeros.
pub record IsWritten (g : Geometry) (v : Pieces) (h : Geometry) (w : Pieces) : Type 0 where
  pub inode_map : (n : ℕ) → n ≤ h.inodes → w.inode_map n ≡ ((n == 0) || is_marked g v n)
  pub zone_map : (k : ℕ) → k ≤ data_zones h → w.zone_map k ≡ nat_le k (zones_of_all g (nodes_of version_2 g v))
  pub nodes : (n : ℕ) → is_marked g v n ≡ true → IsMovedNode g v w.zones (zones_begin g v h n) (v.inodes n) (w.inodes n)
  pub blank_inodes : (n : ℕ) → 1 ≤ n → n ≤ h.inodes → is_marked g v n ≡ false → w.inodes n ≡ inode_in (λ p. 0) 0
  pub blank_zones : (z o : ℕ) → zones_begin g v h (g.inodes + 1) ≤ z → w.zones z o ≡ 0

-- the new image: it has all its blocks, is read as a volume of these sizes, and has these pieces
pub record IsWrittenImage (g : Geometry) (v : Pieces) (h : Geometry) (image : List ℕ) : Type 0 where
  pub whole : length image ≡ 1024 * h.zones
  pub parsed : geometry_of image ≡ Ok h
  pub pieces : IsWritten g v h (pieces h (disk_of h image))
