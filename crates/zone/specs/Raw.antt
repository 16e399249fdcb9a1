-- The same steps as changes of the pieces: what a bitmap, a block and an inode table would say of themselves.
use Rattle.std.specs.Prelude.{◌≡◌, ◌≢◌, ℕ, suc, ◌+◌, ◌<◌, ◌≤◌, Bool, true, false, ◌&&◌, ◌==◌, nat_lt, ◌/◌, ◌%◌, if◌then◌else◌, IsTrue}
use Rattle.layout.specs.declared.Geometry.{Geometry}
use Rattle.layout.specs.Places.{IsGeometry}
use Rattle.lemmas.specs.Sums.{put}
use Rattle.tree.specs.Tree.{File}
use Rattle.tree.specs.Space.{pages_of}
use Rattle.volume.specs.Reading.{is_data_zone}
use Rattle.volume.specs.Pieces.{Pieces}
use Rattle.volume.specs.Nodes.{word, slot, page_zone, file_of, is_marked, is_mode}
use Rattle.volume.specs.Places.{zone_at}
use Rattle.volume.specs.Entries.{is_directory_inode}
use Rattle.volume.specs.Holds.{ZonesAgree, IsSoundDirectory}
use Rattle.zone.specs.ZoneSteps.{first_places, slot_of, above, beside, bit_of, IsBare, Links, Unlinks, IsSoundBut}

-- slot s of inode n becomes x, and no other inode and no other field changes
pub record SetsInode (v w : Pieces) (n s x : ℕ) : Type 0 where
  pub others : (m : ℕ) → m ≢ n → w.inodes m ≡ v.inodes m
  pub attributes : w.inodes n ≡ record (v.inodes n) { zones = (w.inodes n).zones }
  pub here : slot (w.inodes n) s ≡ x
  pub slots : (t : ℕ) → t ≢ s → slot (w.inodes n) t ≡ slot (v.inodes n) t

-- number j of zone y becomes x, and no other number of it changes
pub record SetsBlock (v w : Pieces) (y j x : ℕ) : Type 0 where
  pub here : word w y j ≡ x
  pub words : (t : ℕ) → t ≢ j → word w y t ≡ word v y t

-- a free data zone is marked
pub record Takes (g : Geometry) (v w : Pieces) (z : ℕ) : Type 0 where
  pub data_zone : IsTrue (is_data_zone g z)
  pub free : v.zone_map (bit_of g z) ≡ false
  pub map : w.zone_map ≡ put v.zone_map (bit_of g z) true
  pub zeros : (o : ℕ) → w.zones z o ≡ 0

-- a zone is marked, filled with zeros, and stands in a slot that held none
pub record FillsSlot (g : Geometry) (v w : Pieces) (n l k z : ℕ) : Type 0 where
  pub marked : IsTrue (is_marked g v n)
  pub level : l < 4
  pub place : k < first_places l
  pub was : zone_at g v (v.inodes n) l k ≡ 0
  pub takes : Takes g v w z
  pub marks : w.inode_map ≡ v.inode_map
  pub number : SetsInode v w n (slot_of l k) z
  pub zones : (y : ℕ) → y ≢ z → w.zones y ≡ v.zones y

-- or in a block
pub record FillsWord (g : Geometry) (v w : Pieces) (n l k z : ℕ) : Type 0 where
  pub marked : IsTrue (is_marked g v n)
  pub level : l < 3
  pub place : first_places l ≤ k
  pub block : zone_at g v (v.inodes n) (suc l) (above g l k) ≢ 0
  pub was : zone_at g v (v.inodes n) l k ≡ 0
  pub takes : Takes g v w z
  pub marks : w.inode_map ≡ v.inode_map
  pub inodes : w.inodes ≡ v.inodes
  pub number : SetsBlock v w (zone_at g v (v.inodes n) (suc l) (above g l k)) (beside g l k) z
  pub zones : (y : ℕ) → y ≢ z → y ≢ zone_at g v (v.inodes n) (suc l) (above g l k) → w.zones y ≡ v.zones y

-- a slot becomes 0, and its zone's bit is cleared
pub record ClearsSlot (g : Geometry) (v w : Pieces) (n l k z : ℕ) : Type 0 where
  pub marked : IsTrue (is_marked g v n)
  pub level : l < 4
  pub place : k < first_places l
  pub some : z ≢ 0
  pub was : zone_at g v (v.inodes n) l k ≡ z
  pub bare : 0 < l → IsBare g v z
  pub map : w.zone_map ≡ put v.zone_map (bit_of g z) false
  pub marks : w.inode_map ≡ v.inode_map
  pub number : SetsInode v w n (slot_of l k) 0
  pub zones : w.zones ≡ v.zones

-- or a number of a block
pub record ClearsWord (g : Geometry) (v w : Pieces) (n l k z : ℕ) : Type 0 where
  pub marked : IsTrue (is_marked g v n)
  pub level : l < 3
  pub place : first_places l ≤ k
  pub block : zone_at g v (v.inodes n) (suc l) (above g l k) ≢ 0
  pub some : z ≢ 0
  pub was : zone_at g v (v.inodes n) l k ≡ z
  pub bare : 0 < l → IsBare g v z
  pub map : w.zone_map ≡ put v.zone_map (bit_of g z) false
  pub marks : w.inode_map ≡ v.inode_map
  pub inodes : w.inodes ≡ v.inodes
  pub number : SetsBlock v w (zone_at g v (v.inodes n) (suc l) (above g l k)) (beside g l k) 0
  pub zones : (y : ℕ) → y ≢ zone_at g v (v.inodes n) (suc l) (above g l k) → w.zones y ≡ v.zones y

abbrev pub FilledSlotLinks : Type 0
FilledSlotLinks = (g : Geometry) (v w : Pieces) (n l k z : ℕ) → IsGeometry g → ZonesAgree g v → FillsSlot g v w n l k z → Links g v w n l k z

abbrev pub FilledWordLinks : Type 0
FilledWordLinks = (g : Geometry) (v w : Pieces) (n l k z : ℕ) → IsGeometry g → ZonesAgree g v → FillsWord g v w n l k z → Links g v w n l k z

abbrev pub ClearedSlotUnlinks : Type 0
ClearedSlotUnlinks = (g : Geometry) (v w : Pieces) (n l k z : ℕ) → IsGeometry g → ZonesAgree g v → ClearsSlot g v w n l k z → Unlinks g v w n l k z

abbrev pub ClearedWordUnlinks : Type 0
ClearedWordUnlinks = (g : Geometry) (v w : Pieces) (n l k z : ℕ) → IsGeometry g → ZonesAgree g v → ClearsWord g v w n l k z → Unlinks g v w n l k z

-- No number changes: bytes of pages may, and all of the inodes but their numbers.
pub record KeepsNumbers (g : Geometry) (v w : Pieces) : Type 0 where
  pub marks : w.inode_map ≡ v.inode_map
  pub map : w.zone_map ≡ v.zone_map
  pub slots : (m s : ℕ) → slot (w.inodes m) s ≡ slot (v.inodes m) s
  pub blocks : (m a i j : ℕ) → IsTrue (is_marked g v m) → 0 < a → zone_at g v (v.inodes m) a i ≢ 0 → word w (zone_at g v (v.inodes m) a i) j ≡ word v (zone_at g v (v.inodes m) a i) j

-- then no place changes
abbrev pub PlacesStay : Type 0
PlacesStay = (g : Geometry) (v w : Pieces) (m a i : ℕ) → IsGeometry g → KeepsNumbers g v w → IsTrue (is_marked g v m) → zone_at g w (w.inodes m) a i ≡ zone_at g v (v.inodes m) a i

-- and the rules hold, where those that are not of zones do
abbrev pub NumbersKeep : Type 0
NumbersKeep = (g : Geometry) (v w : Pieces) (n l k : ℕ) → IsGeometry g → KeepsNumbers g v w
    → ((m : ℕ) → IsTrue (is_marked g v m) → IsTrue (is_mode (w.inodes m).mode))
    → ((m p : ℕ) → IsTrue (is_marked g v m) → page_zone g v (v.inodes m) p ≢ 0 → p < pages_of g (w.inodes m).size)
    → ((m : ℕ) → IsTrue (is_directory_inode g w m) → m ≢ n → IsTrue (is_directory_inode g v m) × (file_of g w (w.inodes m) ≡ file_of g v (v.inodes m)))
    → IsSoundBut g v n l k → IsSoundBut g w n l k

-- the bytes of one page's zone change, and nothing else
pub record Writes (g : Geometry) (v w : Pieces) (n p : ℕ) : Type 0 where
  pub marked : IsTrue (is_marked g v n)
  pub held : page_zone g v (v.inodes n) p ≢ 0
  pub marks : w.inode_map ≡ v.inode_map
  pub map : w.zone_map ≡ v.zone_map
  pub inodes : w.inodes ≡ v.inodes
  pub zones : (y : ℕ) → y ≢ page_zone g v (v.inodes n) p → w.zones y ≡ v.zones y

-- the file with these bytes on page p, up to its size
abbrev pub with_bytes : ℕ → File → ℕ → (ℕ → ℕ) → File
with_bytes width f p row = record f { byte = λ q. if nat_lt q f.size && (q / width == p) then row (q % width) else f.byte q }

abbrev pub WriteKeepsNumbers : Type 0
WriteKeepsNumbers = (g : Geometry) (v w : Pieces) (n p : ℕ) → IsGeometry g → ZonesAgree g v → Writes g v w n p → KeepsNumbers g v w

abbrev pub WrittenFile : Type 0
WrittenFile = (g : Geometry) (v w : Pieces) (n p : ℕ) → IsGeometry g → ZonesAgree g v → Writes g v w n p
    → file_of g w (w.inodes n) ≡ with_bytes g.block_size (file_of g v (v.inodes n)) p (w.zones (page_zone g v (v.inodes n) p))

abbrev pub WriteKeepsFiles : Type 0
WriteKeepsFiles = (g : Geometry) (v w : Pieces) (n p m : ℕ) → IsGeometry g → ZonesAgree g v → Writes g v w n p
    → IsTrue (is_marked g v m) → m ≢ n → file_of g w (w.inodes m) ≡ file_of g v (v.inodes m)

abbrev pub WriteKeeps : Type 0
WriteKeeps = (g : Geometry) (v w : Pieces) (n p l k : ℕ) → IsGeometry g → Writes g v w n p → IsSoundBut g v n l k → IsSoundBut g w n l k

-- the attributes of one inode change, its size among them, and nothing else
pub record Resizes (g : Geometry) (v w : Pieces) (n : ℕ) : Type 0 where
  pub marked : IsTrue (is_marked g v n)
  pub marks : w.inode_map ≡ v.inode_map
  pub map : w.zone_map ≡ v.zone_map
  pub zones : w.zones ≡ v.zones
  pub others : (m : ℕ) → m ≢ n → w.inodes m ≡ v.inodes m
  pub slots : (w.inodes n).zones ≡ (v.inodes n).zones
  pub mode : IsTrue (is_mode (w.inodes n).mode)
  pub inside : (p : ℕ) → page_zone g v (v.inodes n) p ≢ 0 → p < pages_of g (w.inodes n).size

-- Each byte below both sizes stays, those past the old one are what the zones hold: 0 where the last page is so padded.
abbrev pub ResizedFile : Type 0
ResizedFile = (g : Geometry) (v w : Pieces) (n : ℕ) → IsGeometry g → Resizes g v w n
    → ((q : ℕ) → (v.inodes n).size ≤ q → page_zone g v (v.inodes n) (q / g.block_size) ≢ 0 → v.zones (page_zone g v (v.inodes n) (q / g.block_size)) (q % g.block_size) ≡ 0)
    → file_of g w (w.inodes n) ≡ (let f = file_of g v (v.inodes n) in record f { size = (w.inodes n).size; byte = λ q. if nat_lt q (w.inodes n).size then f.byte q else 0 })

abbrev pub ResizeKeeps : Type 0
ResizeKeeps = (g : Geometry) (v w : Pieces) (n l k : ℕ) → IsGeometry g → Resizes g v w n → IsSoundBut g v n l k → IsSoundBut g w n l k
