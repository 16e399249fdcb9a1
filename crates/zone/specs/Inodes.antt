-- An inode is marked or freed, and a word is four bytes.
use Rattle.std.specs.Prelude.{◌≡◌, ◌≢◌, ◌⊎◌, ℕ, ◌+◌, ◌*◌, ◌<◌, ◌≤◌, IsTrue}
use Rattle.layout.specs.declared.Geometry.{Geometry}
use Rattle.layout.specs.Places.{IsGeometry}
use Rattle.lemmas.specs.Sums.{put}
use Rattle.volume.specs.Reading.{u32_in}
use Rattle.volume.specs.Pieces.{Pieces}
use Rattle.volume.specs.Nodes.{slot, is_marked, is_mode, nodes_of}
use Rattle.volume.specs.Places.{zone_at}
use Rattle.zone.specs.ZoneSteps.{IsSoundBut}
use Rattle.zone.specs.Raw.{SetsBlock}

-- The mark of inode n and its attributes change, no zone stands at its places before or after, and nothing else changes.
pub record ChangesInode (g : Geometry) (v w : Pieces) (n : ℕ) : Type 0 where
  pub some : n ≢ 0
  pub marks : (m : ℕ) → m ≢ n → w.inode_map m ≡ v.inode_map m
  pub map : w.zone_map ≡ v.zone_map
  pub zones : w.zones ≡ v.zones
  pub others : (m : ℕ) → m ≢ n → w.inodes m ≡ v.inodes m
  pub before : IsTrue (is_marked g v n) → (a i : ℕ) → zone_at g v (v.inodes n) a i ≡ 0
  pub after : IsTrue (is_marked g w n) → (a i : ℕ) → zone_at g w (w.inodes n) a i ≡ 0
  pub mode : IsTrue (is_marked g w n) → IsTrue (is_mode (w.inodes n).mode)

abbrev pub ChangeKeeps : Type 0
ChangeKeeps = (g : Geometry) (v w : Pieces) (n k : ℕ) → IsGeometry g → ChangesInode g v w n → IsSoundBut g v n 0 k → IsSoundBut g w n 0 k

abbrev pub ChangedNodes : Type 0
ChangedNodes = (g : Geometry) (v w : Pieces) (n : ℕ) → ChangesInode g v w n → nodes_of g w ≡ put (nodes_of g v) n (nodes_of g w n)

-- an inode whose ten numbers are 0 has no zone at any place
abbrev pub NoSlotsNoPlaces : Type 0
NoSlotsNoPlaces = (g : Geometry) (v : Pieces) (n : ℕ) → IsGeometry g → ((s : ℕ) → s < 10 → slot (v.inodes n) s ≡ 0) → (a i : ℕ) → zone_at g v (v.inodes n) a i ≡ 0

-- where the four bytes of a number change, the other numbers of the zone don't
abbrev pub FourBytes : Type 0
FourBytes = (v w : Pieces) (y j x : ℕ) → ((o : ℕ) → (o < 4 * j) ⊎ (4 * j + 4 ≤ o) → w.zones y o ≡ v.zones y o) → u32_in (w.zones y) (4 * j) ≡ x → SetsBlock v w y j x
