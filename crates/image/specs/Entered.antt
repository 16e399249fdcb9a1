-- The indirect zones that are entered, each once a level, and what is known of them.
use Rattle.std.specs.Prelude.{◌≡◌, ◌≢◌, ◌<◌, ℕ, suc, ◌+◌, ◌-◌, ◌*◌, List, length, slice_index_or, Bool, true, false, ◌==◌, nat_lt, if◌then◌else◌}
use Rattle.tree.specs.Space.{numbers_in_zone}
use Rattle.volume.specs.Reading.{is_data_zone}
use Rattle.volume.specs.Nodes.{word, slot, is_marked}
use Rattle.volume.specs.Places.{zone_at, is_entered}
use Rattle.volume.specs.Findings.{is_bad_zone}
use Rattle.image.specs.declared.Image.{Image}
use Rattle.image.specs.Contents.{contents}

-- zone z is entered at a level: the rows of all levels stand one behind the other, each with an answer for each zone
abbrev pub is_in : Image → List Bool → ℕ → ℕ → Bool
is_in i entered level z = slice_index_or entered (level * i.geometry.zones + z) false

-- the zones that are entered stay so
abbrev pub Keeps : List Bool → List Bool → Type 0
Keeps old new = (k : ℕ) → slice_index_or old k false ≡ true → slice_index_or new k false ≡ true

-- the level at which the zone of a slot stands: a page, or one of the three kinds of blocks
abbrev pub level_of : ℕ → ℕ
level_of s = if nat_lt s 7 then 0 else s - 6

-- how many numbers of a zone at a level name zones
abbrev pub numbers_at : Image → ℕ → ℕ
numbers_at i level = if level == 0 then 0 else numbers_in_zone i.geometry

-- number z stands at that level in a marked inode
pub record IsNamed (i : Image) (level z : ℕ) : Type 0 where
  pub inode : ℕ
  pub index : ℕ
  pub marked : is_marked i.geometry (contents i) inode ≡ true
  pub names : zone_at i.geometry (contents i) ((contents i).inodes inode) level index ≡ z

-- the number is 0, or a data zone's that is entered at the level
abbrev pub IsFine : Image → List Bool → ℕ → ℕ → Type 0
IsFine i entered level z = z ≢ 0 → (is_data_zone i.geometry z ≡ true) × (is_in i entered level z ≡ true)

-- There is a row for each of four levels. Each zone that is entered is a data zone and named at its level, and what it names is entered below it.
pub record IsSwept (i : Image) (entered : List Bool) : Type 0 where
  pub size : length entered ≡ 4 * i.geometry.zones
  pub in_data : (level z : ℕ) → level < 4 → z < i.geometry.zones → is_in i entered level z ≡ true → is_data_zone i.geometry z ≡ true
  pub named : (level z : ℕ) → level < 4 → z < i.geometry.zones → is_in i entered level z ≡ true → IsNamed i level z
  pub closed : (level z j : ℕ) → level < 3 → z < i.geometry.zones → is_in i entered (suc level) z ≡ true → j < numbers_in_zone i.geometry
      → IsFine i entered level (word (contents i) z j)

-- the numbers in the inode itself are so
abbrev pub SlotsAreFine : Image → List Bool → ℕ → Type 0
SlotsAreFine i entered n = (s : ℕ) → s < 10 → IsFine i entered (level_of s) (slot ((contents i).inodes n) s)

-- at some place of inode n stands a number that is no data zone's
pub record HasBadPlace (i : Image) (n : ℕ) : Type 0 where
  pub level : ℕ
  pub index : ℕ
  pub low : level < 4
  pub bad : is_bad_zone i.geometry (contents i) (zone_at i.geometry (contents i) ((contents i).inodes n) level index) ≡ true

-- an inode with number z at that level has a bad one there or below
abbrev pub HasBadBelow : Image → ℕ → ℕ → Type 0
HasBadBelow i level z = (n k : ℕ) → zone_at i.geometry (contents i) ((contents i).inodes n) level k ≡ z → HasBadPlace i n

-- the zones that are entered are those of the definition, which counts from the triple's block down
abbrev pub AreEntered : Image → List Bool → Type 0
AreEntered i entered = (k z : ℕ) → k < 3 → z < i.geometry.zones → is_in i entered (3 - k) z ≡ is_entered i.geometry (contents i) k z
