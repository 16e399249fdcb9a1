-- Which places of the inodes name which zones, over plain functions.
use Rattle.std.specs.Prelude.{◌≡◌, ℕ, zero, suc, ◌+◌, ◌-◌, ◌/◌, ◌%◌, Bool, true, not, ◌&&◌, ◌||◌, ◌==◌, nat_lt, if◌then◌else◌}
use Rattle.lemmas.specs.Sums.{sum_below, count_below, some_below}

-- The marked inodes below `inodes`, each with ten numbers; the zones below `zones`, each with `width` numbers.
pub record Naming : Type 0 where
  pub width : ℕ
  pub inodes : ℕ
  pub zones : ℕ
  pub marked : ℕ → Bool
  pub slot : ℕ → ℕ → ℕ
  pub word : ℕ → ℕ → ℕ

-- At height h + 1 this many places stand in the inode itself, in the slots from `front h` on.
abbrev pub room : ℕ → ℕ
room h = if h == 2 then 7 else 1

-- they begin at this slot
abbrev pub front : ℕ → ℕ
front h = if h == 2 then 0 else 8 - h

-- number j of a zone; 0 is a hole in which no number stands
abbrev pub named : Naming → ℕ → ℕ → ℕ
named m z j = if z == 0 then 0 else m.word z j

-- The zone that inode n names at place i of a height: 0 the triple's block, 1 and 2 the blocks below, 3 the pages.
unfoldable pub spot : Naming → ℕ → ℕ → ℕ → ℕ
spot m n zero i = if i == 0 then m.slot n 9 else 0
spot m n (suc h) i = if nat_lt i (room h) then m.slot n (front h + i) else named m (spot m n h ((i - room h) / m.width)) ((i - room h) % m.width)

-- the number stands in that slot of a marked inode
abbrev pub is_in_slot : Naming → ℕ → ℕ → Bool
is_in_slot m s z = some_below (λ n. m.marked n && (m.slot n s == z)) m.inodes

-- the zones that are entered at a height
unfoldable pub entered : Naming → ℕ → ℕ → Bool
entered m zero z = not (z == 0) && is_in_slot m 9 z
entered m (suc h) z = not (z == 0) && (is_in_slot m (8 - h) z || some_below (λ above. entered m h above && some_below (λ j. m.word above j == z) m.width) m.zones)

-- how often a number stands in marked inodes and in entered zones
abbrev pub uses : Naming → ℕ → ℕ
uses m z =
    sum_below (λ n. if m.marked n then count_below (λ s. m.slot n s == z) 10 else 0) m.inodes
    + sum_below (λ h. sum_below (λ above. if entered m h above then count_below (λ j. m.word above j == z) m.width else 0) m.zones) 3

-- a place of a marked inode that names the zone
pub record Place (m : Naming) (z : ℕ) : Type 0 where
  pub inode : ℕ
  pub height : ℕ
  pub index : ℕ
  pub most : nat_lt height 4 ≡ true
  pub marked : m.marked inode ≡ true
  pub names : spot m inode height index ≡ z
