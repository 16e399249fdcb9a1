-- The places of a volume that name zones, and how often a zone is named.
use Rattle.std.specs.Prelude.{◌≡◌, ℕ, zero, suc, ◌+◌, ◌-◌, Bool, not, ◌&&◌, ◌||◌, ◌==◌, if◌then◌else◌, IsTrue}
use Rattle.layout.specs.declared.Geometry.{Geometry}
use Rattle.volume.specs.declared.Inode.{Inode}
use Rattle.lemmas.specs.Sums.{sum_below, count_below, some_below}
use Rattle.tree.specs.Space.{numbers_in_zone}
use Rattle.volume.specs.Pieces.{Pieces}
use Rattle.volume.specs.Nodes.{word, slot, second_block, last_block, zone_of, is_marked}

-- The number that stands at each place of an inode. At level 0 place k is page k; at level 1 it is indirect block k of those
-- that name pages; at level 2 block k of those that name such blocks; at level 3 place 0 is the triple's.
abbrev pub zone_at : Geometry → Pieces → Inode → ℕ → ℕ → ℕ
zone_at g v i zero k = zone_of (numbers_in_zone g) v i k
zone_at g v i (suc zero) k = last_block (numbers_in_zone g) v i k
zone_at g v i (suc (suc zero)) k = second_block (numbers_in_zone g) v i k
zone_at g v i (suc (suc (suc l))) k = if (l == 0) && (k == 0) then slot i 9 else 0

-- a place of a marked inode at which number z stands
pub record Use (g : Geometry) (v : Pieces) (z : ℕ) : Type 0 where
  pub inode : ℕ
  pub level : ℕ
  pub index : ℕ
  pub marked : IsTrue (is_marked g v inode)
  pub names : zone_at g v (v.inodes inode) level index ≡ z

-- the two places are one
pub record IsSamePlace {g : Geometry} {v : Pieces} {z : ℕ} (a b : Use g v z) : Type 0 where
  pub inode : a.inode ≡ b.inode
  pub level : a.level ≡ b.level
  pub index : a.index ≡ b.index

-- some number but 0 stands in indirect zone z
abbrev pub has_number : Geometry → Pieces → ℕ → Bool
has_number g v z = some_below (λ j. not (word v z j == 0)) (numbers_in_zone g)

-- The count of the check, which enters each indirect zone once a level, in one walk for all inodes.

-- number z stands in slot s of a marked inode
abbrev pub is_in_slot : Geometry → Pieces → ℕ → ℕ → Bool
is_in_slot g v s z = some_below (λ n. is_marked g v n && (slot (v.inodes n) s == z)) (g.inodes + 1)

-- zone z is entered k levels below the triple's: it stands in slot 9 - k, or in a zone that is entered one level above
abbrev pub is_entered : Geometry → Pieces → ℕ → ℕ → Bool
is_entered g v zero z = not (z == 0) && is_in_slot g v 9 z
is_entered g v (suc k) z =
    not (z == 0) && (is_in_slot g v (8 - k) z
    || some_below (λ above. is_entered g v k above && some_below (λ j. word v above j == z) (numbers_in_zone g)) g.zones)

-- how often number z stands in the marked inodes
abbrev pub uses_in_inodes : Geometry → Pieces → ℕ → ℕ
uses_in_inodes g v z = sum_below (λ n. if is_marked g v n then count_below (λ s. slot (v.inodes n) s == z) 10 else 0) (g.inodes + 1)

-- how often number z stands in the zones that are entered k levels below the triple's
abbrev pub uses_in_zones : Geometry → Pieces → ℕ → ℕ → ℕ
uses_in_zones g v z k = sum_below (λ above. if is_entered g v k above then count_below (λ j. word v above j == z) (numbers_in_zone g) else 0) g.zones

-- how many uses zone z has
abbrev pub uses : Geometry → Pieces → ℕ → ℕ
uses g v z = uses_in_inodes g v z + sum_below (uses_in_zones g v z) 3
