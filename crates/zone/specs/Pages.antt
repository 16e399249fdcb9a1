-- What it takes to hold a place or to let one go, and what comes of it.
use Rattle.std.specs.Prelude.{◌≡◌, ◌≢◌, ℕ, zero, suc, ◌+◌, ◌*◌, ◌-◌, ◌<◌, ◌≤◌, IsTrue}
use Rattle.layout.specs.declared.Geometry.{Geometry}
use Rattle.layout.specs.Places.{IsGeometry}
use Rattle.tree.specs.ZonesNeeded.{page_limit}
use Rattle.tree.specs.Space.{numbers_in_zone, data_zones, pages_of}
use Rattle.volume.specs.Reading.{Disk}
use Rattle.volume.specs.Pieces.{Pieces, pieces}
use Rattle.volume.specs.Nodes.{is_marked}
use Rattle.volume.specs.Places.{zone_at}
use Rattle.zone.specs.ZoneSteps.{first_places, IsBare, IsSoundBut, marked_in}
use Rattle.zone.specs.Missing.{missing}
use Rattle.block_store.specs.Volume.{SameHead}
use Rattle.zone.specs.Composite.{Attached, Detached}

-- how many places a level has
abbrev pub place_count : Geometry → ℕ → ℕ
place_count g zero = page_limit (numbers_in_zone g)
place_count g (suc zero) = 1 + numbers_in_zone g + numbers_in_zone g * numbers_in_zone g
place_count g (suc (suc zero)) = 1 + numbers_in_zone g
place_count g (suc (suc (suc l))) = 1

-- the place of a level that number j of block k, one level above, names
abbrev pub child_at : Geometry → ℕ → ℕ → ℕ → ℕ
child_at g l k j = first_places l + (k * numbers_in_zone g + j)

-- A place of a marked inode, a page within the size, with zones enough for the holes on the way there.
pub record MayHold (g : Geometry) (v : Pieces) (n l k : ℕ) : Type 0 where
  pub geometry : IsGeometry g
  pub marked : IsTrue (is_marked g v n)
  pub level : l < 4
  pub place : k < place_count g l
  pub inside : l ≡ 0 → k < pages_of g (v.inodes n).size
  pub rules : IsSoundBut g v n 0 0
  pub room : marked_in g v + missing g v n (4 - l) l k ≤ data_zones g

-- Zone z stands at place k of level l of inode n, where it may be held.
pub record HoldsPlace (g : Geometry) (n l k z : ℕ) (d e : Disk) : Type 0 where
  pub head : SameHead d e
  pub attached : MayHold g (pieces g d) n l k → Attached g (pieces g d) (pieces g e) n l k
  pub names : MayHold g (pieces g d) n l k → zone_at g (pieces g e) ((pieces g e).inodes n) l k ≡ z

-- A place of a marked inode that has a zone, without a number if it is a block.
pub record MayRelease (g : Geometry) (v : Pieces) (n l k : ℕ) : Type 0 where
  pub geometry : IsGeometry g
  pub marked : IsTrue (is_marked g v n)
  pub level : l < 4
  pub place : k < place_count g l
  pub rules : IsSoundBut g v n l k
  pub some : zone_at g v (v.inodes n) l k ≢ 0
  pub bare : 0 < l → IsBare g v (zone_at g v (v.inodes n) l k)

-- The zone at place k of level l of inode n is let go, where it may be.
pub record Releases (g : Geometry) (n l k : ℕ) (d e : Disk) : Type 0 where
  pub head : SameHead d e
  pub detached : MayRelease g (pieces g d) n l k → Detached g (pieces g d) (pieces g e) n l k
