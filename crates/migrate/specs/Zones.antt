-- The zones of a new volume, as they are taken.
use Rattle.std.specs.Prelude.{◌≡◌, ◌<◌, ℕ, ◌+◌, ◌*◌, ◌/◌, List, length, slice_index}
use Rattle.migrate.specs.Pages.{Pages, zones_under}
use Rattle.migrate.specs.Written.{IsCopy}

-- so many zones are taken, one behind the other; what was there stays, and so do the most bytes
pub record Takes (zones old_limit new_limit : ℕ) (old new : List ℕ) : Type 0 where
  pub limit : new_limit ≡ old_limit
  pub longer : length new ≡ length old + 1024 * zones
  pub kept : (p : ℕ) → p < length old → slice_index new p ≡ slice_index old p

-- the bytes of the zones of an image
abbrev pub zone_bytes : List ℕ → ℕ → ℕ → ℕ
zone_bytes image z o = slice_index image (1024 * z + o)

-- a block is taken as zone z
pub record IsAppended (block : List ℕ) (z old_limit new_limit : ℕ) (old new : List ℕ) : Type 0 where
  pub takes : Takes 1 old_limit new_limit old new
  pub at : z ≡ length old / 1024
  pub bytes : (o : ℕ) → o < 1024 → slice_index new (length old + o) ≡ slice_index block o

-- zones are taken for what stands at a key and below it, and number z is its copy in them
pub record IsTaken (s : Pages) (l k z old_limit new_limit : ℕ) (old new : List ℕ) : Type 0 where
  pub takes : Takes (zones_under s l k) old_limit new_limit old new
  pub copy : IsCopy s (zone_bytes new) l (length old / 1024) k z
