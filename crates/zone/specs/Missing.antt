-- How many zones one page more takes.
use Rattle.std.specs.Prelude.{◌≡◌, ℕ, zero, suc, ◌+◌, ◌*◌, ◌<◌, ◌≤◌, Bool, true, not, ◌==◌, nat_lt, if◌then◌else◌, IsTrue}
use Rattle.layout.specs.declared.Geometry.{Geometry}
use Rattle.layout.specs.Places.{IsGeometry}
use Rattle.lemmas.specs.Sums.{put, one_if, count_below, some_below}
use Rattle.tree.specs.ZonesNeeded.{page_limit, zones_needed}
use Rattle.tree.specs.Space.{numbers_in_zone}
use Rattle.volume.specs.Pieces.{Pieces}
use Rattle.volume.specs.Nodes.{page_zone, file_of, is_marked}
use Rattle.volume.specs.Places.{zone_at}
use Rattle.volume.proofs.Bridge.{limit_at}
use Rattle.zone.specs.ZoneSteps.{first_places, above, IsSoundBut}

-- how many of the places are holes on the way up from a place to the inode, over so many levels at most
unfoldable pub missing : Geometry → Pieces → ℕ → ℕ → ℕ → ℕ → ℕ
missing g v n zero l k = 0
missing g v n (suc t) l k = one_if (zone_at g v (v.inodes n) l k == 0) + (if nat_lt k (first_places l) then 0 else missing g v n t (suc l) (above g l k))

-- those are the zones that the page takes
abbrev pub PageTakesMissing : Type 0
PageTakesMissing = (g : Geometry) (v : Pieces) (n p j : ℕ) → IsGeometry g → IsSoundBut g v n 0 j → IsTrue (is_marked g v n) → p < page_limit (numbers_in_zone g)
    → zones_needed (numbers_in_zone g) (put (file_of g v (v.inodes n)).held p true) ≡ zones_needed (numbers_in_zone g) (file_of g v (v.inodes n)).held + missing g v n 4 0 p

-- one of the places that block k, one level above, names passes the test
abbrev pub group : Geometry → ℕ → (ℕ → Bool) → ℕ → Bool
group g l f k = some_below (λ j. f (first_places l + (k * numbers_in_zone g + j))) (numbers_in_zone g)

-- the zones of a level and of so many above it, where those places of the level have one that pass the test, and the blocks over them
unfoldable pub needed_from : Geometry → ℕ → ℕ → (ℕ → Bool) → ℕ
needed_from g zero l f = 0
needed_from g (suc t) l f = count_below f (limit_at (numbers_in_zone g) t) + needed_from g t (suc l) (group g l f)
