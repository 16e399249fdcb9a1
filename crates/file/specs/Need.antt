-- How many zones more a file takes when a row of its pages is held.
use Rattle.std.specs.Prelude.{◌≡◌, ℕ, ◌+◌, ◌-◌, Bool, not, ◌&&◌, ◌||◌, ◌==◌, nat_le, nat_lt}
use Rattle.layout.specs.declared.Geometry.{Geometry}
use Rattle.lemmas.specs.Sums.{count_below}
use Rattle.tree.specs.Space.{numbers_in_zone}
use Rattle.tree.specs.ZonesNeeded.{zones_needed}
use Rattle.volume.specs.declared.Inode.{Inode}
use Rattle.volume.specs.Pieces.{Pieces}
use Rattle.volume.specs.Nodes.{file_of}
use Rattle.volume.specs.Places.{zone_at}
use Rattle.zone.specs.Missing.{needed_from}
use Rattle.zone.specs.CutFiles.{IsFull}

-- a test, and the numbers from one up to another beside
abbrev pub or_from : (ℕ → Bool) → ℕ → ℕ → ℕ → Bool
or_from f from end k = f k || (nat_le from k && nat_lt k end)

-- a zone stands at the place
abbrev pub is_taken : Geometry → Pieces → Inode → ℕ → ℕ → Bool
is_taken g v i l k = not (zone_at g v i l k == 0)

-- how many of the places from one up to another are holes
abbrev pub holes : Geometry → Pieces → Inode → ℕ → ℕ → ℕ → ℕ
holes g v i l from end = count_below (λ k. not (is_taken g v i l (from + k))) (end - from)

-- x zones more are needed of a level and those above it, where these places have zones too
abbrev pub NeedsAt : Geometry → Pieces → Inode → ℕ → ℕ → ℕ → ℕ → Type 0
NeedsAt g v i l from end x = IsFull g v i
    → needed_from g (4 - l) l (or_from (is_taken g v i l) from end) ≡ needed_from g (4 - l) l (is_taken g v i l) + x

-- Where each indirect block has a number, the file needs x zones more when the pages from one up to another are held too.
abbrev pub NeedsMore : Geometry → Pieces → Inode → ℕ → ℕ → ℕ → Type 0
NeedsMore g v i from end x = IsFull g v i → let held = (file_of g v i).held in
    zones_needed (numbers_in_zone g) (or_from held from end) ≡ zones_needed (numbers_in_zone g) held + x
