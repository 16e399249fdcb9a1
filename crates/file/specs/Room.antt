-- Whether there are zones enough for a write, and for something else beside.
use Rattle.std.specs.Prelude.{◌≡◌, ◌↔◌, ◌≤◌, ℕ, ◌+◌, List, length, Bool, true}
use Rattle.layout.specs.declared.Geometry.{Geometry}
use Rattle.tree.specs.ZonesNeeded.{zones_needed}
use Rattle.tree.specs.Space.{numbers_in_zone, data_zones}
use Rattle.volume.specs.Pieces.{Pieces}
use Rattle.zone.specs.ZoneSteps.{marked_in}
use Rattle.file.specs.PageChanges.{MayChange, file_at}
use Rattle.file.specs.Changing.{written_at, HasZonesFor}

-- The file of inode n takes x zones more when so many bytes are written from a place on.
abbrev pub TakesMore : Geometry → Pieces → ℕ → ℕ → ℕ → ℕ → Type 0
TakesMore g v n at count x = MayChange g v n → (bytes : List ℕ) → length bytes ≡ count
    → zones_needed (numbers_in_zone g) (written_at g v n at bytes).held ≡ zones_needed (numbers_in_zone g) (file_at g v n).held + x

-- there are zones enough for the file of inode n to hold these pages, and others beside
abbrev pub HasZonesBeside : Geometry → Pieces → ℕ → ℕ → (ℕ → Bool) → Type 0
HasZonesBeside g v n others held =
    marked_in g v + zones_needed (numbers_in_zone g) held + others ≤ data_zones g + zones_needed (numbers_in_zone g) (file_at g v n).held

-- the answer to whether there are zones enough for so many bytes from a place on
abbrev pub IsRoom : Geometry → Pieces → ℕ → ℕ → ℕ → Bool → Type 0
IsRoom g v n at count x = MayChange g v n
    → (bytes : List ℕ) → length bytes ≡ count → (x ≡ true) ↔ HasZonesFor g v n (written_at g v n at bytes).held

-- the answer to whether there are zones enough for them and others beside
abbrev pub IsRoomBeside : Geometry → Pieces → ℕ → ℕ → ℕ → ℕ → Bool → Type 0
IsRoomBeside g v n at count others x = MayChange g v n
    → (bytes : List ℕ) → length bytes ≡ count → (x ≡ true) ↔ HasZonesBeside g v n others (written_at g v n at bytes).held
