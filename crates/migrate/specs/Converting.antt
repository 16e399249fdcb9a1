-- What a conversion comes to.
use Rattle.std.specs.Prelude.{◌≡◌, ℕ, ◌+◌, List, ◌++◌, not, Option, Some, None, codes}
use Rattle.std.specs.Borrow.{Bor}
use Rattle.layout.specs.declared.Geometry.{Geometry}
use Rattle.lemmas.specs.Sums.{count_below}
use Rattle.tree.specs.Space.{data_zones}
use Rattle.volume.specs.Reading.{disk_of}
use Rattle.volume.specs.Pieces.{pieces}
use Rattle.migrate.specs.Migrated.{IsMigrated, IsRefused, refusal_text as migrate_text}
use Rattle.volume_commands.specs.Making.{line_text}
use Rattle.migrate.specs.declared.convert.ConvertRefusal.{ConvertRefusal}
use Rattle.migrate.specs.declared.convert.ConvertRefusal.TheVariants.{CannotRead, Migrate, NotWritten}

-- how many data zones of an image of this geometry aren't marked
abbrev pub unmarked_zones : Geometry → List ℕ → ℕ
unmarked_zones g image = count_below (λ k. not ((pieces g (disk_of g image)).zone_map (k + 1))) (data_zones g)

-- the line about a new volume: its first data zone, how many data zones it has and how many of them are free
abbrev pub converted_text : Geometry → List ℕ → List ℕ
converted_text g image = line_text g.first_zone (data_zones g) (unmarked_zones g image)

-- the text of a refusal
abbrev pub convert_text : ConvertRefusal → List ℕ
convert_text (CannotRead name) = codes "cannot read " ++ name.now
convert_text (Migrate refusal) = migrate_text refusal
convert_text NotWritten = codes "cannot write standard output"

-- the image is the old one's migration to so many blocks, and the line about it went out
pub record IsConverted (old : Option (Bor (List ℕ))) (blocks : ℕ) (image : List ℕ) (WentOut : List ℕ → Type 0) : Type 0 where
  pub bytes : Bor (List ℕ)
  pub file : old ≡ Some bytes
  pub migrated : IsMigrated bytes.now blocks image
  pub line : WentOut (converted_text migrated.geometry image)

-- a part of the line about the migration of the old image went out
pub record IsHalfTold (old : Option (Bor (List ℕ))) (blocks : ℕ) (Part : List ℕ → Type 0) : Type 0 where
  pub bytes : Bor (List ℕ)
  pub file : old ≡ Some bytes
  pub image : List ℕ
  pub migrated : IsMigrated bytes.now blocks image
  pub line : Part (converted_text migrated.geometry image)

-- The file can't be read, or the volume isn't migrated, and nothing went out; or a part of the line did.
abbrev pub IsUnconverted : Option (Bor (List ℕ)) → Bor (List ℕ) → ℕ → ConvertRefusal → Type 0 → (List ℕ → Type 0) → Type 0
IsUnconverted old name blocks (CannotRead unread) Nothing Part = (old ≡ None) × (unread ≡ name) × Nothing
IsUnconverted old name blocks (Migrate refusal) Nothing Part = (bytes : Bor (List ℕ)) × (old ≡ Some bytes)
    × IsRefused bytes.now blocks refusal × Nothing
IsUnconverted old name blocks NotWritten Nothing Part = IsHalfTold old blocks Part
