-- The units of an image in a file, and an image that is read through a log.
use Rattle.std.specs.Prelude.{◌≡◌, ℕ, ◌-◌, ◌*◌, List, length, map, take, Some, nat_lt, if◌then◌else◌, false}
use Rattle.stable.specs.Disk.{Contents, Changes, Disk}
use Rattle.changes.specs.Units.{padded, unit_of, units_in}
use Rattle.redo.specs.Record.{recovered}

-- the changes that put these units of an image
abbrev pub units_of : List ℕ → List ℕ → Changes
units_of image numbers = map (λ n. (n, unit_of image n)) numbers

-- these contents, with so many units of an image in front
abbrev pub with_units : ℕ → List ℕ → Contents → Contents
with_units count image c n = if nat_lt n count then unit_of image n else c n

-- these contents, with an image in front
abbrev pub with_image : List ℕ → Contents → Contents
with_image image c = with_units (units_in image) image c

-- nothing asked of the image file has failed
abbrev pub IsImageSound : Disk → Type 0
IsImageSound d = d.image.failed ≡ false

-- the same, and this is what it shows
pub record ShowsImage (image : ℕ → List ℕ) (d : Disk) : Type 0 where
  pub sound : d.image.failed ≡ false
  pub shows : (n : ℕ) → d.image.shows n ≡ image n

-- of these bytes of unit n those that lie in an image of so many bytes, and zeros behind them
abbrev pub within : ℕ → ℕ → List ℕ → List ℕ
within size n bytes = padded (take (size - 4096 * n) bytes)

-- An image is as long as another one, and is what a recovery of this log makes of that, as far as the image goes.
pub record IsReadThrough (name : ℕ) (log : ℕ → List ℕ) (old new : List ℕ) : Type 0 where
  pub found : ℕ → List ℕ
  pub found_is : recovered name log (unit_of old) ≡ Some found
  pub size : length new ≡ length old
  pub units : (n : ℕ) → unit_of new n ≡ within (length old) n (found n)
