-- Where the volume of a minor lies in an image, and what lies outside of it.
use Rattle.std.specs.Prelude.{◌≡◌, ℕ, ◌+◌, ◌*◌, ◌%◌, List, length, take, drop, not, ◌==◌, nat_lt, Option, Some, None, Result, Ok, Err}
use Rattle.std.specs.Prelude.{if◌then◌else◌}
use Rattle.media.specs.Contents.{sectors_of}
use Rattle.media.specs.declared.partition.place.PlaceRefusal.{PlaceRefusal}
use Rattle.media.specs.Places.{volume_place}

-- a range of sectors in bytes: its first, and how many
abbrev pub in_bytes : Result (ℕ × ℕ) PlaceRefusal → Option (ℕ × ℕ)
in_bytes (Ok range) = Some (512 * range.0, 512 * range.1)
in_bytes (Err refusal) = None

-- The volume of a minor in an image of whole sectors that makes media, in bytes.
abbrev pub place_in : List ℕ → ℕ → Option (ℕ × ℕ)
place_in image minor =
    if not (length image % 512 == 0) then None else
    if nat_lt 67108864 (length image) then None else
    in_bytes (volume_place (sectors_of image) minor)

-- the bytes at a place
abbrev pub bytes_at : ℕ × ℕ → List ℕ → List ℕ
bytes_at place image = take place.1 (drop place.0 image)

-- all bytes before the volume and behind it stay
pub record IsOutsideKept (place : ℕ × ℕ) (old new : List ℕ) : Type 0 where
  pub length : length new ≡ length old
  pub before : take place.0 new ≡ take place.0 old
  pub behind : drop (place.0 + place.1) new ≡ drop (place.0 + place.1) old
