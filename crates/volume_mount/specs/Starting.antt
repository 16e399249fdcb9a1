-- When a server starts on an image with some drivers, and when it is refused.
use Rattle.std.specs.Prelude.{◌≡◌, ◌≢◌, ◌≤◌, ℕ, ◌%◌, Bool, not, ◌==◌, ◌&&◌, nat_lt, true, List, [], length, Option, Some, None, Result, Ok, Err, if◌then◌else◌}
use Rattle.std.specs.List.{list_all}
use Rattle.std.specs.Option.{option_eq}
use Rattle.records.specs.Opening.{Opening, volume_bytes}
use Rattle.media.specs.Contents.{sectors_of}
use Rattle.media.specs.declared.MediaRefusal.TheVariants.{NotWholeSectors, TooLarge}
use Rattle.bdev.specs.DriverState.{DriverState, range_while_fresh}
use Rattle.media.specs.declared.partition.place.PlaceRefusal.{PlaceRefusal}
use Rattle.media.specs.Places.{volume_place}
use Rattle.reincarnate.specs.declared.policy.Setup.{Setup}
use Rattle.reincarnate.specs.Policy.{IsAllowed}
use Rattle.volume_mount.specs.StartupRefusals.{refusal_of_place}
use Rattle.volume_mount.specs.declared.refusal.StartRefusal.{StartRefusal}
use Rattle.volume_mount.specs.declared.refusal.StartRefusal.TheVariants.{Media, Partition, NoPartition, Mount, BadSetup, NoDriver, OutOfMemory}

-- the volume lies in these sectors of the media that hold the image, as this minor
abbrev pub opening_of : List ℕ → ℕ → ℕ × ℕ → Opening
opening_of image minor range = record { media = image; first = range.0; count = range.1; minor = minor }

-- the bytes of the volume in these sectors of the image
abbrev pub bytes_of : List ℕ → ℕ × ℕ → List ℕ
bytes_of image range = volume_bytes (record { first = range.0; count = range.1 }) image

-- a place, or the refusal to start
abbrev pub place_or : Result (ℕ × ℕ) PlaceRefusal → Result (ℕ × ℕ) StartRefusal
place_or (Ok range) = Ok range
place_or (Err refusal) = Err (refusal_of_place refusal)

-- where a volume lies: minor 0 is all of the media, and another one a partition
abbrev pub place_in : List (List ℕ) → ℕ → Result (ℕ × ℕ) StartRefusal
place_in sectors minor = place_or (volume_place sectors minor)

-- whether these sectors are those
abbrev pub is_same_range : Option (ℕ × ℕ) → Option (ℕ × ℕ) → Bool
is_same_range a b = option_eq (λ x y. (x.0 == y.0) && (x.1 == y.1)) a b

-- a driver that took nothing and didn't fail serves this range as this minor
abbrev pub is_ready_for : ℕ → ℕ × ℕ → DriverState → Bool
is_ready_for minor range d = is_same_range (range_while_fresh d minor) (Some range)

-- why an image makes no media
abbrev pub why_no_media : List ℕ → Option StartRefusal
why_no_media image =
    if not (length image % 512 == 0) then Some (Media NotWholeSectors) else
    if nat_lt 67108864 (length image) then Some (Media TooLarge) else None

-- a cache holds 16 to 4096 blocks, and the policy is an allowed one
abbrev pub IsInRanges : Setup → Type 0
IsInRanges setup = (16 ≤ setup.frames) × (setup.frames ≤ 4096) × IsAllowed setup.policy

-- the setup's numbers are in their ranges, and each driver serves the volume's range
abbrev pub IsWellSetUp : Setup → ℕ × ℕ → List DriverState → Type 0
IsWellSetUp setup range supply = IsInRanges setup × (list_all (is_ready_for setup.minor range) supply ≡ true)

-- why that isn't so, or no driver is there
abbrev pub IsNotSetUp : Setup → ℕ × ℕ → List DriverState → StartRefusal → Type 0
IsNotSetUp setup range supply BadSetup = ¬ (IsWellSetUp setup range supply)
IsNotSetUp setup range supply NoDriver = IsWellSetUp setup range supply × (supply ≡ [])
IsNotSetUp setup range supply _ = ⊥

-- the image makes media, and the volume lies in these sectors of them
abbrev pub HasPlace : List ℕ → ℕ → ℕ × ℕ → Type 0
HasPlace image minor range = (why_no_media image ≡ None) × (place_in (sectors_of image) minor ≡ Ok range)

-- why a server isn't started before its volume is looked at, the first reason that holds; for want of memory it may be refused wherever the
-- image makes media
abbrev pub IsRefused : List ℕ → Setup → List DriverState → StartRefusal → Type 0
IsRefused image setup supply (Media refusal) = why_no_media image ≡ Some (Media refusal)
IsRefused image setup supply (Partition refusal) = (why_no_media image ≡ None) × (place_in (sectors_of image) setup.minor ≡ Err (Partition refusal))
IsRefused image setup supply NoPartition = (why_no_media image ≡ None) × (place_in (sectors_of image) setup.minor ≡ Err NoPartition)
IsRefused image setup supply BadSetup = (range : ℕ × ℕ) × HasPlace image setup.minor range × IsNotSetUp setup range supply BadSetup
IsRefused image setup supply NoDriver = (range : ℕ × ℕ) × HasPlace image setup.minor range × IsNotSetUp setup range supply NoDriver
IsRefused image setup supply (Mount refusal) = ⊥
IsRefused image setup supply OutOfMemory = why_no_media image ≡ None

-- all stands ready: the volume lies in this range of the image, and there are drivers, all ready for it
pub record IsPrepared (image : List ℕ) (setup : Setup) (supply : List DriverState) (range : ℕ × ℕ) : Type 0 where
  pub place : HasPlace image setup.minor range
  pub set_up : IsWellSetUp setup range supply
  pub some : supply ≢ []
