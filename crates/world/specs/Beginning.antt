-- When a run is begun on an image, and when it is refused.
use Rattle.std.specs.Prelude.{◌≡◌, ℕ, List, [], Option, Some, None, Result, Ok, Err}
use Rattle.layout.specs.Places.{geometry_of}
use Rattle.layout.specs.declared.Geometry.{Geometry}
use Rattle.tree.specs.Tree.{Tree}
use Rattle.volume.specs.Verdict.{verdict_of, HoldsClosed}
use Rattle.volume.specs.Verdict as volume
use Rattle.media.specs.Contents.{sectors_of}
use Rattle.bdev.specs.DriverState.{DriverState}
use Rattle.media.specs.declared.partition.place.PlaceRefusal.{PlaceRefusal}
use Rattle.media.specs.Places.{volume_place}
use Rattle.reincarnate.specs.declared.policy.Setup.{Setup}
use Rattle.records.specs.Opening.{Range, volume_bytes, volume_in}
use Rattle.records.specs.Legal.{IsAtFirst}
use Rattle.schedule.specs.Refusals.{Start, Refusal, NoPlace, IsGoodSetup, IsRefusedFor, IsAccepted, media_refusal_of, start_of}
use Rattle.fsck.specs.declared.verdict.Clean.{Clean}
use Rattle.volume_mount.specs.declared.refusal.StartRefusal.{StartRefusal}
use Rattle.volume_mount.specs.declared.refusal.StartRefusal.TheVariants as start
use Rattle.world.specs.declared.run_refusal.RunRefusal.{RunRefusal}
use Rattle.world.specs.declared.run_refusal.RunRefusal.TheVariants.{Media, Partition, NotClean, BadSetup, NoDriver, OutOfMemory}
use Rattle.world.specs.Reasons.{no_place, reason_of}

-- first sector and count
abbrev pub range_of : ℕ × ℕ → Range
range_of range = record { first = range.0; count = range.1 }

-- where the volume of a minor lies, in the words of schedules
abbrev pub place_or_none : Result (ℕ × ℕ) PlaceRefusal → Result Range NoPlace
place_or_none (Ok range) = Ok (range_of range)
place_or_none (Err why) = Err (no_place why)

-- what a run on an image starts with
abbrev pub start_on : List ℕ → Setup → List DriverState → Start
start_on image setup supply = start_of image (place_or_none (volume_place (sectors_of image) setup.minor)) setup supply

-- it is refused for this reason, the first that holds; or for want of memory, which may be wherever the image makes media
abbrev pub IsRefusedBy : Start → Option Refusal → Type 0
IsRefusedBy start (Some reason) = IsRefusedFor start reason
IsRefusedBy start None = start.media ≡ None

-- no run is begun
abbrev pub IsNotBegun : List ℕ → Setup → List DriverState → RunRefusal → Type 0
IsNotBegun image setup supply refusal = IsRefusedBy (start_on image setup supply) (reason_of refusal)

-- An image on which a run is begun: nothing is refused, the volume in this range is clean and of these sizes, and it holds this tree, in which
-- no file is open.
pub record IsBegun (image : List ℕ) (setup : Setup) (supply : List DriverState) (range : Range) (g : Geometry) (tree : Tree) : Type 0 where
  pub accepted : IsAccepted (start_on image setup supply) range
  pub parsed : geometry_of (volume_bytes range image) ≡ Ok g
  pub at_first : IsAtFirst g (volume_in range image) tree

-- why an image makes no media; or want of memory for them
abbrev pub IsNoMedia : List ℕ → RunRefusal → Type 0
IsNoMedia image (Media refusal) = media_refusal_of image ≡ Some refusal
IsNoMedia image OutOfMemory = media_refusal_of image ≡ None
IsNoMedia image _ = ⊥

-- why a minor has no volume
abbrev pub IsNoPlace : List (List ℕ) → ℕ → RunRefusal → Type 0
IsNoPlace sectors minor (Partition why) = volume_place sectors minor ≡ Err why
IsNoPlace sectors minor _ = ⊥

-- what the check says of a volume's bytes
abbrev pub IsChecked : List ℕ → Result Clean RunRefusal → Type 0
IsChecked bytes (Ok clean) = (geometry_of bytes ≡ Ok clean.geometry) × (verdict_of bytes ≡ volume.Clean) × ((t : Tree) × HoldsClosed bytes t)
IsChecked bytes (Err (NotClean finding)) = verdict_of bytes ≡ volume.Found finding
IsChecked bytes (Err OutOfMemory) = Unit {0}
IsChecked bytes (Err _) = ⊥

-- why a setup and drivers aren't taken for a range
abbrev pub IsNotSetUp : Setup → Range → List DriverState → RunRefusal → Type 0
IsNotSetUp setup range supply BadSetup = ¬ (IsGoodSetup setup range supply)
IsNotSetUp setup range supply NoDriver = IsGoodSetup setup range supply × (supply ≡ [])
IsNotSetUp setup range supply _ = ⊥

-- the refusal of a setup, as runs have it
abbrev pub setup_refusal_of : StartRefusal → RunRefusal
setup_refusal_of start.NoDriver = NoDriver
setup_refusal_of _ = BadSetup
