-- When a run is refused before its first event, and why.
use Rattle.std.specs.Prelude.{◌≡◌, ◌≢◌, ◌≤◌, ◌%◌, ℕ, List, [], length, nat_lt, if◌then◌else◌, Option, Some, None, Result, Ok, Err}
use Rattle.media.specs.declared.MediaRefusal.{MediaRefusal}
use Rattle.media.specs.declared.MediaRefusal.TheVariants.{NotWholeSectors, TooLarge}
use Rattle.media.specs.declared.partition.PartitionRefusal.{PartitionRefusal}
use Rattle.volume.specs.declared.Finding.{Finding}
use Rattle.volume.specs.Verdict.{Verdict, Clean, Found, verdict_of}
use Rattle.bdev.specs.DriverState.{DriverState, range_while_fresh}
use Rattle.reincarnate.specs.declared.policy.Setup.{Setup}
use Rattle.reincarnate.specs.Policy.{IsAllowed}
use Rattle.schedule.specs.Groups.{Each}
use Rattle.records.specs.Opening.{Range, volume_bytes}

-- why a minor has no volume: the partition table is refused, or it has no partition of MINIX's type there
pub data NoPlace : Type 0 where
  BadTable : (refusal : PartitionRefusal) → NoPlace
  NoPartition : NoPlace

-- What a run is started with: why the image makes no media, if so (want of memory is no reason here); the range of the minor, or why
-- it has none (minor 0 is the whole media, of which no table is read); the verdict of the check on the volume in that range; the
-- setup; the drivers handed in.
pub record Start : Type 0 where
  pub media : Option MediaRefusal
  pub place : Result Range NoPlace
  pub verdict : Verdict
  pub setup : Setup
  pub drivers : List DriverState

-- why bytes make no media: they are no whole sectors, or more than 64 MiB
abbrev pub media_refusal_of : List ℕ → Option MediaRefusal
media_refusal_of image =
    if nat_lt 0 (length image % 512) then Some NotWholeSectors else if nat_lt 67108864 (length image) then Some TooLarge else None

-- the verdict on the volume in a range of the image; where there is no range, no volume is looked at
abbrev pub verdict_in : List ℕ → Result Range NoPlace → Verdict
verdict_in image (Err why) = Clean
verdict_in image (Ok range) = verdict_of (volume_bytes range image)

-- the start of a run over this image, the place of the minor's volume being given
abbrev pub start_of : List ℕ → Result Range NoPlace → Setup → List DriverState → Start
start_of image place setup drivers =
    record { media = media_refusal_of image; place = place; verdict = verdict_in image place; setup = setup; drivers = drivers }

-- why a run is refused
pub data Refusal : Type 0 where
  NotMedia : (refusal : MediaRefusal) → Refusal
  Partition : (why : NoPlace) → Refusal
  NotClean : (finding : Finding) → Refusal
  BadSetup : Refusal
  NoDriver : Refusal

-- the numbers of the refusals
abbrev pub run_refusal_number : Refusal → ℕ
run_refusal_number (NotMedia refusal) = 1
run_refusal_number (Partition why) = 2
run_refusal_number (NotClean finding) = 3
run_refusal_number BadSetup = 4
run_refusal_number NoDriver = 5

-- a setup for this range: the policy is allowed, there are 16 to 4096 frames, and each driver took nothing yet and serves just the range
pub record IsGoodSetup (setup : Setup) (range : Range) (drivers : List DriverState) : Type 0 where
  pub policy : IsAllowed setup.policy
  pub some_frames : 16 ≤ setup.frames
  pub few_frames : setup.frames ≤ 4096
  pub ready : Each (λ d. range_while_fresh d setup.minor ≡ Some (range.first, range.count)) drivers

-- the image makes a media, on which the minor's volume lies in this range
pub record HasVolume (start : Start) (range : Range) : Type 0 where
  pub media : start.media ≡ None
  pub range_is : start.place ≡ Ok range

-- a run is refused for the first of these that holds, in the order of their numbers
abbrev pub IsRefusedFor : Start → Refusal → Type 0
IsRefusedFor start (NotMedia refusal) = start.media ≡ Some refusal
IsRefusedFor start (Partition why) = (start.media ≡ None) × (start.place ≡ Err why)
IsRefusedFor start (NotClean finding) =
    (range : Range) × HasVolume start range × (start.verdict ≡ Found finding)
IsRefusedFor start BadSetup =
    (range : Range) × HasVolume start range × (start.verdict ≡ Clean) × (IsGoodSetup start.setup range start.drivers → ⊥)
IsRefusedFor start NoDriver =
    (range : Range) × HasVolume start range × (start.verdict ≡ Clean) × IsGoodSetup start.setup range start.drivers × (start.drivers ≡ [])

-- a run that isn't refused: there is a transcript, unless memory was wanted
pub record IsAccepted (start : Start) (range : Range) : Type 0 where
  pub volume : HasVolume start range
  pub clean : start.verdict ≡ Clean
  pub setup : IsGoodSetup start.setup range start.drivers
  pub some : start.drivers ≢ []
