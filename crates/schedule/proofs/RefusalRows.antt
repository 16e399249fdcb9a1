-- Worked rows of the refusals of a run.
use Rattle.std.specs.Prelude.{◌≡◌, ℕ, [], ◌∷◌, Option, Some, None, Ok, Err, refl}
use Rattle.std.proofs.Common.{arith, ap}
use Rattle.media.specs.declared.MediaRefusal.TheVariants.{NotWholeSectors}
use Rattle.media.specs.declared.partition.PartitionRefusal.TheVariants.{PastMedia}
use Rattle.volume.specs.Verdict.{Clean, Found}
use Rattle.reincarnate.specs.declared.policy.Setup.{Setup}
use Rattle.reincarnate.specs.Policy.{IsAllowed, default_policy}
use Rattle.records.specs.Opening.{Range}
use Rattle.schedule.specs.Refusals.{Start, NoPlace, BadTable, NoPartition, NotMedia, Partition, NotClean, BadSetup, NoDriver, IsRefusedFor, IsAccepted, start_of}
use Rattle.schedule.proofs.OneRefusal.{same_err}
use Rattle.schedule.proofs.Small.{idle, done}

-- the whole media of 128 sectors
abbrev whole : Range
whole = record { first = 0; count = 128 }

-- 64 frames and the default policy
abbrev usual : Setup
usual = record { minor = 0; frames = 64; policy = default_policy }

-- one driver that took nothing, over a volume without a finding
abbrev good : Start
good = record { media = None; place = Ok whole; verdict = Clean; setup = usual; drivers = idle ∷ [] }

-- the default policy is allowed
default_is_allowed : IsAllowed default_policy
default_is_allowed = record {
  few_faults = omega arith;
  some_cap = omega arith;
  low_cap = omega arith;
  some_calm = omega arith;
  short_calm = omega arith;
  some_misses = omega arith;
  few_misses = omega arith;
}

-- a good start is accepted
row_accepted : IsAccepted good whole
row_accepted = record {
  volume = record { media = refl; range_is = refl };
  clean = refl;
  setup = record { policy = default_is_allowed; some_frames = omega arith; few_frames = omega arith; ready = (refl, tt) };
  some = λ e. cc;
}

-- no driver is refusal 5
row_no_driver : IsRefusedFor (record good { drivers = [] }) NoDriver
row_no_driver =
    (whole, record { media = refl; range_is = refl }, refl, record { policy = default_is_allowed; some_frames = omega arith; few_frames = omega arith; ready = tt }, refl)

-- no misses are refusal 4
row_no_misses : IsRefusedFor (record good { setup = record usual { policy = record default_policy { misses = 0 } } }) BadSetup
row_no_misses = (whole, record { media = refl; range_is = refl }, refl, λ setup. omega (arith, setup.policy.some_misses))

-- 15 frames are refusal 4
row_fifteen_frames : IsRefusedFor (record good { setup = record usual { frames = 15 } }) BadSetup
row_fifteen_frames = (whole, record { media = refl; range_is = refl }, refl, λ setup. omega (arith, setup.some_frames))

-- a driver that took a request before is refusal 4
row_used_driver : IsRefusedFor (record good { drivers = idle ∷ done ∷ [] }) BadSetup
row_used_driver =
    (whole, record { media = refl; range_is = refl }, refl, λ setup. let h : ◌≡◌ {A = Option (ℕ × ℕ)} None (Some (0, 128)) = setup.ready.1.0 in cc)

-- how many sectors a range has
abbrev count_of : Option (ℕ × ℕ) → ℕ
count_of None = 0
count_of (Some range) = range.1

-- 128 sectors aren't 127
differ : ◌≡◌ {A = ℕ} 128 127 → ⊥
differ e = omega arith

-- a driver of another range is refusal 4
row_other_range : IsRefusedFor (record good { place = Ok (record { first = 1; count = 127 }) }) BadSetup
row_other_range =
    (record { first = 1; count = 127 }, record { media = refl; range_is = refl }, refl, λ setup. differ (ap count_of setup.ready.0))

-- both no driver and 15 frames: the lesser number
row_least : IsRefusedFor (record good { setup = record usual { frames = 15 }; drivers = [] }) BadSetup
row_least = (whole, record { media = refl; range_is = refl }, refl, λ setup. omega (arith, setup.some_frames))

-- a finding is refusal 3, whatever the setup
row_finding : IsRefusedFor (record good { verdict = Found (record { number = 9; place = 7 }); setup = record usual { frames = 15 } }) (NotClean (record { number = 9; place = 7 }))
row_finding = (whole, record { media = refl; range_is = refl }, refl)

-- no partition there is refusal 2
row_no_partition : IsRefusedFor (record good { place = Err NoPartition; drivers = [] }) (Partition NoPartition)
row_no_partition = (refl, refl)

-- a refused table is refusal 2, by its own reason
row_bad_table : IsRefusedFor (record good { place = Err (BadTable PastMedia) }) (Partition (BadTable PastMedia))
row_bad_table = (refl, refl)

-- and by no other
row_no_other_table : IsRefusedFor (record good { place = Err (BadTable PastMedia) }) (Partition NoPartition) → ⊥
row_no_other_table refused = let h : ◌≡◌ {A = NoPlace} (BadTable PastMedia) NoPartition = same_err refused.1 in cc

-- an image of no whole sectors is refusal 1
row_no_media : IsRefusedFor (record good { media = Some NotWholeSectors; place = Err NoPartition }) (NotMedia NotWholeSectors)
row_no_media = refl

-- a byte alone makes no media
row_one_byte : IsRefusedFor (start_of (0 ∷ []) (Err NoPartition) usual []) (NotMedia NotWholeSectors)
row_one_byte = refl

-- no bytes make a media without a volume: finding 1 at 1
row_no_bytes : IsRefusedFor (start_of [] (Ok (record { first = 0; count = 0 })) usual []) (NotClean (record { number = 1; place = 1 }))
row_no_bytes = (record { first = 0; count = 0 }, record { media = refl; range_is = refl }, refl)
