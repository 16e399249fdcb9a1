-- What the refusals of a run say in the words of schedules, their numbers and their texts.
use Rattle.std.specs.Prelude.{ℕ, List, ◌++◌, Option, Some, None, codes}
use Rattle.volume.specs.Text.{finding_text}
use Rattle.media.specs.Answers.{media_refusal_name}
use Rattle.media.specs.Refusals.{partition_refusal_name}
use Rattle.media.specs.declared.partition.place.PlaceRefusal.{PlaceRefusal}
use Rattle.media.specs.declared.partition.place.PlaceRefusal.TheVariants as place
use Rattle.schedule.specs.Refusals.{Refusal, NoPlace, run_refusal_number}
use Rattle.schedule.specs.Refusals as schedule
use Rattle.world.specs.declared.run_refusal.RunRefusal.{RunRefusal}
use Rattle.world.specs.declared.run_refusal.RunRefusal.TheVariants.{Media, Partition, NotClean, BadSetup, NoDriver, OutOfMemory}

-- why a minor has no volume
abbrev pub no_place : PlaceRefusal → NoPlace
no_place (place.Table refusal) = schedule.BadTable refusal
no_place place.NoPartition = schedule.NoPartition

-- the reason of a refusal; for want of memory there is none
abbrev pub reason_of : RunRefusal → Option Refusal
reason_of (Media refusal) = Some (schedule.NotMedia refusal)
reason_of (Partition why) = Some (schedule.Partition (no_place why))
reason_of (NotClean finding) = Some (schedule.NotClean finding)
reason_of BadSetup = Some schedule.BadSetup
reason_of NoDriver = Some schedule.NoDriver
reason_of OutOfMemory = None

-- the number of a reason, 6 where there is none
abbrev pub number_of_reason : Option Refusal → ℕ
number_of_reason (Some reason) = run_refusal_number reason
number_of_reason None = 6

-- the numbers of the refusals
abbrev pub number_of_refusal : RunRefusal → ℕ
number_of_refusal refusal = number_of_reason (reason_of refusal)

-- the text of a refusal: its name, and what it carries
abbrev pub refusal_text : RunRefusal → List ℕ
refusal_text (Media refusal) = codes "Media " ++ media_refusal_name refusal
refusal_text (Partition (place.Table refusal)) = codes "Partition " ++ partition_refusal_name refusal
refusal_text (Partition place.NoPartition) = codes "Partition"
refusal_text (NotClean finding) = codes "NotClean " ++ finding_text finding
refusal_text BadSetup = codes "BadSetup"
refusal_text NoDriver = codes "NoDriver"
refusal_text OutOfMemory = codes "OutOfMemory"
