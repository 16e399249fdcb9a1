-- The numbers and the texts of the refusals to start a server.
use Rattle.std.specs.Prelude.{ℕ, List, ◌++◌, codes}
use Rattle.media.specs.Answers.{media_refusal_name}
use Rattle.volume_mount.specs.Refusals.{mount_refusal_text}
use Rattle.media.specs.Refusals.{partition_refusal_name}
use Rattle.media.specs.declared.partition.place.PlaceRefusal.{PlaceRefusal}
use Rattle.media.specs.declared.partition.place.PlaceRefusal.TheVariants as place
use Rattle.volume_mount.specs.declared.refusal.StartRefusal.{StartRefusal}
use Rattle.volume_mount.specs.declared.refusal.StartRefusal.TheVariants.{Media, Partition, NoPartition, Mount, BadSetup, NoDriver, OutOfMemory}

-- the numbers of the refusals to start
abbrev pub start_refusal_number : StartRefusal → ℕ
start_refusal_number (Media refusal) = 1
start_refusal_number (Partition refusal) = 2
start_refusal_number NoPartition = 2
start_refusal_number (Mount refusal) = 3
start_refusal_number BadSetup = 4
start_refusal_number NoDriver = 5
start_refusal_number OutOfMemory = 6

-- the text of a refusal to start
abbrev pub start_refusal_text : StartRefusal → List ℕ
start_refusal_text (Media refusal) = codes "Media " ++ media_refusal_name refusal
start_refusal_text (Partition refusal) = codes "Partition " ++ partition_refusal_name refusal
start_refusal_text NoPartition = codes "Partition"
start_refusal_text (Mount refusal) = codes "Mount " ++ mount_refusal_text refusal
start_refusal_text BadSetup = codes "BadSetup"
start_refusal_text NoDriver = codes "NoDriver"
start_refusal_text OutOfMemory = codes "OutOfMemory"

-- the refusal to start where the volume has no place
abbrev pub refusal_of_place : PlaceRefusal → StartRefusal
refusal_of_place (place.Table refusal) = Partition refusal
refusal_of_place place.NoPartition = NoPartition
