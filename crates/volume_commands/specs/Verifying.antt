-- What a verifying comes to.
use Rattle.std.specs.Prelude.{◌≡◌, ◌⊎◌, ℕ, zero, suc, ◌*◌, ◌%◌, List, ◌++◌, length, take, drop, not, ◌==◌, nat_lt, if◌then◌else◌, Option, Some, None, Result, Ok, Err, codes}
use Rattle.std.specs.Borrow.{Bor}
use Rattle.volume.specs.Text.{finding_text}
use Rattle.volume.specs.Verdict.{Verdict, Clean, Found, verdict_of}
use Rattle.media.specs.Contents.{sectors_of}
use Rattle.media.specs.declared.partition.PartitionRefusal.{PartitionRefusal}
use Rattle.media.specs.declared.partition.PartitionRefusal.TheVariants.{NoSignature, PastMedia, Overlap}
use Rattle.media.specs.declared.partition.place.PlaceRefusal.{PlaceRefusal}
use Rattle.media.specs.declared.partition.place.PlaceRefusal.TheVariants.{Table, NoPartition}
use Rattle.media.specs.Places.{volume_place}
use Rattle.output.specs.declared.Told.{Told}
use Rattle.output.specs.Output.{Tells}
use Rattle.volume_commands.specs.declared.verify.NoVolume.{NoVolume}
use Rattle.volume_commands.specs.declared.verify.NoVolume.TheVariants.{NotSectors, TooManySectors, Place}
use Rattle.volume_commands.specs.declared.verify.VerifyRefusal.{VerifyRefusal}
use Rattle.volume_commands.specs.declared.verify.VerifyRefusal.TheVariants.{CannotRead, Missing, OutOfMemory, NotWritten}
use Rattle.volume_commands.specs.declared.verify.Verified.{Verified}
use Rattle.volume_commands.specs.declared.verify.Verified.TheVariants.{IsClean, HasFinding, HasWrongLinks, Refused}

-- the status of the process
abbrev pub verified_number : Verified → ℕ
verified_number IsClean = 0
verified_number HasFinding = 1
verified_number HasWrongLinks = 1
verified_number (Refused told) = 1

-- the bytes of a range of sectors
abbrev pub in_sectors : List ℕ → ℕ × ℕ → List ℕ
in_sectors bytes range = take (512 * range.1) (drop (512 * range.0) bytes)

-- the same, where there is such a range
abbrev pub sectors_or : List ℕ → Result (ℕ × ℕ) PlaceRefusal → Result (List ℕ) NoVolume
sectors_or bytes (Err refusal) = Err (Place refusal)
sectors_or bytes (Ok range) = Ok (in_sectors bytes range)

-- The bytes in which the volume of a minor lies: all of the file for minor 0, else a partition of the disk that it holds.
abbrev pub volume_at : List ℕ → ℕ → Result (List ℕ) NoVolume
volume_at bytes zero = Ok bytes
volume_at bytes (suc m) =
    if not (length bytes % 512 == 0) then Err NotSectors else
    if nat_lt 67108864 (length bytes) then Err TooManySectors else
    sectors_or bytes (volume_place (sectors_of bytes) (suc m))

-- the texts of a table's refusals
abbrev pub partition_text : PartitionRefusal → List ℕ
partition_text NoSignature = codes "Partition NoSignature"
partition_text PastMedia = codes "Partition PastMedia"
partition_text Overlap = codes "Partition Overlap"

-- the texts where there is no volume
abbrev pub missing_text : NoVolume → List ℕ
missing_text NotSectors = codes "Media NotWholeSectors"
missing_text TooManySectors = codes "Media TooLarge"
missing_text (Place (Table refusal)) = partition_text refusal
missing_text (Place NoPartition) = codes "Partition"

-- the text of a refusal
abbrev pub verify_text : VerifyRefusal → List ℕ
verify_text (CannotRead name) = codes "cannot read " ++ name.now
verify_text (Missing refusal) = missing_text refusal
verify_text OutOfMemory = codes "OutOfMemory"
verify_text NotWritten = codes "cannot write standard output"

-- the line of a verdict
abbrev pub verdict_text : Verdict → List ℕ
verdict_text Clean = codes "clean\n"
verdict_text (Found finding) = finding_text finding ++ codes "\n"

-- what a finding of a number comes to: 16 is that of the links
abbrev pub found_as : ℕ → Verified
found_as number = if number == 16 then HasWrongLinks else HasFinding

-- what a verdict comes to
abbrev pub verified_as : Verdict → Verified
verified_as Clean = IsClean
verified_as (Found finding) = found_as finding.number

-- what is said of wrong links
abbrev pub mending_text : List ℕ
mending_text = codes "if a removed file was open, mfs or mfs9p with --out mends it"

-- that goes out as a line where they were told, and else nothing
abbrev pub TellsMending : {E : Type 0} → (E → Option (List ℕ)) → Verified → E → E → Type 0
TellsMending contents HasWrongLinks before after = (told : Told) × Tells (Some mending_text) told (contents before) (contents after)
TellsMending contents _ before after = after ≡ before

-- whether the verdict was told, all of its line
abbrev pub IsToldWhole : Verified → Type 0
IsToldWhole (Refused told) = ⊥
IsToldWhole _ = Unit {0}

-- the file could be read, and the volume of the minor in it has this verdict
abbrev pub IsVerdictOn : Option (Bor (List ℕ)) → ℕ → Verdict → Type 0
IsVerdictOn file minor verdict =
    (bytes : Bor (List ℕ)) × (volume : List ℕ) × (file ≡ Some bytes) × (volume_at bytes.now minor ≡ Ok volume) × (verdict_of volume ≡ verdict)

-- why nothing is said of a volume: the file can't be read, there is no such volume in it, or no memory was found
abbrev pub IsUnverified : Option (Bor (List ℕ)) → Bor (List ℕ) → ℕ → VerifyRefusal → Type 0
IsUnverified file name minor (CannotRead unread) = (file ≡ None) × (unread ≡ name)
IsUnverified file name minor (Missing refusal) = (bytes : Bor (List ℕ)) × (file ≡ Some bytes) × (volume_at bytes.now minor ≡ Err refusal)
IsUnverified file name minor OutOfMemory = (verdict : Verdict) × IsVerdictOn file minor verdict
IsUnverified file name minor NotWritten = ⊥

-- that, and nothing went out; or a part of a verdict's line did
abbrev pub IsUntold : Option (Bor (List ℕ)) → Bor (List ℕ) → ℕ → VerifyRefusal → Type 0 → (List ℕ → Type 0) → Type 0
IsUntold file name minor refusal Nothing Part =
    (IsUnverified file name minor refusal × Nothing)
    ⊎ ((refusal ≡ NotWritten) × ((verdict : Verdict) × IsVerdictOn file minor verdict × Part (verdict_text verdict)))
