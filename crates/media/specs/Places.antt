-- Where the volume of a minor lies on a disk.
use Rattle.std.specs.Prelude.{ℕ, zero, suc, List, [], ◌∷◌, length, Bool, false, ◌==◌, Option, Some, None, ok_or, Result, Ok, Err, if◌then◌else◌}
use Rattle.media.specs.declared.partition.PartitionRefusal.{PartitionRefusal}
use Rattle.media.specs.declared.partition.PartitionRefusal.TheVariants.{NoSignature}
use Rattle.media.specs.declared.partition.place.PlaceRefusal.{PlaceRefusal}
use Rattle.media.specs.declared.partition.place.PlaceRefusal.TheVariants.{Table, NoPartition}
use Rattle.media.specs.Table.{TableState, kind_at, range_at}
use Rattle.media.specs.Refusals.{table_of}

-- whether an entry's type is MINIX's, 0x81
abbrev pub is_minix : Option ℕ → Bool
is_minix None = false
is_minix (Some kind) = kind == 129

-- the range of a partition of MINIX's type: its first sector and how many there are
abbrev pub minix_range : TableState → ℕ → Result (ℕ × ℕ) PlaceRefusal
minix_range t minor = if is_minix (kind_at t minor) then ok_or (range_at t minor) NoPartition else Err NoPartition

-- the same, where the table isn't refused
abbrev pub minix_range_or : Result TableState PartitionRefusal → ℕ → Result (ℕ × ℕ) PlaceRefusal
minix_range_or (Err refusal) minor = Err (Table refusal)
minix_range_or (Ok t) minor = minix_range t minor

-- where the volume of a minor lies: minor 0 is all of the disk, and another one a partition by the table in its first sector
abbrev pub volume_place : List (List ℕ) → ℕ → Result (ℕ × ℕ) PlaceRefusal
volume_place sectors zero = Ok (0, length sectors)
volume_place [] (suc m) = Err (Table NoSignature)
volume_place (first ∷ rest) (suc m) = minix_range_or (table_of first (length (first ∷ rest))) (suc m)
