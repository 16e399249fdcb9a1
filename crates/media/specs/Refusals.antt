-- What parsing a table answers, and the numbers of its refusals.
use Rattle.std.specs.Prelude.{ℕ, List, Result, Ok, Err, codes, not, if◌then◌else◌}
use Rattle.std.specs.List.{list_any}
use Rattle.media.specs.declared.partition.PartitionRefusal.{PartitionRefusal}
use Rattle.media.specs.declared.partition.PartitionRefusal.TheVariants.{NoSignature, PastMedia, Overlap}
use Rattle.media.specs.Entries.{entries_of, has_overlap, has_signature, passes}
use Rattle.media.specs.Table.{TableState}

-- the names of the refusals
abbrev pub partition_refusal_name : PartitionRefusal → List ℕ
partition_refusal_name NoSignature = codes "NoSignature"
partition_refusal_name PastMedia = codes "PastMedia"
partition_refusal_name Overlap = codes "Overlap"

-- the numbers of the refusals
abbrev pub partition_refusal_number : PartitionRefusal → ℕ
partition_refusal_number NoSignature = 1
partition_refusal_number PastMedia = 2
partition_refusal_number Overlap = 3

-- a table, or why it is refused: some entry passes the media; two entries meet, or one holds sector 0
abbrev pub checked : TableState → Result TableState PartitionRefusal
checked t =
    if list_any (passes t.sectors) t.entries then Err PastMedia
    else (if has_overlap t.entries then Err Overlap else Ok t)

-- the table in the first sector of media of so many sectors; the signature is looked at first
abbrev pub table_of : List ℕ → ℕ → Result TableState PartitionRefusal
table_of bytes sectors =
    if not (has_signature bytes) then Err NoSignature else checked (record { sectors = sectors; entries = entries_of bytes })
