-- The entries of a DOS partition table, as bytes of the first sector and as sectors of the media.
use Rattle.std.specs.Prelude.{ℕ, ◌+◌, ◌&&◌, ◌||◌, ◌==◌, Bool, false, List, [], ◌∷◌, drop, nat_lt, slice_index, Option, Some, None, if◌then◌else◌}
use Rattle.std.specs.List.{list_any}
use Rattle.byteorder.specs.Endian.{little_number}
use Rattle.media.specs.declared.partition.PartitionEntry.{PartitionEntry}

-- the entry in the 16 bytes at p: the type at 4, the first sector at 8, the count at 12
abbrev pub entry_at : List ℕ → ℕ → PartitionEntry
entry_at bytes p = record {
  kind = slice_index bytes (p + 4);
  first = little_number 4 (drop (p + 8) bytes);
  count = little_number 4 (drop (p + 12) bytes);
}

-- an entry of type 0 or of no sectors is empty
abbrev pub unless_empty : PartitionEntry → Option PartitionEntry
unless_empty e = if (e.kind == 0) || (e.count == 0) then None else Some e

-- the four entries, from byte 446 on
abbrev pub entries_of : List ℕ → List (Option PartitionEntry)
entries_of bytes =
    unless_empty (entry_at bytes 446) ∷ unless_empty (entry_at bytes 462)
    ∷ unless_empty (entry_at bytes 478) ∷ unless_empty (entry_at bytes 494) ∷ []

-- 0x55 and 0xaa stand at byte 510
abbrev pub has_signature : List ℕ → Bool
has_signature bytes = (slice_index bytes 510 == 0x55) && (slice_index bytes 511 == 0xaa)

-- an entry ends past media of so many sectors
abbrev pub passes : ℕ → Option PartitionEntry → Bool
passes sectors None = false
passes sectors (Some e) = nat_lt sectors (e.first + e.count)

-- an entry holds sector 0, where the table itself stands
abbrev pub holds_sector_0 : Option PartitionEntry → Bool
holds_sector_0 None = false
holds_sector_0 (Some e) = e.first == 0

-- two entries have a sector in common
abbrev pub meets : Option PartitionEntry → Option PartitionEntry → Bool
meets None b = false
meets (Some a) None = false
meets (Some a) (Some b) = nat_lt a.first (b.first + b.count) && nat_lt b.first (a.first + a.count)

-- some two of the entries have a sector in common
abbrev pub overlap : List (Option PartitionEntry) → Bool
overlap [] = false
overlap (a ∷ entries) = list_any (meets a) entries || overlap entries

-- some entry holds sector 0, or some two have a sector in common
abbrev pub has_overlap : List (Option PartitionEntry) → Bool
has_overlap entries = list_any holds_sector_0 entries || overlap entries
