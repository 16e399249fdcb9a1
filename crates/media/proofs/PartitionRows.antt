-- Worked rows of the partition table, by computation.
use Rattle.std.specs.Prelude.{◌≡◌, ℕ, ◌-◌, List, [], ◌∷◌, ◌++◌, length, map, replicate, Some, None, Ok, Err, refl}
use Rattle.media.specs.declared.partition.PartitionRefusal.TheVariants.{NoSignature, PastMedia, Overlap}
use Rattle.media.specs.Table.{TableState, range_at, kind_at}
use Rattle.media.specs.Refusals.{table_of}

-- an entry of this type, first sector and count, each number below 256
entry : ℕ → ℕ → ℕ → List ℕ
entry kind first count = 0 ∷ 0 ∷ 0 ∷ 0 ∷ kind ∷ 0 ∷ 0 ∷ 0 ∷ first ∷ 0 ∷ 0 ∷ 0 ∷ count ∷ 0 ∷ 0 ∷ 0 ∷ []

-- a first sector with these bytes at 446, zeros after them, and the signature
sector : List ℕ → List ℕ
sector entries = replicate 446 0 ++ entries ++ replicate (64 - length entries) 0 ++ 0x55 ∷ 0xaa ∷ []

-- one entry of 128 sectors on media of 129
row_one : table_of (sector (entry 0x81 1 128)) 129 ≡ Ok (record { sectors = 129; entries = Some (record { kind = 0x81; first = 1; count = 128 }) ∷ None ∷ None ∷ None ∷ [] })
unfolding entry sector
row_one = refl

-- its range and its type; minor 2 has none, minor 0 is the whole media, and there is no minor 5
one : TableState
one = record { sectors = 129; entries = Some (record { kind = 0x81; first = 1; count = 128 }) ∷ None ∷ None ∷ None ∷ [] }

row_ranges : map (range_at one) (0 ∷ 1 ∷ 2 ∷ 5 ∷ []) ≡ Some (0, 129) ∷ Some (1, 128) ∷ None ∷ None ∷ []
unfolding one
row_ranges = refl

row_kinds : map (kind_at one) (0 ∷ 1 ∷ 2 ∷ 5 ∷ []) ≡ None ∷ Some 0x81 ∷ None ∷ None ∷ []
unfolding one
row_kinds = refl

-- one sector more passes the media
row_past : table_of (sector (entry 0x81 1 129)) 129 ≡ Err PastMedia
unfolding entry sector
row_past = refl

-- an entry that holds sector 0
row_sector_0 : table_of (sector (entry 0x81 0 10)) 129 ≡ Err Overlap
unfolding entry sector
row_sector_0 = refl

-- the first and the fourth entry share sector 10
row_overlap : table_of (sector (entry 0x81 5 6 ++ entry 0 0 0 ++ entry 0 0 0 ++ entry 0x83 10 1)) 129 ≡ Err Overlap
unfolding entry sector
row_overlap = refl

-- the same, one sector later
row_apart : table_of (sector (entry 0x81 5 6 ++ entry 0x83 11 1)) 129
    ≡ Ok (record { sectors = 129; entries = Some (record { kind = 0x81; first = 5; count = 6 }) ∷ Some (record { kind = 0x83; first = 11; count = 1 }) ∷ None ∷ None ∷ [] })
unfolding entry sector
row_apart = refl

-- entries of type 0 or of no sectors are empty, wherever they lie
row_empty : table_of (sector (entry 0 0 200 ++ entry 0x81 0 0)) 129 ≡ Ok (record { sectors = 129; entries = None ∷ None ∷ None ∷ None ∷ [] })
unfolding entry sector
row_empty = refl

-- passing the media comes before an overlap, and the signature before both
row_order : table_of (sector (entry 0x81 0 200)) 129 ≡ Err PastMedia
unfolding entry sector
row_order = refl

row_unsigned : table_of (replicate 446 0 ++ entry 0x81 0 200 ++ replicate 50 0) 129 ≡ Err NoSignature
unfolding entry
row_unsigned = refl
