-- Small volumes written out in bytes: a root alone, and a tree with files in all ranges. A block holds one inode, one entry or 16 numbers.
use Rattle.std.proofs.Common.{◌≡◌, ℕ, List, [], ◌∷◌, ◌/◌, ◌%◌, ◌-◌, ◌++◌, map, drop}
use Rattle.std.specs.Prelude.{slice_index, flat_map}
use Rattle.layout.specs.declared.Geometry.{Geometry}
use Rattle.lemmas.specs.Sums.{put}
use Rattle.volume.specs.Reading.{Disk}
use Rattle.volume.specs.Pieces.{Pieces, pieces}
use Rattle.volume.specs.Verdict.{Verdict, tests, first_found, place_limit, verdict_of_pieces}

-- the two bytes of a number
abbrev pub u16 : ℕ → List ℕ
u16 x = x % 256 ∷ x / 256 ∷ []

-- the four bytes of a number
abbrev pub u32 : ℕ → List ℕ
u32 x = u16 (x % 65536) ++ u16 (x / 65536)

-- an inode of user 0 and group 0 with times 50: its mode, links, size and zones
abbrev pub inode : ℕ → ℕ → ℕ → List ℕ → List ℕ
inode mode links size zones = flat_map u16 (mode ∷ links ∷ 0 ∷ 0 ∷ []) ++ flat_map u32 (size ∷ 50 ∷ 50 ∷ 50 ∷ zones)

-- an entry: its inode and its name
abbrev pub entry : ℕ → List ℕ → List ℕ
entry n name = u32 n ++ name

-- the disk with these bytes in a block, and zeros after them
abbrev pub with_block : ℕ → List ℕ → Disk → Disk
with_block b bytes d = put d b (slice_index bytes)

-- rows of an argument and what is expected of it
abbrev pub Rows : Type 0 → Type 0 → Type 0
Rows A B = List (A × B)

-- of each row the function gives what is expected
abbrev pub Gives : {A B : Type 0} → (A → B) → Rows A B → Type 0
Gives f rows = map (λ row. f row.0) rows ≡ map (λ row. row.1) rows

-- the disk with a byte changed
abbrev pub with_byte : ℕ → ℕ → ℕ → Disk → Disk
with_byte b o x d = put d b (put (d b) o x)

-- 2 inode map, 3 zone map, 4 to 11 the inodes, 12 to 23 the data zones
abbrev pub small : Geometry
small = record { block_size = 64; inodes = 8; zones = 24; inode_map_blocks = 1; zone_map_blocks = 1; first_zone = 12 }

-- the root alone: mode 0040755, 2 links, 128 bytes in zones 12 and 13
abbrev pub start : Disk
start = with_block 2 (3 ∷ []) (with_block 3 (7 ∷ []) (with_block 4 (inode 16877 2 128 (12 ∷ 13 ∷ []))
    (with_block 12 (entry 1 (46 ∷ [])) (with_block 13 (entry 1 (46 ∷ 46 ∷ [])) (λ b o. 0)))))

-- the pieces of a small disk
abbrev pub small_pieces : Disk → Pieces
small_pieces d = pieces small d

-- the verdict on a small disk
abbrev pub verdict : Disk → Verdict
verdict d = verdict_of_pieces small (small_pieces d)

-- 2 inode map, 3 zone map, 4 to 11 the inodes, 12 to 35 the data zones
abbrev pub wide : Geometry
wide = record { block_size = 64; inodes = 8; zones = 36; inode_map_blocks = 1; zone_map_blocks = 1; first_zone = 12 }

-- the two maps: inodes 1 to 5, and bits 0 to 21, which are zones 12 to 32
abbrev pub wide_maps : Disk
wide_maps = with_block 2 (63 ∷ []) (with_block 3 (255 ∷ 255 ∷ 63 ∷ []) (λ b o. 0))

-- / with a, f and g; /a with b and h; /a/b. Both f and h are inode 4, which holds pages 0, 7, 23 and 279; g is empty.
abbrev pub wide_inodes : Disk → Disk
wide_inodes d =
    with_block 4 (inode 16877 3 320 (12 ∷ 13 ∷ 14 ∷ 15 ∷ 16 ∷ []))
    (with_block 5 (inode 16877 3 256 (17 ∷ 18 ∷ 19 ∷ 20 ∷ []))
    (with_block 6 (inode 16877 2 128 (21 ∷ 22 ∷ []))
    (with_block 7 (inode 33188 2 17866 (23 ∷ 0 ∷ 0 ∷ 0 ∷ 0 ∷ 0 ∷ 0 ∷ 24 ∷ 26 ∷ 29 ∷ []))
    (with_block 8 (inode 33188 1 0 []) d))))

-- the entries of its three directories
abbrev pub wide_entries : Disk → Disk
wide_entries d =
    with_block 12 (entry 1 (46 ∷ [])) (with_block 13 (entry 1 (46 ∷ 46 ∷ [])) (with_block 14 (entry 2 (97 ∷ []))
    (with_block 15 (entry 4 (102 ∷ [])) (with_block 16 (entry 5 (103 ∷ []))
    (with_block 17 (entry 2 (46 ∷ [])) (with_block 18 (entry 1 (46 ∷ 46 ∷ [])) (with_block 19 (entry 3 (98 ∷ []))
    (with_block 20 (entry 4 (104 ∷ [])) (with_block 21 (entry 3 (46 ∷ [])) (with_block 22 (entry 2 (46 ∷ 46 ∷ [])) d))))))))))

-- zone 23 is page 0; 24 names 25, page 7; 26 names 27, which names 28, page 23; 29 names 30, 30 names 31, 31 names 32, page 279
abbrev pub wide_file : Disk → Disk
wide_file d =
    with_block 23 (65 ∷ []) (with_block 24 (u32 25) (with_block 25 (66 ∷ []) (with_block 26 (u32 27) (with_block 27 (u32 28) (with_block 28 (67 ∷ [])
    (with_block 29 (u32 30) (with_block 30 (u32 31) (with_block 31 (u32 32) (with_block 32 (68 ∷ 69 ∷ []) d)))))))))

-- the whole tree
abbrev pub tree : Disk
tree = wide_inodes (wide_entries (wide_file wide_maps))

-- the pieces of a wide disk
abbrev pub wide_pieces : Disk → Pieces
wide_pieces d = pieces wide d

-- the verdict on a wide disk
abbrev pub wide_verdict : Disk → Verdict
wide_verdict d = verdict_of_pieces wide (wide_pieces d)

-- The verdict where the findings below number k, which is 2 or more, are false: that of the tests from it on. That a lesser finding goes
-- first, and of one its least place, is a law of `volume`, so rows needn't compute it; findings 7 to 10 are the costly ones.
abbrev pub verdict_from : ℕ → Disk → Verdict
verdict_from k d = first_found (place_limit wide) k (drop (k - 2) (tests wide (wide_pieces d)))

-- that from finding 11 on
abbrev pub later_verdict : Disk → Verdict
later_verdict d = verdict_from 11 d

-- the same on a small disk
abbrev pub small_verdict_from : ℕ → Disk → Verdict
small_verdict_from k d = first_found (place_limit small) k (drop (k - 2) (tests small (small_pieces d)))
