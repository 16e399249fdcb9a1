-- What is read of a small version 2 volume, and verdicts on it and on changes of it. A block has 64 bytes: an inode, or four entries.
use Rattle.std.proofs.Common.{◌≡◌, ℕ, List, [], ◌∷◌, ◌/◌, ◌%◌, ◌++◌, map, replicate, refl}
use Rattle.std.specs.Prelude.{slice_index, flat_map}
use Rattle.layout.specs.declared.Geometry.{Geometry}
use Rattle.lemmas.specs.Sums.{put, sum_below, some_below, least_below}
use Rattle.volume.specs.Reading.{Disk}
use Rattle.volume.specs.Pieces.{pieces}
use Rattle.volume.specs.Verdict.{Verdict, Clean, found}
use Rattle.fsck.specs.Form.{version_2}
use Rattle.fsck.specs.Nodes.{names_in, directory_of}
use Rattle.fsck.specs.Verdict.{verdict_of_pieces}

-- the two bytes of a number
abbrev u16 : ℕ → List ℕ
u16 x = x % 256 ∷ x / 256 ∷ []

-- the four bytes of a number
abbrev u32 : ℕ → List ℕ
u32 x = u16 (x % 65536) ++ u16 (x / 65536)

-- an inode of user 0 and group 0 with times 50: its mode, links, size and zones
abbrev inode : ℕ → ℕ → ℕ → List ℕ → List ℕ
inode mode links size zones = flat_map u16 (mode ∷ links ∷ 0 ∷ 0 ∷ []) ++ flat_map u32 (size ∷ 50 ∷ 50 ∷ 50 ∷ zones)

-- an entry of 16 bytes: its inode, and its name of one or two bytes
abbrev entry : ℕ → ℕ → ℕ → List ℕ
entry n a b = u16 n ++ (a ∷ b ∷ []) ++ replicate 12 0

-- the disk with these bytes in a block, and zeros after them
abbrev with_block : ℕ → List ℕ → Disk → Disk
with_block b bytes d = put d b (slice_index bytes)

-- 2 inode map, 3 zone map, 4 to 11 the inodes, 12 to 23 the data zones
abbrev small : Geometry
small = record { block_size = 64; inodes = 8; zones = 24; inode_map_blocks = 1; zone_map_blocks = 1; first_zone = 12 }

-- a root with ., .., a third entry and f, and a file of that many links in zone 13
abbrev volume : List ℕ → ℕ → Disk
volume third links =
    with_block 2 (7 ∷ []) (with_block 3 (7 ∷ []) (with_block 4 (inode 16877 2 64 (12 ∷ []))
    (with_block 5 (inode 33188 links 1 (13 ∷ []))
    (with_block 12 (entry 1 46 0 ++ entry 1 46 46 ++ third ++ entry 2 102 0) (with_block 13 (97 ∷ []) (λ b o. 0))))))

-- the third entry is free, though it has the bytes of a name
abbrev start : Disk
start = volume (entry 0 102 0) 1

-- the root's only name is f
root_names : directory_of version_2 small (pieces small start) ((pieces small start).inodes 1) ≡ record { parent = 1; names = ((102 ∷ []), 2) ∷ [] }
unfolding names_in
root_names = refl

-- The volume; the same with a second name in the free entry and two links; f again; a slash; an inode that isn't marked; two links and one name.
verdicts : map (λ (d : Disk). verdict_of_pieces version_2 small (pieces small d))
    (start ∷ volume (entry 2 103 0) 2 ∷ volume (entry 2 102 0) 2 ∷ volume (entry 2 47 0) 2 ∷ volume (entry 3 103 0) 1 ∷ volume (entry 0 0 0) 2 ∷ [])
    ≡ Clean ∷ Clean ∷ found 13 1 ∷ found 13 1 ∷ found 14 1 ∷ found 16 2 ∷ []
unfolding sum_below some_below least_below names_in
verdicts = refl
