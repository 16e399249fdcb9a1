-- What is read of the bytes of a small volume: inodes, zones, bytes, names and nodes.
use Rattle.std.proofs.Common.{◌≡◌, ℕ, [], ◌∷◌, ◌++◌, replicate, refl, Bool, true, false}
use Rattle.std.specs.Prelude.{slice_index, is_some, flat_map}
use Rattle.volume.specs.declared.Inode.{Inode}
use Rattle.tree.specs.Tree.{size_of, is_dir, names_of, parent_of}
use Rattle.volume.specs.Reading.{blocks_of, disk_of, u16_in, u32_in, bit_in, map_bit, inode_block, inode_offset, inode_in}
use Rattle.volume.specs.Pieces.{blank}
use Rattle.volume.specs.Nodes.{page_zone, file_byte, file_of, entry_inode, entry_name, names_in, type_in, permissions_in, is_mode, node_of, nodes_of}
use Rattle.volume.specs.Places.{zone_at}
use Rattle.tests_definitions.proofs.SmallVolumes.{Gives, u16, u32, entry, with_block, with_byte, start, small, small_pieces, tree, wide}
use Rattle.tests_definitions.proofs.SmallVolumes.{wide_pieces}

-- Blocks of 64 bytes: byte 130 of an image is byte 2 of block 2; past a block's end and past the image there are zeros.
blocks : Gives (λ (at : ℕ × ℕ). disk_of small (replicate 130 7 ++ (9 ∷ 8 ∷ [])) at.0 at.1)
    (((0, 0), 7) ∷ ((1, 63), 7) ∷ ((1, 64), 0) ∷ ((2, 1), 7) ∷ ((2, 2), 9) ∷ ((2, 3), 8) ∷ ((2, 4), 0) ∷ ((5, 0), 0) ∷ [])
blocks = refl

-- the same of a function from places to bytes
places : Gives (λ (at : ℕ × ℕ). blocks_of small (λ p. p) at.0 at.1) (((0, 5), 5) ∷ ((3, 1), 193) ∷ ((3, 64), 0) ∷ [])
places = refl

-- little-endian numbers of two and of four bytes
little_endian : (u16_in (slice_index (1 ∷ 2 ∷ 3 ∷ 4 ∷ 5 ∷ [])) 1 ≡ 770) × (u32_in (slice_index (1 ∷ 2 ∷ 3 ∷ 4 ∷ 5 ∷ [])) 1 ≡ 84148994)
little_endian = (refl, refl)

-- bits are counted from the least of each byte
bits : Gives (bit_in (slice_index (1 ∷ 128 ∷ 5 ∷ []))) ((0, true) ∷ (1, false) ∷ (7, false) ∷ (8, false) ∷ (15, true) ∷ (16, true) ∷ (17, false) ∷ (18, true) ∷ (24, false) ∷ [])
bits = refl

-- a map goes on in the next block: a block of 64 bytes has 512 bits
second_map_block : Gives (map_bit small (with_block 2 (1 ∷ []) (with_block 3 (2 ∷ []) (λ b o. 0))) 2) ((0, true) ∷ (511, false) ∷ (512, false) ∷ (513, true) ∷ [])
second_map_block = refl

-- Inode 1 begins at block 4; where a block holds two, inode 4 is the second of the second block.
inode_places : (inode_block small 1 ≡ 4) × (inode_block small 8 ≡ 11) × (inode_offset small 8 ≡ 0)
    × (inode_block (record small { block_size = 128 }) 4 ≡ 5) × (inode_offset (record small { block_size = 128 }) 4 ≡ 64)
inode_places = (refl, refl, refl, refl, refl)

-- each field of an inode, at its offset
fields : inode_in (slice_index (9 ∷ flat_map u16 (1 ∷ 2 ∷ 3 ∷ 4 ∷ []) ++ flat_map u32 (5 ∷ 6 ∷ 7 ∷ 8 ∷ 10 ∷ 11 ∷ 12 ∷ 13 ∷ 14 ∷ 15 ∷ 16 ∷ 17 ∷ 18 ∷ 19 ∷ []))) 1
    ≡ record { mode = 1; links = 2; uid = 3; gid = 4; size = 5; atime = 6; mtime = 7; ctime = 8; zones = 10 ∷ 11 ∷ 12 ∷ 13 ∷ 14 ∷ 15 ∷ 16 ∷ 17 ∷ 18 ∷ 19 ∷ [] }
fields = refl

-- the inode and the zone of a number that the volume hasn't are blank, whatever the bytes there
outside : ((small_pieces start).inodes 0 ≡ blank) × ((small_pieces start).inodes 9 ≡ blank) × ((small_pieces start).zones 4 0 ≡ 0) × ((small_pieces start).zones 12 0 ≡ 1)
    × ((small_pieces (with_byte 2 1 255 start)).inode_map 9 ≡ false) × ((small_pieces (with_byte 2 1 255 start)).inode_map 8 ≡ true)
    × ((small_pieces (with_byte 3 1 255 start)).zone_map 13 ≡ false) × ((small_pieces (with_byte 3 1 255 start)).zone_map 12 ≡ true)
outside = (refl, refl, refl, refl, refl, refl, refl, refl)

-- the file with pages in all ranges
abbrev file : Inode
file = (wide_pieces tree).inodes 4

-- pages 0, 7, 23 and 279 and holes beside them: 7 is the first of the single range, 23 of the double, 279 of the triple
pages : Gives (page_zone wide (wide_pieces tree) file)
    ((0, 23) ∷ (1, 0) ∷ (6, 0) ∷ (7, 25) ∷ (8, 0) ∷ (22, 0) ∷ (23, 28) ∷ (24, 0) ∷ (39, 0) ∷ (278, 0) ∷ (279, 32) ∷ (280, 0) ∷ (4374, 0) ∷ (4375, 0) ∷ (100000, 0) ∷ [])
pages = refl

-- a page is held where it has a zone
held : Gives (file_of wide (wide_pieces tree) file).held ((0, true) ∷ (1, false) ∷ (7, true) ∷ (23, true) ∷ (279, true) ∷ (280, false) ∷ [])
held = refl

-- the last number of the single's block, of the first that the double names and of the first below the triple
last_numbers : Gives (page_zone wide (wide_pieces (with_block 24 (replicate 60 0 ++ u32 33) (with_block 27 (replicate 60 0 ++ u32 34)
    (with_block 31 (replicate 60 0 ++ u32 35) tree)))) file) ((22, 33) ∷ (38, 34) ∷ (294, 35) ∷ (7, 0) ∷ (23, 0) ∷ (279, 0) ∷ [])
last_numbers = refl

-- the last page of all
last_page : page_zone wide (wide_pieces (with_block 29 (replicate 60 0 ++ u32 30) (with_block 30 (replicate 60 0 ++ u32 31) (with_block 31 (replicate 60 0 ++ u32 35) tree)))) file 4374 ≡ 35
last_page = refl

-- its indirect blocks: 0 is the single's, 1 the first that the double names, 17 the first below the triple's
blocks_by_level : Gives (λ (at : ℕ × ℕ). zone_at wide (wide_pieces tree) file at.0 at.1)
    (((1, 0), 24) ∷ ((1, 1), 27) ∷ ((1, 2), 0) ∷ ((1, 17), 31) ∷ ((1, 18), 0) ∷ ((2, 0), 26) ∷ ((2, 1), 30) ∷ ((2, 2), 0) ∷ ((2, 17), 0)
    ∷ ((3, 0), 29) ∷ ((3, 1), 0) ∷ ((4, 0), 0) ∷ ((0, 279), 32) ∷ [])
blocks_by_level = refl

-- Its bytes: the first of pages 0, 7, 23 and 279, the next; zeros in holes, and past the end, where zone 32 has other bytes.
bytes : Gives (file_byte wide (wide_pieces (with_block 32 (replicate 64 77) tree)) file)
    ((0, 65) ∷ (1, 0) ∷ (64, 0) ∷ (448, 66) ∷ (449, 0) ∷ (1472, 67) ∷ (17855, 0) ∷ (17856, 77) ∷ (17865, 77) ∷ (17866, 0) ∷ (17919, 0) ∷ (17920, 0) ∷ [])
bytes = refl

-- modes: a directory, files, a symbolic link; permissions are the last nine bits; these three types alone are known, and no bits between
modes : Gives {B = ℕ × ℕ × Bool} (λ mode. (type_in mode, permissions_in mode, is_mode mode))
    ((16877, (4, 493, true)) ∷ (33188, (8, 420, true)) ∷ (32768, (8, 0, true)) ∷ (41471, (10, 511, true)) ∷ (17389, (4, 493, false))
    ∷ (420, (0, 420, false))
    ∷ (43519, (10, 511, false)) ∷ (49663, (12, 511, false)) ∷ (65535, (15, 511, false)) ∷ [])
modes = refl

-- the node of an inode whose attributes all differ
attributes : let node = node_of small (small_pieces start) (record { mode = 33188; links = 2; uid = 3; gid = 4; size = 5; atime = 6; mtime = 7; ctime = 8; zones = [] }) in
    (node.permissions ≡ 420) × (node.uid ≡ 3) × (node.gid ≡ 4) × (node.links ≡ 2) × (node.atime ≡ 6) × (node.mtime ≡ 7) × (node.ctime ≡ 8) × (size_of node.body ≡ 5) × (is_dir node ≡ false)
attributes = (refl, refl, refl, refl, refl, refl, refl, refl, refl)

-- Entries: a name ends at its first zero byte, or has all 60; an inode number of four bytes.
entries : (entry_name (slice_index (entry 1 (97 ∷ 98 ∷ 0 ∷ 99 ∷ []))) 0 ≡ 97 ∷ 98 ∷ []) × (entry_name (slice_index (entry 1 (replicate 60 97))) 0 ≡ replicate 60 97)
    × (entry_name (slice_index (replicate 64 0 ++ entry 66051 (97 ∷ []))) 1 ≡ 97 ∷ []) × (entry_inode (slice_index (replicate 64 0 ++ entry 66051 (97 ∷ []))) 1 ≡ 66051)
entries = (refl, refl, refl, refl)

-- The names of the root and of directory 2, in the order of their bytes, also where a's entry is named zz on the disk.
names : (names_of (nodes_of wide (wide_pieces tree) 1) ≡ (97 ∷ [], 2) ∷ (102 ∷ [], 4) ∷ (103 ∷ [], 5) ∷ [])
    × (names_of (nodes_of wide (wide_pieces tree) 2) ≡ (98 ∷ [], 3) ∷ (104 ∷ [], 4) ∷ [])
    × (names_of (nodes_of wide (wide_pieces tree) 3) ≡ [])
    × (names_of (nodes_of wide (wide_pieces (with_block 14 (entry 2 (122 ∷ 122 ∷ [])) tree)) 1) ≡ (102 ∷ [], 4) ∷ (103 ∷ [], 5) ∷ (122 ∷ 122 ∷ [], 2) ∷ [])
unfolding names_in
names = (refl, refl, refl, refl)

-- a directory's entry 1 leads to its parent; a file has none
parents : Gives (λ n. parent_of (nodes_of wide (wide_pieces tree) n)) ((1, 1) ∷ (2, 1) ∷ (3, 2) ∷ (4, 0) ∷ [])
parents = refl

-- there is a node exactly where an inode is marked; numbers out of range have none, whatever the map's bits
marked : Gives (λ n. is_some (nodes_of wide (wide_pieces (with_byte 2 1 255 tree)) n))
    ((0, false) ∷ (1, true) ∷ (2, true) ∷ (5, true) ∷ (6, false) ∷ (7, false) ∷ (8, true) ∷ (9, false) ∷ (10, false) ∷ [])
marked = refl
