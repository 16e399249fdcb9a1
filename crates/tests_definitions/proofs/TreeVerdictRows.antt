-- Verdicts on a tree with directories and a file in all ranges, and on changes of it.
use Rattle.std.proofs.Common.{◌≡◌, [], ◌∷◌, replicate, refl}
use Rattle.layout.specs.declared.Geometry.{Geometry}
use Rattle.lemmas.specs.Sums.{sum_below, some_below, least_below}
use Rattle.volume.specs.Reading.{Disk}
use Rattle.volume.specs.Pieces.{pieces}
use Rattle.volume.specs.Nodes.{names_in}
use Rattle.volume.specs.Verdict.{Verdict, Clean, found, verdict_of_pieces}
use Rattle.tests_definitions.proofs.SmallVolumes.{Rows, Gives, inode, entry, with_block, with_byte, tree, wide_verdict, verdict_from}
use Rattle.tests_definitions.proofs.SmallVolumes.{later_verdict}

-- The tree; and the tree with bytes that are unseen (of both first blocks, of an inode that isn't marked, of a zone without a use, and of
-- the last page past the end), a file without permissions, a name of a high byte, one of 60 bytes, and a hole of the greatest size.
abbrev clean : Rows Disk Verdict
clean =
    (tree, Clean)
    ∷ (
      with_byte 7 0 0 (with_byte 15 4 255 (with_block 16 (entry 5 (replicate 60 120)) (with_block 8 (inode 33188 1 2147483647 [])
          (with_byte 0 5 9 (with_byte 1 63 9 (with_block 9 (replicate 64 255) (with_block 35 (replicate 64 255) (with_block 32 (replicate 64 255) tree)))))))),
      Clean,
    )
    ∷ []

clean_rows : Gives wide_verdict clean
unfolding sum_below some_below least_below names_in
clean_rows = refl

-- A number that is no data zone's in the file's single block, in its double and the one below, in its triple and the two below.
abbrev numbers : Rows Disk Verdict
numbers =
    (with_byte 24 4 5 tree, found 7 4)
    ∷ (with_byte 26 4 11 tree, found 7 4)
    ∷ (with_byte 27 60 36 tree, found 7 4)
    ∷ (with_byte 29 4 36 tree, found 7 4)
    ∷ (with_byte 30 60 11 tree, found 7 4)
    ∷ (with_byte 31 4 255 tree, found 7 4)
    ∷ []

numbers_rows : Gives wide_verdict numbers
unfolding sum_below some_below least_below names_in
numbers_rows = refl

-- A page named twice in its single block; a directory's zone named by the triple's last block; an indirect block that is another file's
-- too.
abbrev twice : Rows Disk Verdict
twice =
    (with_byte 24 4 25 tree, found 8 25)
    ∷ (with_byte 31 4 12 tree, found 8 12)
    ∷ (with_byte 8 52 24 tree, found 8 24)
    ∷ []

twice_rows : Gives (verdict_from 8) twice
unfolding sum_below some_below least_below names_in
twice_rows = refl

-- that block is the other file's double: its bytes then spell a number
as_double : wide_verdict (with_byte 8 56 24 tree) ≡ found 7 5
unfolding sum_below some_below least_below names_in
as_double = refl

-- a page that is an indirect block
page_and_block : verdict_from 8 (with_byte 31 4 30 tree) ≡ found 8 30
unfolding sum_below some_below least_below names_in
page_and_block = refl

-- The bit of an unused zone set; of the triple's page, of the single's block, of a directory's zone clear.
abbrev bits : Rows Disk Verdict
bits =
    (with_byte 3 2 127 tree, found 9 33)
    ∷ (with_byte 3 2 31 tree, found 9 32)
    ∷ (with_byte 3 1 223 tree, found 9 24)
    ∷ (with_byte 3 1 251 tree, found 9 21)
    ∷ []

bits_rows : Gives (verdict_from 9) bits
unfolding sum_below some_below least_below names_in
bits_rows = refl

-- a size that leaves the triple's page one byte
one_byte_left : verdict_from 10 (with_byte 7 8 193 tree) ≡ Clean
unfolding sum_below some_below least_below names_in
one_byte_left = refl

-- The size that leaves it none, so that it lies at the end; a page of the empty file.
abbrev spare : Rows Disk Verdict
spare =
    (with_byte 7 8 192 tree, found 10 4)
    ∷ (with_byte 8 24 33 (with_byte 3 2 127 tree), found 10 5)
    ∷ []

spare_rows : Gives (verdict_from 10) spare
unfolding sum_below some_below least_below names_in
spare_rows = refl

-- The last block of the triple, the one above it and the lower one of the double without a number, the zones below them unmarked.
abbrev empty_blocks : Rows Disk Verdict
empty_blocks =
    (with_byte 31 0 0 (with_byte 3 2 31 tree), found 10 4)
    ∷ (with_byte 30 0 0 (with_byte 3 2 15 tree), found 10 4)
    ∷ (with_byte 27 0 0 (with_byte 3 2 61 tree), found 10 4)
    ∷ []

empty_blocks_rows : Gives (verdict_from 10) empty_blocks
unfolding sum_below some_below least_below names_in
empty_blocks_rows = refl

-- Holes in directories 3 and 2 (zones 22 and 19 unmarked).
abbrev holes : Rows Disk Verdict
holes =
    (with_byte 6 28 0 (with_byte 3 1 247 tree), found 11 3)
    ∷ (with_byte 5 32 0 (with_byte 3 1 254 tree), found 11 2)
    ∷ []

holes_rows : Gives later_verdict holes
unfolding sum_below some_below least_below names_in
holes_rows = refl

-- Directory 3's . leads to 2; directory 2's .. has a byte at its field's third place.
abbrev dots : Rows Disk Verdict
dots =
    (with_byte 21 0 2 tree, found 12 3)
    ∷ (with_byte 18 6 1 tree, found 12 2)
    ∷ (with_byte 21 0 2 (with_byte 18 6 1 tree), found 12 2)
    ∷ []

dots_rows : Gives later_verdict dots
unfolding sum_below some_below least_below names_in
dots_rows = refl

-- Names: with a slash, with a byte after a zero, empty, . and .. at a later place, one that stands earlier (in directory 2, in the root, in
-- both), a free entry, a free ... and a name of 60 bytes that ends in a slash.
abbrev names : Rows Disk Verdict
names =
    (with_byte 16 4 47 tree, found 13 1)
    ∷ (with_byte 16 6 1 tree, found 13 1)
    ∷ (with_byte 16 63 1 tree, found 13 1)
    ∷ (with_byte 16 4 0 tree, found 13 1)
    ∷ (with_byte 20 4 46 tree, found 13 2)
    ∷ (with_byte 20 4 46 (with_byte 20 5 46 tree), found 13 2)
    ∷ (with_byte 20 4 98 tree, found 13 2)
    ∷ (with_byte 16 4 97 tree, found 13 1)
    ∷ (with_byte 16 4 97 (with_byte 20 4 98 tree), found 13 1)
    ∷ (with_byte 15 0 0 tree, found 13 1)
    ∷ (with_byte 18 0 0 tree, found 13 2)
    ∷ (with_block 16 (entry 5 (replicate 60 47)) tree, found 13 1)
    ∷ []

names_rows : Gives later_verdict names
unfolding sum_below some_below least_below names_in
names_rows = refl

-- Entries of inodes that aren't marked or are out of range: a name of directory 2, its third byte set, the .. of directory 3, both.
abbrev targets : Rows Disk Verdict
targets =
    (with_byte 19 0 6 tree, found 14 2)
    ∷ (with_byte 20 2 1 tree, found 14 2)
    ∷ (with_byte 22 0 7 tree, found 14 3)
    ∷ (with_byte 22 0 9 (with_byte 20 0 255 tree), found 14 2)
    ∷ []

targets_rows : Gives later_verdict targets
unfolding sum_below some_below least_below names_in
targets_rows = refl

-- .. of directory 3 leads to the root, of 2 to 3 and to a file, of the root to 2; directory 3 named twice; the root named; directory 2
-- without a name; two at fault.
abbrev parents : Rows Disk Verdict
parents =
    (with_byte 22 0 1 tree, found 15 3)
    ∷ (with_byte 18 0 3 tree, found 15 2)
    ∷ (with_byte 18 0 4 tree, found 15 2)
    ∷ (with_byte 13 0 2 tree, found 15 1)
    ∷ (with_byte 20 0 3 tree, found 15 3)
    ∷ (with_byte 15 0 1 tree, found 15 1)
    ∷ (with_byte 14 0 5 tree, found 15 2)
    ∷ (with_byte 22 0 1 (with_byte 18 0 3 tree), found 15 2)
    ∷ []

parents_rows : Gives later_verdict parents
unfolding sum_below some_below least_below names_in
parents_rows = refl

-- directories 2 and 3 name each other, and no way leads there from the root: 3 has an entry c of 2 in zone 33, and the root's a is of 5
apart : later_verdict (with_byte 6 8 192 (with_byte 6 32 33 (with_block 33 (entry 2 (99 ∷ [])) (with_byte 18 0 3 (with_byte 14 0 5 (with_byte 3 2 127 tree)))))) ≡ found 15 2
unfolding sum_below some_below least_below names_in
apart = refl

-- Link counts: of the file with two names 3 and 1; of the root without its subdirectory, of directory 2, of directory 3; two of them; of a
-- file with a name 0; of one without a name 0 and 1.
abbrev links : Rows Disk Verdict
links =
    (with_byte 7 2 3 tree, found 16 4)
    ∷ (with_byte 7 2 1 tree, found 16 4)
    ∷ (with_byte 4 2 2 tree, found 16 1)
    ∷ (with_byte 5 2 2 tree, found 16 2)
    ∷ (with_byte 6 2 3 tree, found 16 3)
    ∷ (with_byte 6 2 3 (with_byte 7 2 3 tree), found 16 3)
    ∷ (with_byte 8 2 0 tree, found 16 5)
    ∷ (with_byte 2 0 127 (with_block 9 (inode 33188 0 0 []) tree), found 16 6)
    ∷ (with_byte 2 0 127 (with_block 9 (inode 33188 1 0 []) tree), found 16 6)
    ∷ []

links_rows : Gives later_verdict links
unfolding sum_below some_below least_below names_in
links_rows = refl

-- the same bytes with a second block of zone map, which is more than are needed: inodes and data zones lie one block later
abbrev two_map_blocks : Geometry
two_map_blocks = record { block_size = 64; inodes = 8; zones = 25; inode_map_blocks = 1; zone_map_blocks = 2; first_zone = 13 }

more_map_blocks : verdict_of_pieces two_map_blocks (pieces two_map_blocks (with_block 2 (3 ∷ []) (with_block 3 (7 ∷ []) (with_block 4 (replicate 64 255)
    (with_block 5 (inode 16877 2 128 (13 ∷ 14 ∷ [])) (with_block 13 (entry 1 (46 ∷ [])) (with_block 14 (entry 1 (46 ∷ 46 ∷ [])) (λ b o. 0)))))))) ≡ Clean
unfolding sum_below some_below least_below names_in
more_map_blocks = refl
