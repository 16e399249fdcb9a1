-- Verdicts on a root alone, and on changes of it.
use Rattle.std.proofs.Common.{◌≡◌, [], ◌∷◌, refl}
use Rattle.lemmas.specs.Sums.{sum_below, some_below, least_below}
use Rattle.volume.specs.Reading.{Disk}
use Rattle.volume.specs.Nodes.{names_in}
use Rattle.volume.specs.Verdict.{Verdict, Clean, found}
use Rattle.tests_definitions.proofs.SmallVolumes.{Rows, Gives, u32, inode, entry, with_block, with_byte, start, verdict, small_verdict_from}

-- one byte set, or two or three: of the maps, of inode 1 (block 4), of its entries (blocks 12 and 13)
abbrev bytes_set : Rows Disk Verdict
bytes_set =
    (start, Clean)
    ∷ (with_byte 2 0 2 start, found 2 0)
    ∷ (with_byte 3 0 6 start, found 3 0)
    ∷ (with_byte 2 0 1 start, found 4 1)
    ∷ (with_byte 4 1 67 start, found 5 1)
    ∷ (with_byte 4 8 64 start, found 6 1)
    ∷ (with_byte 4 24 11 start, found 7 1)
    ∷ (with_byte 4 32 12 start, found 8 12)
    ∷ (with_byte 3 0 15 start, found 9 14)
    ∷ (with_byte 4 32 14 (with_byte 3 0 15 start), found 10 1)
    ∷ (with_byte 4 24 0 (with_byte 3 0 5 start), found 11 1)
    ∷ (with_byte 12 4 47 start, found 12 1)
    ∷ (with_byte 4 2 3 start, found 16 1)
    ∷ []

bytes_set_rows : Gives verdict bytes_set
unfolding sum_below some_below least_below names_in
bytes_set_rows = refl

-- a third entry, in zone 14
abbrev third : Disk
third = with_byte 4 8 192 (with_byte 4 32 14 (with_byte 3 0 15 start))

-- the third entry free; named x of an inode out of range, of one that isn't marked, of the root
abbrev third_entries : Rows Disk Verdict
third_entries =
    (third, found 13 1)
    ∷ (with_block 14 (entry 9 (120 ∷ [])) third, found 14 1)
    ∷ (with_block 14 (entry 2 (120 ∷ [])) third, found 14 1)
    ∷ (with_block 14 (entry 1 (120 ∷ [])) third, found 15 1)
    ∷ []

third_entries_rows : Gives (small_verdict_from 11) third_entries
unfolding sum_below some_below least_below names_in
third_entries_rows = refl

-- bit 0 of the inode map with bit 1 and of the zone map with others; a root that is a file, or of no type
abbrev first_findings : Rows Disk Verdict
first_findings =
    (with_byte 2 0 0 start, found 2 0)
    ∷ (with_byte 3 0 0 start, found 3 0)
    ∷ (with_byte 4 1 129 start, found 4 1)
    ∷ (with_byte 4 1 1 start, found 4 1)
    ∷ []

first_findings_rows : Gives verdict first_findings
unfolding sum_below some_below least_below names_in
first_findings_rows = refl

-- the root with inode 2 marked and lying there
abbrev with_second : Disk → Disk
with_second d = with_byte 2 0 7 d

-- modes: a socket, a block device, none, a directory with the setgid bit, a file with the setuid bit, a symbolic link with the setuid bit;
-- two of them
abbrev modes : Rows Disk Verdict
modes =
    (with_second (with_block 5 (inode 49663 1 0 []) start), found 5 2)
    ∷ (with_second (with_block 5 (inode 24996 1 0 []) start), found 5 2)
    ∷ (with_second start, found 5 2)
    ∷ (with_byte 4 1 69 start, found 5 1)
    ∷ (with_second (with_block 5 (inode 35236 1 0 []) start), found 5 2)
    ∷ (with_second (with_block 5 (inode 43519 1 1 []) start), found 5 2)
    ∷ (with_byte 2 0 15 (with_block 5 (inode 33188 1 0 []) start), found 5 3)
    ∷ (with_byte 2 0 15 start, found 5 2)
    ∷ (with_byte 2 1 255 start, found 5 8)
    ∷ (with_second (with_byte 4 8 64 start), found 5 2)
    ∷ []

modes_rows : Gives verdict modes
unfolding sum_below some_below least_below names_in
modes_rows = refl

-- sizes: a file's over the greatest, and the greatest (which no name leads to); a directory's of 0, of no whole number of entries,
-- and over the greatest; two of them
abbrev sizes : Rows Disk Verdict
sizes =
    (with_second (with_block 5 (inode 33188 1 2147483648 []) start), found 6 2)
    ∷ (with_second (with_block 5 (inode 33188 1 2147483647 []) start), found 16 2)
    ∷ (with_byte 4 8 0 start, found 6 1)
    ∷ (with_byte 4 8 130 start, found 6 1)
    ∷ (with_byte 4 11 128 start, found 6 1)
    ∷ (with_second (with_byte 4 8 0 (with_block 5 (inode 33188 1 4294967295 []) start)), found 6 1)
    ∷ []

sizes_rows : Gives verdict sizes
unfolding sum_below some_below least_below names_in
sizes_rows = refl

-- Zone numbers: one past the last zone, the last (which isn't marked), one past 65535, a byte of the number that only counts with
-- the others; in the single, the double and the triple block; one that the first two entries of a directory happen to spell.
abbrev numbers : Rows Disk Verdict
numbers =
    (with_byte 4 24 24 start, found 7 1)
    ∷ (with_byte 4 24 23 start, found 9 12)
    ∷ (with_byte 4 26 1 start, found 7 1)
    ∷ (with_byte 4 25 1 start, found 7 1)
    ∷ (with_byte 4 52 14 (with_block 14 (u32 24) start), found 7 1)
    ∷ (with_byte 4 56 14 (with_block 14 (u32 11) start), found 7 1)
    ∷ (with_byte 4 60 14 (with_block 14 (u32 2) start), found 7 1)
    ∷ (with_byte 4 52 14 (with_byte 14 60 5 start), found 7 1)
    ∷ (with_byte 4 60 24 start, found 7 1)
    ∷ (with_byte 4 52 12 start, found 7 1)
    ∷ []

numbers_rows : Gives verdict numbers
unfolding sum_below some_below least_below names_in
numbers_rows = refl

-- Uses: an indirect block that names itself, at each level; two zones with two uses; a zone of two inodes; one with its bit clear.
abbrev twice : Rows Disk Verdict
twice =
    (with_byte 4 52 14 (with_block 14 (u32 14) (with_byte 3 0 15 start)), found 8 14)
    ∷ (with_byte 4 56 14 (with_block 14 (u32 14) (with_byte 3 0 15 start)), found 8 14)
    ∷ (with_byte 4 60 14 (with_block 14 (u32 14) (with_byte 3 0 15 start)), found 8 14)
    ∷ (with_byte 4 32 13 (with_byte 4 36 12 start), found 8 12)
    ∷ (with_second (with_block 5 (inode 33188 1 64 (13 ∷ [])) start), found 8 13)
    ∷ (with_byte 4 32 13 (with_byte 3 0 3 start), found 8 13)
    ∷ []

twice_rows : Gives (small_verdict_from 8) twice
unfolding sum_below some_below least_below names_in
twice_rows = refl

-- Inodes 2 and 3 share block 15, which names 14. As single of both it is entered once, so 14 has one use; as single of one and double
-- of the other it is entered twice, at two levels.
abbrev shared : Rows Disk Verdict
shared = (
  with_byte 2 0 15 (with_byte 3 0 31 (with_block 15 (u32 14)
      (with_block 5 (inode 33188 1 512 (0 ∷ 0 ∷ 0 ∷ 0 ∷ 0 ∷ 0 ∷ 0 ∷ 15 ∷ []))
      (with_block 6 (inode 33188 1 512 (0 ∷ 0 ∷ 0 ∷ 0 ∷ 0 ∷ 0 ∷ 0 ∷ 15 ∷ [])) start)))),
  found 8 15,
)
    ∷ (
      with_byte 2 0 15 (with_byte 3 0 31 (with_block 15 (u32 14)
          (with_block 5 (inode 33188 1 512 (0 ∷ 0 ∷ 0 ∷ 0 ∷ 0 ∷ 0 ∷ 0 ∷ 15 ∷ []))
          (with_block 6 (inode 33188 1 512 (0 ∷ 0 ∷ 0 ∷ 0 ∷ 0 ∷ 0 ∷ 0 ∷ 0 ∷ 15 ∷ [])) start)))),
      found 8 14,
    )
    ∷ []

shared_rows : Gives (small_verdict_from 8) shared
unfolding sum_below some_below least_below names_in
shared_rows = refl

-- Bits: a used zone's clear, an unused one's set, both; the last zone's. Bits past the last zone and the last inode are unseen.
abbrev bits : Rows Disk Verdict
bits =
    (with_byte 3 0 3 start, found 9 13)
    ∷ (with_byte 3 0 11 start, found 9 13)
    ∷ (with_byte 3 1 16 start, found 9 23)
    ∷ (with_byte 3 1 224 start, Clean)
    ∷ (with_byte 3 63 255 start, Clean)
    ∷ (with_byte 2 1 254 start, Clean)
    ∷ (with_byte 2 63 255 start, Clean)
    ∷ []

bits_rows : Gives verdict bits
unfolding sum_below some_below least_below names_in
bits_rows = refl

-- Indirect blocks without a number: the single's, the double's, the triple's, and the first that the double's names.
abbrev spare : Rows Disk Verdict
spare =
    (with_byte 4 52 14 (with_byte 3 0 15 start), found 10 1)
    ∷ (with_byte 4 56 14 (with_byte 3 0 15 start), found 10 1)
    ∷ (with_byte 4 60 14 (with_byte 3 0 15 start), found 10 1)
    ∷ (with_byte 4 56 14 (with_block 14 (u32 15) (with_byte 3 0 31 start)), found 10 1)
    ∷ []

spare_rows : Gives (small_verdict_from 10) spare
unfolding sum_below some_below least_below names_in
spare_rows = refl

-- A hole in place of entry 1; entry 0 with a byte after its zero, at the end of its field, of another inode; entry 1 named . and named
-- ...; entry 1 free, and of an inode that isn't marked.
abbrev dots : Rows Disk Verdict
dots =
    (with_byte 4 28 0 (with_byte 3 0 3 start), found 11 1)
    ∷ (with_byte 12 6 120 start, found 12 1)
    ∷ (with_byte 12 63 1 start, found 12 1)
    ∷ (with_byte 12 0 2 start, found 12 1)
    ∷ (with_byte 13 5 0 start, found 12 1)
    ∷ (with_byte 13 6 46 start, found 12 1)
    ∷ (with_byte 13 7 46 start, found 12 1)
    ∷ (with_byte 13 0 0 start, found 13 1)
    ∷ (with_byte 13 0 2 start, found 14 1)
    ∷ []

dots_rows : Gives (small_verdict_from 11) dots
unfolding sum_below some_below least_below names_in
dots_rows = refl

-- A root of four entries, in zones 12 to 15: x and y both lead to directory 2, whose .. is the root and whose zones are 16 and 17.
named_twice : small_verdict_from 11 (with_block 2 (7 ∷ []) (with_block 3 (127 ∷ []) (with_block 4 (inode 16877 4 256 (12 ∷ 13 ∷ 14 ∷ 15 ∷ []))
    (with_block 14 (entry 2 (120 ∷ [])) (with_block 15 (entry 2 (121 ∷ [])) (with_block 5 (inode 16877 2 128 (16 ∷ 17 ∷ []))
    (with_block 16 (entry 2 (46 ∷ [])) (with_block 17 (entry 1 (46 ∷ 46 ∷ [])) start)))))))) ≡ found 15 2
unfolding sum_below some_below least_below names_in
named_twice = refl

-- Links: 2 more than there are, 0, and a high byte; those of an inode without a name, 1 and 0.
abbrev links : Rows Disk Verdict
links =
    (with_byte 4 2 4 start, found 16 1)
    ∷ (with_byte 4 2 0 start, found 16 1)
    ∷ (with_byte 4 3 128 start, found 16 1)
    ∷ (with_second (with_block 5 (inode 33188 1 0 []) start), found 16 2)
    ∷ (with_second (with_block 5 (inode 33188 0 0 []) start), found 16 2)
    ∷ []

links_rows : Gives (small_verdict_from 11) links
unfolding sum_below some_below least_below names_in
links_rows = refl
