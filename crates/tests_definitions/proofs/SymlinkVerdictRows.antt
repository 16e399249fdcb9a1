-- Verdicts on symbolic links: finding 17 by each of its causes, and the findings that go before it.
use Rattle.std.proofs.Common.{◌≡◌, ◌++◌, ℕ, List, [], ◌∷◌, replicate, drop, refl}
use Rattle.layout.specs.declared.Geometry.{Geometry}
use Rattle.lemmas.specs.Sums.{sum_below, some_below, least_below}
use Rattle.tree.specs.Tree.{target_of}
use Rattle.std.specs.Prelude.{None, Some}
use Rattle.volume.specs.Reading.{Disk}
use Rattle.volume.specs.Pieces.{pieces}
use Rattle.volume.specs.Nodes.{names_in, nodes_of}
use Rattle.volume.specs.Verdict.{Verdict, Clean, found, first_found, place_limit, tests}
use Rattle.tests_definitions.proofs.SmallVolumes.{Rows, Gives, inode, entry, with_block, with_byte, start, small, small_pieces, verdict}
use Rattle.tests_definitions.proofs.SmallVolumes.{small_verdict_from}

-- The root with two links, l and m: inode 2 with the target a in zone 16, and inode 3 with the target bc in zone 17. The root's entries
-- lie in zones 12 to 15.
abbrev linked : Disk
linked = with_byte 2 0 15 (with_byte 3 0 127 (with_block 4 (inode 16877 2 256 (12 ∷ 13 ∷ 14 ∷ 15 ∷ []))
    (with_block 14 (entry 2 (108 ∷ [])) (with_block 15 (entry 3 (109 ∷ []))
    (with_block 5 (inode 41471 1 1 (16 ∷ [])) (with_block 16 (97 ∷ [])
    (with_block 6 (inode 41471 1 2 (17 ∷ [])) (with_block 17 (98 ∷ 99 ∷ []) start))))))))

-- the same with l's target of no byte
abbrev empty : Disk
empty = with_byte 3 0 95 (with_block 5 (inode 41471 1 0 []) linked)

-- Clean: the two; bytes past the end are unseen, and permissions aren't asked.
abbrev clean : Rows Disk Verdict
clean =
    (linked, Clean)
    ∷ (with_byte 5 8 2 (with_byte 16 1 255 (with_byte 16 3 7 linked)), Clean)
    ∷ (with_byte 5 0 0 (with_byte 5 1 160 linked), Clean)
    ∷ []

clean_rows : Gives verdict clean
unfolding sum_below some_below least_below names_in
clean_rows = refl

-- Finding 17: no byte; no zone at page 0; a zero byte, the first and the last; of two links the least that is at fault.
abbrev faults : Rows Disk Verdict
faults =
    (empty, found 17 2)
    ∷ (with_byte 3 0 95 (with_byte 5 24 0 linked), found 17 2)
    ∷ (with_byte 16 0 0 linked, found 17 2)
    ∷ (with_byte 17 0 0 linked, found 17 3)
    ∷ (with_byte 17 1 0 linked, found 17 3)
    ∷ (with_byte 17 1 0 (with_byte 16 0 0 linked), found 17 2)
    ∷ []

faults_rows : Gives verdict faults
unfolding sum_below some_below least_below names_in
faults_rows = refl

-- Of several the least: l's target of no byte, with another finding at m, at its page, or at the root. Findings 2 to 6 go first.
abbrev first_findings : Rows Disk Verdict
first_findings =
    (with_byte 2 0 14 empty, found 2 0)
    ∷ (with_byte 3 0 94 empty, found 3 0)
    ∷ (with_byte 4 1 129 empty, found 4 1)
    ∷ (with_byte 6 1 193 empty, found 5 3)
    ∷ (with_byte 6 11 128 empty, found 6 3)
    ∷ []

first_findings_rows : Gives verdict first_findings
unfolding sum_below some_below least_below names_in
first_findings_rows = refl

-- so do 7 to 9
abbrev zone_findings : Rows Disk Verdict
zone_findings =
    (with_byte 6 24 11 empty, found 7 3)
    ∷ (with_byte 6 24 12 empty, found 8 12)
    ∷ (with_byte 3 0 127 empty, found 9 16)
    ∷ []

zone_findings_rows : Gives verdict zone_findings
unfolding sum_below some_below least_below names_in
zone_findings_rows = refl

-- and 10 to 16: a page past m's end, a hole in the root, its dots, a name, an entry that leads nowhere, another parent, another link count
abbrev later_findings : Rows Disk Verdict
later_findings =
    (with_byte 3 0 127 (with_byte 6 28 16 empty), found 10 3)
    ∷ (with_byte 3 0 87 (with_byte 4 32 0 empty), found 11 1)
    ∷ (with_byte 12 0 2 empty, found 12 1)
    ∷ (with_byte 15 4 47 empty, found 13 1)
    ∷ (with_byte 15 0 4 empty, found 14 1)
    ∷ (with_byte 13 0 2 empty, found 15 1)
    ∷ (with_byte 6 2 2 empty, found 16 3)
    ∷ []

later_findings_rows : Gives (small_verdict_from 10) later_findings
unfolding sum_below some_below least_below names_in
later_findings_rows = refl

-- 64 blocks of 1024 bytes, 32 inodes: a page has room for each target
abbrev plain : Geometry
plain = record { block_size = 1024; inodes = 32; zones = 64; inode_map_blocks = 1; zone_map_blocks = 1; first_zone = 6 }

-- inode 2 is a link of so many bytes, of which zone 7 has these
abbrev long : ℕ → List ℕ → Disk
long size bytes = with_block 2 (7 ∷ []) (with_block 4 (replicate 64 0 ++ inode 41471 1 size (7 ∷ [])) (with_block 7 bytes (λ b o. 0)))

-- the verdict that finding 17 alone gives
abbrev last_verdict : Disk → Verdict
last_verdict d = first_found (place_limit plain) 17 (drop 15 (tests plain (pieces plain d)))

-- 1023 bytes; the same with the last of them zero; 1024 and 2147483647, none of them zero
abbrev lengths : Rows Disk Verdict
lengths =
    (long 1023 (replicate 1023 97), Clean)
    ∷ (long 1023 (replicate 1022 97), found 17 2)
    ∷ (long 1024 (replicate 1024 97), found 17 2)
    ∷ (long 2147483647 (replicate 1024 97), found 17 2)
    ∷ []

lengths_rows : Gives last_verdict lengths
unfolding sum_below some_below least_below names_in
lengths_rows = refl

-- the targets that the nodes have: a file and a directory have none
targets : Gives (λ n. target_of (nodes_of small (small_pieces linked) n))
    ((1, None) ∷ (2, Some (97 ∷ [])) ∷ (3, Some (98 ∷ 99 ∷ [])) ∷ (4, None) ∷ [])
targets = refl
