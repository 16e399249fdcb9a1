-- Verdicts on images whose layout is refused.
use Rattle.std.proofs.Common.{ℕ, List, [], ◌∷◌, ◌++◌, take, replicate, refl}
use Rattle.lemmas.specs.Sums.{some_below, least_below}
use Rattle.volume.specs.Verdict.{found, verdict_of}
use Rattle.tests_definitions.proofs.SmallVolumes.{Gives, u16, u32}

-- the boot block and a superblock: inodes, both maps' blocks, first data zone, log2, maximum size, zones, magic, block size, version
abbrev superblock : ℕ → ℕ → ℕ → ℕ → ℕ → ℕ → ℕ → ℕ → ℕ → ℕ → List ℕ
superblock inodes inode_map zone_map first log most zones magic size version =
    replicate 1024 0 ++ u32 inodes ++ u16 0 ++ u16 inode_map ++ u16 zone_map ++ u16 first ++ u16 log ++ u16 0 ++ u32 most ++ u32 zones
    ++ u16 magic ++ u16 0 ++ u16 size ++ (version ∷ [])

-- 64 blocks of 1024 bytes, 32 inodes, one block of each map, the first data zone 6; the image ends after the superblock
abbrev whole : List ℕ
whole = superblock 32 1 1 6 0 2147483647 64 19802 1024 0

-- no byte, all but one of the superblock, the superblock alone
lengths : Gives verdict_of (([], found 1 1) ∷ (take 1054 whole, found 1 1) ∷ (whole, found 1 6) ∷ [])
lengths = refl

-- another magic; block sizes 512, 8192 and 0; version 1 and log2 1
fields : Gives verdict_of (
    (superblock 32 1 1 6 0 2147483647 64 19803 1024 0, found 1 2)
    ∷ (superblock 32 1 1 6 0 2147483647 64 9320 1024 0, found 1 2)
    ∷ (superblock 32 1 1 6 0 2147483647 64 19802 512 0, found 1 3)
    ∷ (superblock 32 1 1 6 0 2147483647 64 19802 8192 0, found 1 3)
    ∷ (superblock 32 1 1 6 0 2147483647 64 19802 0 0, found 1 3)
    ∷ (superblock 32 1 1 6 0 2147483647 64 19802 1024 1, found 1 4)
    ∷ (superblock 32 1 1 6 1 2147483647 64 19802 1024 0, found 1 4)
    ∷ [])
fields = refl

-- Counts: no inode, 65536 inodes with all else right, 65537 zones, another greatest size, the first data zone one off either way, no data
-- zone, one; no map block of either.
counts : Gives verdict_of (
    (superblock 0 1 1 4 0 2147483647 64 19802 1024 0, found 1 5)
    ∷ (superblock 65536 9 9 4116 0 2147483647 65536 19802 1024 0, found 1 5)
    ∷ (superblock 65535 8 8 4114 0 2147483647 65536 19802 1024 0, found 1 6)
    ∷ (superblock 32 1 9 14 0 2147483647 65537 19802 1024 0, found 1 5)
    ∷ (superblock 32 1 8 13 0 2147483647 65536 19802 1024 0, found 1 6)
    ∷ (superblock 32 1 1 6 0 2147483646 64 19802 1024 0, found 1 5)
    ∷ (superblock 32 1 1 7 0 2147483647 64 19802 1024 0, found 1 5)
    ∷ (superblock 32 1 1 5 0 2147483647 64 19802 1024 0, found 1 5)
    ∷ (superblock 32 1 1 6 0 2147483647 6 19802 1024 0, found 1 5)
    ∷ (superblock 32 1 1 6 0 2147483647 7 19802 1024 0, found 1 6)
    ∷ (superblock 32 0 1 5 0 2147483647 64 19802 1024 0, found 1 5)
    ∷ (superblock 32 1 0 5 0 2147483647 64 19802 1024 0, found 1 5)
    ∷ [])
counts = refl

-- Maps of 8192 bits: 8191 inodes and bit 0 fill one, 8192 pass it; 8191 data zones fill one, though mkfs would write two blocks for 8197
-- blocks, and 8192 pass it. More blocks of a map than are needed.
maps : Gives verdict_of (
    (superblock 8191 1 1 516 0 2147483647 1000 19802 1024 0, found 1 6)
    ∷ (superblock 8192 1 1 516 0 2147483647 1000 19802 1024 0, found 1 5)
    ∷ (superblock 32 1 1 6 0 2147483647 8197 19802 1024 0, found 1 6)
    ∷ (superblock 32 1 1 6 0 2147483647 8198 19802 1024 0, found 1 5)
    ∷ (superblock 32 3 5 12 0 2147483647 64 19802 1024 0, found 1 6)
    ∷ [])
maps = refl

-- several at once: the least
several : Gives verdict_of (
    (superblock 0 1 1 6 1 0 64 0 0 1, found 1 2)
    ∷ (superblock 0 1 1 6 1 0 64 19802 0 1, found 1 3)
    ∷ (superblock 0 1 1 6 1 0 64 19802 1024 1, found 1 4)
    ∷ (superblock 0 1 1 6 0 0 64 19802 1024 0, found 1 5)
    ∷ (take 1054 (superblock 0 1 1 6 1 0 64 0 0 1), found 1 1)
    ∷ [])
several = refl

-- six blocks of 1024 bytes, 16 inodes, the first data zone 5: one byte short, and whole, with zeros for maps
ends : Gives verdict_of (
    (superblock 16 1 1 5 0 2147483647 6 19802 1024 0 ++ replicate 5088 0, found 1 6)
    ∷ (superblock 16 1 1 5 0 2147483647 6 19802 1024 0 ++ replicate 5089 0, found 2 0)
    ∷ [])
unfolding some_below least_below
ends = refl
