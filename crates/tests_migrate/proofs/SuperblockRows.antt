-- Superblocks of version 2, and why others are refused.
use Rattle.std.proofs.Common.{◌≡◌, ℕ, List, [], ◌∷◌, ◌++◌, ◌/◌, ◌%◌, map, take, replicate, refl}
use Rattle.std.specs.Prelude.{Result, Ok, Err}
use Rattle.layout.specs.declared.Geometry.{Geometry}
use Rattle.migrate.specs.declared.old_volume.superblock.OldRefusal.{OldRefusal}
use Rattle.migrate.specs.declared.old_volume.superblock.OldRefusal.TheVariants.{Truncated, BadMagic, BadZoneSize, BadCounts, DoesNotFit}
use Rattle.migrate.specs.Superblock.{old_geometry_of}

-- the two bytes of a number
abbrev u16 : ℕ → List ℕ
u16 x = x % 256 ∷ x / 256 ∷ []

-- the boot block and a superblock: inodes, both maps' blocks, first data zone, log2, magic, zones; the image ends after it
abbrev superblock : ℕ → ℕ → ℕ → ℕ → ℕ → ℕ → ℕ → List ℕ
superblock inodes inode_map zone_map first log magic zones =
    replicate 1024 0 ++ u16 inodes ++ u16 0 ++ u16 inode_map ++ u16 zone_map ++ u16 first ++ u16 log ++ (255 ∷ 255 ∷ 255 ∷ 127 ∷ [])
    ++ u16 magic ++ u16 1 ++ u16 zones ++ u16 0

-- rows of an image and how it is refused
abbrev Refuses : List (List ℕ × OldRefusal) → Type 0
Refuses rows = map (λ (row : List ℕ × OldRefusal). old_geometry_of row.0) rows ≡ map (λ (row : List ℕ × OldRefusal). Err row.1) rows

-- 64 blocks, 32 inodes
abbrev whole : List ℕ
whole = superblock 32 1 1 6 0 9320 64

-- No byte, all but one of the superblock, the superblock alone; the magic numbers of names of 30 bytes and of version 3; zones of two blocks.
fields : Refuses (
    ([], Truncated)
    ∷ (take 1047 whole, Truncated)
    ∷ (whole, DoesNotFit)
    ∷ (superblock 32 1 1 6 0 9336 64, BadMagic)
    ∷ (superblock 32 1 1 6 0 19802 64, BadMagic)
    ∷ (superblock 32 1 1 6 1 9320 64, BadZoneSize)
    ∷ [])
fields = refl

-- No inode, no zone, no data zone, the first data zone one off either way, no block of either map; a map of 8192 bits that inodes fill, and
-- one that they pass.
counts : Refuses (
    (superblock 0 1 1 4 0 9320 64, BadCounts)
    ∷ (superblock 32 1 1 6 0 9320 0, BadCounts)
    ∷ (superblock 32 1 1 6 0 9320 6, BadCounts)
    ∷ (superblock 32 1 1 7 0 9320 64, BadCounts)
    ∷ (superblock 32 1 1 5 0 9320 64, BadCounts)
    ∷ (superblock 32 0 1 5 0 9320 64, BadCounts)
    ∷ (superblock 32 1 0 5 0 9320 64, BadCounts)
    ∷ (superblock 8191 1 1 516 0 9320 1000, DoesNotFit)
    ∷ (superblock 8192 1 1 516 0 9320 1000, BadCounts)
    ∷ [])
counts = refl
