-- The pieces of a new volume, against its bytes written out.
use Rattle.std.proofs.Common.{◌≡◌, ℕ, zero, suc, List, [], ◌∷◌, ◌++◌, replicate, map, refl}
use Rattle.layout.specs.declared.Geometry.{Geometry}
use Rattle.volume.specs.Reading.{Disk}
use Rattle.volume.specs.Pieces.{pieces}
use Rattle.volume.specs.Fresh.{fresh_pieces}
use Rattle.tests_definitions.proofs.SmallVolumes.{with_block}

-- 64 blocks of 1024 bytes, 32 inodes: 2 inode map, 3 zone map, 4 and 5 the inodes, 6 the root's zone
abbrev plain : Geometry
plain = record { block_size = 1024; inodes = 32; zones = 64; inode_map_blocks = 1; zone_map_blocks = 1; first_zone = 6 }

-- a volume made at 50: both maps with the bits past the last set, the root's inode, its entries
abbrev made : Disk
made = with_block 2 (3 ∷ 0 ∷ 0 ∷ 0 ∷ 254 ∷ replicate 1019 255) (with_block 3 (3 ∷ 0 ∷ 0 ∷ 0 ∷ 0 ∷ 0 ∷ 0 ∷ 248 ∷ replicate 1016 255)
    (with_block 4 (237 ∷ 65 ∷ 2 ∷ 0 ∷ 0 ∷ 0 ∷ 0 ∷ 0 ∷ 128 ∷ 0 ∷ 0 ∷ 0 ∷ 50 ∷ 0 ∷ 0 ∷ 0 ∷ 50 ∷ 0 ∷ 0 ∷ 0 ∷ 50 ∷ 0 ∷ 0 ∷ 0 ∷ 6 ∷ [])
    (with_block 6 ((1 ∷ 0 ∷ 0 ∷ 0 ∷ 46 ∷ []) ++ replicate 59 0 ++ (1 ∷ 0 ∷ 0 ∷ 0 ∷ 46 ∷ 46 ∷ [])) (λ b o. 0))))

-- the numbers from k down
abbrev down : ℕ → List ℕ
down zero = zero ∷ []
down (suc k) = suc k ∷ down k

-- bits of the inode map, past the last too
inode_maps : map (pieces plain made).inode_map (down 40) ≡ map (fresh_pieces plain 50).inode_map (down 40)
inode_maps = refl

-- bits of the zone map, past the last too
zone_maps : map (pieces plain made).zone_map (down 70) ≡ map (fresh_pieces plain 50).zone_map (down 70)
zone_maps = refl

-- all inodes, and the numbers beside them
inodes : map (pieces plain made).inodes (down 34) ≡ map (fresh_pieces plain 50).inodes (down 34)
inodes = refl

-- the root's entries
root_zone : map ((pieces plain made).zones 6) (down 140) ≡ map ((fresh_pieces plain 50).zones 6) (down 140)
root_zone = refl

-- a byte of each block, which is seen in data zones alone
other_zones : map (λ z. (pieces plain made).zones z 4) (down 70) ≡ map (λ z. (fresh_pieces plain 50).zones z 4) (down 70)
other_zones = refl
