-- The bytes of a superblock.
use Rattle.std.specs.Prelude.{◌≡◌, ◌≤◌, ℕ, ◌*◌, List, [], ◌∷◌, ◌++◌, length, take, drop, Ok}
use Rattle.byteorder.specs.Endian.{little_bytes}
use Rattle.layout.specs.declared.Geometry.{Geometry}
use Rattle.layout.specs.Places.{geometry_of, IsGeometry}

-- the superblock's 31 bytes, in the order of its fields; 19802 is the magic number 0x4d5a
abbrev pub superblock_bytes : Geometry → List ℕ
superblock_bytes g =
    little_bytes 4 g.inodes
    ++ little_bytes 2 0
    ++ little_bytes 2 g.inode_map_blocks
    ++ little_bytes 2 g.zone_map_blocks
    ++ little_bytes 2 g.first_zone
    ++ little_bytes 2 0
    ++ little_bytes 2 0
    ++ little_bytes 4 2147483647
    ++ little_bytes 4 g.zones
    ++ little_bytes 2 19802
    ++ little_bytes 2 0
    ++ little_bytes 2 g.block_size
    ++ 0 ∷ []

-- an image with the superblock of a geometry
abbrev pub with_superblock : Geometry → List ℕ → List ℕ
with_superblock g image = take 1024 image ++ (superblock_bytes g ++ drop 1055 image)

-- what was written is read
abbrev pub ReadsBack : Type 0
ReadsBack = (image : List ℕ) (g : Geometry) → IsGeometry g → 1055 ≤ length image → g.zones * g.block_size ≤ length image
    → geometry_of (with_superblock g image) ≡ Ok g
