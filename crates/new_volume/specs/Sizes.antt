-- The sizes of a new volume, and when there is none.
use Rattle.std.specs.Prelude.{ℕ, ◌+◌, ◌-◌, ◌*◌, ◌/◌, List, not, ◌||◌, ◌==◌, nat_lt, nat_le, if◌then◌else◌, Result, Ok, Err, codes}
use Rattle.layout.specs.declared.Geometry.{Geometry}
use Rattle.layout.specs.Places.{is_block_size}
use Rattle.new_volume.specs.declared.MkfsRefusal.{MkfsRefusal}
use Rattle.new_volume.specs.declared.MkfsRefusal.TheVariants.{BadBlockSize, BadInodes, TooManyBlocks, TooFewBlocks, OutOfMemory}

-- how many blocks hold so much, where each holds so much of it
abbrev pub blocks_for : ℕ → ℕ → ℕ
blocks_for amount each = (amount + each - 1) / each

-- each map has as few blocks as have a bit for each inode, or each block, and one
abbrev pub new_geometry : ℕ → ℕ → ℕ → Geometry
new_geometry blocks block_size inodes =
    let inode_map = blocks_for (inodes + 1) (8 * block_size) in
    let zone_map = blocks_for blocks (8 * block_size) in
    record {
      block_size = block_size;
      inodes = inodes;
      zones = blocks;
      inode_map_blocks = inode_map;
      zone_map_blocks = zone_map;
      first_zone = 2 + inode_map + zone_map + blocks_for (64 * inodes) block_size;
    }

-- the sizes of a new volume, or the first refusal that holds
abbrev pub sizes_of : ℕ → ℕ → ℕ → Result Geometry MkfsRefusal
sizes_of blocks block_size inodes =
    if not (is_block_size block_size) then Err BadBlockSize else
    if (inodes == 0) || nat_lt 65535 inodes then Err BadInodes else
    if nat_lt 65536 blocks || nat_lt 67108864 (blocks * block_size) then Err TooManyBlocks else
    let volume = new_geometry blocks block_size inodes in
    if nat_le blocks volume.first_zone then Err TooFewBlocks else
    Ok volume

-- the refusals in their order, from 1 on
abbrev pub refusal_number : MkfsRefusal → ℕ
refusal_number BadBlockSize = 1
refusal_number BadInodes = 2
refusal_number TooManyBlocks = 3
refusal_number TooFewBlocks = 4
refusal_number OutOfMemory = 5

-- the bytes of a refusal's name
abbrev pub refusal_name : MkfsRefusal → List ℕ
refusal_name BadBlockSize = codes "BadBlockSize"
refusal_name BadInodes = codes "BadInodes"
refusal_name TooManyBlocks = codes "TooManyBlocks"
refusal_name TooFewBlocks = codes "TooFewBlocks"
refusal_name OutOfMemory = codes "OutOfMemory"
