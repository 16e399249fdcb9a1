-- The image of a new volume is made of bytes.
use Rattle.std.proofs.Common.{◌<◌, ◌-◌, ◌*◌, ◌++◌, ℕ, zero, suc, List, [], ◌∷◌, length, take, drop, replicate, arith}
use Rattle.std.specs.Prelude.{All}
use Rattle.std.specs.List.{range_with_len, flat_map}
use Rattle.std.specs.Int.{w32, bytes_low_first, to_le_bytes, byte_at}
use Rattle.std.proofs.lemmas.List.Elements.{All-append, All-cons, All-replicate, All-take, All-drop, All-map}
use Rattle.layout.specs.declared.Geometry.{Geometry}
use Rattle.layout.specs.Places.{table_blocks}
use Rattle.layout.specs.Superblock.{superblock_bytes, with_superblock}
use Rattle.tree.specs.Space.{data_zones}
use Rattle.volume.specs.declared.Inode.{Inode}
use Rattle.tree.specs.declared.User.{User}
use Rattle.volume.specs.Fresh.{fresh_entries}
use Rattle.inode.specs.Bytes.{bytes_of}
use Rattle.new_volume.specs.Image.{map_byte, map_bytes, filled, new_image}
use Rattle.new_volume.specs.Owned.{owned_inode}
use Rattle.new_volume.proofs.Bits.{map_byte_small}

-- a number is a byte
abbrev IsByte : ℕ → Type 0
IsByte b = b < 256

-- numbers that are all bytes
record Bytes (xs : List ℕ) : Type 0 where
  pub all : All IsByte xs

none : Bytes []
none = record { all = λ k d h. absurd (omega arith) }

-- one more in front
and : (x : ℕ) {xs : List ℕ} → x < 256 → Bytes xs → Bytes (x ∷ xs)
and x {xs} h more = record { all = All-cons IsByte x xs h more.all }

-- two rows of bytes
both : {xs ys : List ℕ} → Bytes xs → Bytes ys → Bytes (xs ++ ys)
both {xs} {ys} h k = record { all = All-append IsByte xs ys h.all k.all }

-- the bytes of a number
low : (i k n : ℕ) → Bytes (bytes_low_first i k n)
low i zero n = none
low i (suc k) n = and (byte_at i n) (small i) (low (suc i) k n)
  where
    small : (i : ℕ) → byte_at i n < 256
    small zero = omega arith
    small (suc i) = omega arith

-- the bytes of numbers
wide : (ns : List ℕ) → Bytes (flat_map (to_le_bytes w32) ns)
wide [] = none
wide (n ∷ ns) = both (low 0 4 n) (wide ns)

zeros : (n : ℕ) → Bytes (replicate n 0)
zeros n = record { all = All-replicate IsByte n 0 (omega arith) }

-- bytes that are filled up
full : (bytes : List ℕ) (size : ℕ) → Bytes bytes → Bytes (filled bytes size)
full bytes size h = both h (zeros (size - length bytes))

-- a map
mapped : (last size : ℕ) → Bytes (map_bytes last size)
mapped last size = record { all = All-map IsByte (map_byte last) (range_with_len 0 size) (λ k d h. map_byte_small last _) }

-- an inode
inode : (i : Inode) → Bytes (bytes_of i)
inode i = both (both (both (both (both (both (both (both (low 0 2 i.mode) (low 0 2 i.links)) (low 0 2 i.uid)) (low 0 2 i.gid))
    (low 0 4 i.size)) (low 0 4 i.atime)) (low 0 4 i.mtime)) (low 0 4 i.ctime)) (wide i.zones)

-- the superblock
superblock : (g : Geometry) → Bytes (superblock_bytes g)
superblock g = both (both (both (both (both (both (both (both (both (both (both (both
    (low 0 4 g.inodes) (low 0 2 0)) (low 0 2 g.inode_map_blocks)) (low 0 2 g.zone_map_blocks)) (low 0 2 g.first_zone)) (low 0 2 0)) (low 0 2 0))
    (low 0 4 2147483647)) (low 0 4 g.zones)) (low 0 2 19802)) (low 0 2 0)) (low 0 2 g.block_size)) (zeros 1)

-- the first two blocks
head : (g : Geometry) (n : ℕ) → Bytes (with_superblock g (replicate n 0))
head g n =
    let front : Bytes (take 1024 (replicate n 0)) = record { all = All-take IsByte 1024 (replicate n 0) (zeros n).all } in
    let back : Bytes (drop 1055 (replicate n 0)) = record { all = All-drop IsByte 1055 (replicate n 0) (zeros n).all } in
    both front (both (superblock g) back)

-- an entry of inode 1
entry : (name : List ℕ) → Bytes name → Bytes (1 ∷ 0 ∷ 0 ∷ 0 ∷ name)
entry name h = and 1 (omega arith) (and 0 (omega arith) (and 0 (omega arith) (and 0 (omega arith) h)))

-- both
entries : Bytes fresh_entries
entries =
    let dot : Bytes (46 ∷ []) = and 46 (omega arith) none in
    both (both (entry (46 ∷ []) dot) (zeros 59)) (entry (46 ∷ 46 ∷ []) (and 46 (omega arith) dot))

-- the image
pub image_of_bytes : (g : Geometry) (now : ℕ) (owner : User) → All (λ b. b < 256) (new_image g now owner)
image_of_bytes g now owner =
    let maps = both (both (head g (2 * g.block_size)) (mapped g.inodes (g.inode_map_blocks * g.block_size))) (mapped (data_zones g) (g.zone_map_blocks * g.block_size)) in
    let table = full (bytes_of (owned_inode g now owner)) (table_blocks g * g.block_size) (inode (owned_inode g now owner)) in
    (both (both maps table) (full fresh_entries (data_zones g * g.block_size) entries)).all
