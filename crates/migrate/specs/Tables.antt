-- The tables of a new volume, as they are written.
use Rattle.std.specs.Prelude.{◌≡◌, ◌<◌, ℕ, ◌+◌, ◌*◌, ◌/◌, List, length, slice_index, true, false, Bool, ◌||◌, Ok}
use Rattle.layout.specs.declared.Geometry.{Geometry}
use Rattle.layout.specs.Places.{geometry_of}
use Rattle.volume.specs.declared.Inode.{Inode}
use Rattle.volume.specs.Reading.{bit_in, disk_of, inode_in}
use Rattle.volume.specs.Pieces.{Pieces, pieces}
use Rattle.volume.specs.Nodes.{is_marked}
use Rattle.new_volume.specs.Image.{filled_image}
use Rattle.new_volume.specs.Owned.{owned_pieces, user_0}
use Rattle.migrate.specs.Written.{IsMovedNode}

-- a volume of these sizes is begun by these bytes: with zeros behind them it is a new one
pub record IsBegun (h : Geometry) (front : List ℕ) : Type 0 where
  pub whole : length (filled_image h front) ≡ h.zones * h.block_size
  pub parsed : geometry_of (filled_image h front) ≡ Ok h
  pub pieces : pieces h (disk_of h (filled_image h front)) ≡ owned_pieces h 0 user_0

-- what the new volume says of inode n: it is the old one's, moved to the zones from e on, or none
pub record IsNewInode (g : Geometry) (v : Pieces) (d : ℕ → ℕ → ℕ) (e n : ℕ) (y : Inode) : Type 0 where
  pub node : is_marked g v n ≡ true → IsMovedNode g v d e (v.inodes n) y
  pub blank : is_marked g v n ≡ false → y ≡ inode_in (λ p. 0) 0

-- the bits of the map that begins at a block
abbrev pub map_of : List ℕ → ℕ → ℕ → Bool
map_of image block = bit_in (λ p. slice_index image (1024 * block + p))

-- the bits of a set are put to those of a map, all up to this one; all else stays
pub record Marks (block : ℕ) (set : ℕ → Bool) (last : ℕ) (old new : List ℕ) : Type 0 where
  pub size : length new ≡ length old
  pub bits : (b : ℕ) → map_of new block b ≡ (set b || map_of old block b)
  pub before : (p : ℕ) → p < 1024 * block → slice_index new p ≡ slice_index old p
  pub behind : (p : ℕ) → 1024 * block + last / 8 < p → slice_index new p ≡ slice_index old p
