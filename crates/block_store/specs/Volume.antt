-- Blocks that are a volume's.
use Rattle.std.specs.Prelude.{◌≡◌, ℕ, ◌<◌, ◌≤◌}
use Rattle.layout.specs.declared.Geometry.{Geometry}
use Rattle.layout.specs.Places.{IsGeometry}
use Rattle.volume.specs.Reading.{Disk}
use Rattle.volume.specs.Pieces.{Pieces, pieces}
use Rattle.block_store.specs.World.{World}

-- calls may be made on blocks of a volume of this geometry, which may change each block of it behind the first two
pub record IsOn {B : Type 0} (w : World B) (g : Geometry) (b : B) : Type 0 where
  pub ready : w.ready b
  pub size : w.size b ≡ g.block_size
  pub geometry : IsGeometry g
  pub inside : (block : ℕ) → 2 ≤ block → block < g.zones → w.writable b block

-- the blocks before the maps stay
abbrev pub SameHead : Disk → Disk → Type 0
SameHead d e = (block : ℕ) → block < 2 → e block ≡ d block

-- the pieces are these, and the blocks before the maps stay
pub record Alters (g : Geometry) (v : Pieces) (d e : Disk) : Type 0 where
  pub pieces : pieces g e ≡ v
  pub head : (block : ℕ) → block < 2 → e block ≡ d block
