-- Where a server's writes lie: in its volume, behind the first two blocks, which are the boot block and the superblock.
use Rattle.std.specs.Prelude.{ℕ, ◌+◌, ◌*◌, ◌<◌, ◌≤◌, ◌⊎◌, List, [], ◌∷◌}
use Rattle.layout.specs.declared.Geometry.{Geometry}
use Rattle.message.specs.declared.Kind.{Kind}
use Rattle.message.specs.declared.Kind.TheVariants.{Read, Write}
use Rattle.message.specs.declared.BlockRequest.{BlockRequest}
use Rattle.records.specs.Marks.{Mark, Issued}
use Rattle.records.specs.Opening.{FitsMinor}

-- the range of the media that requests name, the first of its bytes that a write may change, and the byte behind the last
pub record Area : Type 0 where
  pub minor : ℕ
  pub from : ℕ
  pub to : ℕ

-- a request for so many bytes from this place on: if it is a write, it changes bytes of the area alone
abbrev pub LiesIn : Area → Kind → ℕ → ℕ → Type 0
LiesIn area Read position count = Unit {0}
LiesIn area Write position count = (area.from ≤ position) × (position + count ≤ area.to)

-- a request that fits the area's minor and lies in the area
pub record FitsArea (area : Area) (r : BlockRequest) : Type 0 where
  pub fits : FitsMinor area.minor r
  pub lies : LiesIn area r.kind r.position r.count

-- what a server may write: its volume's blocks from the third on
abbrev pub area_of : Geometry → ℕ → Area
area_of g minor = record { minor = minor; from = 2 * g.block_size; to = g.zones * g.block_size }

-- nothing may be written
abbrev pub no_area : ℕ → Area
no_area minor = record { minor = minor; from = 1; to = 0 }

-- each write that was issued lies in the volume, behind its first two blocks
abbrev pub WritesInside : Geometry → List Mark → Type 0
WritesInside g [] = Unit {0}
WritesInside g (Issued r e ∷ marks) = LiesIn (area_of g r.minor) r.kind r.position r.count × WritesInside g marks
WritesInside g (_ ∷ marks) = WritesInside g marks

-- a place in the first two blocks, or behind the last zone
abbrev pub IsHeadOrTail : Geometry → ℕ → Type 0
IsHeadOrTail g place = (place < 2 * g.block_size) ⊎ (g.zones * g.block_size ≤ place)
