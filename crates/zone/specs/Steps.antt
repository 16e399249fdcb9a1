-- The steps of which the calls on zones are made: a zone comes to stand in a slot of an inode or in a block, or is let go there.
use Rattle.std.specs.Prelude.{◌≡◌, ◌≢◌, ℕ, ◌<◌, true, false, IsTrue}
use Rattle.layout.specs.declared.Geometry.{Geometry}
use Rattle.tree.specs.Space.{data_zones}
use Rattle.volume.specs.Reading.{Disk, is_inode, is_data_zone}
use Rattle.volume.specs.Pieces.{Pieces, pieces}
use Rattle.volume.specs.Nodes.{slot, number}
use Rattle.block_store.specs.Volume.{Alters}
use Rattle.zone.specs.ZoneSteps.{bit_of, marked_in}
use Rattle.zone.specs.PlaceParts.{with_number}
use Rattle.zone.specs.Parts.{with_mark, with_fresh, with_slot}

-- a free data zone, and what the volume becomes
pub record TakesFree (g : Geometry) (z : ℕ) (after : Pieces) (d e : Disk) : Type 0 where
  pub data_zone : IsTrue (is_data_zone g z)
  pub free : (pieces g d).zone_map (bit_of g z) ≡ false
  pub alters : Alters g after d e

-- a free zone is marked
abbrev pub MarksZone : Geometry → ℕ → Disk → Disk → Type 0
MarksZone g z d e = TakesFree g z (with_mark g (pieces g d) z true) d e

-- and filled with zeros
abbrev pub TakesZone : Geometry → ℕ → Disk → Disk → Type 0
TakesZone g z d e = TakesFree g z (with_fresh g (pieces g d) z) d e

-- not all data zones are marked
abbrev pub HasRoom : Geometry → Pieces → Type 0
HasRoom g v = marked_in g v < data_zones g

-- Slot s of inode n holds z: it did, and nothing is changed, or it was 0 and z is a fresh zone.
pub record HoldsSlot (g : Geometry) (n s z : ℕ) (d e : Disk) : Type 0 where
  pub there : slot ((pieces g d).inodes n) s ≢ 0 → (e ≡ d) × (z ≡ slot ((pieces g d).inodes n) s)
  pub fresh : slot ((pieces g d).inodes n) s ≡ 0 → TakesFree g z (with_slot (with_fresh g (pieces g d) z) n s z) d e

-- the inode is one of the volume's, and there is room for what its slot lacks
pub record MayHoldSlot (g : Geometry) (v : Pieces) (n s : ℕ) : Type 0 where
  pub inode : IsTrue (is_inode g n)
  pub room : slot (v.inodes n) s ≡ 0 → HasRoom g v

-- The same of number j of a block.
pub record HoldsNumber (g : Geometry) (block j z : ℕ) (d e : Disk) : Type 0 where
  pub there : number (pieces g d) block j ≢ 0 → (e ≡ d) × (z ≡ number (pieces g d) block j)
  pub fresh : number (pieces g d) block j ≡ 0 → TakesFree g z (with_number (with_fresh g (pieces g d) z) block j z) d e

pub record MayHoldNumber (g : Geometry) (v : Pieces) (block j : ℕ) : Type 0 where
  pub names : IsTrue (is_data_zone g block)
  pub room : number v block j ≡ 0 → HasRoom g v

-- the zone in slot s of inode n is let go
abbrev pub DropsSlot : Geometry → ℕ → ℕ → Disk → Disk → Type 0
DropsSlot g n s d e = let v = pieces g d in Alters g (with_mark g (with_slot v n s 0) (slot (v.inodes n) s) false) d e

-- the zone that number j of a block names is let go
abbrev pub DropsNumber : Geometry → ℕ → ℕ → Disk → Disk → Type 0
DropsNumber g block j d e = let v = pieces g d in Alters g (with_mark g (with_number v block j 0) (number v block j) false) d e

-- a data zone stands there
pub record MayDropSlot (g : Geometry) (v : Pieces) (n s : ℕ) : Type 0 where
  pub inode : IsTrue (is_inode g n)
  pub zone : IsTrue (is_data_zone g (slot (v.inodes n) s))

pub record MayDropNumber (g : Geometry) (v : Pieces) (block j : ℕ) : Type 0 where
  pub names : IsTrue (is_data_zone g block)
  pub zone : IsTrue (is_data_zone g (number v block j))
