-- The changes of a volume's pieces that zones need: a slot of an inode, a zone that is taken or given back.
use Rattle.std.specs.Prelude.{ℕ, Bool, true, slice_set}
use Rattle.layout.specs.declared.Geometry.{Geometry}
use Rattle.lemmas.specs.Sums.{put}
use Rattle.volume.specs.Pieces.{Pieces}
use Rattle.block_store.specs.Regions.{with_zone}
use Rattle.zone.specs.ZoneSteps.{bit_of}

-- pieces in which slot s of inode n is x
abbrev pub with_slot : Pieces → ℕ → ℕ → ℕ → Pieces
with_slot v n s x = record v { inodes = put v.inodes n (record (v.inodes n) { zones = slice_set (v.inodes n).zones s x }) }

-- pieces in which a zone is marked or not
abbrev pub with_mark : Geometry → Pieces → ℕ → Bool → Pieces
with_mark g v z b = record v { zone_map = put v.zone_map (bit_of g z) b }

-- pieces in which a zone is marked, and its bytes are zeros
abbrev pub with_fresh : Geometry → Pieces → ℕ → Pieces
with_fresh g v z = with_zone (with_mark g v z true) z (λ o. 0)
