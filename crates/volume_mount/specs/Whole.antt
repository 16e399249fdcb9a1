-- What the head of a volume says, and why nothing is mounted.
use Rattle.std.specs.Prelude.{◌≡◌, ℕ, ◌≤◌, List, true, Err}
use Rattle.layout.specs.declared.Geometry.{Geometry}
use Rattle.layout.specs.declared.LayoutRefusal.{LayoutRefusal}
use Rattle.layout.specs.declared.LayoutRefusal.TheVariants.{DoesNotFit}
use Rattle.layout.specs.Places.{geometry_of, is_block_size}
use Rattle.volume_reading.specs.declared.reading.Stop.{Stop}
use Rattle.volume_reading.specs.declared.reading.Stop.TheVariants.{OutOfMemory, GaveUp, Ended}
use Rattle.volume_mount.specs.declared.whole.MountRefusal.{MountRefusal}
use Rattle.volume_mount.specs.declared.whole.MountRefusal.TheVariants as refusal

-- why nothing is mounted where the reading stopped early
abbrev pub refusal_by : Stop → MountRefusal
refusal_by OutOfMemory = refusal.OutOfMemory
refusal_by GaveUp = refusal.Eio
refusal_by Ended = refusal.LinkEnded

-- a superblock isn't refused, the volume's length apart
pub record IsHeadFit (head : List ℕ) : Type 0 where
  pub fits : (e : LayoutRefusal) → geometry_of head ≡ Err e → e ≡ DoesNotFit

-- what bounds a volume's length
pub record HasSizes (g : Geometry) : Type 0 where
  pub block_size : is_block_size g.block_size ≡ true
  pub zones : g.zones ≤ 65536
  pub some : 3 ≤ g.zones
