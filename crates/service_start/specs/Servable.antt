-- When a service starts on an image whose volume is checked first, when it doesn't, and what is said of what ran on one.
use Rattle.std.specs.Prelude.{◌≡◌, ℕ, List}
use Rattle.layout.specs.declared.Geometry.{Geometry}
use Rattle.reincarnate.specs.declared.policy.Setup.{Setup}
use Rattle.bdev.specs.DriverState.{DriverState}
use Rattle.records.specs.Opening.{Opening}
use Rattle.board.specs.declared.counting.parameters.ServiceParameters.{Ghosts as RoomWords}
use Rattle.volume_mount.specs.declared.whole.MountRefusal.TheVariants as mount
use Rattle.volume_mount.specs.declared.refusal.StartRefusal.{StartRefusal}
use Rattle.volume_mount.specs.declared.refusal.StartRefusal.TheVariants.{Mount}
use Rattle.volume_mount.specs.Checked.{HoldsTree, IsUnfit, bytes_at}
use Rattle.volume_mount.specs.Starting.{bytes_of, opening_of, IsPrepared, IsRefused}

-- why no service starts, the first reason that holds: all that is looked at before the volume; or the volume, by its bytes. For want of
-- memory wherever the image makes media
abbrev pub IsNotServable : List ℕ → Setup → List DriverState → StartRefusal → Type 0
IsNotServable image setup supply (Mount mount.OutOfMemory) = ⊥
IsNotServable image setup supply (Mount refusal) =
    (range : ℕ × ℕ) × IsPrepared image setup supply range × IsUnfit (bytes_of image range) refusal
IsNotServable image setup supply refusal = IsRefused image setup supply refusal

-- a service starts on the image: all stands ready, and in this range lies a volume of these sizes, which holds a tree
pub record IsServable (image : List ℕ) (setup : Setup) (supply : List DriverState) (g : Geometry) (range : ℕ × ℕ) : Type 0 where
  pub prepared : IsPrepared image setup supply range
  pub holds : HoldsTree (bytes_of image range) g

-- a service was started on such a volume, and this is said of it, by its sizes and where it lies in the image
abbrev pub HasServed : List ℕ → Setup → List DriverState → (Geometry → Opening → Type 0) → Type 0
HasServed image setup supply gives =
    (g : Geometry) × (range : ℕ × ℕ) × IsServable image setup supply g range × gives g (opening_of image setup.minor range)

-- the sizes are those of the service's volume, which was checked: it holds a tree
pub record IsClean {N : Type 0} (room : RoomWords N) (g : Geometry) : Type 0 where
  pub sizes : g ≡ room.geometry
  pub holds : HoldsTree (bytes_at room.opening) g
