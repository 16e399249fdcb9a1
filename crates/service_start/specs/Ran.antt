-- When a service starts on an image, when it doesn't, and what is said of a program that ran over one.
use Rattle.std.specs.Prelude.{◌≡◌, ℕ, List}
use Rattle.layout.specs.declared.Geometry.{Geometry}
use Rattle.reincarnate.specs.declared.policy.Setup.{Setup}
use Rattle.bdev.specs.DriverState.{DriverState}
use Rattle.records.specs.Opening.{Opening, contents_at}
use Rattle.records.specs.Marks.{Mark}
use Rattle.shared_server.specs.Held.{HoldsIfTrue}
use Rattle.volume_mount.specs.Laws.{sizes_in}
use Rattle.volume_mount.specs.declared.refusal.StartRefusal.{StartRefusal}
use Rattle.volume_mount.specs.declared.refusal.StartRefusal.TheVariants.{Mount}
use Rattle.volume_mount.specs.Starting.{opening_of, IsPrepared, IsRefused}
use Rattle.service_start.specs.Stopped.{IsStopped}

-- why no service starts, the first reason that holds: all that is looked at before the volume; or that it isn't mounted
abbrev pub IsNotStarted : List ℕ → Setup → List DriverState → StartRefusal → Type 0
IsNotStarted image setup supply (Mount refusal) =
    (range : ℕ × ℕ) × IsPrepared image setup supply range × IsStopped (opening_of image setup.minor range) setup.frames (Mount refusal)
IsNotStarted image setup supply refusal = IsRefused image setup supply refusal

-- A service starts on the image: all stands ready, and the volume in this range, of the sizes that its superblock gives, was mounted: where
-- the replies in the mount's record were true, it holds a tree.
pub record IsStartable (image : List ℕ) (setup : Setup) (supply : List DriverState) (g : Geometry) (range : ℕ × ℕ) : Type 0 where
  pub prepared : IsPrepared image setup supply range
  pub sizes : g ≡ sizes_in (contents_at (opening_of image setup.minor range))
  pub marks : List Mark
  pub holds : HoldsIfTrue g (opening_of image setup.minor range) marks

-- a service was startable, on a volume of these sizes in this range of the image, and what was given back is what the program gives there
abbrev pub HasRun : List ℕ → Setup → List DriverState → (Geometry → Opening → Type 0) → Type 0
HasRun image setup supply gives =
    (g : Geometry) × (range : ℕ × ℕ) × IsStartable image setup supply g range × gives g (opening_of image setup.minor range)
