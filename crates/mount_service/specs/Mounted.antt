-- What mounting the volume of an image comes to.
use Rattle.std.specs.Prelude.{⊤, ◌≡◌, ℕ, List, Option, Some, None, Result, Ok, Err}
use Rattle.std.specs.Borrow.{Bor}
use Rattle.std.specs.Global.{Vec}
use Rattle.bdev.specs.DriverState.{DriverState}
use Rattle.reincarnate.specs.declared.policy.Setup.{Setup}
use Rattle.shared_server.specs.declared.locked.LastSync.{LastSync}
use Rattle.shared_server.specs.declared.locked.LastSync.TheVariants as sync
use Rattle.service_start.specs.Servable.{HasServed, IsNotServable}
use Rattle.message_stream.specs.declared.answering.StreamRefusal.{StreamRefusal}
use Rattle.mount_service.specs.Left.{IsLeftBy}
use Rattle.archive.specs.Behind.{Puts}
use Rattle.mount_service.specs.Spoken.{Speaks}
use Rattle.mount_service.specs.declared.mount.MountStatus.{MountStatus}
use Rattle.mount_service.specs.declared.mount.MountStatus.TheVariants.{Done, Refused, GivenUp, Cut, NotAsRead}
use Rattle.mount_service.specs.declared.mount.MountRefusal.{MountRefusal}
use Rattle.mount_service.specs.declared.mount.MountRefusal.TheVariants as no

-- A service started on the volume in the image, which holds a tree, answered the messages of a stream, all of it where it says so, and left
-- an image.
pub record IsMounted {A W : Type 0} (puts : Puts A) (fewest : ℕ) (speaks : Speaks W) (first : W) (image : Option (Vec ℕ))
    (setup : Setup) (supply : List DriverState) (stream old new : Option (List ℕ)) (before after : Option A)
    (answered : Result (Unit {0}) StreamRefusal) (last : LastSync) (left : List ℕ) : Type 0 where
  pub bytes : Vec ℕ
  pub read : image ≡ Some bytes
  pub ran : HasServed bytes.items setup supply (λ g v.
      IsLeftBy puts fewest speaks first g v stream old new before after answered last left)

-- why no service answered, or none left an image, in the order in which faults are looked for
abbrev pub IsUnmounted : Option (Vec ℕ) → Bor (List ℕ) → Setup → List DriverState → MountRefusal → Type 0
IsUnmounted image name setup supply (no.CannotRead it) = (image ≡ None) × (it ≡ name)
IsUnmounted image name setup supply (no.Start refusal) =
    (bytes : Vec ℕ) × (image ≡ Some bytes) × IsNotServable bytes.items setup supply refusal
IsUnmounted image name setup supply (no.NoImage refusal) =
    (bytes : Vec ℕ) × (image ≡ Some bytes) × HasServed bytes.items setup supply (λ g v. ⊤)
IsUnmounted image name setup supply (no.Stream refusal) = ⊥
IsUnmounted image name setup supply no.GivenUp = ⊥
IsUnmounted image name setup supply no.Cut = ⊥

-- how a mount ended that left an image: not all was answered; or the last sync wasn't made, or the image isn't as it was read back, or it
-- wasn't read back; or all went
abbrev pub IsStatus : Result (Unit {0}) StreamRefusal → LastSync → MountStatus → Type 0
IsStatus (Err refusal) last (Refused told) = ⊤
IsStatus (Ok done) sync.Done Done = ⊤
IsStatus (Ok done) sync.GivenUp GivenUp = ⊤
IsStatus (Ok done) sync.Cut Cut = ⊤
IsStatus (Ok done) sync.NotAsRead NotAsRead = ⊤
IsStatus (Ok done) sync.NotRead NotAsRead = ⊤
IsStatus _ _ _ = ⊥

-- the status of the process
abbrev pub status_number : MountStatus → ℕ
status_number Done = 0
status_number (Refused told) = 1
status_number GivenUp = 3
status_number Cut = 3
status_number NotAsRead = 1

-- nothing was left, and a line was to say why
abbrev pub IsRefused : MountStatus → Type 0
IsRefused (Refused told) = ⊤
IsRefused _ = ⊥
