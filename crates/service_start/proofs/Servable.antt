-- From a volume that was checked to a service on it, or why none starts.
use Rattle.std.proofs.Common.{◌≡◌, ◌≤◌, ◌+◌, ◌/◌, ◌∙◌, ℕ, List, length, ap, subst, arith}
use Rattle.std.specs.Prelude.{IfOk, Result, Ok, Err}
use Rattle.layout.specs.declared.Geometry.{Geometry}
use Rattle.media.specs.Contents.{MediaState}
use Rattle.bdev.specs.DriverState.{DriverState}
use Rattle.reincarnate.specs.declared.policy.Setup.{Setup}
use Rattle.records.specs.Legal.{IsAtFirst}
use Rattle.records.specs.Opening.{Opening, contents_at}
use Rattle.true_replies.specs.Events.{IsOnMedia, opening_media}
use Rattle.board.specs.declared.counting.parameters.ServiceParameters.{Ghosts as RoomWords}
use Rattle.volume_mount.specs.declared.whole.MountRefusal.{MountRefusal}
use Rattle.volume_mount.specs.declared.whole.MountRefusal.TheVariants as mount
use Rattle.volume_mount.specs.Checked.{HoldsTree, IsUnfit, bytes_at}
use Rattle.volume_mount.specs.Starting.{bytes_of, opening_of, IsPrepared}
use Rattle.volume_mount.proofs.Starts.{many_sectors}
use Rattle.service_start.specs.Servable.{HasServed, IsClean, IsNotServable}
use Rattle.service_start.specs.Stopped.{refusal_of}

-- a volume on the media of an image ends before they do
pub inside : (image : List ℕ) (minor : ℕ) (range : ℕ × ℕ) (m : MediaState) → m ≡ opening_media (opening_of image minor range)
    → IsOnMedia (opening_of image minor range) → range.0 + range.1 ≤ length m.sectors
inside image minor range m made on =
    let many : length m.sectors ≡ length image / 512 = ap (λ (x : MediaState). length x.sectors) made ∙ many_sectors image in
    let low = on.inside in
    omega (arith, many, low)

module _ (image : List ℕ) (setup : Setup) (supply : List DriverState) where
  -- the volume isn't clean
  pub unfit : (range : ℕ × ℕ) (e : MountRefusal) → IsPrepared image setup supply range → IsUnfit (bytes_of image range) e
      → IsNotServable image setup supply (refusal_of e)
  unfit range (mount.Layout refusal) prepared h = (range, prepared, h)
  unfit range (mount.Inconsistent finding) prepared h = (range, prepared, h)
  unfit range mount.OutOfMemory prepared h = prepared.place.0
  unfit range mount.Eio prepared h = (range, prepared, h)
  unfit range mount.LinkEnded prepared h = absurd h
  unfit range mount.BadFrames prepared h = absurd h

  -- what was done on a service of the volume, which is clean
  pub has_served : {O E : Type 0} (range : ℕ × ℕ) (v : Opening) (g h : Geometry) (gives : Geometry → Opening → O → Type 0)
      (result : Result O E)
      → v ≡ opening_of image setup.minor range → IsPrepared image setup supply range → h ≡ g → HoldsTree (bytes_at v) h
      → IfOk result (λ o. gives g v o) → IfOk result (λ o. HasServed image setup supply (λ k opening. gives k opening o))
  has_served range v g h gives (Err e) same prepared sizes holds given = tt
  has_served range v g h gives (Ok o) same prepared sizes holds given = (
    g,
    range,
    record {
      prepared = prepared;
      holds = subst (λ (x : Opening). HoldsTree (bytes_at x) g) same (subst (λ (k : Geometry). HoldsTree (bytes_at v) k) sizes holds);
    },
    subst (λ (x : Opening). gives g x o) same given,
  )

-- a server that was opened for these sizes was opened for the service's, and its volume holds a tree of these
pub opened_as : {N : Type 0} (room : RoomWords N) (g : Geometry) → (c : IsClean room g)
    → IsAtFirst room.geometry (contents_at room.opening) c.holds.tree
opened_as room g c = subst (λ (k : Geometry). IsAtFirst k (contents_at room.opening) c.holds.tree) c.sizes c.holds.at_first
