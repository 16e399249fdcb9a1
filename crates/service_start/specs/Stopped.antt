-- Why a service doesn't start where all stands ready.
use Rattle.std.specs.Prelude.{ℕ, List, []}
use Rattle.layout.specs.declared.Geometry.{Geometry}
use Rattle.shared_server.specs.Held.{HoldsIfTrue}
use Rattle.records.specs.Marks.{Mark}
use Rattle.reissue.specs.Calls.{Truth}
use Rattle.records.specs.Disk.{HasTrueReplies}
use Rattle.records.specs.Told.{Told}
use Rattle.records.specs.Acts.{marks_after}
use Rattle.records.specs.Opening.{Opening, contents_at}
use Rattle.records.specs.Mount.{MountRefused}
use Rattle.volume_mount.specs.declared.whole.MountRefusal.{MountRefusal}
use Rattle.volume_mount.specs.declared.whole.MountRefusal.TheVariants as mount
use Rattle.volume_mount.specs.Laws.{IsSaidOf}
use Rattle.volume_mount.specs.Mounts.{in_words}
use Rattle.volume_mount.specs.declared.refusal.StartRefusal.{StartRefusal}
use Rattle.volume_mount.specs.declared.refusal.StartRefusal.TheVariants.{Mount, OutOfMemory}

-- The volume was mounted, with this record, which the link guaranteed: where its replies were true, the volume as it was handed in holds a
-- tree.
pub record IsMountedTruly {L : Type 0} (truth : L → Truth) (g : Geometry) (v : Opening) : Type 0 where
  pub line : L
  pub marks : List Mark
  pub guaranteed : truth line v marks
  pub holds : HoldsIfTrue g v marks

-- The volume isn't mounted. Over some link a mount with so many frames was refused so, and where its replies were true of the volume as it
-- was handed in, what the refusal says of the volume is so.
pub record IsMountRefused (v : Opening) (frames : ℕ) (refusal : MountRefusal) : Type 0 where
  pub after : List Told
  pub refused : MountRefused v.minor frames [] (in_words refusal) after
  pub said : HasTrueReplies (contents_at v) (marks_after refused.acts []) → IsSaidOf (contents_at v) (in_words refusal)

-- the refusal of a mount, as a start has it
abbrev pub refusal_of : MountRefusal → StartRefusal
refusal_of mount.OutOfMemory = OutOfMemory
refusal_of refusal = Mount refusal

-- why no service starts where all stands ready: its volume isn't mounted, or memory is wanting
abbrev pub IsStopped : Opening → ℕ → StartRefusal → Type 0
IsStopped v frames (Mount mount.OutOfMemory) = ⊥
IsStopped v frames (Mount refusal) = IsMountRefused v frames refusal
IsStopped v frames OutOfMemory = Unit {0}
IsStopped v frames _ = ⊥
