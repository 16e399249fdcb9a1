-- A service for an application: its sessions, what it leaves, and why it gives nothing.
use Rattle.std.specs.Prelude.{◌≡◌, ℕ, List, Option, length}
use Rattle.layout.specs.declared.Geometry.{Geometry}
use Rattle.tree.specs.Tree.{Tree}
use Rattle.records.specs.Marks.{Mark}
use Rattle.records.specs.Opening.{Opening, contents_at}
use Rattle.records.specs.Legal.{IsAtFirst}
use Rattle.records.specs.Session.{SessionState, IsMadeFor}
use Rattle.reissue.specs.declared.link.Link.{Ghosts as LinkWords}
use Rattle.bdev.specs.DriverState.{DriverState}
use Rattle.reincarnate.specs.declared.policy.Setup.{Setup}
use Rattle.shared_server.specs.Held.{HasEnded, HoldsIfTrue, IsGood, IsGuaranteed}
use Rattle.shared_server.specs.Stopping.{SyncTells}
use Rattle.shared_server.specs.Finishing.{sync_of}
use Rattle.shared_server.specs.Refusals.{session_refusal_name}
use Rattle.shared_server.specs.declared.locked.LastSync.{LastSync}
use Rattle.shared_server.specs.declared.locked.LastSync.TheVariants as sync
use Rattle.shared_server.specs.declared.refusal.SessionRefusal.{SessionRefusal}
use Rattle.shared_server.specs.declared.refusal.SessionRefusal.TheVariants.{Stopped}
use Rattle.shared_media.specs.Confined.{IsImageOutside}
use Rattle.serve.specs.Stopping.{IsRange, no_image_name}
use Rattle.service_start.specs.StartupRefusals.{start_refusal_text}
use Rattle.service_start.specs.Servable.{IsNotServable}
use Rattle.archive.specs.Behind.{Puts}
use Rattle.archive.specs.Kept.{IsKeptAfter}
use Rattle.lecternowl.specs.declared.tasks.Came.{Came}
use Rattle.lecternowl.specs.declared.keeping.Kept.{Kept}
use Rattle.lecternowl.specs.declared.refusal.ServeRefusal.{ServeRefusal}
use Rattle.lecternowl.specs.declared.refusal.ServeRefusal.TheVariants.{Start, NoSession, NoImage}

-- A new session of this user and group: its number is below 64, it has made no call, and what it has seen is guaranteed by the service's
-- link, as it was then; where the replies in that were true, the volume as it was handed in holds a tree.
pub record IsOpened {L : Type 0} (link : LinkWords L) (g : Geometry) (v : Opening) (uid gid : ℕ) (s : SessionState) : Type 0 where
  pub made : IsMadeFor uid gid s s.knows.seen
  pub guaranteed : IsGuaranteed link.truth v s.knows.seen
  pub volume : HoldsIfTrue g v s.knows.seen
  pub sound : (tree : Tree) → IsAtFirst g (contents_at v) tree → IsGood g v tree s.knows.seen

-- why no session is made: `Stopped` only where the link to the drivers has ended
abbrev pub IsNotOpened : {L : Type 0} → LinkWords L → Opening → SessionRefusal → Type 0
IsNotOpened link v Stopped = (seen : List Mark) × HasEnded link v seen
IsNotOpened link v other = Unit {0}

-- The image that a service left, whose media have as many sectors as were handed in, and outside of the volume each as it was handed in;
-- and a record that says how the last sync went, whichever tree the volume held, and what the volume's range of the image is beside what was
-- read back. Where the sync was cut, the link had ended with this record.
pub record IsLeft (Ended : List Mark → Type 0) (g : Geometry) (v : Opening) (last : LastSync) (image : List ℕ) : Type 0 where
  pub outside : IsImageOutside v image
  pub marks : List Mark
  pub tells : (tree : Tree) → IsAtFirst g (contents_at v) tree → SyncTells (sync_of last) g v tree marks
  pub range : IsRange (sync_of last) v marks image
  pub ended : last ≡ sync.Cut → Ended marks

-- Tasks were done, each of which gave one output, in their order; then the service was stopped.
pub record AreDone {O T : Type 0} (Ended : List Mark → Type 0) (g : Geometry) (v : Opening) (tasks : List T) (came : Came O) : Type 0 where
  pub each : length came.outputs.items ≡ length tasks
  pub left : IsLeft Ended g v came.last_sync came.image.items

-- The same with an archive: nothing was put into it but changes of the media behind syncs that were done. Without one nothing is said of it.
pub record AreKept {A O T : Type 0} (Ended : List Mark → Type 0) (puts : Puts A) (g : Geometry) (v : Opening) (tasks : List T)
    (before : Option A) (kept : Kept O A) : Type 0 where
  pub done : AreDone Ended g v tasks kept.came
  pub archive : IsKeptAfter puts g v before kept.archive

-- why tasks weren't done on a service that started: it made no session for one, by what is said of a link that has ended; or left no image
abbrev pub IsNotDone : (List Mark → Type 0) → ServeRefusal → Type 0
IsNotDone Ended (Start refusal) = ⊥
IsNotDone Ended (NoSession Stopped) = (seen : List Mark) × Ended seen
IsNotDone Ended other = Unit {0}

-- or the service didn't start
abbrev pub IsNotServed : (List Mark → Type 0) → List ℕ → Setup → List DriverState → ServeRefusal → Type 0
IsNotServed Ended image setup supply (Start refusal) = IsNotServable image setup supply refusal
IsNotServed Ended image setup supply other = IsNotDone Ended other

-- the text of a refusal
abbrev pub serve_refusal_text : ServeRefusal → List ℕ
serve_refusal_text (Start refusal) = start_refusal_text refusal
serve_refusal_text (NoSession refusal) = session_refusal_name refusal
serve_refusal_text (NoImage why) = no_image_name why
