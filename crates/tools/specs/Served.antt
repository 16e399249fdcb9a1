-- Scripts played in sessions of one service, which is stopped then.
use Rattle.std.specs.Prelude.{◌≡◌, ℕ, List}
use Rattle.layout.specs.declared.Geometry.{Geometry}
use Rattle.tree.specs.Tree.{Tree}
use Rattle.records.specs.Marks.{Mark, IsBeginning}
use Rattle.records.specs.Opening.{Opening, contents_at}
use Rattle.records.specs.Legal.{IsAtFirst}
use Rattle.reissue.specs.declared.link.Link.{Ghosts as LinkWords}
use Rattle.shared_server.specs.Held.{IsNotAdmitted}
use Rattle.shared_server.specs.Refusals.{session_refusal_name}
use Rattle.shared_server.specs.Stopping.{SyncTells}
use Rattle.shared_server.specs.Finishing.{sync_of}
use Rattle.shared_server.specs.declared.locked.LastSync.{LastSync}
use Rattle.shared_server.specs.declared.locked.LastSync.TheVariants as sync
use Rattle.shared_server.specs.declared.refusal.SessionRefusal.TheVariants.{Stopped}
use Rattle.shared_media.specs.Confined.{IsImageOutside}
use Rattle.serve.specs.Stopping.{IsRange, no_image_name}
use Rattle.call_text.specs.declared.scripts.timed.TimedCall.{TimedCall}
use Rattle.reply_text.specs.declared.answers.Played.{Played}
use Rattle.tools.specs.Turns.{ArePlayed}
use Rattle.tools.specs.Vouched.{IsServedRecord}
use Rattle.tools.specs.declared.scripts.players.ServiceRefusal.{ServiceRefusal}
use Rattle.tools.specs.declared.scripts.players.ServiceRefusal.TheVariants.{NoSession, NoImage}

-- The image that a service left, whose media have as many sectors as were handed in, and outside of the volume each as it was handed in;
-- and a record that goes on from what its sessions had seen, and says how the last sync went, whichever tree the volume held, and what the
-- volume's range of the image is beside what was read back. Where the sync was cut, the link had ended with this record.
pub record IsLeft (Ended : List Mark → Type 0) (g : Geometry) (v : Opening) (seen : List Mark) (last : LastSync) (image : List ℕ) : Type 0 where
  pub outside : IsImageOutside v image
  pub marks : List Mark
  pub goes_on : IsBeginning seen marks
  pub tells : (tree : Tree) → IsAtFirst g (contents_at v) tree → SyncTells (sync_of last) g v tree marks
  pub range : IsRange (sync_of last) v marks image
  pub ended : last ≡ sync.Cut → Ended marks

-- These scripts were played in sessions of one service for the volume, of whose record this was seen in the end; then the service was
-- stopped: what came of its last sync, and the image. A call was cut, or the last sync, only once the link had ended.
pub record AreServed (Ended : List Mark → Type 0) (g : Geometry) (v : Opening) (scripts : List (ℕ × ℕ × List TimedCall))
    (played : List Played) (last : LastSync) (image : List ℕ) : Type 0 where
  pub seen : List Mark
  pub turns : ArePlayed (IsServedRecord g v) Ended scripts played seen
  pub left : IsLeft Ended g v seen last image

-- why a service that started gives nothing, by its link as it was then: it makes no session; or no image is left
abbrev pub IsUnservedBy : {L : Type 0} → LinkWords L → (L → List ℕ) → Opening → ServiceRefusal → Type 0
IsUnservedBy link numbers v (NoSession refusal) = IsNotAdmitted link numbers v refusal
IsUnservedBy link numbers v (NoImage why) = Unit {0}

-- the same without the link: it is told as stopped only once the link had ended
abbrev pub IsUnserved : (List Mark → Type 0) → ServiceRefusal → Type 0
IsUnserved Ended (NoSession Stopped) = (seen : List Mark) × Ended seen
IsUnserved Ended _ = Unit {0}

-- the text of a refusal
abbrev pub service_text : ServiceRefusal → List ℕ
service_text (NoSession refusal) = session_refusal_name refusal
service_text (NoImage why) = no_image_name why
