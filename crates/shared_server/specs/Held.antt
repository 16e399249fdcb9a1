-- What lies under the lock of a service, as contracts see it.
use Rattle.std.specs.Prelude.{◌≡◌, ◌≢◌, ◌↔◌, ℕ, List, true, false}
use Rattle.layout.specs.declared.Geometry.{Geometry}
use Rattle.errno.specs.declared.Errno.TheVariants.{EIO}
use Rattle.tree.specs.declared.Who.{Who}
use Rattle.tree.specs.declared.Call.{Call}
use Rattle.tree.specs.declared.Reply.TheVariants.{Refused}
use Rattle.tree.specs.declared.Outcome.{Outcome as TreeOutcome}
use Rattle.tree.specs.declared.Outcome.TheVariants.{Reply, Cut}
use Rattle.tree.specs.Tree.{Tree}
use Rattle.records.specs.Marks.{Mark, gave_up}
use Rattle.records.specs.Open.{IsWellFormed}
use Rattle.records.specs.Disk.{HasTrueReplies}
use Rattle.records.specs.Opening.{Opening, contents_at}
use Rattle.records.specs.Told.{Told, grown, took_end}
use Rattle.bdev.specs.DriverState.{DriverState}
use Rattle.reincarnate.specs.declared.policy.Policy.{Policy}
use Rattle.records.specs.Legal.{IsAtFirst, IsLegal}
use Rattle.records.specs.ServerCall.{Serving, Outcome, with_outcome}
use Rattle.records.specs.Session.{SessionState, SessionCallKeeps, IsMadeFor, went_on}
use Rattle.reissue.specs.declared.link.Link.{Ghosts as LinkWords}
use Rattle.reissue.specs.Calls.{Truth}
use Rattle.file_server.specs.Over.{Stands}
use Rattle.board.specs.View.{View, session_for}
use Rattle.board.specs.declared.counting.parameters.ServiceParameters.{Ghosts as RoomWords}
use Rattle.shared_server.specs.declared.refusal.SessionRefusal.{SessionRefusal}
use Rattle.shared_server.specs.declared.refusal.SessionRefusal.TheVariants.{TooMany, Stopped, OutOfMemory}
use Rattle.board.specs.Keeper.{AreAllUsed, IsLowestFree, IsOneFree}

-- a call of a caller that had seen as much as the first of these, and then has seen as much as the second, came to this outcome
abbrev pub IsServedCall : Geometry → Opening → Who → ℕ → Call → View → Outcome → View → Type 0
IsServedCall g v who now call before outcome after =
    SessionCallKeeps g (contents_at v) (session_for who.uid who.gid who.session before) who now call outcome
    (session_for who.uid who.gid who.session after)

-- What a call adds to the record: what the link was told and gave meanwhile, none of which is a client's call, and then, where it was answered,
-- the call itself, last.
abbrev pub AddsCall : Who → ℕ → Call → Outcome → List Mark → List Mark → Type 0
AddsCall who now call outcome before after = (told : List Told) × (after ≡ with_outcome who now call outcome (grown told before))

-- the outcome is EIO exactly where it isn't a cut and the caller has then seen that the device was given up
abbrev pub IsEioOnceGivenUp : TreeOutcome → List Mark → Type 0
IsEioOnceGivenUp outcome seen = (outcome ≡ Reply (Refused EIO)) ↔ ((outcome ≢ Cut) × (gave_up seen ≡ true))

-- The server may be called, knows each call, and has ended where its link has, which runs on the service's drivers under the service's policy.
-- It stands on some tree with the record that the link keeps; where the replies in it were true, the volume as it was handed in held that tree,
-- and the server is for a volume of the service's sizes. In that record a call was answered since the device was given up, if it was; and a
-- device whose link has ended wasn't given up.
pub record IsHeld {N S L : Type 0} (room : RoomWords N) (link : LinkWords L) (serving : S → Serving) (line : S → L) (is_ready : S → Type 0)
    (knows : Call → Type 0) (runs_on : L → Policy → List DriverState → Type 0) (marks : L → List Mark) (s : S) : Type 0 where
  pub ready : is_ready s
  pub knows_each : (call : Call) → knows call
  pub ends : (serving s).ended ≡ took_end (link.history (line s))
  pub drivers : runs_on (line s) room.policy room.supply
  pub tree : Tree
  pub at_first : HasTrueReplies (contents_at room.opening) (marks (line s))
      → ((serving s).geometry ≡ room.geometry) × IsAtFirst room.geometry (contents_at room.opening) tree
  pub stands : Stands (serving s) (link.truth (line s)) room.opening tree (marks (line s))
  pub answered : gave_up (marks (line s)) ≡ true → went_on (marks (line s)) ≡ true
  pub either : (serving s).ended ≡ true → gave_up (marks (line s)) ≡ false

-- a record is well formed, and a call was answered since the device was given up, if it was
pub record IsSound (marks : List Mark) : Type 0 where
  pub well_formed : IsWellFormed marks
  pub answered : gave_up marks ≡ true → went_on marks ≡ true

-- where the replies in a record are true, the volume as it was handed in holds a tree
abbrev pub HoldsIfTrue : Geometry → Opening → List Mark → Type 0
HoldsIfTrue g v marks = HasTrueReplies (contents_at v) marks → (tree : Tree) × IsAtFirst g (contents_at v) tree

-- a sound record of the volume is legal from this tree on, where its replies were true
abbrev pub IsGood : Geometry → Opening → Tree → List Mark → Type 0
IsGood g v tree marks = IsSound marks × (HasTrueReplies (contents_at v) marks → IsLegal g (contents_at v) tree marks)

-- the service's link, as it was then, guaranteed this record. In a function over every link such a link is one that it had at hand
abbrev pub IsGuaranteed : {L : Type 0} → (L → Truth) → Opening → List Mark → Type 0
IsGuaranteed {L} truth v marks = (line : L) × truth line v marks

-- A new session of this user and group was made at the service's link, as it was then: it has the lowest number that was free, has seen the
-- whole record, and made no call; the link runs on these drivers under this policy.
pub record IsAdmitted {L : Type 0} (runs_on : L → Policy → List DriverState → Type 0) (marks : L → List Mark) (numbers : L → List ℕ)
    (policy : Policy) (supply : List DriverState) (uid gid : ℕ) (s : SessionState) : Type 0 where
  pub line : L
  pub drivers : runs_on line policy supply
  pub number : IsLowestFree s.knows.number (numbers line)
  pub made : IsMadeFor uid gid s (marks line)
  pub whole : s.knows.seen ≡ marks line

-- The service's link, as it was when a call of a session was over: it guarantees its record, which the session has seen, and the call was cut
-- exactly where the link has ended.
pub record IsCutAtEnd {L : Type 0} (link : LinkWords L) (marks : L → List Mark) (v : Opening) (outcome : TreeOutcome) (seen : List Mark) : Type 0 where
  pub line : L
  pub kept : marks line ≡ seen
  pub guaranteed : link.truth line v seen
  pub exactly : (outcome ≡ Cut) ↔ (took_end (link.history line) ≡ true)

-- a link of the service guaranteed this record, and has ended
pub record HasEnded {L : Type 0} (link : LinkWords L) (v : Opening) (seen : List Mark) : Type 0 where
  pub line : L
  pub guaranteed : link.truth line v seen
  pub ended : took_end (link.history line) ≡ true

-- why none was made, by the service's link as it was then: each number was in use; or else the link had ended, with this record
abbrev pub IsNotAdmitted : {L : Type 0} → LinkWords L → (L → List ℕ) → Opening → SessionRefusal → Type 0
IsNotAdmitted {L} link numbers v TooMany = (line : L) × AreAllUsed (numbers line)
IsNotAdmitted link numbers v Stopped = (seen : List Mark) × (h : HasEnded link v seen) × IsOneFree (numbers h.line)
IsNotAdmitted link numbers v OutOfMemory = Unit {0}
