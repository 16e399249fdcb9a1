-- What a service gives, as an application has it.
use Rattle.std.proofs.Common.{◌≡◌, ◌∙◌, ℕ, List, Result, Ok, Err, IfOk, IfErr, length, subst, sym}
use Rattle.std.specs.Prelude.{Bool, true, Option}
use Rattle.layout.specs.declared.Geometry.{Geometry}
use Rattle.tree.specs.Tree.{Tree}
use Rattle.records.specs.Marks.{Mark}
use Rattle.records.specs.Opening.{Opening, contents_at}
use Rattle.records.specs.Legal.{IsAtFirst}
use Rattle.records.specs.Session.{SessionState, IsMadeFor}
use Rattle.reissue.specs.declared.link.Link.{Ghosts as LinkWords}
use Rattle.bdev.specs.DriverState.{DriverState}
use Rattle.reincarnate.specs.declared.policy.Policy.{Policy}
use Rattle.reincarnate.specs.declared.policy.Setup.{Setup}
use Rattle.shared_server.specs.Held.{HoldsIfTrue, IsAdmitted, IsGood, IsGuaranteed}
use Rattle.shared_server.specs.declared.locked.LastSync.{LastSync}
use Rattle.shared_server.specs.declared.refusal.SessionRefusal.TheVariants.{TooMany, Stopped, OutOfMemory}
use Rattle.service_start.specs.Servable.{HasServed}
use Rattle.volume_commands.specs.Handing.{IsHandedOn, Putting}
use Rattle.volume_commands.specs.declared.handing.Handing.{Handing}
use Rattle.volume_commands.specs.declared.handing.Handing.TheVariants.{Put, TakenBeside, NotPut, Beside, Nowhere}
use Rattle.archive.specs.Behind.{Puts}
use Rattle.archive.specs.Ending.{Ends, IsEndedIn}
use Rattle.archive.specs.declared.ending.Ending.{Ending}
use Rattle.archive.specs.Kept.{IsKeptAfter}
use Rattle.lecternowl.specs.declared.keeping.Kept.{Kept}
use Rattle.lecternowl.specs.declared.tasks.Came.{Came}
use Rattle.lecternowl.specs.declared.refusal.ServeRefusal.{ServeRefusal}
use Rattle.lecternowl.specs.declared.refusal.ServeRefusal.TheVariants.{Start, NoSession, NoImage}
use Rattle.lecternowl.specs.Serving.{AreDone, AreKept, IsLeft, IsNotDone, IsOpened}

-- ---- sessions

-- a session that was admitted was opened
pub all_opened : {L X : Type 0} (link : LinkWords L) (runs_on : L → Policy → List DriverState → Type 0) (marks : L → List Mark)
    (numbers : L → List ℕ) (policy : Policy) (supply : List DriverState) (g : Geometry) (v : Opening) (uid gid : ℕ)
    (result : Result SessionState X) → IfOk result (λ s. IsAdmitted runs_on marks numbers policy supply uid gid s)
    → IfOk result (λ s. IsGuaranteed link.truth v s.knows.seen) → IfOk result (λ s. HoldsIfTrue g v s.knows.seen)
    → ((tree : Tree) → IsAtFirst g (contents_at v) tree → IfOk result (λ s. IsGood g v tree s.knows.seen))
    → IfOk result (λ s. IsOpened link g v uid gid s)
all_opened link runs_on marks numbers policy supply g v uid gid (Ok s) admitted guaranteed volume sound = record {
  made = subst (λ (seen : List Mark). IsMadeFor uid gid s seen) (sym admitted.whole) admitted.made;
  guaranteed = guaranteed;
  volume = volume;
  sound = sound;
}
all_opened link runs_on marks numbers policy supply g v uid gid (Err e) admitted guaranteed volume sound = tt

-- ---- as many outputs as tasks

pub done_of : {O S T : Type 0} (E : List Mark → Type 0) (g : Geometry) (v : Opening) (outputs : List S) (tasks : List T) (came : Came O)
    → length outputs ≡ length tasks → AreDone E g v outputs came → AreDone E g v tasks came
done_of E g v outputs tasks came many h = record { each = h.each ∙ many; left = h.left }

-- ---- with an archive

-- what it began as is what it was given
pub kept_of : {A O S T : Type 0} (E : List Mark → Type 0) (puts : Puts A) (g : Geometry) (v : Opening) (outputs : List S) (tasks : List T)
    (first before : Option A) (came : Came O) (archive : Option A) → length outputs ≡ length tasks → AreDone E g v outputs came
    → first ≡ before → IsKeptAfter puts g v first archive
    → AreKept E puts g v tasks before (record { came = came; archive = archive })
kept_of E puts g v outputs tasks first before came archive many done is kept = record {
  done = done_of E g v outputs tasks came many done;
  archive = subst (λ o. IsKeptAfter puts g v o archive) is kept;
}

-- what is said of tasks with an archive is said of them without one
pub served_done : {A O T : Type 0} (E : List Mark → Type 0) (puts : Puts A) (image : List ℕ) (setup : Setup) (supply : List DriverState)
    (tasks : List T) (before : Option A) (kept : Kept O A) → HasServed image setup supply (λ g v. AreKept E puts g v tasks before kept)
    → HasServed image setup supply (λ g v. AreDone E g v tasks kept.came)
served_done E puts image setup supply tasks before kept (g, range, servable, h) = (g, range, servable, h.done)

-- ---- the same, where less is said of a link that has ended

module _ (E F : List Mark → Type 0) (over : (seen : List Mark) → E seen → F seen) where
  pub left_as : (g : Geometry) (v : Opening) (last : LastSync) (image : List ℕ) → IsLeft E g v last image → IsLeft F g v last image
  left_as g v last image h =
      record { outside = h.outside; marks = h.marks; tells = h.tells; range = h.range; ended = λ is. over h.marks (h.ended is) }

  pub done_as : {A O T X : Type 0} (puts : Puts A) (g : Geometry) (v : Opening) (tasks : List T) (before : Option A)
      (result : Result (Result (Kept O A) ServeRefusal) X) → IfOk result (λ o. IfOk o (AreKept E puts g v tasks before))
      → IfOk result (λ o. IfOk o (AreKept F puts g v tasks before))
  done_as puts g v tasks before (Ok (Ok kept)) h = record {
    done = record { each = h.done.each; left = left_as g v kept.came.last_sync kept.came.image.items h.done.left };
    archive = h.archive;
  }
  done_as puts g v tasks before (Ok (Err e)) h = tt
  done_as puts g v tasks before (Err e) h = tt

  refusal_as : (refusal : ServeRefusal) → IsNotDone E refusal → IsNotDone F refusal
  refusal_as (NoSession Stopped) h = (h.0, over h.0 h.1)
  refusal_as (NoSession TooMany) h = tt
  refusal_as (NoSession OutOfMemory) h = tt
  refusal_as (NoImage why) h = tt
  refusal_as (Start refusal) h = absurd h

  pub undone_as : {O X : Type 0} (result : Result (Result O ServeRefusal) X) → IfOk result (λ o. IfErr o (IsNotDone E))
      → IfOk result (λ o. IfErr o (IsNotDone F))
  undone_as (Ok (Ok kept)) h = tt
  undone_as (Ok (Err refusal)) h = refusal_as refusal h
  undone_as (Err e) h = tt

-- ---- in a file

-- an image was put where the archive took it
pub taken_if_put : {A B : Type 0} (ends : Ends A) (leaves : Putting B) (bytes image : List ℕ) (minor : ℕ) (as_read : Bool) (p : Ending A) (b : B)
    (handing : Handing) (q : Ending A) (c : B) → bytes ≡ image
    → IsHandedOn (λ s i put t. IsEndedIn ends s.archive i put t.archive) leaves bytes minor as_read p b handing q c → handing ≡ Put
    → (left : Option A) × IsEndedIn ends p.archive image true left
taken_if_put ends leaves bytes image minor as_read p b Put q c same it is =
    (q.archive, subst (λ i. IsEndedIn ends p.archive i true q.archive) same it.2)
taken_if_put ends leaves bytes image minor as_read p b TakenBeside q c same it is = cc
taken_if_put ends leaves bytes image minor as_read p b NotPut q c same it is = cc
taken_if_put ends leaves bytes image minor as_read p b (Beside why) q c same it is = cc
taken_if_put ends leaves bytes image minor as_read p b (Nowhere why) q c same it is = cc
