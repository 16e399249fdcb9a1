-- What is put into an archive behind a sync, and what the sync is told then.
use Rattle.std.specs.Prelude.{◌≡◌, ◌⊎◌, ℕ, List, Result, Ok, Err}
use Rattle.layout.specs.declared.Geometry.{Geometry}
use Rattle.errno.specs.declared.Errno.{Errno}
use Rattle.errno.specs.declared.Errno.TheVariants.{ENOMEM}
use Rattle.tree.specs.declared.Call.{Call}
use Rattle.tree.specs.declared.Call.TheVariants.{Sync}
use Rattle.tree.specs.declared.Outcome.{Outcome}
use Rattle.tree.specs.declared.Outcome.TheVariants.{Reply}
use Rattle.tree.specs.declared.Reply.TheVariants.{Done, Refused}
use Rattle.records.specs.Marks.{Mark}
use Rattle.records.specs.Opening.{Opening}
use Rattle.records.specs.Session.{SessionState}
use Rattle.reissue.specs.declared.link.Link.{Ghosts as LinkWords}
use Rattle.shared_media.specs.Marking.{AreChangesOutside}
use Rattle.archive.specs.Called.{IsAnsweredBy, IsCalled}

-- how changes may be put into an archive: the state before, units' numbers with their bytes, what is answered, the state after
abbrev pub Puts : Type 0 → Type 1
Puts A = A → List (ℕ × List ℕ) → Result (Unit {0}) Errno → A → Type 0

-- Changes of the media were put into an archive, and this was answered: changes of an image of as many sectors as were handed in, and
-- outside of the volume each as it was handed in.
pub record IsPut {A : Type 0} (puts : Puts A) (v : Opening) (s : A) (answer : Result (Unit {0}) Errno) (t : A) : Type 0 where
  pub changes : List (ℕ × List ℕ)
  pub outside : AreChangesOutside v changes
  pub put : puts s changes answer t

-- what came of the changes behind a sync: they were put into the archive, or no memory was found for them
abbrev pub IsArchived : {A : Type 0} → Puts A → Opening → Result (Unit {0}) Errno → Type 0
IsArchived {A} puts v answer = ((s : A) × (t : A) × IsPut puts v s answer t) ⊎ (answer ≡ Err ENOMEM)

-- what the sync is told then
abbrev pub outcome_then : Result (Unit {0}) Errno → Outcome
outcome_then (Ok done) = Reply Done
outcome_then (Err e) = Reply (Refused e)

-- a call was a sync, and was done
abbrev pub IsSynced : Call → Outcome → Type 0
IsSynced call came = (call ≡ Sync) × (came ≡ Reply Done)

-- What is told of a call: its outcome, which is a sync that was done only where ok came of the changes behind it; or that such a sync is
-- refused as they were. What came of them is said by this word.
abbrev pub IsTold : (Result (Unit {0}) Errno → Type 0) → Call → Outcome → Outcome → Type 0
IsTold Came call came told =
    ((told ≡ came) × (IsSynced call came → Came (Ok tt)))
    ⊎ (IsSynced call came × ((e : Errno) × Came (Err e) × (told ≡ Reply (Refused e))))

-- a session made a call, and this was told of it where there is an archive
pub record IsKeptCall {A L : Type 0} (puts : Puts A) (link : LinkWords L) (marks : L → List Mark) (g : Geometry) (v : Opening)
    (before : SessionState) (now : ℕ) (call : Call) (told : Outcome) (after : SessionState) : Type 0 where
  pub came : Outcome
  pub called : IsCalled link marks g v before now call came after
  pub is_told : IsTold (IsArchived puts v) call came told

-- the same, where nothing is said of the link
pub record IsAnsweredKept {A : Type 0} (puts : Puts A) (g : Geometry) (v : Opening) (before : SessionState) (now : ℕ) (call : Call)
    (told : Outcome) (after : SessionState) : Type 0 where
  pub came : Outcome
  pub answered : IsAnsweredBy g v before now call came after
  pub is_told : IsTold (IsArchived puts v) call came told

-- A sync that is told as done: the session was answered so, and behind that the archive took changes.
abbrev pub OkMeansPut : {A : Type 0} → Puts A → Type 0
OkMeansPut {A} puts = (g : Geometry) (v : Opening) (before : SessionState) (now : ℕ) (after : SessionState)
    → IsAnsweredKept puts g v before now Sync (Reply Done) after
    → IsAnsweredBy g v before now Sync (Reply Done) after × ((s : A) × (t : A) × IsPut puts v s (Ok tt) t)
