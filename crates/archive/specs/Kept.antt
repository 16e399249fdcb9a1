-- What becomes of an archive, into which changes are put behind syncs.
use Rattle.std.specs.Prelude.{⊤, ◌≡◌, ℕ, List, [], ◌∷◌, Option, Some, None, Result}
use Rattle.layout.specs.declared.Geometry.{Geometry}
use Rattle.errno.specs.declared.Errno.{Errno}
use Rattle.tree.specs.declared.Call.TheVariants.{Sync}
use Rattle.tree.specs.declared.Outcome.TheVariants.{Reply}
use Rattle.tree.specs.declared.Reply.TheVariants.{Done}
use Rattle.records.specs.Opening.{Opening}
use Rattle.records.specs.Session.{SessionState}
use Rattle.archive.specs.Called.{IsAnsweredBy}
use Rattle.archive.specs.Behind.{Puts, IsPut}

-- a session made a sync, and was answered ok
abbrev pub IsSyncDone : Geometry → Opening → Type 0
IsSyncDone g v = (before : SessionState) × (now : ℕ) × (after : SessionState) × IsAnsweredBy g v before now Sync (Reply Done) after

-- behind a sync that was done, changes of the media were put into the archive
pub record IsPutBehind {A : Type 0} (puts : Puts A) (g : Geometry) (v : Opening) (s t : A) : Type 0 where
  pub synced : IsSyncDone g v
  pub answer : Result (Unit {0}) Errno
  pub put : IsPut puts v s answer t

-- an archive went from one state to another by such puts, one after the other, and by nothing else; the states between, the last one first
abbrev pub Goes : {A : Type 0} → Puts A → Geometry → Opening → A → List A → A → Type 0
Goes puts g v s [] t = t ≡ s
Goes puts g v s (u ∷ us) t = Goes puts g v s us u × IsPutBehind puts g v u t

-- an archive came so from what it began as
abbrev pub IsKeptFrom : {A : Type 0} → Puts A → Geometry → Opening → Option A → A → Type 0
IsKeptFrom puts g v None t = ⊥
IsKeptFrom {A} puts g v (Some s) t = (between : List A) × Goes puts g v s between t

-- what is left of the archive, if there was one: it may be lost where a thread still has it, which by the code none has
abbrev pub IsKeptAfter : {A : Type 0} → Puts A → Geometry → Opening → Option A → Option A → Type 0
IsKeptAfter puts g v before None = ⊤
IsKeptAfter puts g v before (Some t) = ∥ IsKeptFrom puts g v before t ∥₁
