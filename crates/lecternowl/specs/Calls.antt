-- One call of a session.
use Rattle.std.specs.Prelude.{◌≡◌, ℕ, List, Result}
use Rattle.std.specs.Borrow.{Bor}
use Rattle.errno.specs.declared.Errno.{Errno}
use Rattle.layout.specs.declared.Geometry.{Geometry}
use Rattle.tree.specs.declared.Start.TheVariants.{Root}
use Rattle.tree.specs.declared.PathFrom.{PathFrom}
use Rattle.tree.specs.declared.Call.{Call}
use Rattle.tree.specs.declared.Outcome.{Outcome}
use Rattle.records.specs.Marks.{Mark}
use Rattle.records.specs.Opening.{Opening}
use Rattle.records.specs.Session.{SessionState}
use Rattle.reissue.specs.declared.link.Link.{Ghosts as LinkWords}
use Rattle.archive.specs.Called.{IsCalled}
use Rattle.archive.specs.Behind.{IsTold}
use Rattle.lecternowl.specs.declared.answers.CallError.{CallError}

-- the path of these bytes from the root
abbrev pub from_root : Bor (List ℕ) → PathFrom
from_root bytes = record { start = Root; bytes = bytes }

-- A call of a session came to an outcome, and this was told of it: the outcome; but a sync that was done is told as done only where ok came
-- of the changes behind it, and else refused as they were. What may come of them is said by the word Came.
pub record IsToldOf {L : Type 0} (Came : Result (Unit {0}) Errno → Type 0) (link : LinkWords L) (marks : L → List Mark) (g : Geometry)
    (v : Opening) (old : SessionState) (now : ℕ) (call : Call) (told : Outcome) (new : SessionState) : Type 0 where
  pub came : Outcome
  pub called : IsCalled link marks g v old now call came new
  pub is_told : IsTold Came call came told

-- the same of a call that gave a plain result: it is what `plain` makes of what was told
abbrev pub Gives : {L A : Type 0} → (Result (Unit {0}) Errno → Type 0) → LinkWords L → (L → List Mark) → Geometry → Opening
    → (Outcome → Result A CallError) → SessionState → ℕ → Call → Result A CallError → SessionState → Type 0
Gives Came link marks g v plain old now call result new =
    (told : Outcome) × (result ≡ plain told) × IsToldOf Came link marks g v old now call told new
