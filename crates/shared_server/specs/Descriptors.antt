-- The descriptors that a session's calls left open.
use Rattle.std.specs.Prelude.{◌≡◌, ◌<◌, slice_index_or, Option, Some, None, ℕ, ◌==◌, List, [], ◌∷◌, Bool, true, false, if◌then◌else◌}
use Rattle.tree.specs.declared.Call.{Call}
use Rattle.tree.specs.declared.Call.TheVariants.{Open, Close, Dup}
use Rattle.tree.specs.Answers.{Answer, done, descriptor}
use Rattle.records.specs.Marks.{Mark, Took}
use Rattle.records.specs.ServerCall.{Outcome, Replied, Cut}
use Rattle.shared_server.specs.declared.left_open.LeftOpen.{LeftOpen}

-- the descriptor in an answer, which is then open
abbrev pub given : Answer → Option (ℕ × Bool)
given (descriptor n) = Some (n, true)
given _ = None

-- whether nothing is told but that the call succeeded
abbrev pub is_done : Answer → Bool
is_done done = true
is_done _ = false

-- which descriptor a call that was answered so opens or closes, and whether it is open then
abbrev pub change_of : Call → Answer → Option (ℕ × Bool)
change_of (Open path flags mode) answer = given answer
change_of (Dup fd) answer = given answer
change_of (Close fd) answer = if is_done answer then Some (fd, false) else None
change_of _ answer = None

-- whether a descriptor is open after a change
abbrev pub changed : ℕ → Option (ℕ × Bool) → Bool → Bool
changed fd None was = was
changed fd (Some (n, after)) was = if n == fd then after else was

-- whether these calls, the newest first, left the descriptor open
abbrev pub leaves_open : ℕ → List Mark → Bool
leaves_open fd [] = false
leaves_open fd (Took who now call answer ∷ marks) = changed fd (change_of call answer) (leaves_open fd marks)
leaves_open fd (_ ∷ marks) = leaves_open fd marks

-- whether a call was cut
abbrev pub was_cut : Outcome → Bool
was_cut Cut = true
was_cut (Replied answer) = false

-- whether one succeeded that has nothing to tell
abbrev pub succeeded : Outcome → Bool
succeeded Cut = false
succeeded (Replied answer) = is_done answer

-- what is kept of each descriptor is whether these calls left it open
pub record AreLeftOpen (o : LeftOpen) (marks : List Mark) : Type 0 where
  pub each : (fd : ℕ) → fd < 32 → slice_index_or o.flags fd false ≡ leaves_open fd marks
