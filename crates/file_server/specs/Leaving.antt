-- A call that is cut leaves something that a message was needed for.
use Rattle.std.specs.Prelude.{◌≡◌, ℕ, List, [], ◌∷◌, false, IsTrue}
use Rattle.tree.specs.declared.Who.{Who}
use Rattle.tree.specs.declared.Call.{Call}
use Rattle.tree.specs.Tree.{Tree}
use Rattle.records.specs.Marks.{Mark, gave_up}
use Rattle.records.specs.Opening.{Opening}
use Rattle.records.specs.Told.{Told, Received, took_end}
use Rattle.records.specs.Acts.{marks_after, needs_message}
use Rattle.records.specs.ServerCall.{Serving, Cut}
use Rattle.reissue.specs.Calls.{Truth}
use Rattle.file_server.specs.Over.{CallSpecification, Stands}

-- no message was taken after an End
abbrev pub IsEndLast : List Told → Type 0
IsEndLast [] = Unit {0}
IsEndLast (Received message ∷ told) = (took_end told ≡ false) × IsEndLast told
IsEndLast (_ ∷ told) = IsEndLast told

-- A call that is cut by an End of its own, the last message taken: a message is needed still, so some request is pending, and the device
-- isn't given up.
abbrev pub CutLeaves : (Server Line : Type 0) → (Server → Serving) → (Line → Truth) → Type 0
CutLeaves Server Line serving truth =
    (s t : Server) (l m : Line) (who : Who) (now : ℕ) (call : Call) (v : Opening) (tree : Tree) (marks : List Mark)
    (calls : CallSpecification (serving s) (serving t) (truth l) (truth m) who now call Cut) → (serving s).ended ≡ false
    → IsEndLast (serving t).told → Stands (serving s) (truth l) v tree marks
    → IsTrue (needs_message (marks_after calls.keeps.acts marks) (serving t).outbox)
    × (gave_up (marks_after calls.keeps.acts marks) ≡ false)
