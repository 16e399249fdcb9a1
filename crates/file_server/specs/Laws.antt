-- What a server over a link stands through.
use Rattle.std.specs.Prelude.{ℕ, List, [], ◌∷◌, ◌++◌}
use Rattle.message.specs.declared.Incoming.{Incoming}
use Rattle.tree.specs.declared.Who.{Who}
use Rattle.tree.specs.declared.Call.{Call}
use Rattle.tree.specs.Tree.{Tree}
use Rattle.tree.specs.Answers.{Answer}
use Rattle.records.specs.Marks.{Mark, Took}
use Rattle.records.specs.Opening.{Opening}
use Rattle.records.specs.Told.{received}
use Rattle.records.specs.Acts.{Absorbed, marks_after}
use Rattle.records.specs.ServerCall.{Serving, Replied, Cut}
use Rattle.reissue.specs.Calls.{Truth}
use Rattle.file_server.specs.Over.{CallSpecification, AbsorbsOver, SameServing, Stands, Hears}

-- through what changes nothing of it but its link's guarantee
abbrev pub SameStands : (Server Line : Type 0) → (Server → Serving) → (Line → Truth) → Type 0
SameStands Server Line serving truth =
    (s t : Server) (l m : Line) (v : Opening) (tree : Tree) (marks : List Mark) → SameServing (serving s) (serving t) → truth m v marks
    → Stands (serving s) (truth l) v tree marks → Stands (serving t) (truth m) v tree marks

-- through a message that its link has noted
abbrev pub MessageStands : (Server Line : Type 0) → (Server → Serving) → (Line → Truth) → Type 0
MessageStands Server Line serving truth =
    (s t : Server) (l m : Line) (message : Incoming) (v : Opening) (tree : Tree) (marks : List Mark)
    (absorbs : AbsorbsOver (serving s) (serving t) (truth l) (truth m) message) → Hears (serving s) (truth l) v tree marks (received message marks)
    → Stands (serving t) (truth m) v tree (marks_after (absorbs.keeps.later ++ Absorbed message ∷ []) marks)

-- through a call that was answered, and whose mark was noted then
abbrev pub AnswerStands : (Server Line : Type 0) → (Server → Serving) → (Line → Truth) → Type 0
AnswerStands Server Line serving truth =
    (s t u : Server) (l m n : Line) (who : Who) (now : ℕ) (call : Call) (answer : Answer) (v : Opening) (tree : Tree) (marks : List Mark)
    (calls : CallSpecification (serving s) (serving t) (truth l) (truth m) who now call (Replied answer)) → SameServing (serving t) (serving u)
    → (truth m v (marks_after calls.keeps.acts marks) → truth n v (Took who now call answer ∷ marks_after calls.keeps.acts marks))
    → Stands (serving s) (truth l) v tree marks
    → Stands (serving u) (truth n) v tree (Took who now call answer ∷ marks_after calls.keeps.acts marks)

-- through a call that was cut
abbrev pub CutStands : (Server Line : Type 0) → (Server → Serving) → (Line → Truth) → Type 0
CutStands Server Line serving truth =
    (s t : Server) (l m : Line) (who : Who) (now : ℕ) (call : Call) (v : Opening) (tree : Tree) (marks : List Mark)
    (calls : CallSpecification (serving s) (serving t) (truth l) (truth m) who now call Cut) → Stands (serving s) (truth l) v tree marks
    → Stands (serving t) (truth m) v tree (marks_after calls.keeps.acts marks)
