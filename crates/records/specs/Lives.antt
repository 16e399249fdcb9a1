-- A server from its opening or mounting on, after every list of calls and messages.
use Rattle.std.specs.Prelude.{ℕ, List, [], ◌∷◌, ◌++◌}
use Rattle.message.specs.declared.Incoming.{Incoming}
use Rattle.tree.specs.declared.Who.{Who}
use Rattle.tree.specs.declared.Call.{Call}
use Rattle.tree.specs.Tree.{Tree}
use Rattle.records.specs.Marks.{Mark}
use Rattle.records.specs.Disk.{Contents}
use Rattle.records.specs.Acts.{Absorbed, marks_after}
use Rattle.records.specs.ServerCall.{Serving, Serves, Outcome, with_outcome, CallKeeps, AbsorbKeeps}

-- a server that served after some record, and after any calls and messages since; the marks are those of the whole record
pub data Lives {Server : Type 0} (serving : Server → Serving) (image : Contents) (tree : Tree) : Server → List Mark → Type 0 where
  Begins : (s : Server) (marks : List Mark) → Serves (serving s) image tree marks → Lives serving image tree s marks
  Calls : (s t : Server) (marks : List Mark) (who : Who) (now : ℕ) (call : Call) (outcome : Outcome)
      (keeps : CallKeeps (serving s) who now call outcome (serving t)) → Lives serving image tree s marks
      → Lives serving image tree t (with_outcome who now call outcome (marks_after keeps.acts marks))
  Absorbs : (s t : Server) (marks : List Mark) (message : Incoming) (keeps : AbsorbKeeps (serving s) message (serving t))
      → Lives serving image tree s marks → Lives serving image tree t (marks_after (keeps.later ++ Absorbed message ∷ []) marks)

-- it serves still: the record is well formed, and over true replies legal, and the tree now would be read back
abbrev pub StillServes : (Server : Type 0) → (Server → Serving) → Type 0
StillServes Server serving =
    (image : Contents) (tree : Tree) (s : Server) (marks : List Mark) → Lives serving image tree s marks → Serves (serving s) image tree marks
