-- The calls among exchanges.
use Rattle.std.specs.Prelude.{List, [], ◌∷◌, ◌++◌}
use Rattle.tree.specs.declared.Call.{Call}
use Rattle.tree.specs.declared.Outcome.TheVariants as outcome
use Rattle.tree.specs.declared.Reply.{Reply}
use Rattle.talks.specs.Plain.{plain_call}
use Rattle.talks.specs.Talks.{Exchange}
use Rattle.talks.specs.declared.ask.Ask.{Ask}
use Rattle.talks.specs.declared.ask.Ask.TheVariants as ask
use Rattle.talks.specs.declared.heard.Heard.{Heard}
use Rattle.talks.specs.declared.heard.Heard.TheVariants as heard

-- a call, wherever its bytes stand, with what was heard; a session that begins is none
abbrev pub call_in : Ask → Heard → List (Call × Heard)
call_in (ask.Call session c) h = (plain_call c, h) ∷ []
call_in a h = []

-- the calls among exchanges, in the order in which they were asked
abbrev pub calls_in : List Exchange → List (Call × Heard)
calls_in [] = []
calls_in (e ∷ es) = calls_in es ++ call_in e.ask e.heard

-- a call with its reply
abbrev pub replied : Call → Reply → Call × Heard
replied c r = (plain_call c, heard.Outcome (outcome.Reply r))
