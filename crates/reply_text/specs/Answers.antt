-- The texts of sessions.
use Rattle.std.specs.Prelude.{ℕ, List, ◌∷◌, [], ◌++◌, codes, decimal, flat_map}
use Rattle.tree.specs.declared.Outcome.{Outcome}
use Rattle.reply_text.specs.Text.{outcome_text}
use Rattle.reply_text.specs.declared.answers.Played.{Played}

-- an answer and a newline
abbrev pub line_text : Outcome → List ℕ
line_text outcome = outcome_text outcome ++ 10 ∷ []

-- answers, one a line
abbrev pub outcomes_text : List Outcome → List ℕ
outcomes_text outcomes = flat_map line_text outcomes

-- the line with a session's number
abbrev pub number_text : ℕ → List ℕ
number_text number = codes "session " ++ decimal number ++ codes "\n"

-- that line, and the answers to the session's calls
abbrev pub session_text : Played → List ℕ
session_text session = number_text session.number ++ outcomes_text session.outcomes.items

-- sessions one after the other
abbrev pub sessions_text : List Played → List ℕ
sessions_text sessions = flat_map session_text sessions
