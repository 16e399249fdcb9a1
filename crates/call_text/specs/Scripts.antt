-- What a text says as a script.
use Rattle.std.specs.Prelude.{◌≡◌, ℕ, Bool, List, ◌∷◌, [], nat_lt, length, cond, Option, Some, None, Result, Ok, Err, codes}
use Rattle.std.specs.Option.{option_map, option_zip}
use Rattle.std.specs.Str.{bytes_eq}
use Rattle.call_text.specs.Words.{words_of, lines_of}
use Rattle.call_text.specs.WrittenCalls.{decoded, meant, plain, word}
use Rattle.call_text.specs.Calls.{call_of, id}
use Rattle.call_text.specs.Lines.{said_by_lines}
use Rattle.call_text.specs.declared.scripts.timed.TimedCall.{TimedCall}
use Rattle.call_text.specs.declared.scripts.timed.TimedLine.{TimedLine}

-- the same call at the same time, wherever its paths and bytes stand
abbrev pub plain_timed : TimedCall → TimedCall
plain_timed timed = record { time = timed.time; call = plain timed.call }

-- the call of a line, with its bytes
abbrev pub line_call : TimedLine → TimedCall
line_call line = record { time = line.time; call = meant line.call }

-- the bytes that are decoded for a line's call
abbrev pub line_bytes : TimedLine → List ℕ
line_bytes line = decoded line.call

-- the user and the group that the words `user UID GID` name, each at most 65535
abbrev pub user_of_words : List (List ℕ) → Option (ℕ × ℕ)
user_of_words (name ∷ uid ∷ gid ∷ []) = cond (bytes_eq name (codes "user")) (option_zip (id uid) (id gid)) None
user_of_words _ = None

-- the call that the words `NOW CALL` name, and its time, at most 4294967295
abbrev pub timed_of_words : List (List ℕ) → Option TimedCall
timed_of_words [] = None
timed_of_words (now ∷ call) = option_map (λ t. record { time = t.0; call = t.1 }) (option_zip (word now) (call_of call))

-- the user and the group that a line `user UID GID` names
abbrev pub user_of : List ℕ → Option (ℕ × ℕ)
user_of line = user_of_words (words_of line)

-- the call that a line `NOW CALL` names, and its time
abbrev pub timed_of : List ℕ → Option TimedCall
timed_of line = timed_of_words (words_of line)

-- the same, whatever the line's number
abbrev pub timed_at : ℕ → List ℕ → Option TimedCall
timed_at number line = timed_of line

-- the calls of the lines from this number on, or the number of the first that can't be read; after the last newline nothing may follow
abbrev pub calls_in : ℕ → List (List ℕ) → Result (List TimedCall) ℕ
calls_in number lines = said_by_lines timed_at number lines

-- line 1's user and group with the calls of the later lines, or the number of the first line that can't be read
abbrev pub with_user : Option (ℕ × ℕ) → Result (List TimedCall) ℕ → Result (ℕ × ℕ × List TimedCall) ℕ
with_user None calls = Err 1
with_user (Some user) (Ok calls) = Ok (user.0, user.1, calls)
with_user (Some user) (Err bad) = Err bad

-- what lines say as a script: first the user's, then one for each call
abbrev pub script_of_lines : List (List ℕ) → Result (ℕ × ℕ × List TimedCall) ℕ
script_of_lines (line ∷ next ∷ more) = with_user (user_of line) (calls_in 2 (next ∷ more))
script_of_lines _ = Err 1

-- what a text says as a script, or the number, from 1, of the first line that can't be read
abbrev pub script_of : List ℕ → Result (ℕ × ℕ × List TimedCall) ℕ
script_of text = script_of_lines (lines_of text)

-- whether the lines of the user and of a first call can be read
abbrev pub has_call : Result (ℕ × ℕ × List TimedCall) ℕ → Bool
has_call (Ok script) = nat_lt 0 (length script.2)
has_call (Err bad) = nat_lt 2 bad
