-- Which lines are an event.
use Rattle.std.specs.Prelude.{ℕ, List, [], ◌∷◌, nat_lt, Bool, Option, Some, None, Result, codes, replicate, if◌then◌else◌}
use Rattle.std.specs.Option.{option_map, option_zip}
use Rattle.std.specs.Str.{bytes_eq}
use Rattle.tree.specs.declared.Who.{Who}
use Rattle.schedule.specs.declared.Event.{Event}
use Rattle.schedule.specs.declared.Event.TheVariants.{Arrive, Flush, Tick, Step, Die, Hang, Deliver, Repeat}
use Rattle.call_text.specs.Bytes.{byte_of}
use Rattle.call_text.specs.Words.{words_of, number_of}
use Rattle.call_text.specs.WrittenCalls.{decoded, meant, plain, word}
use Rattle.call_text.specs.Calls.{call_of, id}
use Rattle.call_text.specs.Lines.{said_by, has_first}
use Rattle.schedule_text.specs.declared.line.Line.{Line}
use Rattle.schedule_text.specs.declared.line.Line.TheVariants as line

-- the same event, wherever its call's paths and bytes stand
abbrev pub plain_event : Event → Event
plain_event (Arrive who now call) = Arrive who now (plain call)
plain_event Flush = Flush
plain_event Tick = Tick
plain_event (Step g) = Step g
plain_event (Die g bytes) = Die g bytes
plain_event (Hang g) = Hang g
plain_event (Deliver n) = Deliver n
plain_event (Repeat n) = Repeat n

-- a sector of equal bytes
abbrev pub torn : Option ℕ → Option (List ℕ)
torn byte = option_map (λ b. replicate 512 b) byte

-- the event of a line
abbrev pub line_event : Line → Event
line_event (line.Arrive who now call) = Arrive who now (meant call)
line_event line.Flush = Flush
line_event line.Tick = Tick
line_event (line.Step g) = Step g
line_event (line.Die g byte) = Die g (torn byte)
line_event (line.Hang g) = Hang g
line_event (line.Deliver n) = Deliver n
line_event (line.Repeat n) = Repeat n

-- the bytes that are decoded for a line's call
abbrev pub line_bytes : Line → List ℕ
line_bytes (line.Arrive who now call) = decoded call
line_bytes _ = []

-- who calls: a session, 0 to 255, a user and a group
abbrev pub caller_of : List ℕ → List ℕ → List ℕ → Option Who
caller_of session uid gid =
    option_map (λ w. record { session = w.0; uid = w.1.0; gid = w.1.1 }) (option_zip (number_of 255 session) (option_zip (id uid) (id gid)))

-- the words `SESSION UID GID NOW CALL`
abbrev pub arrival_of : List (List ℕ) → Option Event
arrival_of (session ∷ uid ∷ gid ∷ now ∷ call) =
    option_map (λ a. Arrive a.0 a.1.0 a.1.1) (option_zip (caller_of session uid gid) (option_zip (word now) (call_of call)))
arrival_of _ = None

-- an event of no words but its name
abbrev pub event_of_none : List ℕ → Option Event
event_of_none name =
    if bytes_eq name (codes "flush") then Some Flush else if bytes_eq name (codes "tick") then Some Tick else None

-- an event of a driver by its generation, or of a reply or a request by its number
abbrev pub event_of_one : List ℕ → List ℕ → Option Event
event_of_one name n =
    if bytes_eq name (codes "step") then option_map Step (word n)
    else if bytes_eq name (codes "die") then option_map (λ g. Die g None) (word n)
    else if bytes_eq name (codes "hang") then option_map Hang (word n)
    else if bytes_eq name (codes "deliver") then option_map Deliver (word n)
    else if bytes_eq name (codes "repeat") then option_map Repeat (word n) else None

-- a death that tears a sector to bytes that two digits write
abbrev pub event_of_two : List ℕ → List ℕ → List ℕ → Option Event
event_of_two name g byte =
    if bytes_eq name (codes "die") then option_map (λ d. Die d.0 (torn (Some d.1))) (option_zip (word g) (byte_of byte)) else None

-- an event that isn't a call
abbrev pub event_but_call : List ℕ → List (List ℕ) → Option Event
event_but_call name [] = event_of_none name
event_but_call name (a ∷ []) = event_of_one name a
event_but_call name (a ∷ b ∷ []) = event_of_two name a b
event_but_call name _ = None

-- the event that words name
abbrev pub event_of : List (List ℕ) → Option Event
event_of [] = None
event_of (name ∷ words) = if bytes_eq name (codes "call") then arrival_of words else event_but_call name words

-- the event of the line of this number, from 1: line 4294967296 and later ones can't be read
abbrev pub event_at : ℕ → List ℕ → Option Event
event_at number line = if nat_lt number 4294967296 then event_of (words_of line) else None

-- what a text says as a schedule, or the number of its first bad line; no bytes are a schedule without events
abbrev pub schedule_in : List ℕ → Result (List Event) ℕ
schedule_in text = said_by event_at text

-- whether there is a first event to keep
abbrev pub has_event : List ℕ → Bool
has_event text = has_first 1 (schedule_in text)
