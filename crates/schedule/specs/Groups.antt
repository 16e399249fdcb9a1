-- The record of a run, cut into groups: the marks before the first event, then those of each event.
-- Groups stand newest first, and so do the marks in each: what stood before a group is the list behind it.
use Rattle.std.specs.Prelude.{ℕ, ◌+◌, ◌-◌, List, [], ◌∷◌, ◌++◌, length, drop, map, reverse, Option, Some, None, if◌then◌else◌}
use Rattle.message.specs.declared.endpoint.Endpoint.{Endpoint}
use Rattle.reincarnate.specs.Watch.{driver}
use Rattle.records.specs.Marks.{Mark, Started, Fault, is_endpoint}
use Rattle.schedule.specs.declared.Event.{Event}
use Rattle.schedule.specs.declared.Event.TheVariants as event

-- an event and the marks that it led to
abbrev pub Group : Type 0
Group = Event × List Mark

-- the whole record: driver 1 is started before the first event
abbrev pub marks_of : List Group → List Mark
marks_of [] = Started (driver 1) ∷ []
marks_of (g ∷ groups) = g.1 ++ marks_of groups

-- the event of a group
abbrev pub event_of : Group → Event
event_of g = g.0

-- the events, oldest first
abbrev pub schedule_of : List Group → List Event
schedule_of groups = reverse (map event_of groups)

-- the groups of the first n events
abbrev pub first_groups : ℕ → List Group → List Group
first_groups n groups = drop (length groups - n) groups

-- each of these keeps what is asked of it
abbrev pub Each : {A : Type 0} → (A → Type 0) → List A → Type 0
Each Keeps [] = Unit {0}
Each Keeps (x ∷ xs) = Keeps x × Each Keeps xs

-- each group keeps what is asked of its event, its marks and the groups before it
abbrev pub EachGroup : (Event → List Mark → List Group → Type 0) → List Group → Type 0
EachGroup Keeps [] = Unit {0}
EachGroup Keeps (g ∷ groups) = Keeps g.0 g.1 groups × EachGroup Keeps groups

-- the number of ticks so far
abbrev pub ticks_so_far : List Group → ℕ
ticks_so_far [] = 0
ticks_so_far ((event.Tick, group) ∷ groups) = ticks_so_far groups + 1
ticks_so_far ((_, group) ∷ groups) = ticks_so_far groups

-- the running driver: each from its start to its next fault
abbrev pub running : List Mark → Option Endpoint
running [] = None
running (Started e ∷ marks) = Some e
running (Fault e cause ∷ marks) = if is_endpoint e (running marks) then None else running marks
running (_ ∷ marks) = running marks

-- the drivers that these marks start, newest first
abbrev pub started_in : List Mark → List Endpoint
started_in [] = []
started_in (Started e ∷ marks) = e ∷ started_in marks
started_in (_ ∷ marks) = started_in marks

-- the generation of the last start: how many drivers were started
abbrev pub generation : List Mark → ℕ
generation marks = length (started_in marks)
