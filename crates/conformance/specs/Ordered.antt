-- The calls taken, at each event.
use Rattle.std.specs.Prelude.{◌≡◌, List, [], ◌∷◌, ◌++◌}
use Rattle.records.specs.Marks.{Mark}
use Rattle.schedule.specs.declared.Event.{Event}
use Rattle.schedule.specs.Groups.{Group, marks_of, EachGroup}
use Rattle.schedule.specs.Calls.{Arrival, arrived, taken}
use Rattle.simulated_link.specs.Waiting.{arrival_of}
use Rattle.simulated_link.specs.Moments.{Doing, Resting, Hearing, Answering}

-- the calls taken so far are the first that arrived, in their order
pub record IsOrdered (groups : List Group) : Type 0 where
  pub left : List Arrival
  pub order : arrived groups ≡ left ++ taken (marks_of groups)

abbrev pub OrderedAsDue : Event → List Mark → List Group → Type 0
OrderedAsDue event group earlier = IsOrdered ((event, group) ∷ earlier)

-- so it was at each event before the last one
abbrev pub EarlierOrdered : List Group → Type 0
EarlierOrdered [] = Unit {0}
EarlierOrdered (g ∷ earlier) = EachGroup OrderedAsDue earlier

-- the call that is being answered
abbrev pub answering : Doing → List Arrival
answering Resting = []
answering (Hearing message) = []
answering (Answering call) = arrival_of call ∷ []
