-- Complaints, while one may be due.
use Rattle.std.specs.Prelude.{◌≡◌, List, [], ◌∷◌, ◌++◌, Option, Some, None, if◌then◌else◌}
use Rattle.message.specs.declared.endpoint.Endpoint.{Endpoint}
use Rattle.records.specs.Marks.{Mark, is_endpoint}
use Rattle.schedule.specs.declared.Event.{Event}
use Rattle.schedule.specs.Groups.{Group, marks_of, running, EachGroup}
use Rattle.schedule.specs.Faults.{complaint_after, ComplaintsFollow}

-- the complaint that is due is a fault where it is of the running driver
abbrev pub fault_due : Option Endpoint → Option Endpoint → Option Endpoint
fault_due None runs = None
fault_due (Some e) runs = if is_endpoint e runs then Some e else None

-- a complaint follows each answer of the running driver that isn't good, but for the last mark, which asks for this one
abbrev pub HeadFollows : List Mark → List Mark → Option Endpoint → Type 0
HeadFollows [] before due = due ≡ None
HeadFollows (m ∷ group) before due = (complaint_after m (group ++ before) ≡ due) × ComplaintsFollow (Some m) group before

abbrev pub ComplaintsAsDue : Event → List Mark → List Group → Type 0
ComplaintsAsDue event group earlier = ComplaintsFollow None group (marks_of earlier)

-- so it is in the last group, with the complaint that the server owes; in each one before it all complaints were made
abbrev pub LastFollows : List Group → Option Endpoint → Type 0
LastFollows [] owed = owed ≡ None
LastFollows ((event, group) ∷ earlier) owed =
    HeadFollows group (marks_of earlier) (fault_due owed (running (group ++ marks_of earlier))) × EachGroup ComplaintsAsDue earlier
