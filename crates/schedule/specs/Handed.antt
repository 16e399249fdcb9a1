-- When the server acts: only once it is handed something.
use Rattle.std.specs.Prelude.{ℕ, List, [], ◌∷◌, length, Bool, true, false, ◌&&◌, ◌||◌, nat_lt, nat_le, Option, Some, None, slice_get}
use Rattle.records.specs.Marks.{Mark, Started, GaveUp, Took, Issued}
use Rattle.schedule.specs.declared.Sent.{Sent}
use Rattle.schedule.specs.declared.Event.{Event}
use Rattle.schedule.specs.declared.Event.TheVariants as event
use Rattle.schedule.specs.Groups.{Group, marks_of}
use Rattle.schedule.specs.Calls.{arrived, taken}

-- whether a reply was sent before this many events
abbrev pub was_sent : Option Sent → ℕ → Bool
was_sent None place = false
was_sent (Some s) place = nat_lt s.place place

-- whether an event hands the server something itself: a call where none waits, a flush, a reply that was sent
abbrev pub is_handed : List Sent → Event → List Group → Bool
is_handed sent (event.Arrive who now call) earlier = nat_le (length (arrived earlier)) (length (taken (marks_of earlier)))
is_handed sent event.Flush earlier = true
is_handed sent (event.Deliver n) earlier = was_sent (slice_get sent n) (length earlier)
is_handed sent _ earlier = false

-- whether the server is told of a start or of giving up
abbrev pub is_told : List Mark → Bool
is_told [] = false
is_told (Started e ∷ marks) = true
is_told (GaveUp ∷ marks) = true
is_told (_ ∷ marks) = is_told marks

-- a call is finished and a request is issued only where the event, or an earlier mark of its group, handed the server something
abbrev pub acts_when_handed : Bool → List Mark → Bool
acts_when_handed handed [] = true
acts_when_handed handed (Took who now call answer ∷ group) = (handed || is_told group) && acts_when_handed handed group
acts_when_handed handed (Issued r to ∷ group) = (handed || is_told group) && acts_when_handed handed group
acts_when_handed handed (_ ∷ group) = acts_when_handed handed group
