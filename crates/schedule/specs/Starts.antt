-- The starts that a run must show, the requests that follow each, and giving up.
use Rattle.std.specs.Prelude.{◌≡◌, ℕ, ◌+◌, ◌-◌, List, [], ◌∷◌, ◌++◌, map, Bool, true, false, not, ◌&&◌, ◌||◌, nat_le, nat_lt, Option, Some, None, if◌then◌else◌}
use Rattle.message.specs.declared.endpoint.Endpoint.{Endpoint}
use Rattle.message.specs.declared.BlockRequest.{BlockRequest}
use Rattle.reincarnate.specs.declared.policy.Policy.{Policy}
use Rattle.reincarnate.specs.Faults.{LastFault, last_fault, gives_up, restart_tick}
use Rattle.reincarnate.specs.Watch.{driver}
use Rattle.records.specs.Marks.{Mark, Started, GaveUp, Took, Issued, Fault, gave_up, awaits_start}
use Rattle.records.specs.Open.{open_requests, greatest}
use Rattle.schedule.specs.declared.Event.{Event}
use Rattle.schedule.specs.declared.Event.TheVariants as event
use Rattle.schedule.specs.Groups.{Group, marks_of, ticks_so_far, generation}
use Rattle.schedule.specs.Drivers.{is_live}

-- the ticks of the faults in these marks, all at this tick, before those of earlier ones
abbrev pub ticks_of_faults_in : ℕ → List Mark → List ℕ → List ℕ
ticks_of_faults_in tick [] earlier = earlier
ticks_of_faults_in tick (Fault e cause ∷ group) earlier = tick ∷ ticks_of_faults_in tick group earlier
ticks_of_faults_in tick (_ ∷ group) earlier = ticks_of_faults_in tick group earlier

-- the ticks of the faults so far, newest first
abbrev pub ticks_of_faults : List Group → List ℕ
ticks_of_faults [] = []
ticks_of_faults ((event, group) ∷ earlier) = ticks_of_faults_in (ticks_so_far ((event, group) ∷ earlier)) group (ticks_of_faults earlier)

-- the last fault so far, numbered by the policy
abbrev pub fault_of : Policy → List Group → Option LastFault
fault_of policy groups = last_fault policy.calm (ticks_of_faults groups)

-- the tick of the start after the last fault has come
abbrev pub has_come : Policy → Option LastFault → ℕ → Bool
has_come policy None tick = false
has_come policy (Some fault) tick = nat_le (restart_tick policy fault) tick

-- at a tick the next driver is started, where one is awaited and its tick has come; at no other event, and none after giving up
abbrev pub starts_due : Policy → Event → List Group → List Endpoint
starts_due policy event.Tick earlier =
    if awaits_start (marks_of earlier) && not (gave_up (marks_of earlier)) && has_come policy (fault_of policy earlier) (ticks_so_far earlier + 1)
    then driver (generation (marks_of earlier) + 1) ∷ []
    else []
starts_due policy _ earlier = []

-- how often these marks give the device up
abbrev pub times_gave_up : List Mark → ℕ
times_gave_up [] = 0
times_gave_up (GaveUp ∷ marks) = times_gave_up marks + 1
times_gave_up (_ ∷ marks) = times_gave_up marks

-- whether there is a fault
abbrev pub has_fault : List Mark → Bool
has_fault [] = false
has_fault (Fault e cause ∷ marks) = true
has_fault (_ ∷ marks) = has_fault marks

-- a fault gives the device up: its number is too great, or of the supply or of the generations none is left
abbrev pub gives_up_at : Policy → ℕ → Option LastFault → ℕ → Bool
gives_up_at policy supply None generation = false
gives_up_at policy supply (Some fault) generation = gives_up policy fault.number (supply - generation) generation

-- the device is given up once, in the group of a fault that gives it up
abbrev pub times_due : Policy → ℕ → List Group → ℕ
times_due policy supply [] = 0
times_due policy supply ((event, group) ∷ earlier) =
    if has_fault group && gives_up_at policy supply (fault_of policy ((event, group) ∷ earlier)) (generation (group ++ marks_of earlier))
    then 1 else 0

-- whether the last of these marks is a fault
abbrev pub ends_in_fault : List Mark → Bool
ends_in_fault (Fault e cause ∷ marks) = true
ends_in_fault _ = false

-- how many calls were finished since the last fault
abbrev pub calls_since_fault : List Mark → ℕ
calls_since_fault [] = 0
calls_since_fault (Fault e cause ∷ marks) = 0
calls_since_fault (Took who now call answer ∷ marks) = calls_since_fault marks + 1
calls_since_fault (_ ∷ marks) = calls_since_fault marks

-- when the server learns that the device is given up: right after an exit or a missed heartbeat; after a complaint while a start is awaited,
-- and at most the call of the complaint, if it took no message more, was finished
abbrev pub may_give_up : Event → List Mark → Bool
may_give_up (event.Die g bytes) marks = ends_in_fault marks
may_give_up (event.Step g) marks = ends_in_fault marks
may_give_up event.Tick marks = ends_in_fault marks
may_give_up _ marks = awaits_start marks && nat_le (calls_since_fault marks) 1

-- the device is given up only after its fault
abbrev pub is_given_up_after_fault : Event → List Mark → List Mark → Bool
is_given_up_after_fault event [] before = true
is_given_up_after_fault event (GaveUp ∷ group) before = may_give_up event (group ++ before) && is_given_up_after_fault event group before
is_given_up_after_fault event (_ ∷ group) before = is_given_up_after_fault event group before

-- the device is given up where the policy says, after its fault
pub record GivingUpOfGroup (policy : Policy) (supply : ℕ) (event : Event) (group : List Mark) (earlier : List Group) : Type 0 where
  pub times : times_gave_up group ≡ times_due policy supply ((event, group) ∷ earlier)
  pub after_fault : is_given_up_after_fault event group (marks_of earlier) ≡ true

-- right after a start all open requests are issued to the new driver, in rising order; after being the later marks, oldest first
abbrev pub IsFollowedByIssues : List Mark → Mark → List Mark → Type 0
IsFollowedByIssues after (Started e) before =
    (rest : List Mark) × (after ≡ map (λ r. Issued r e) (open_requests before) ++ rest)
IsFollowedByIssues after _ before = Unit {0}

-- so it is from mark to mark of a group
abbrev pub IssuesFollow : List Mark → List Mark → List Mark → Type 0
IssuesFollow after [] before = Unit {0}
IssuesFollow after (m ∷ group) before = IsFollowedByIssues after m (group ++ before) × IssuesFollow (m ∷ after) group before

-- the last of these marks are a start and the requests issued since, each of a lesser id than the next one, which is this
abbrev pub is_among_first : ℕ → List Mark → Bool
is_among_first id (Started e ∷ marks) = true
is_among_first id (Issued r e ∷ marks) = nat_lt r.id id && is_among_first r.id marks
is_among_first id _ = false

-- when a request is issued: to a live driver, before the device is given up, and again only among the first ones after a start
abbrev pub may_issue : List Group → BlockRequest → Endpoint → List Mark → Bool
may_issue groups r to marks =
    is_live to.generation groups && not (gave_up marks) && (nat_lt (greatest marks) r.id || is_among_first r.id marks)

-- so it is of each request of a group
abbrev pub are_issued_in_place : List Group → List Mark → List Mark → Bool
are_issued_in_place groups [] before = true
are_issued_in_place groups (Issued r to ∷ group) before =
    may_issue groups r to (group ++ before) && are_issued_in_place groups group before
are_issued_in_place groups (_ ∷ group) before = are_issued_in_place groups group before
