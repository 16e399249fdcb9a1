-- When a run's record, replies, drivers and calls left are those that its schedule gives.
use Rattle.std.specs.Prelude.{◌≡◌, ℕ, List, [], ◌∷◌, length, map, take, true, None, IfSome}
use Rattle.bdev.specs.DriverState.{DriverState}
use Rattle.reincarnate.specs.declared.policy.Policy.{Policy}
use Rattle.records.specs.Marks.{Mark}
use Rattle.schedule.specs.declared.Sent.{Sent}
use Rattle.schedule.specs.declared.Event.{Event}
use Rattle.schedule.specs.Groups.{Group, marks_of, started_in, generation, running, Each, EachGroup}
use Rattle.schedule.specs.Drivers.{state_of, TookItsOwn}
use Rattle.schedule.specs.Faults.{ExitsOfGroup, hung_in, hung_due, ComplaintsFollow, FailsAtItsStep, HasNotFailed}
use Rattle.schedule.specs.Starts.{starts_due, GivingUpOfGroup, IssuesFollow, are_issued_in_place}
use Rattle.schedule.specs.Replies.{answers_in, answers_due, IsSentAtItsStep, are_in_order, RepliesOf}
use Rattle.schedule.specs.Calls.{CallsSoFar, IsUnanswered, flushes_in, flushes_due}
use Rattle.schedule.specs.Handed.{is_handed, acts_when_handed}

-- faults and restarts, at an event: the faults that there are, the starts, giving up, and the requests that follow a start
pub record FaultsAndRestarts (policy : Policy) (supply : ℕ) (drivers : List DriverState) (event : Event) (group : List Mark) (earlier : List Group) : Type 0 where
  pub exits : ExitsOfGroup drivers event group earlier
  pub hung : hung_in group ≡ hung_due policy event earlier
  pub complaints : ComplaintsFollow None group (marks_of earlier)
  pub starts : started_in group ≡ starts_due policy event earlier
  pub giving_up : GivingUpOfGroup policy supply event group earlier
  pub issues : IssuesFollow [] group (marks_of earlier)
  pub in_place : are_issued_in_place ((event, group) ∷ earlier) group (marks_of earlier) ≡ true

-- answers and flushes, at an event
pub record AnswersAndFlushes (sent : List Sent) (event : Event) (group : List Mark) (earlier : List Group) : Type 0 where
  pub answered : answers_in group ≡ answers_due sent event earlier
  pub flushed : flushes_in group ≡ flushes_due event

-- what an event and its marks keep, after the groups before them; supply is the number of drivers handed in
pub record GroupKeeps (policy : Policy) (supply : ℕ) (sent : List Sent) (drivers : List DriverState) (event : Event) (group : List Mark) (earlier : List Group) : Type 0 where
  pub faults : FaultsAndRestarts policy supply drivers event group earlier
  pub answers : AnswersAndFlushes sent event group earlier
  pub calls : CallsSoFar ((event, group) ∷ earlier)
  pub acts : acts_when_handed (is_handed sent event earlier) group ≡ true

-- the drivers are those of the supply that were started, as they stand after these groups
pub record DriversStand (supply : List DriverState) (groups : List Group) (drivers : List DriverState) : Type 0 where
  pub all : length drivers ≡ generation (marks_of groups)
  pub handed_in : map (λ d. d.ranges) drivers ≡ take (length drivers) (map (λ d. d.ranges) supply)
  pub took : (g : ℕ) → IfSome (state_of drivers g) (TookItsOwn (marks_of groups) g)
  pub sound : HasNotFailed drivers (running (marks_of groups))
  pub failures : (g : ℕ) → IfSome (state_of drivers g) (FailsAtItsStep groups g)

-- the replies are those that these drivers sent, each at a step of its own
pub record RepliesStand (groups : List Group) (sent : List Sent) (drivers : List DriverState) : Type 0 where
  pub order : are_in_order 0 sent ≡ true
  pub steps : Each (IsSentAtItsStep groups sent) sent
  pub own : (g : ℕ) → IfSome (state_of drivers g) (RepliesOf (marks_of groups) sent g)

-- a run is justified, at each event and by what stands at the end; supply is the drivers as they were handed in, unanswered the number of the calls left
pub record Justified (policy : Policy) (supply : List DriverState) (groups : List Group) (sent : List Sent) (drivers : List DriverState) (unanswered : ℕ) : Type 0 where
  pub events : EachGroup (GroupKeeps policy (length supply) sent drivers) groups
  pub drivers_stand : DriversStand supply groups drivers
  pub replies_stand : RepliesStand groups sent drivers
  pub calls_left : IsUnanswered groups unanswered
