-- Calls that arrived, and those that were taken; flushes.
use Rattle.std.specs.Prelude.{◌≡◌, ◌≢◌, ℕ, ◌+◌, List, [], ◌∷◌, ◌++◌, length, true, false}
use Rattle.tree.specs.declared.Who.{Who}
use Rattle.tree.specs.declared.Call.{Call}
use Rattle.records.specs.Marks.{Mark, Took, Flush, gave_up}
use Rattle.records.specs.Open.{is_unfinished}
use Rattle.schedule.specs.declared.Event.{Event}
use Rattle.schedule.specs.declared.Event.TheVariants as event
use Rattle.schedule.specs.Groups.{Group, marks_of}

-- who calls, the time, and the call
abbrev pub Arrival : Type 0
Arrival = Who × ℕ × Call

-- the calls that arrived so far, newest first
abbrev pub arrived : List Group → List Arrival
arrived [] = []
arrived ((event.Arrive who now call, group) ∷ earlier) = (who, now, call) ∷ arrived earlier
arrived ((_, group) ∷ earlier) = arrived earlier

-- the calls of these marks, newest first
abbrev pub taken : List Mark → List Arrival
taken [] = []
taken (Took who now call answer ∷ marks) = (who, now, call) ∷ taken marks
taken (_ ∷ marks) = taken marks

-- a call may be left without a reply only while a request is open or a start is awaited, and not after giving up
pub record MayWait (marks : List Mark) : Type 0 where
  pub unfinished : is_unfinished marks ≡ true
  pub not_given_up : gave_up marks ≡ false

-- the calls taken so far are the first that arrived, in their order, and the others wait
pub record CallsSoFar (groups : List Group) : Type 0 where
  pub left : List Arrival
  pub order : arrived groups ≡ left ++ taken (marks_of groups)
  pub waits : left ≢ [] → MayWait (marks_of groups)

-- the number of calls that arrived and have no reply
pub record IsUnanswered (groups : List Group) (unanswered : ℕ) : Type 0 where
  pub left : List Arrival
  pub order : arrived groups ≡ left ++ taken (marks_of groups)
  pub number : unanswered ≡ length left

-- how many flushes these marks have
abbrev pub flushes_in : List Mark → ℕ
flushes_in [] = 0
flushes_in (Flush ∷ marks) = flushes_in marks + 1
flushes_in (_ ∷ marks) = flushes_in marks

-- one flush at each Flush event, none at any other
abbrev pub flushes_due : Event → ℕ
flushes_due event.Flush = 1
flushes_due _ = 0
