-- That the device was given up, while it is owed.
use Rattle.std.specs.Prelude.{◌≡◌, ◌≤◌, ℕ, List, [], ◌∷◌, Bool, true}
use Rattle.records.specs.Marks.{Mark}
use Rattle.schedule.specs.declared.Event.{Event}
use Rattle.schedule.specs.declared.Event.TheVariants as event
use Rattle.schedule.specs.Groups.{Group, marks_of}
use Rattle.schedule.specs.Starts.{calls_since_fault, is_given_up_after_fault}
use Rattle.simulated_link.specs.Moments.{Doing, Resting, Hearing, Answering}

-- how many calls were finished since the fault: none while the server is at work, at most one after that
abbrev pub FewCalls : Doing → ℕ → Type 0
FewCalls Resting n = n ≤ 1
FewCalls (Hearing message) n = n ≡ 0
FewCalls (Answering call) n = n ≡ 0

-- a complaint gave the device up, at a delivery
pub record IsOwedAt (groups : List Group) (doing : Doing) : Type 0 where
  pub number : ℕ
  pub group : List Mark
  pub earlier : List Group
  pub is : groups ≡ (event.Deliver number, group) ∷ earlier
  pub few : FewCalls doing (calls_since_fault (marks_of groups))

abbrev pub AfterFaultAsDue : Event → List Mark → List Group → Type 0
AfterFaultAsDue event group earlier = is_given_up_after_fault event group (marks_of earlier) ≡ true
