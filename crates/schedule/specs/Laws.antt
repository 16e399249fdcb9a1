-- What holds of each beginning of a schedule, of a run that goes on, and of the refusals of a run.
use Rattle.std.specs.Prelude.{◌≡◌, ◌≤◌, ℕ, List, ◌∷◌, ◌++◌, length, true, IsSomeAnd}
use Rattle.bdev.specs.DriverState.{DriverState}
use Rattle.reincarnate.specs.declared.policy.Policy.{Policy}
use Rattle.records.specs.Marks.{IsBeginning}
use Rattle.schedule.specs.declared.Sent.{Sent}
use Rattle.schedule.specs.declared.Event.{Event}
use Rattle.schedule.specs.Groups.{Group, marks_of, schedule_of, Each, EachGroup}
use Rattle.schedule.specs.Drivers.{state_of}
use Rattle.schedule.specs.Replies.{IsSentAtItsStep}
use Rattle.schedule.specs.Justified.{GroupKeeps}
use Rattle.records.specs.Opening.{Range}
use Rattle.schedule.specs.Refusals.{Start, Refusal, IsRefusedFor, IsAccepted}

-- the run over these events, the first of those of these groups: its record is a beginning of theirs, and each event keeps what it must
pub record HasBeginning (policy : Policy) (supply : ℕ) (sent : List Sent) (drivers : List DriverState) (groups : List Group) (events : List Event) : Type 0 where
  pub first : List Group
  pub schedule : schedule_of first ≡ events
  pub beginning : IsBeginning (marks_of first) (marks_of groups)
  pub keep : EachGroup (GroupKeeps policy supply sent drivers) first

-- What a run keeps at each event it keeps over each beginning of its schedule. The replies sent and the drivers are those of the whole
-- run here. What is said of how replies, drivers and calls left stand at the end isn't in it: at the end of the beginning they stood
-- otherwise (fewer replies, fewer drivers, in other states), and the run over the beginning alone shows that in its own transcript.
abbrev pub BeginningKeeps : Type 0
BeginningKeeps =
    (policy : Policy) (supply : ℕ) (sent : List Sent) (drivers : List DriverState) (groups : List Group) (events later : List Event)
    → EachGroup (GroupKeeps policy supply sent drivers) groups → schedule_of groups ≡ events ++ later
    → HasBeginning policy supply sent drivers groups events

-- a driver has failed, as it stands
abbrev pub HasFailed : List DriverState → ℕ → Type 0
HasFailed drivers g = IsSomeAnd (state_of drivers g) (λ d. d.failed ≡ true)

-- the run went on after n events: later replies were sent at later events, and the drivers that had failed still have
pub record WentOn (n : ℕ) (sent : List Sent) (drivers : List DriverState) (sent' : List Sent) (drivers' : List DriverState) : Type 0 where
  pub more : List Sent
  pub sent_is : sent' ≡ sent ++ more
  pub later : Each (λ s. n ≤ s.place) more
  pub failed : (g : ℕ) → HasFailed drivers g → HasFailed drivers' g

-- what the events so far kept they keep while the run goes on
abbrev pub GroupsStay : Type 0
GroupsStay =
    (policy : Policy) (supply : ℕ) (sent : List Sent) (drivers : List DriverState) (sent' : List Sent) (drivers' : List DriverState)
    (groups : List Group) → WentOn (length groups) sent drivers sent' drivers'
    → EachGroup (GroupKeeps policy supply sent drivers) groups → EachGroup (GroupKeeps policy supply sent' drivers') groups

-- a reply stands at its step whatever event comes after it, and whatever replies are sent there and later
abbrev pub RepliesStay : Type 0
RepliesStay =
    (g : Group) (groups : List Group) (sent more : List Sent) (s : Sent) → Each (λ m. length groups ≤ m.place) more
    → IsSentAtItsStep groups sent s → IsSentAtItsStep (g ∷ groups) (sent ++ more) s

-- a run is refused for one reason alone
abbrev pub RefusedForOne : Type 0
RefusedForOne = (start : Start) (a b : Refusal) → IsRefusedFor start a → IsRefusedFor start b → a ≡ b

-- a run that is refused isn't accepted
abbrev pub RefusedOrAccepted : Type 0
RefusedOrAccepted = (start : Start) (a : Refusal) (range : Range) → IsRefusedFor start a → IsAccepted start range → ⊥
