-- What a run keeps from event to event, and within each.
use Rattle.std.specs.Prelude.{◌≡◌, ℕ, ◌+◌, ◌<◌, List, [], ◌∷◌, ◌++◌, length, map, Bool, true, false, Some, slice_get}
use Rattle.bdev.specs.DriverState.{DriverState, Ranges}
use Rattle.reincarnate.specs.declared.policy.Policy.{Policy}
use Rattle.reincarnate.specs.Laws.{is_running}
use Rattle.reincarnate.specs.Watch.{Running}
use Rattle.records.specs.Marks.{Mark}
use Rattle.schedule.specs.declared.Event.{Event}
use Rattle.schedule.specs.Groups.{Group, Each, EachGroup, started_in}
use Rattle.schedule.specs.Drivers.{has_ended}
use Rattle.schedule.specs.Faults.{hung_in, hung_due, ExitsOfGroup, may_have_failed}
use Rattle.schedule.specs.Starts.{starts_due, times_gave_up, times_due, has_fault}
use Rattle.schedule.specs.Calls.{flushes_in, flushes_due}
use Rattle.schedule.specs.Replies.{answers_in, answers_due, are_in_order}
use Rattle.simulated_link.specs.Disks.{Disks, Slot}
use Rattle.conformance.specs.Core.{Core, FollowsGroups}
use Rattle.conformance.specs.Happens.{Begins, Adds}

-- Something that is said of the number of the next event, the groups so far and what stands then: each event keeps it, and so does
-- what is done within one.
pub record IsKept (Said : ℕ → List Group → Core → Type 0) : Type 0 where
  pub begins : (place : ℕ) (groups : List Group) (c a : Core) (event : Event) (marks : List Mark) → c.owed ≡ false
      → Begins place groups c event marks a → Said place groups c → Said (place + 1) ((event, marks) ∷ groups) a
  pub adds : (place : ℕ) (event : Event) (group : List Mark) (earlier : List Group) (c a : Core) (marks : List Mark)
      → Adds c marks a → Said place ((event, group) ∷ earlier) c → Said place ((event, marks ++ group) ∷ earlier) a

-- each group keeps this, by the policy; and the reincarnation server knows what the groups say
pub record EachSoFar (drivers : ℕ) (Keeps : Policy → Event → List Mark → List Group → Type 0) (place : ℕ) (groups : List Group) (c : Core) : Type 0 where
  pub follows : FollowsGroups drivers groups c
  pub each : EachGroup (Keeps c.policy) groups

abbrev pub StartsAsDue : Policy → Event → List Mark → List Group → Type 0
StartsAsDue policy event group earlier = started_in group ≡ starts_due policy event earlier

abbrev pub HungAsDue : Policy → Event → List Mark → List Group → Type 0
HungAsDue policy event group earlier = hung_in group ≡ hung_due policy event earlier

abbrev pub FlushesAsDue : Policy → Event → List Mark → List Group → Type 0
FlushesAsDue policy event group earlier = flushes_in group ≡ flushes_due event

-- that the device was given up is owed once, or not
abbrev pub owes : Bool → ℕ
owes true = 1
owes false = 0

-- in the last group: once a fault stands there no driver runs, and the device is given up, or that is owed, as often as it must be
pub record LastGivesUp (drivers : ℕ) (event : Event) (group : List Mark) (earlier : List Group) (c : Core) : Type 0 where
  pub times : times_gave_up group + owes c.owed ≡ times_due c.policy drivers ((event, group) ∷ earlier)
  pub over : has_fault group ≡ true → is_running c.watch.phase ≡ false

abbrev pub GivesUpAsDue : ℕ → Policy → Event → List Mark → List Group → Type 0
GivesUpAsDue drivers policy event group earlier = times_gave_up group ≡ times_due policy drivers ((event, group) ∷ earlier)

abbrev pub AllGiveUp : ℕ → List Group → Core → Type 0
AllGiveUp drivers [] c = Unit {0}
AllGiveUp drivers ((event, group) ∷ earlier) c = LastGivesUp drivers event group earlier c × EachGroup (GivesUpAsDue drivers c.policy) earlier

-- the device is given up in the groups where the policy says, and how often; in the last one that may be owed
pub record GivesUpSoFar (drivers : ℕ) (place : ℕ) (groups : List Group) (c : Core) : Type 0 where
  pub follows : FollowsGroups drivers groups c
  pub all : AllGiveUp drivers groups c

-- At each event those replies are answered that are delivered there, were sent earlier, and count; each reply so far was sent at an event so
-- far, at most one at each, in their order.
pub record AnsweredSoFar (place : ℕ) (groups : List Group) (c : Core) : Type 0 where
  pub places : length groups ≡ place
  pub sent : Each (λ s. s.place < place) c.disks.sent
  pub order : are_in_order 0 c.disks.sent ≡ true
  pub each : EachGroup (λ event group earlier. answers_in group ≡ answers_due c.disks.sent event earlier) groups

-- the drivers started so far, the first one first, as they stand
abbrev pub state_in : Slot → DriverState
state_in s = s.state

abbrev pub drivers_of : Disks → List DriverState
drivers_of d = map state_in (d.older ++ d.current ∷ [])

-- At each event there are the exits that must be: of a running driver that dies, and of one that fails at its step. The drivers are numbered
-- as they were started.
pub record ExitsSoFar (drivers : ℕ) (place : ℕ) (groups : List Group) (c : Core) : Type 0 where
  pub follows : FollowsGroups drivers groups c
  pub numbered : length c.disks.older + 1 ≡ c.disks.media.generation
  pub each : EachGroup (λ event group earlier. ExitsOfGroup (drivers_of c.disks) event group earlier) groups

-- what a driver serves
abbrev pub ranges_in : DriverState → Ranges
ranges_in d = d.ranges

-- the drivers started so far and those that are left are the ones handed in, by what they serve; those that are left haven't failed, and
-- nor has the one that runs
pub record DriversSoFar (drivers : ℕ) (supply : List DriverState) (place : ℕ) (groups : List Group) (c : Core) : Type 0 where
  pub follows : FollowsGroups drivers groups c
  pub numbered : length c.disks.older + 1 ≡ c.disks.media.generation
  pub handed_in : map ranges_in (drivers_of c.disks) ++ map ranges_in c.supply ≡ map ranges_in supply
  pub fresh : Each (λ d. d.failed ≡ false) c.supply
  pub sound : (last : ℕ × ℕ) (count : ℕ) → c.watch.phase ≡ Running last count → c.disks.current.state.failed ≡ false

-- a driver that lives hasn't ended, and one that has failed did so at a step of its own
pub record SlotStands (groups : List Group) (g : ℕ) (s : Slot) : Type 0 where
  pub live : s.live ≡ true → has_ended g groups ≡ false
  pub failed : s.state.failed ≡ true → may_have_failed g groups ≡ true

-- so it is of each driver that was started, by its number
pub record AllSlots (Stands : ℕ → Slot → Type 0) (d : Disks) : Type 0 where
  pub older : (at : ℕ) (s : Slot) → slice_get d.older at ≡ Some s → Stands (at + 1) s
  pub current : Stands d.media.generation d.current

pub record SlotsSoFar (drivers : ℕ) (place : ℕ) (groups : List Group) (c : Core) : Type 0 where
  pub follows : FollowsGroups drivers groups c
  pub numbered : length c.disks.older + 1 ≡ c.disks.media.generation
  pub fresh : Each (λ d. d.failed ≡ false) c.supply
  pub slots : AllSlots (SlotStands groups) c.disks
  pub unstarted : (h : ℕ) → c.watch.generation < h → has_ended h groups ≡ false
