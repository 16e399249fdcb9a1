-- The faults that a run must show: exits, missed heartbeats, complaints.
use Rattle.std.specs.Prelude.{◌≡◌, ◌⊎◌, ℕ, ◌+◌, List, [], ◌∷◌, ◌++◌, Bool, true, false, not, ◌&&◌, ◌||◌, ◌==◌, Option, Some, None, is_some, IsSomeAnd, if◌then◌else◌}
use Rattle.message.specs.declared.endpoint.Endpoint.{Endpoint}
use Rattle.bdev.specs.DriverState.{DriverState}
use Rattle.reincarnate.specs.declared.policy.Policy.{Policy}
use Rattle.reincarnate.specs.Watch.{driver}
use Rattle.records.specs.Marks.{Mark, Answered, Fault, is_endpoint}
use Rattle.records.specs.Open.{moved_by}
use Rattle.records.specs.declared.marks.Cause.TheVariants.{Hung, Complaint}
use Rattle.schedule.specs.declared.Event.{Event}
use Rattle.schedule.specs.declared.Event.TheVariants as event
use Rattle.schedule.specs.Groups.{Group, marks_of, running}
use Rattle.schedule.specs.Drivers.{state_of, exits_in, has_exit, driver_runs, is_live, is_hung, missed}

-- the exit at the death of driver g: its own, where it runs
abbrev pub exits_due : ℕ → List Group → List Endpoint
exits_due g earlier = if driver_runs g earlier then driver g ∷ [] else []

-- driver g exits at a step of its own: it runs, and it has failed
pub record ExitsAtStep (drivers : List DriverState) (g : ℕ) (group : List Mark) (earlier : List Group) : Type 0 where
  pub one : exits_in group ≡ driver g ∷ []
  pub runs : driver_runs g earlier ≡ true
  pub failed : IsSomeAnd (state_of drivers g) (λ d. d.failed ≡ true)

-- a running driver that dies has one exit; one that steps has at most one, and only if it failed; no other event has any
abbrev pub ExitsOfGroup : List DriverState → Event → List Mark → List Group → Type 0
ExitsOfGroup drivers (event.Die g bytes) group earlier = exits_in group ≡ exits_due g earlier
ExitsOfGroup drivers (event.Step g) group earlier = (exits_in group ≡ []) ⊎ ExitsAtStep drivers g group earlier
ExitsOfGroup drivers _ group earlier = exits_in group ≡ []

-- driver g failed at a step of these groups: one at which it exits, or one after its fault, where no mark shows it
abbrev pub may_have_failed : ℕ → List Group → Bool
may_have_failed g [] = false
may_have_failed g ((event.Step h, group) ∷ earlier) =
    ((h == g) && is_live g earlier && (has_exit group || not (driver_runs g earlier))) || may_have_failed g earlier
may_have_failed g ((_, group) ∷ earlier) = may_have_failed g earlier

-- a driver that has failed did so at such a step, so at no group's end it was running and had failed
pub record FailsAtItsStep (groups : List Group) (g : ℕ) (d : DriverState) : Type 0 where
  pub seen : d.failed ≡ true → may_have_failed g groups ≡ true

-- the driver of this endpoint, if there is one, hasn't failed
abbrev pub HasNotFailed : List DriverState → Option Endpoint → Type 0
HasNotFailed drivers None = Unit {0}
HasNotFailed drivers (Some e) = IsSomeAnd (state_of drivers e.generation) (λ d. d.failed ≡ false)

-- the drivers found to be hung in these marks, newest first
abbrev pub hung_in : List Mark → List Endpoint
hung_in [] = []
hung_in (Fault e Hung ∷ marks) = e ∷ hung_in marks
hung_in (_ ∷ marks) = hung_in marks

-- the driver that is found out at a tick: it was hung before the first of so many ticks, of which this is the last
abbrev pub hung_by : ℕ → Option Endpoint → List Group → List Endpoint
hung_by misses None earlier = []
hung_by misses (Some e) earlier =
    if is_hung e.generation earlier && (missed e.generation earlier + 1 == misses) then e ∷ [] else []

-- the running driver is found to be hung at a tick alone: the last of as many in a row as the policy has misses
abbrev pub hung_due : Policy → Event → List Group → List Endpoint
hung_due policy event.Tick earlier = hung_by policy.misses (running (marks_of earlier)) earlier
hung_due policy _ earlier = []

-- the complaint that follows a mark: of an answer of the running driver that isn't good
abbrev pub complaint_after : Mark → List Mark → Option Endpoint
complaint_after (Answered a) before =
    if not (is_some (moved_by a before)) && is_endpoint a.from (running before) then Some a.from else None
complaint_after _ before = None

-- the complaint that a mark is, if it is one
abbrev pub complaint_of : Option Mark → Option Endpoint
complaint_of (Some (Fault e Complaint)) = Some e
complaint_of _ = None

-- a complaint follows exactly each answer of the running driver that isn't good; from mark to mark of a group, next being the later one
abbrev pub ComplaintsFollow : Option Mark → List Mark → List Mark → Type 0
ComplaintsFollow next [] before = complaint_of next ≡ None
ComplaintsFollow next (m ∷ group) before =
    (complaint_of next ≡ complaint_after m (group ++ before)) × ComplaintsFollow (Some m) group before
