-- Which drivers were started, died, hang, and run.
use Rattle.std.specs.Prelude.{◌≡◌, zero, suc, ℕ, ◌+◌, List, [], ◌∷◌, Bool, true, false, not, ◌&&◌, ◌||◌, ◌==◌, nat_lt, nat_le, Option, None, IfSome, if◌then◌else◌, slice_get}
use Rattle.message.specs.declared.endpoint.Endpoint.{Endpoint}
use Rattle.message.specs.declared.BlockRequest.{BlockRequest}
use Rattle.bdev.specs.DriverState.{DriverState}
use Rattle.reincarnate.specs.Watch.{driver}
use Rattle.records.specs.Marks.{Mark, Issued, Fault, is_endpoint}
use Rattle.records.specs.Open.{IsIn}
use Rattle.records.specs.declared.marks.Cause.TheVariants.{Exit}
use Rattle.schedule.specs.declared.Event.TheVariants as event
use Rattle.schedule.specs.Groups.{Group, marks_of, running, generation}

-- driver g as it stands: the g-th of those started
abbrev pub state_of : List DriverState → ℕ → Option DriverState
state_of drivers zero = None
state_of drivers (suc g) = slice_get drivers g

-- the drivers that exit in these marks, newest first
abbrev pub exits_in : List Mark → List Endpoint
exits_in [] = []
exits_in (Fault e Exit ∷ marks) = e ∷ exits_in marks
exits_in (_ ∷ marks) = exits_in marks

-- whether there is an exit
abbrev pub has_exit : List Mark → Bool
has_exit [] = false
has_exit (Fault e Exit ∷ marks) = true
has_exit (_ ∷ marks) = has_exit marks

-- whether driver g was started
abbrev pub has_started : ℕ → List Group → Bool
has_started g groups = nat_lt 0 g && nat_le g (generation (marks_of groups))

-- whether driver g runs: it was started, and had no fault since
abbrev pub driver_runs : ℕ → List Group → Bool
driver_runs g groups = is_endpoint (driver g) (running (marks_of groups))

-- whether driver g died after its start, or had an exit at its step
abbrev pub has_ended : ℕ → List Group → Bool
has_ended g [] = false
has_ended g ((event.Die h bytes, group) ∷ earlier) = ((h == g) && has_started g earlier) || has_ended g earlier
has_ended g ((event.Step h, group) ∷ earlier) = ((h == g) && has_exit group) || has_ended g earlier
has_ended g ((_, group) ∷ earlier) = has_ended g earlier

-- whether driver g may still step: it was started and hasn't ended
abbrev pub is_live : ℕ → List Group → Bool
is_live g groups = has_started g groups && not (has_ended g groups)

-- whether driver g hangs: it was hung after its start
abbrev pub is_hung : ℕ → List Group → Bool
is_hung g [] = false
is_hung g ((event.Hang h, group) ∷ earlier) = ((h == g) && has_started g earlier) || is_hung g earlier
is_hung g ((_, group) ∷ earlier) = is_hung g earlier

-- the ticks since driver g was hung: at each of them it beat no more
abbrev pub missed : ℕ → List Group → ℕ
missed g [] = 0
missed g ((event.Tick, group) ∷ earlier) = if is_hung g earlier then missed g earlier + 1 else 0
missed g ((_, group) ∷ earlier) = missed g earlier

-- whether a request with this id was issued to driver g
abbrev pub is_issued_to : ℕ → ℕ → List Mark → Bool
is_issued_to g id [] = false
is_issued_to g id (Issued r e ∷ marks) = ((e.slot == 1) && (e.generation == g) && (r.id == id)) || is_issued_to g id marks
is_issued_to g id (_ ∷ marks) = is_issued_to g id marks

-- the requests that were issued to driver g, newest first
abbrev pub requests_issued_to : ℕ → List Mark → List BlockRequest
requests_issued_to g [] = []
requests_issued_to g (Issued r e ∷ marks) =
    if (e.slot == 1) && (e.generation == g) then r ∷ requests_issued_to g marks else requests_issued_to g marks
requests_issued_to g (_ ∷ marks) = requests_issued_to g marks

-- driver g took nothing, or last a request that was issued to it; the one in work is that one
pub record TookItsOwn (marks : List Mark) (g : ℕ) (d : DriverState) : Type 0 where
  pub last : ((d.last == 0) || is_issued_to g d.last marks) ≡ true
  pub work : IfSome d.work (λ w. (w.request.id ≡ d.last) × IsIn w.request (requests_issued_to g marks))
