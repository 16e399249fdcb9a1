-- What a mover shows: the driver's state, and the sectors still to be moved.
use Rattle.std.specs.Prelude.{ℕ, ◌≡◌, ◌+◌, ◌<◌, ◌≤◌, ◌&&◌, ◌==◌, Bool, false, List, [], take, drop, get_or, slice_get, Option, Some, None, Result, if◌then◌else◌}
use Rattle.std.specs.List.{list_any}
use Rattle.errno.specs.declared.Errno.{Errno}
use Rattle.message.specs.Good.{is_good, is_write}
use Rattle.message.specs.declared.Kind.{Kind}
use Rattle.message.specs.declared.Kind.TheVariants.{Read, Write}
use Rattle.media.specs.Contents.{MediaState}
use Rattle.media.specs.Table.{ranges_of}
use Rattle.bdev.specs.declared.Run.{Run}
use Rattle.bdev.specs.declared.Stepped.{Stepped}
use Rattle.bdev.specs.declared.Stepped.TheVariants.{Working, Idle, Done, Failed}
use Rattle.bdev.specs.DriverState.{DriverState, Work, plan}
use Rattle.modeldisk.specs.declared.sector_mover.mover.Mover.{Mover}
use Rattle.modeldisk.specs.Transfer.{TransfersIf}
use Rattle.modeldisk.specs.Order.{order_of, order_in, whole_outcome}

-- the run of the request in work
abbrev pub run_of : Mover → Option Run
run_of d = plan (ranges_of d.table) d.request

-- the order of its sectors, from where the arm was when it was taken
abbrev pub order : Mover → List ℕ
order d = order_in d.from (run_of d)

-- the sectors still to be moved, in their order
abbrev pub left_of : Mover → List ℕ
left_of d = if d.busy then drop d.done (order d) else []

-- what the request in work is answered in the end
abbrev pub outcome_of : Mover → Result ℕ Errno
outcome_of d = whole_outcome (run_of d)

-- the k-th sector of a run is one of the first so many in the order
abbrev pub moved_in : ℕ → ℕ → Option Run → ℕ → Bool
moved_in from done None k = false
moved_in from done (Some run) k = list_any (λ s. s == run.first + k) (take done (order_of from run))

-- the request as one in work
abbrev pub work_of : Mover → Work
work_of d = record { request = d.request; moved = moved_in d.from d.done (run_of d); got = d.got }

-- the state of the driver
abbrev pub state_of : Mover → DriverState
state_of d = record {
  ranges = ranges_of d.table;
  last = d.last;
  work = if d.busy then Some (work_of d) else None;
  in_work = if d.busy && is_write d.request.kind then slice_get (order d) d.done else None;
  bad = d.bad;
  failed = d.failed;
}

-- there is at most one answer for each request taken
abbrev pub IsFew : Mover → Type 0
IsFew d = d.bad + (if d.busy then 1 else 0) ≤ d.last

-- a mover after it answered the request in work
abbrev pub ended : Result ℕ Errno → Mover → Mover
ended outcome d = record d { busy = false; bad = d.bad + (if is_good d.request.count outcome then 0 else 1) }

-- the caller's bytes after a step: those that a read has, where it is answered; else as they are
abbrev pub handed : Kind → Stepped → List ℕ → List ℕ → List ℕ
handed Read (Done completion) got room = got
handed Read Working got room = room
handed Read Idle got room = room
handed Read Failed got room = room
handed Write stepped got room = room

-- the next sector of the run, at place `number` in the request, is moved where the media accept it; else nothing changes
pub record MovesNext (run : Run) (b : Mover) (m : MediaState) (g : ℕ) (moved : Bool) (a : Mover) (m' : MediaState) : Type 0 where
  pub number : ℕ
  pub at : get_or (order_of b.from run) b.done 0 ≡ run.first + number
  pub within : number < run.count
  pub after : a ≡ (if moved then record b { done = b.done + 1; arm = run.first + number + 1; got = a.got } else b)
  pub transfers : TransfersIf moved b.request.kind b.request.bytes b.got m g (run.first + number) number a.got m'
