-- Runs with wrong starts and wrong giving up: each is refused by the clause that its proof names.
use Rattle.std.specs.Prelude.{◌≡◌, ℕ, List, [], ◌∷◌, drop, true, false, None}
use Rattle.message.specs.declared.endpoint.Endpoint.{Endpoint}
use Rattle.bdev.specs.DriverState.{DriverState}
use Rattle.reincarnate.specs.Policy.{default_policy}
use Rattle.reincarnate.specs.Watch.{driver}
use Rattle.records.specs.Marks.{Mark, Started, GaveUp, Fault}
use Rattle.records.specs.declared.marks.Cause.TheVariants.{Exit}
use Rattle.schedule.specs.declared.Sent.{Sent}
use Rattle.schedule.specs.declared.Event.TheVariants as event
use Rattle.schedule.specs.Groups.{Group}
use Rattle.schedule.specs.Justified.{Justified}
use Rattle.schedule.proofs.WorkedRuns.{waits}
use Rattle.schedule.proofs.GivenUp.{given_up}
use Rattle.schedule.proofs.Small.{issued_to, supply}

-- driver 1 died at tick 0
abbrev first_died : List Group
first_died = (event.Die 1 None, Fault (driver 1) Exit ∷ []) ∷ waits

-- and driver 2 as soon as it was started, at tick 1
abbrev second_died : List Group
second_died = (event.Die 2 None, Fault (driver 2) Exit ∷ []) ∷ (event.Tick, issued_to 2 ∷ Started (driver 2) ∷ []) ∷ first_died

-- driver 5 was started at tick 15, after four faults
abbrev four_died : List Group
four_died = drop 19 given_up

-- driver 6 was started at tick 31, after five faults
abbrev five_died : List Group
five_died = drop 2 given_up

-- a start at once, without waiting for its tick
started_at_once : (sent : List Sent) (drivers : List DriverState) (left : ℕ) → Justified default_policy (supply 6) ((event.Die 1 None, issued_to 2 ∷ Started (driver 2) ∷ Fault (driver 1) Exit ∷ []) ∷ waits) sent drivers left → ⊥
started_at_once sent drivers left run = let h : ◌≡◌ {A = List Endpoint} (driver 2 ∷ []) [] = run.events.0.faults.starts in cc

-- after the second fault, a start one tick early
started_too_early : (sent : List Sent) (drivers : List DriverState) (left : ℕ) → Justified default_policy (supply 6) ((event.Tick, issued_to 3 ∷ Started (driver 3) ∷ []) ∷ second_died) sent drivers left → ⊥
started_too_early sent drivers left run = let h : ◌≡◌ {A = List Endpoint} (driver 3 ∷ []) [] = run.events.0.faults.starts in cc

-- a start is left out at the tick at which it is due
never_replaced : (sent : List Sent) (drivers : List DriverState) (left : ℕ) → Justified default_policy (supply 6) ((event.Tick, []) ∷ first_died) sent drivers left → ⊥
never_replaced sent drivers left run = let h : ◌≡◌ {A = List Endpoint} [] (driver 2 ∷ []) = run.events.0.faults.starts in cc

-- a start a tick too late: it is left out at the tick before
started_too_late : (sent : List Sent) (drivers : List DriverState) (left : ℕ) → Justified default_policy (supply 6) ((event.Tick, issued_to 2 ∷ Started (driver 2) ∷ []) ∷ (event.Tick, []) ∷ first_died) sent drivers left → ⊥
started_too_late sent drivers left run = let h : ◌≡◌ {A = List Endpoint} [] (driver 2 ∷ []) = run.events.1.0.faults.starts in cc

-- a start while a driver runs
started_while_running : (sent : List Sent) (drivers : List DriverState) (left : ℕ) → Justified default_policy (supply 6) ((event.Tick, issued_to 2 ∷ Started (driver 2) ∷ []) ∷ waits) sent drivers left → ⊥
started_while_running sent drivers left run = let h : ◌≡◌ {A = List Endpoint} (driver 2 ∷ []) [] = run.events.0.faults.starts in cc

-- giving up at the fifth fault
gives_up_one_fault_early : (sent : List Sent) (drivers : List DriverState) (left : ℕ) → Justified default_policy (supply 7) ((event.Die 5 None, GaveUp ∷ Fault (driver 5) Exit ∷ []) ∷ four_died) sent drivers left → ⊥
gives_up_one_fault_early sent drivers left run = let h : ◌≡◌ {A = ℕ} 1 0 = run.events.0.faults.giving_up.times in cc

-- not giving up at the sixth fault
gives_up_too_late : (sent : List Sent) (drivers : List DriverState) (left : ℕ) → Justified default_policy (supply 7) ((event.Die 6 None, Fault (driver 6) Exit ∷ []) ∷ five_died) sent drivers left → ⊥
gives_up_too_late sent drivers left run = let h : ◌≡◌ {A = ℕ} 0 1 = run.events.0.faults.giving_up.times in cc

-- giving up without a fault
gives_up_without_fault : (sent : List Sent) (drivers : List DriverState) (left : ℕ) → Justified default_policy (supply 6) ((event.Tick, GaveUp ∷ []) ∷ waits) sent drivers left → ⊥
gives_up_without_fault sent drivers left run = let h : ◌≡◌ {A = ℕ} 1 0 = run.events.0.faults.giving_up.times in cc

-- giving up twice
gives_up_twice : (sent : List Sent) (drivers : List DriverState) (left : ℕ) → Justified default_policy (supply 7) ((event.Die 6 None, GaveUp ∷ GaveUp ∷ Fault (driver 6) Exit ∷ []) ∷ five_died) sent drivers left → ⊥
gives_up_twice sent drivers left run = let h : ◌≡◌ {A = ℕ} 2 1 = run.events.0.faults.giving_up.times in cc

-- giving up before the fault that gives up
gives_up_before_its_fault : (sent : List Sent) (drivers : List DriverState) (left : ℕ) → Justified default_policy (supply 7) ((event.Die 6 None, Fault (driver 6) Exit ∷ GaveUp ∷ []) ∷ five_died) sent drivers left → ⊥
gives_up_before_its_fault sent drivers left run = let h : false ≡ true = run.events.0.faults.giving_up.after_fault in cc

-- not giving up, though no spare is left
no_spare_left : (sent : List Sent) (drivers : List DriverState) (left : ℕ) → Justified default_policy (supply 1) ((event.Die 1 None, Fault (driver 1) Exit ∷ []) ∷ waits) sent drivers left → ⊥
no_spare_left sent drivers left run = let h : ◌≡◌ {A = ℕ} 0 1 = run.events.0.faults.giving_up.times in cc

-- a start after giving up
started_after_giving_up : (sent : List Sent) (drivers : List DriverState) (left : ℕ) → Justified default_policy (supply 7) ((event.Tick, Started (driver 7) ∷ []) ∷ given_up) sent drivers left → ⊥
started_after_giving_up sent drivers left run = let h : ◌≡◌ {A = List Endpoint} (driver 7 ∷ []) [] = run.events.0.faults.starts in cc

-- the open request isn't issued to the new driver
open_request_not_issued : (sent : List Sent) (drivers : List DriverState) (left : ℕ) → Justified default_policy (supply 6) ((event.Tick, Started (driver 2) ∷ []) ∷ first_died) sent drivers left → ⊥
open_request_not_issued sent drivers left run = let h : ◌≡◌ {A = List Mark} [] (issued_to 2 ∷ run.events.0.faults.issues.0.0) = run.events.0.faults.issues.0.1 in cc
