-- Wrong runs, each refused: requests issued to a driver again, to one that is dead, and after giving up; and giving up told too late.
use Rattle.std.specs.Prelude.{◌≡◌, ℕ, List, [], ◌∷◌, false, true, None}
use Rattle.bdev.specs.DriverState.{DriverState}
use Rattle.reincarnate.specs.Policy.{default_policy}
use Rattle.reincarnate.specs.Watch.{driver}
use Rattle.records.specs.declared.marks.Cause.TheVariants.{Exit}
use Rattle.records.specs.Marks.{Flush, GaveUp, Fault}
use Rattle.schedule.specs.declared.Sent.{Sent}
use Rattle.schedule.specs.declared.Event.TheVariants as event
use Rattle.schedule.specs.Justified.{Justified}
use Rattle.schedule.proofs.Small.{client, stat_root, issued_to, replied, supply}
use Rattle.schedule.proofs.WorkedRuns.{waits}

-- a request is issued to one driver a second time, at a step of it
twice : (sent : List Sent) (drivers : List DriverState) (left : ℕ)
    → Justified default_policy (supply 6) ((event.Step 1, issued_to 1 ∷ []) ∷ waits) sent drivers left → ⊥
twice sent drivers left run = let h : false ≡ true = run.events.0.faults.in_place in cc

-- a request is issued to a driver that is dead
to_the_dead : (sent : List Sent) (drivers : List DriverState) (left : ℕ)
    → Justified default_policy (supply 6) ((event.Arrive (client 0) 100 stat_root, issued_to 1 ∷ []) ∷ (event.Die 1 None, Fault (driver 1) Exit ∷ []) ∷ []) sent drivers left → ⊥
to_the_dead sent drivers left run = let h : false ≡ true = run.events.0.faults.in_place in cc

-- a request is issued after the device was given up
after_giving_up : (sent : List Sent) (drivers : List DriverState) (left : ℕ)
    → Justified default_policy (supply 1) ((event.Flush, issued_to 1 ∷ Flush ∷ []) ∷ (event.Die 1 None, GaveUp ∷ Fault (driver 1) Exit ∷ []) ∷ []) sent drivers left → ⊥
after_giving_up sent drivers left run = let h : false ≡ true = run.events.0.faults.in_place in cc

-- a call gets its reply between a fault and the giving up that the fault causes
told_too_late : (sent : List Sent) (drivers : List DriverState) (left : ℕ)
    → Justified default_policy (supply 1) ((event.Die 1 None, GaveUp ∷ replied 0 ∷ Fault (driver 1) Exit ∷ []) ∷ waits) sent drivers left → ⊥
told_too_late sent drivers left run = let h : false ≡ true = run.events.0.faults.giving_up.after_fault in cc
