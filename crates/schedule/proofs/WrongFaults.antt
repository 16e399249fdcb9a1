-- Runs with wrong exits, missed heartbeats and complaints: each is refused by the clause that its proof names.
use Rattle.std.specs.Prelude.{◌≡◌, ◌⊎◌, ℕ, List, [], ◌∷◌, true, false, Option, Some, None, refl}
use Rattle.std.proofs.Common.{inl, inr}
use Rattle.message.specs.declared.endpoint.Endpoint.{Endpoint}
use Rattle.bdev.specs.DriverState.{DriverState}
use Rattle.reincarnate.specs.Policy.{default_policy}
use Rattle.reincarnate.specs.Watch.{driver}
use Rattle.records.specs.Marks.{Mark, Started, Answered, Flush, Fault}
use Rattle.records.specs.declared.marks.Cause.TheVariants.{Exit, Hung, Complaint}
use Rattle.schedule.specs.declared.Sent.{Sent}
use Rattle.schedule.specs.declared.Event.TheVariants as event
use Rattle.schedule.specs.Groups.{Group}
use Rattle.schedule.specs.Drivers.{exits_in}
use Rattle.schedule.specs.Faults.{ExitsAtStep, FailsAtItsStep}
use Rattle.schedule.specs.Justified.{Justified}
use Rattle.schedule.proofs.WorkedRuns.{waits}
use Rattle.schedule.proofs.RightRun.{bad_reply}
use Rattle.schedule.proofs.Small.{issued_to, answer_of, idle, failed, supply}

-- driver 1 was replaced by driver 2
abbrev after_first : List Group
after_first = (event.Tick, issued_to 2 ∷ Started (driver 2) ∷ []) ∷ (event.Die 1 None, Fault (driver 1) Exit ∷ []) ∷ waits

-- driver 1 hangs, and two ticks were missed
abbrev two_missed : List Group
two_missed = (event.Tick, []) ∷ (event.Tick, []) ∷ (event.Hang 1, []) ∷ waits

-- an exit that nobody had
exit_nobody_had : (sent : List Sent) (drivers : List DriverState) (left : ℕ) → Justified default_policy (supply 6) ((event.Flush, Flush ∷ Fault (driver 1) Exit ∷ []) ∷ waits) sent drivers left → ⊥
exit_nobody_had sent drivers left run = let h : ◌≡◌ {A = List Endpoint} (driver 1 ∷ []) [] = run.events.0.faults.exits in cc

-- an exit of a driver that was replaced
exit_of_a_replaced_driver : (sent : List Sent) (drivers : List DriverState) (left : ℕ) → Justified default_policy (supply 6) ((event.Die 1 None, Fault (driver 1) Exit ∷ []) ∷ after_first) sent drivers left → ⊥
exit_of_a_replaced_driver sent drivers left run = let h : ◌≡◌ {A = List Endpoint} (driver 1 ∷ []) [] = run.events.0.faults.exits in cc

-- a running driver dies without an exit
death_without_exit : (sent : List Sent) (drivers : List DriverState) (left : ℕ) → Justified default_policy (supply 6) ((event.Die 1 None, []) ∷ waits) sent drivers left → ⊥
death_without_exit sent drivers left run = let h : ◌≡◌ {A = List Endpoint} [] (driver 1 ∷ []) = run.events.0.faults.exits in cc

-- no driver exits at its step without having failed
sound_exits : (group : List Mark) (earlier : List Group) → (exits_in group ≡ []) ⊎ ExitsAtStep (idle ∷ []) 1 group earlier → exits_in group ≡ []
sound_exits group earlier (inl none) = none
sound_exits group earlier (inr exits) = let h : false ≡ true = exits.failed in cc

-- an exit at the step of a driver that hasn't failed
exit_without_failure : (sent : List Sent) (left : ℕ) → Justified default_policy (supply 6) ((event.Step 1, Fault (driver 1) Exit ∷ []) ∷ waits) sent (idle ∷ []) left → ⊥
exit_without_failure sent left run = let h : ◌≡◌ {A = List Endpoint} (driver 1 ∷ []) [] = sound_exits (Fault (driver 1) Exit ∷ []) waits run.events.0.faults.exits in cc

-- the running driver has failed without an exit
failure_without_exit : (sent : List Sent) (left : ℕ) → Justified default_policy (supply 6) ((event.Step 1, []) ∷ waits) sent (failed ∷ []) left → ⊥
failure_without_exit sent left run = let h : true ≡ false = run.drivers_stand.sound in cc

-- a driver that was replaced failed, though it made no step after its fault
failure_at_no_step : (sent : List Sent) (left : ℕ) → Justified default_policy (supply 6) ((event.Step 2, []) ∷ after_first) sent (failed ∷ idle ∷ []) left → ⊥
failure_at_no_step sent left run = let fails : FailsAtItsStep ((event.Step 2, []) ∷ after_first) 1 failed = run.drivers_stand.failures 1 in let h : false ≡ true = fails.seen refl in cc

-- a driver is found out at the second tick that it misses
hung_too_early : (sent : List Sent) (drivers : List DriverState) (left : ℕ) → Justified default_policy (supply 6) ((event.Tick, Fault (driver 1) Hung ∷ []) ∷ (event.Tick, []) ∷ (event.Hang 1, []) ∷ waits) sent drivers left → ⊥
hung_too_early sent drivers left run = let h : ◌≡◌ {A = List Endpoint} (driver 1 ∷ []) [] = run.events.0.faults.hung in cc

-- a driver that beats is found to be hung
hung_without_hang : (sent : List Sent) (drivers : List DriverState) (left : ℕ) → Justified default_policy (supply 6) ((event.Tick, Fault (driver 1) Hung ∷ []) ∷ (event.Tick, []) ∷ (event.Tick, []) ∷ waits) sent drivers left → ⊥
hung_without_hang sent drivers left run = let h : ◌≡◌ {A = List Endpoint} (driver 1 ∷ []) [] = run.events.0.faults.hung in cc

-- a hung driver isn't found out at the third tick
hung_and_not_found_out : (sent : List Sent) (drivers : List DriverState) (left : ℕ) → Justified default_policy (supply 6) ((event.Tick, []) ∷ two_missed) sent drivers left → ⊥
hung_and_not_found_out sent drivers left run = let h : ◌≡◌ {A = List Endpoint} [] (driver 1 ∷ []) = run.events.0.faults.hung in cc

-- a bad answer of the running driver without a complaint
complaint_left_out : (sent : List Sent) (drivers : List DriverState) (left : ℕ) → Justified default_policy (supply 6) ((event.Deliver 0, Answered bad_reply ∷ []) ∷ (event.Step 1, []) ∷ waits) sent drivers left → ⊥
complaint_left_out sent drivers left run = let h : ◌≡◌ {A = Option Endpoint} None (Some (driver 1)) = run.events.0.faults.complaints.0 in cc

-- a complaint of a good answer
complaint_of_a_good_answer : (sent : List Sent) (drivers : List DriverState) (left : ℕ) → Justified default_policy (supply 6) ((event.Deliver 0, Fault (driver 1) Complaint ∷ Answered (answer_of 1) ∷ []) ∷ (event.Step 1, []) ∷ waits) sent drivers left → ⊥
complaint_of_a_good_answer sent drivers left run = let h : ◌≡◌ {A = Option Endpoint} (Some (driver 1)) None = run.events.0.faults.complaints.1.0 in cc

-- two complaints of one answer
complaint_twice : (sent : List Sent) (drivers : List DriverState) (left : ℕ) → Justified default_policy (supply 6) ((event.Deliver 0, Fault (driver 1) Complaint ∷ Fault (driver 1) Complaint ∷ Answered bad_reply ∷ []) ∷ (event.Step 1, []) ∷ waits) sent drivers left → ⊥
complaint_twice sent drivers left run = let h : ◌≡◌ {A = Option Endpoint} (Some (driver 1)) None = run.events.0.faults.complaints.1.0 in cc

-- a complaint that follows no answer
complaint_of_nothing : (sent : List Sent) (drivers : List DriverState) (left : ℕ) → Justified default_policy (supply 6) ((event.Tick, Fault (driver 1) Complaint ∷ []) ∷ waits) sent drivers left → ⊥
complaint_of_nothing sent drivers left run = let h : ◌≡◌ {A = Option Endpoint} (Some (driver 1)) None = run.events.0.faults.complaints.1 in cc
