-- Runs in which the server acts where it is handed nothing, or is told too late: each is refused by the clause that its proof names.
use Rattle.std.specs.Prelude.{◌≡◌, ℕ, List, [], ◌∷◌, true, false, None}
use Rattle.bdev.specs.DriverState.{DriverState}
use Rattle.reincarnate.specs.declared.policy.Policy.{Policy}
use Rattle.reincarnate.specs.Policy.{default_policy}
use Rattle.reincarnate.specs.Watch.{driver}
use Rattle.message.specs.declared.Kind.TheVariants.{Write}
use Rattle.records.specs.declared.marks.Cause.TheVariants.{Exit, Complaint}
use Rattle.records.specs.Marks.{Mark, Started, Answered, Issued, GaveUp, Fault}
use Rattle.schedule.specs.declared.Sent.{Sent}
use Rattle.schedule.specs.declared.Event.{Event}
use Rattle.schedule.specs.declared.Event.TheVariants as event
use Rattle.schedule.specs.Groups.{Group}
use Rattle.schedule.specs.Justified.{Justified}
use Rattle.schedule.proofs.WorkedRuns.{waits}
use Rattle.schedule.proofs.RightRun.{bad_reply}
use Rattle.schedule.proofs.Small.{client, stat_root, issued_to, replied, supply}

-- a further request
abbrev further : Mark
further = Issued (record { id = 2; kind = Write; minor = 0; position = 8192; count = 512; bytes = [] }) (driver 1)

-- A run ends with these marks at an event at which the server isn't handed a thing.
abbrev NothingIsHanded : Event → List Mark → Type 0
NothingIsHanded event group =
    (sent : List Sent) (drivers : List DriverState) (left : ℕ) → Justified default_policy (supply 6) ((event, group) ∷ waits) sent drivers left → ⊥

-- a call is finished at a step
finished_at_a_step : NothingIsHanded (event.Step 1) (replied 0 ∷ [])
finished_at_a_step sent drivers left run = let h : false ≡ true = run.events.0.acts in cc

-- at a tick that starts nothing and gives nothing up
finished_at_a_tick : NothingIsHanded event.Tick (replied 0 ∷ [])
finished_at_a_tick sent drivers left run = let h : false ≡ true = run.events.0.acts in cc

-- at a death
finished_at_a_death : NothingIsHanded (event.Die 1 None) (replied 0 ∷ Fault (driver 1) Exit ∷ [])
finished_at_a_death sent drivers left run = let h : false ≡ true = run.events.0.acts in cc

-- at a hang
finished_at_a_hang : NothingIsHanded (event.Hang 1) (replied 0 ∷ [])
finished_at_a_hang sent drivers left run = let h : false ≡ true = run.events.0.acts in cc

-- at a repeat
finished_at_a_repeat : NothingIsHanded (event.Repeat 0) (replied 0 ∷ [])
finished_at_a_repeat sent drivers left run = let h : false ≡ true = run.events.0.acts in cc

-- when another call arrives, which is queued behind it
finished_at_an_arrival : NothingIsHanded (event.Arrive (client 1) 100 stat_root) (replied 0 ∷ [])
finished_at_an_arrival sent drivers left run = let h : false ≡ true = run.events.0.acts in cc

-- a request is issued at a step
issued_at_a_step : NothingIsHanded (event.Step 1) (further ∷ [])
issued_at_a_step sent drivers left run = let h : false ≡ true = run.events.0.acts in cc

-- at a tick
issued_at_a_tick : NothingIsHanded event.Tick (further ∷ [])
issued_at_a_tick sent drivers left run = let h : false ≡ true = run.events.0.acts in cc

-- at a hang
issued_at_a_hang : NothingIsHanded (event.Hang 1) (further ∷ [])
issued_at_a_hang sent drivers left run = let h : false ≡ true = run.events.0.acts in cc

-- at a repeat
issued_at_a_repeat : NothingIsHanded (event.Repeat 0) (further ∷ [])
issued_at_a_repeat sent drivers left run = let h : false ≡ true = run.events.0.acts in cc

-- when a call arrives that is queued
issued_at_an_arrival : NothingIsHanded (event.Arrive (client 1) 100 stat_root) (further ∷ [])
issued_at_an_arrival sent drivers left run = let h : false ≡ true = run.events.0.acts in cc

-- before the start at whose tick it is issued
issued_before_the_start : (sent : List Sent) (drivers : List DriverState) (left : ℕ)
    → Justified default_policy (supply 6)
    ((event.Tick, issued_to 2 ∷ Started (driver 2) ∷ further ∷ []) ∷ (event.Die 1 None, Fault (driver 1) Exit ∷ []) ∷ waits) sent drivers left → ⊥
issued_before_the_start sent drivers left run = let h : false ≡ true = run.events.0.acts in cc

-- at the delivery of a reply that nobody sent
finished_at_no_delivery : (drivers : List DriverState) (left : ℕ)
    → Justified default_policy (supply 6) ((event.Deliver 0, replied 0 ∷ []) ∷ waits) [] drivers left → ⊥
finished_at_no_delivery drivers left run = let h : false ≡ true = run.events.0.acts in cc

-- no fault is allowed
abbrev strict : Policy
strict = record default_policy { max_faults = 0 }

-- two calls wait, and driver 1 has answered an error
abbrev two_wait : List Group
two_wait = (event.Step 1, []) ∷ (event.Arrive (client 1) 100 stat_root, []) ∷ waits

-- the fault of a bad answer gives the device up, and two calls are answered before the server is told
told_after_two_calls : (drivers : List DriverState) (left : ℕ)
    → Justified strict (supply 6) ((event.Deliver 0, GaveUp ∷ replied 1 ∷ replied 0 ∷ Fault (driver 1) Complaint ∷ Answered bad_reply ∷ []) ∷ two_wait)
    (record { reply = bad_reply; place = 2 } ∷ []) drivers left → ⊥
told_after_two_calls drivers left run = let h : false ≡ true = run.events.0.faults.giving_up.after_fault in cc
