-- Runs with wrong calls and flushes: each is refused by the clause that its proof names.
use Rattle.std.specs.Prelude.{◌≡◌, ◌≢◌, ℕ, List, [], ◌∷◌, ◌++◌, length, drop, true, false, None, refl}
use Rattle.std.proofs.Common.{ap}
use Rattle.bdev.specs.DriverState.{DriverState}
use Rattle.reincarnate.specs.declared.policy.Policy.{Policy}
use Rattle.reincarnate.specs.Policy.{default_policy}
use Rattle.reincarnate.specs.Watch.{driver}
use Rattle.records.specs.Open.{is_unfinished}
use Rattle.records.specs.Marks.{gave_up, Answered, Flush, GaveUp, Fault}
use Rattle.records.specs.declared.marks.Cause.TheVariants.{Exit}
use Rattle.schedule.specs.declared.Sent.{Sent}
use Rattle.schedule.specs.declared.Event.TheVariants as event
use Rattle.schedule.specs.Groups.{Group, marks_of}
use Rattle.schedule.specs.Calls.{Arrival, arrived, taken, MayWait, CallsSoFar}
use Rattle.schedule.specs.Justified.{Justified}
use Rattle.schedule.proofs.WorkedRuns.{waits, replaced, queued}
use Rattle.schedule.proofs.GivenUp.{given_up}
use Rattle.schedule.proofs.Small.{client, stat_root, first_call, answer_of, replied, supply}

-- where a call may not wait, each that arrived was taken
all_are_taken : (groups : List Group) → CallsSoFar groups → (MayWait (marks_of groups) → ⊥) → arrived groups ≡ taken (marks_of groups)
all_are_taken groups calls none = at calls.left calls.order calls.waits
  where
    at : (left : List Arrival) → arrived groups ≡ left ++ taken (marks_of groups) → (left ≢ [] → MayWait (marks_of groups)) → arrived groups ≡ taken (marks_of groups)
    at [] order waits = order
    at (call ∷ left) order waits = absurd (none (waits (λ e. cc)))

-- so it is where nothing is open and no start is awaited
taken_if_finished : (groups : List Group) → CallsSoFar groups → is_unfinished (marks_of groups) ≡ false → arrived groups ≡ taken (marks_of groups)
taken_if_finished groups calls finished =
    all_are_taken groups calls (λ may. let h : is_unfinished (marks_of groups) ≡ true = may.unfinished in cc)

-- and where the device was given up
taken_if_over : (groups : List Group) → CallsSoFar groups → gave_up (marks_of groups) ≡ true → arrived groups ≡ taken (marks_of groups)
taken_if_over groups calls over =
    all_are_taken groups calls (λ may. let h : gave_up (marks_of groups) ≡ false = may.not_given_up in cc)

-- the session of the newest call
abbrev newest_session : List Arrival → ℕ
newest_session [] = 0
newest_session (call ∷ calls) = call.0.session

-- a call that waits for nothing has no reply
call_dropped : (sent : List Sent) (drivers : List DriverState) (left : ℕ) → Justified default_policy (supply 6) ((event.Deliver 0, Answered (answer_of 2) ∷ []) ∷ drop 1 replaced) sent drivers left → ⊥
call_dropped sent drivers left run = let h : ◌≡◌ {A = List Arrival} (first_call) ([]) = taken_if_finished ((event.Deliver 0, Answered (answer_of 2) ∷ []) ∷ drop 1 replaced) run.events.0.calls refl in cc

-- a call that arrives outside a call isn't begun
call_not_begun : (sent : List Sent) (drivers : List DriverState) (left : ℕ) → Justified default_policy (supply 6) ((event.Arrive (client 0) 100 stat_root, []) ∷ []) sent drivers left → ⊥
call_not_begun sent drivers left run = let h : ◌≡◌ {A = List Arrival} (first_call) ([]) = taken_if_finished ((event.Arrive (client 0) 100 stat_root, []) ∷ []) run.events.0.calls refl in cc

-- a reply to a call that never arrived
call_invented : (sent : List Sent) (drivers : List DriverState) (left : ℕ) → Justified default_policy (supply 6) ((event.Tick, replied 0 ∷ []) ∷ []) sent drivers left → ⊥
call_invented sent drivers left run = let h : ◌≡◌ {A = List Arrival} ([]) (first_call) = taken_if_finished ((event.Tick, replied 0 ∷ []) ∷ []) run.events.0.calls refl in cc

-- a call is taken twice
call_taken_twice : (sent : List Sent) (drivers : List DriverState) (left : ℕ) → Justified default_policy (supply 6) ((event.Tick, replied 0 ∷ []) ∷ replaced) sent drivers left → ⊥
call_taken_twice sent drivers left run = let h : ◌≡◌ {A = List Arrival} (first_call) ((client 0, 100, stat_root) ∷ (client 0, 100, stat_root) ∷ []) = taken_if_finished ((event.Tick, replied 0 ∷ []) ∷ replaced) run.events.0.calls refl in cc

-- calls are begun only after the last event
begun_after_the_last_event : (sent : List Sent) (drivers : List DriverState) (left : ℕ) → Justified default_policy (supply 6) ((event.Tick, replied 0 ∷ []) ∷ (event.Arrive (client 0) 100 stat_root, []) ∷ []) sent drivers left → ⊥
begun_after_the_last_event sent drivers left run = let h : ◌≡◌ {A = List Arrival} (first_call) ([]) = taken_if_finished ((event.Arrive (client 0) 100 stat_root, []) ∷ []) run.events.1.0.calls refl in cc

-- no fault is allowed
abbrev strict : Policy
strict = record default_policy { max_faults = 0 }

-- no call is answered after giving up, with an id open for ever
silent_after_giving_up : (sent : List Sent) (drivers : List DriverState) (left : ℕ) → Justified strict (supply 6) ((event.Tick, []) ∷ (event.Die 1 None, GaveUp ∷ Fault (driver 1) Exit ∷ []) ∷ waits) sent drivers left → ⊥
silent_after_giving_up sent drivers left run = let h : ◌≡◌ {A = List Arrival} (first_call) ([]) = taken_if_over ((event.Die 1 None, GaveUp ∷ Fault (driver 1) Exit ∷ []) ∷ waits) run.events.1.0.calls refl in cc

-- a call that arrives after giving up isn't answered
silent_later : (sent : List Sent) (drivers : List DriverState) (left : ℕ) → Justified default_policy (supply 7) ((event.Arrive (client 0) 100 stat_root, []) ∷ given_up) sent drivers left → ⊥
silent_later sent drivers left run = let h : ◌≡◌ {A = List Arrival} ((client 0, 100, stat_root) ∷ arrived given_up) (taken (marks_of given_up)) = taken_if_over ((event.Arrive (client 0) 100 stat_root, []) ∷ given_up) run.events.0.calls refl in cc

-- two queued calls are taken in the other order
calls_exchanged : (sent : List Sent) (drivers : List DriverState) (left : ℕ) → Justified default_policy (supply 6) ((event.Deliver 0, replied 0 ∷ replied 1 ∷ Answered (answer_of 1) ∷ []) ∷ drop 1 queued) sent drivers left → ⊥
calls_exchanged sent drivers left run =
    let h : ◌≡◌ {A = ℕ} 1 0 = ap newest_session (taken_if_finished ((event.Deliver 0, replied 0 ∷ replied 1 ∷ Answered (answer_of 1) ∷ []) ∷ drop 1 queued) run.events.0.calls refl) in
    cc

-- the number of calls left is wrong
left_out_of_the_count : (sent : List Sent) (drivers : List DriverState) → Justified default_policy (supply 6) waits sent drivers 0 → ⊥
left_out_of_the_count sent drivers run = at run.calls_left.left run.calls_left.order run.calls_left.number
  where
    at : (left : List Arrival) → (client 0, 100, stat_root) ∷ [] ≡ left ++ [] → 0 ≡ length left → ⊥
    at [] order number = cc
    at (call ∷ left) order number = cc

-- two flushes at one Flush event
flush_twice : (sent : List Sent) (drivers : List DriverState) (left : ℕ) → Justified default_policy (supply 6) ((event.Flush, Flush ∷ Flush ∷ []) ∷ waits) sent drivers left → ⊥
flush_twice sent drivers left run = let h : ◌≡◌ {A = ℕ} 2 1 = run.events.0.answers.flushed in cc

-- a flush at another event
flush_at_a_tick : (sent : List Sent) (drivers : List DriverState) (left : ℕ) → Justified default_policy (supply 6) ((event.Tick, Flush ∷ []) ∷ waits) sent drivers left → ⊥
flush_at_a_tick sent drivers left run = let h : ◌≡◌ {A = ℕ} 1 0 = run.events.0.answers.flushed in cc

-- a Flush event without a flush
flush_left_out : (sent : List Sent) (drivers : List DriverState) (left : ℕ) → Justified default_policy (supply 6) ((event.Flush, []) ∷ waits) sent drivers left → ⊥
flush_left_out sent drivers left run = let h : ◌≡◌ {A = ℕ} 0 1 = run.events.0.answers.flushed in cc
