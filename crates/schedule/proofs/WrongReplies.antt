-- Runs with wrong replies and answers: each is refused by the clause that its proof names.
use Rattle.std.specs.Prelude.{◌≡◌, ℕ, List, [], ◌∷◌, drop, true, false, Some, None, refl}
use Rattle.errno.specs.declared.Errno.TheVariants.{EIO}
use Rattle.message.specs.declared.BlockReply.{BlockReply}
use Rattle.bdev.specs.DriverState.{DriverState}
use Rattle.tree.specs.Answers.{refused}
use Rattle.reincarnate.specs.declared.policy.Policy.{Policy}
use Rattle.reincarnate.specs.Policy.{default_policy}
use Rattle.reincarnate.specs.Watch.{driver}
use Rattle.records.specs.Marks.{Started, Answered, GaveUp, Took, Fault}
use Rattle.records.specs.declared.marks.Cause.TheVariants.{Exit, Complaint}
use Rattle.schedule.specs.declared.Sent.{Sent}
use Rattle.schedule.specs.declared.Event.TheVariants as event
use Rattle.schedule.specs.Groups.{Group, marks_of}
use Rattle.schedule.specs.Replies.{RepliesOf}
use Rattle.schedule.specs.Justified.{Justified}
use Rattle.schedule.proofs.WorkedRuns.{waits, replaced, replaced_sent, hung, hung_sent, repeated}
use Rattle.schedule.proofs.RightRun.{bad_reply}
use Rattle.schedule.proofs.Small.{client, stat_root, issued_to, answer_of, replied, idle, done, working, supply}

-- two steps of driver 1, after its request was issued
abbrev stepped : List Group
stepped = (event.Step 1, []) ∷ (event.Step 1, []) ∷ waits

-- driver 1's good reply, sent at the event with this number
abbrev sent_at : ℕ → Sent
sent_at place = record { reply = answer_of 1; place = place }

-- the error that it didn't answer
abbrev error_at : ℕ → Sent
error_at place = record { reply = bad_reply; place = place }

-- a reply of driver g, sent at the event with this number
abbrev of_driver : ℕ → ℕ → Sent
of_driver g place = record { reply = answer_of g; place = place }

-- an answer of a driver that was replaced is taken
answer_of_an_older_driver : (drivers : List DriverState) (left : ℕ) → Justified default_policy (supply 6) ((event.Deliver 0, Answered (answer_of 1) ∷ []) ∷ drop 3 hung) (hung_sent) drivers left → ⊥
answer_of_an_older_driver drivers left run = let h : ◌≡◌ {A = List BlockReply} (answer_of 1 ∷ []) [] = run.events.0.answers.answered in cc

-- a good reply of the running driver is dropped at its delivery
reply_dropped : (drivers : List DriverState) (left : ℕ) → Justified default_policy (supply 6) ((event.Deliver 0, []) ∷ drop 1 replaced) (replaced_sent) drivers left → ⊥
reply_dropped drivers left run = let h : ◌≡◌ {A = List BlockReply} [] (answer_of 2 ∷ []) = run.events.0.answers.answered in cc

-- a reply is answered before the step at which it is sent
answered_before_sent : (drivers : List DriverState) (left : ℕ) → Justified default_policy (supply 6) ((event.Step 1, []) ∷ (event.Deliver 0, replied 0 ∷ Answered (answer_of 1) ∷ []) ∷ waits) (sent_at 2 ∷ []) drivers left → ⊥
answered_before_sent drivers left run = let h : ◌≡◌ {A = List BlockReply} (answer_of 1 ∷ []) [] = run.events.1.0.answers.answered in cc

-- a reply is answered again, though its request isn't open any more
answered_twice : (drivers : List DriverState) (left : ℕ) → Justified default_policy (supply 6) ((event.Deliver 0, Answered (answer_of 1) ∷ []) ∷ repeated) (sent_at 2 ∷ []) drivers left → ⊥
answered_twice drivers left run = let h : ◌≡◌ {A = List BlockReply} (answer_of 1 ∷ []) [] = run.events.0.answers.answered in cc

-- an answer without a delivery
answered_at_a_tick : (drivers : List DriverState) (left : ℕ) → Justified default_policy (supply 6) ((event.Tick, Answered (answer_of 1) ∷ []) ∷ stepped) (sent_at 2 ∷ []) drivers left → ⊥
answered_at_a_tick drivers left run = let h : ◌≡◌ {A = List BlockReply} (answer_of 1 ∷ []) [] = run.events.0.answers.answered in cc

-- driver 1 has done with a request, and no reply was sent
reply_never_sent : (left : ℕ) → Justified default_policy (supply 6) ((event.Step 1, []) ∷ (event.Step 1, []) ∷ waits) ([]) (done ∷ []) left → ⊥
reply_never_sent left run = let replies : RepliesOf (marks_of ((event.Step 1, []) ∷ (event.Step 1, []) ∷ waits)) ([]) 1 done = run.replies_stand.own 1 in let h : ◌≡◌ {A = ℕ} 0 1 = replies.one.0 refl refl in cc

-- two replies to one request
reply_sent_twice : (left : ℕ) → Justified default_policy (supply 6) ((event.Step 1, []) ∷ (event.Step 1, []) ∷ waits) (sent_at 1 ∷ sent_at 2 ∷ []) (done ∷ []) left → ⊥
reply_sent_twice left run = let replies : RepliesOf (marks_of ((event.Step 1, []) ∷ (event.Step 1, []) ∷ waits)) (sent_at 1 ∷ sent_at 2 ∷ []) 1 done = run.replies_stand.own 1 in let h : ◌≡◌ {A = ℕ} 2 1 = replies.one.0 refl refl in cc

-- a driver that counts no bad answer is said to have sent an error
good_reply_made_an_error : (left : ℕ) → Justified default_policy (supply 6) ((event.Step 1, []) ∷ (event.Step 1, []) ∷ waits) (error_at 2 ∷ []) (done ∷ []) left → ⊥
good_reply_made_an_error left run = let replies : RepliesOf (marks_of ((event.Step 1, []) ∷ (event.Step 1, []) ∷ waits)) (error_at 2 ∷ []) 1 done = run.replies_stand.own 1 in let h : ◌≡◌ {A = ℕ} 1 0 = replies.bad in cc

-- no fault is allowed
abbrev strict : Policy
strict = record default_policy { max_faults = 0 }

-- the driver answered well, the server is given an error, and no driver is shown
error_of_no_driver_shown : (left : ℕ) → Justified strict (supply 6) ((event.Deliver 0, Took (client 0) 100 stat_root (refused EIO) ∷ GaveUp ∷ Fault (driver 1) Complaint ∷ Answered bad_reply ∷ []) ∷ (event.Step 1, []) ∷ waits) (error_at 1 ∷ []) [] left → ⊥
error_of_no_driver_shown left run = let h : ◌≡◌ {A = ℕ} 0 1 = run.drivers_stand.all in cc

-- a reply to a request that its driver is still at work on
reply_to_a_request_in_work : (left : ℕ) → Justified default_policy (supply 6) ((event.Step 1, []) ∷ (event.Step 1, []) ∷ waits) (sent_at 2 ∷ []) (working ∷ []) left → ⊥
reply_to_a_request_in_work left run = let replies : RepliesOf (marks_of ((event.Step 1, []) ∷ (event.Step 1, []) ∷ waits)) (sent_at 2 ∷ []) 1 working = run.replies_stand.own 1 in let h : false ≡ true = replies.own.0.done refl in cc

-- a reply to a request that its driver never took
reply_to_a_request_never_taken : (left : ℕ) → Justified default_policy (supply 6) ((event.Step 1, []) ∷ (event.Step 1, []) ∷ waits) (sent_at 2 ∷ []) (idle ∷ []) left → ⊥
reply_to_a_request_never_taken left run = let replies : RepliesOf (marks_of ((event.Step 1, []) ∷ (event.Step 1, []) ∷ waits)) (sent_at 2 ∷ []) 1 idle = run.replies_stand.own 1 in let h : false ≡ true = replies.own.0.done refl in cc

-- a reply of driver 2, sent at a step before its start, is taken; one of a driver 99 stands there too
abbrev invented : List Group
invented =
    (event.Deliver 0, replied 0 ∷ Answered (answer_of 2) ∷ [])
    ∷ (event.Tick, issued_to 2 ∷ Started (driver 2) ∷ [])
    ∷ (event.Die 1 None, Fault (driver 1) Exit ∷ [])
    ∷ (event.Arrive (client 0) 100 stat_root, issued_to 1 ∷ [])
    ∷ (event.Step 99, [])
    ∷ (event.Step 2, [])
    ∷ []

-- a driver that wasn't started yet replies
reply_of_a_driver_not_started : (drivers : List DriverState) (left : ℕ) → Justified default_policy (supply 6) invented (of_driver 2 0 ∷ of_driver 99 1 ∷ []) drivers left → ⊥
reply_of_a_driver_not_started drivers left run = let h : false ≡ true = run.replies_stand.steps.0.live in cc

-- a driver that never was replies
reply_of_a_driver_that_never_was : (drivers : List DriverState) (left : ℕ) → Justified default_policy (supply 6) invented (of_driver 2 0 ∷ of_driver 99 1 ∷ []) drivers left → ⊥
reply_of_a_driver_that_never_was drivers left run = let h : false ≡ true = run.replies_stand.steps.1.0.live in cc

-- driver 1 replies after its death
reply_of_a_dead_driver : (drivers : List DriverState) (left : ℕ) → Justified default_policy (supply 6) ((event.Step 1, []) ∷ (event.Die 1 None, Fault (driver 1) Exit ∷ []) ∷ waits) (sent_at 2 ∷ []) drivers left → ⊥
reply_of_a_dead_driver drivers left run = let h : false ≡ true = run.replies_stand.steps.0.live in cc

-- driver 1 replies before the request is issued to it
reply_to_a_request_not_issued : (drivers : List DriverState) (left : ℕ) → Justified default_policy (supply 6) ((event.Arrive (client 0) 100 stat_root, issued_to 1 ∷ []) ∷ (event.Step 1, []) ∷ []) (sent_at 0 ∷ []) drivers left → ⊥
reply_to_a_request_not_issued drivers left run = let h : false ≡ true = run.replies_stand.steps.0.asked in cc

-- a reply at an event that is no step of its driver
reply_at_no_step : (drivers : List DriverState) (left : ℕ) → Justified default_policy (supply 6) ((event.Tick, []) ∷ waits) (sent_at 1 ∷ []) drivers left → ⊥
reply_at_no_step drivers left run = let h : ◌≡◌ (Some event.Tick) (Some (event.Step 1)) = run.replies_stand.steps.0.step in cc

-- two replies at one step
two_replies_at_one_step : (drivers : List DriverState) (left : ℕ) → Justified default_policy (supply 6) ((event.Step 1, []) ∷ waits) (sent_at 1 ∷ error_at 1 ∷ []) drivers left → ⊥
two_replies_at_one_step drivers left run = let h : false ≡ true = run.replies_stand.order in cc
