-- A run with most of what can happen: queued calls, a flush in a call, a death twice, a bad answer of a dead driver, events that
-- name nothing, a hang, and giving up for want of a spare.
use Rattle.std.specs.Prelude.{zero, suc, ℕ, List, [], ◌∷◌, None, IfSome, refl, Err}
use Rattle.std.proofs.Common.{inl, lit≤}
use Rattle.errno.specs.declared.Errno.TheVariants.{EIO}
use Rattle.message.specs.declared.BlockReply.{BlockReply}
use Rattle.tree.specs.Answers.{refused}
use Rattle.bdev.specs.DriverState.{DriverState}
use Rattle.reincarnate.specs.Policy.{default_policy}
use Rattle.reincarnate.specs.Watch.{driver}
use Rattle.records.specs.declared.marks.Cause.TheVariants.{Exit, Hung}
use Rattle.records.specs.Marks.{Started, Answered, Flush, GaveUp, Took, Fault}
use Rattle.schedule.specs.declared.Sent.{Sent}
use Rattle.schedule.specs.declared.Event.TheVariants as event
use Rattle.schedule.specs.Groups.{Group, marks_of}
use Rattle.schedule.specs.Drivers.{state_of, TookItsOwn}
use Rattle.schedule.specs.Faults.{FailsAtItsStep}
use Rattle.schedule.specs.Replies.{RepliesOf}
use Rattle.schedule.specs.Justified.{Justified}
use Rattle.schedule.proofs.Making.{◌▸◌, all_taken, still_wait, shown, quiet, one_is_not_two, second_is_not_first}
use Rattle.schedule.proofs.Small.{client, stat_root, issued_to, idle, done, supply}

-- driver 1 answers an error
abbrev pub bad_reply : BlockReply
bad_reply = record { from = driver 1; id = 1; outcome = Err EIO; bytes = [] }

-- it counts that answer
abbrev pub bad_done : DriverState
bad_done = record done { bad = 1 }

-- all of it
abbrev pub right : List Group
right =
    (event.Tick, [])
    ∷ (event.Arrive (client 0) 3 stat_root, Took (client 0) 3 stat_root (refused EIO) ∷ [])
    ∷ (event.Flush, Flush ∷ [])
    ∷ (event.Step 1, [])
    ∷ (event.Deliver 0, [])
    ∷ (event.Tick, Took (client 0) 2 stat_root (refused EIO) ∷ Took (client 0) 1 stat_root (refused EIO) ∷ GaveUp ∷ Fault (driver 2) Hung ∷ [])
    ∷ (event.Tick, [])
    ∷ (event.Deliver 0, [])
    ∷ (event.Tick, [])
    ∷ (event.Hang 1, [])
    ∷ (event.Hang 2, [])
    ∷ (event.Tick, [])
    ∷ (event.Repeat 0, [])
    ∷ (event.Tick, issued_to 2 ∷ Started (driver 2) ∷ [])
    ∷ (event.Hang 2, [])
    ∷ (event.Deliver 0, Answered bad_reply ∷ [])
    ∷ (event.Die 1 None, [])
    ∷ (event.Die 1 None, Fault (driver 1) Exit ∷ [])
    ∷ (event.Step 1, [])
    ∷ (event.Step 1, [])
    ∷ (event.Flush, Flush ∷ [])
    ∷ (event.Arrive (client 0) 2 stat_root, [])
    ∷ (event.Arrive (client 0) 1 stat_root, issued_to 1 ∷ [])
    ∷ []

-- the replies that were sent
abbrev pub right_sent : List Sent
right_sent = record { reply = bad_reply; place = 4 } ∷ []

-- no driver has failed
right_failures : (g : ℕ) → IfSome (state_of (bad_done ∷ idle ∷ []) g) (FailsAtItsStep right g)
right_failures zero = tt
right_failures (suc zero) = record { seen = λ f. cc }
right_failures (suc (suc zero)) = record { seen = λ f. cc }
right_failures (suc (suc (suc g))) = tt

-- each driver took what was issued to it
right_took : (g : ℕ) → IfSome (state_of (bad_done ∷ idle ∷ []) g) (TookItsOwn (marks_of right) g)
right_took zero = tt
right_took (suc zero) = record { last = refl; work = tt }
right_took (suc (suc zero)) = record { last = refl; work = tt }
right_took (suc (suc (suc g))) = tt

-- the replies are those of the drivers
right_replies : (g : ℕ) → IfSome (state_of (bad_done ∷ idle ∷ []) g) (RepliesOf (marks_of right) right_sent g)
right_replies zero = tt
right_replies (suc zero) = record { bad = refl; rising = refl; one = (tt, (tt, (tt, (tt, (tt, (tt, ((λ e d. absurd (second_is_not_first e)), (tt, (tt, (tt, (tt, ((λ e d. refl), (tt, tt))))))))))))); own = (record { done = λ e. refl }, tt) }
right_replies (suc (suc zero)) = record { bad = refl; rising = refl; one = (tt, (tt, (tt, (tt, (tt, (tt, ((λ e d. cc), (tt, (tt, (tt, (tt, ((λ e d. cc), (tt, tt))))))))))))); own = (record { done = λ e. absurd (one_is_not_two e) }, tt) }
right_replies (suc (suc (suc g))) = tt

-- the run is justified
right_justified : Justified default_policy (supply 2) right right_sent (bad_done ∷ idle ∷ []) 0
right_justified = record {
  events =
      quiet refl refl refl refl refl (all_taken refl)
      ▸ shown refl refl (refl, refl) refl refl refl (tt, tt) refl refl (all_taken refl)
      ▸ shown refl refl (refl, refl) refl refl refl (tt, tt) refl refl (all_taken refl)
      ▸ quiet (inl refl) refl refl refl refl (all_taken refl)
      ▸ quiet refl refl refl refl refl (all_taken refl)
      ▸ shown refl refl (refl, (refl, (refl, (refl, refl)))) refl refl refl (tt, (tt, (tt, (tt, tt)))) refl refl (all_taken refl)
      ▸ quiet refl refl refl refl refl (still_wait ((client 0, 2, stat_root) ∷ (client 0, 1, stat_root) ∷ []) refl refl refl)
      ▸ quiet refl refl refl refl refl (still_wait ((client 0, 2, stat_root) ∷ (client 0, 1, stat_root) ∷ []) refl refl refl)
      ▸ quiet refl refl refl refl refl (still_wait ((client 0, 2, stat_root) ∷ (client 0, 1, stat_root) ∷ []) refl refl refl)
      ▸ quiet refl refl refl refl refl (still_wait ((client 0, 2, stat_root) ∷ (client 0, 1, stat_root) ∷ []) refl refl refl)
      ▸ quiet refl refl refl refl refl (still_wait ((client 0, 2, stat_root) ∷ (client 0, 1, stat_root) ∷ []) refl refl refl)
      ▸ quiet refl refl refl refl refl (still_wait ((client 0, 2, stat_root) ∷ (client 0, 1, stat_root) ∷ []) refl refl refl)
      ▸ quiet refl refl refl refl refl (still_wait ((client 0, 2, stat_root) ∷ (client 0, 1, stat_root) ∷ []) refl refl refl)
      ▸ shown refl refl (refl, (refl, refl)) refl refl refl (tt, (([], refl), tt)) refl refl (still_wait ((client 0, 2, stat_root) ∷ (client 0, 1, stat_root) ∷ []) refl refl refl)
      ▸ quiet refl refl refl refl refl (still_wait ((client 0, 2, stat_root) ∷ (client 0, 1, stat_root) ∷ []) refl refl refl)
      ▸ shown refl refl (refl, refl) refl refl refl (tt, tt) refl refl (still_wait ((client 0, 2, stat_root) ∷ (client 0, 1, stat_root) ∷ []) refl refl refl)
      ▸ quiet refl refl refl refl refl (still_wait ((client 0, 2, stat_root) ∷ (client 0, 1, stat_root) ∷ []) refl refl refl)
      ▸ shown refl refl (refl, refl) refl refl refl (tt, tt) refl refl (still_wait ((client 0, 2, stat_root) ∷ (client 0, 1, stat_root) ∷ []) refl refl refl)
      ▸ quiet (inl refl) refl refl refl refl (still_wait ((client 0, 2, stat_root) ∷ (client 0, 1, stat_root) ∷ []) refl refl refl)
      ▸ quiet (inl refl) refl refl refl refl (still_wait ((client 0, 2, stat_root) ∷ (client 0, 1, stat_root) ∷ []) refl refl refl)
      ▸ shown refl refl (refl, refl) refl refl refl (tt, tt) refl refl (still_wait ((client 0, 2, stat_root) ∷ (client 0, 1, stat_root) ∷ []) refl refl refl)
      ▸ quiet refl refl refl refl refl (still_wait ((client 0, 2, stat_root) ∷ (client 0, 1, stat_root) ∷ []) refl refl refl)
      ▸ shown refl refl (refl, refl) refl refl refl (tt, tt) refl refl (still_wait ((client 0, 1, stat_root) ∷ []) refl refl refl)
      ▸ tt;
  drivers_stand = record { all = refl; sound = tt; failures = right_failures; handed_in = refl; took = right_took };
  replies_stand = record { order = refl; steps = (record { from = refl; step = refl; live = refl; asked = refl; moved = lit≤ tt }, tt); own = right_replies };
  calls_left = record { left = []; order = refl; number = refl };
}
