-- Each driver dies as soon as it is started: starts at ticks 1, 3, 7, 15, 31, and then the device is given up.
use Rattle.std.specs.Prelude.{zero, suc, ℕ, List, [], ◌∷◌, pos, None, IfSome, refl}
use Rattle.errno.specs.declared.Errno.TheVariants.{EIO}
use Rattle.tree.specs.declared.Call.{Call}
use Rattle.tree.specs.declared.Call.TheVariants.{Seek}
use Rattle.tree.specs.declared.Whence.TheVariants.{Set}
use Rattle.tree.specs.Answers.{refused}
use Rattle.reincarnate.specs.Policy.{default_policy}
use Rattle.reincarnate.specs.Watch.{driver}
use Rattle.records.specs.declared.marks.Cause.TheVariants.{Exit}
use Rattle.records.specs.Marks.{Started, GaveUp, Took, Fault}
use Rattle.schedule.specs.declared.Event.TheVariants as event
use Rattle.schedule.specs.Groups.{Group, marks_of}
use Rattle.schedule.specs.Drivers.{state_of, TookItsOwn}
use Rattle.schedule.specs.Faults.{FailsAtItsStep}
use Rattle.schedule.specs.Replies.{RepliesOf}
use Rattle.schedule.specs.Justified.{Justified}
use Rattle.schedule.proofs.Making.{◌▸◌, all_taken, still_wait, shown, quiet}
use Rattle.schedule.proofs.Small.{client, stat_root, first_call, issued_to, idle, supply}

-- `seek 0 set 0`
abbrev pub seek : Call
seek = Seek 0 Set (pos 0)

-- the sixth fault gives the device up, though a spare is left; the call that waited and a later one answer EIO
abbrev pub given_up : List Group
given_up =
    (event.Arrive (client 0) 100 seek, Took (client 0) 100 seek (refused EIO) ∷ [])
    ∷ (event.Die 6 None, Took (client 0) 100 stat_root (refused EIO) ∷ GaveUp ∷ Fault (driver 6) Exit ∷ [])
    ∷ (event.Tick, issued_to 6 ∷ Started (driver 6) ∷ [])
    ∷ (event.Tick, [])
    ∷ (event.Tick, [])
    ∷ (event.Tick, [])
    ∷ (event.Tick, [])
    ∷ (event.Tick, [])
    ∷ (event.Tick, [])
    ∷ (event.Tick, [])
    ∷ (event.Tick, [])
    ∷ (event.Tick, [])
    ∷ (event.Tick, [])
    ∷ (event.Tick, [])
    ∷ (event.Tick, [])
    ∷ (event.Tick, [])
    ∷ (event.Tick, [])
    ∷ (event.Tick, [])
    ∷ (event.Die 5 None, Fault (driver 5) Exit ∷ [])
    ∷ (event.Tick, issued_to 5 ∷ Started (driver 5) ∷ [])
    ∷ (event.Tick, [])
    ∷ (event.Tick, [])
    ∷ (event.Tick, [])
    ∷ (event.Tick, [])
    ∷ (event.Tick, [])
    ∷ (event.Tick, [])
    ∷ (event.Tick, [])
    ∷ (event.Die 4 None, Fault (driver 4) Exit ∷ [])
    ∷ (event.Tick, issued_to 4 ∷ Started (driver 4) ∷ [])
    ∷ (event.Tick, [])
    ∷ (event.Tick, [])
    ∷ (event.Tick, [])
    ∷ (event.Die 3 None, Fault (driver 3) Exit ∷ [])
    ∷ (event.Tick, issued_to 3 ∷ Started (driver 3) ∷ [])
    ∷ (event.Tick, [])
    ∷ (event.Die 2 None, Fault (driver 2) Exit ∷ [])
    ∷ (event.Tick, issued_to 2 ∷ Started (driver 2) ∷ [])
    ∷ (event.Die 1 None, Fault (driver 1) Exit ∷ [])
    ∷ (event.Arrive (client 0) 100 stat_root, issued_to 1 ∷ [])
    ∷ []

-- no driver has failed
given_up_failures : (g : ℕ) → IfSome (state_of (idle ∷ idle ∷ idle ∷ idle ∷ idle ∷ idle ∷ []) g) (FailsAtItsStep given_up g)
given_up_failures zero = tt
given_up_failures (suc zero) = record { seen = λ f. cc }
given_up_failures (suc (suc zero)) = record { seen = λ f. cc }
given_up_failures (suc (suc (suc zero))) = record { seen = λ f. cc }
given_up_failures (suc (suc (suc (suc zero)))) = record { seen = λ f. cc }
given_up_failures (suc (suc (suc (suc (suc zero))))) = record { seen = λ f. cc }
given_up_failures (suc (suc (suc (suc (suc (suc zero)))))) = record { seen = λ f. cc }
given_up_failures (suc (suc (suc (suc (suc (suc (suc g))))))) = tt

-- each driver took what was issued to it
given_up_took : (g : ℕ) → IfSome (state_of (idle ∷ idle ∷ idle ∷ idle ∷ idle ∷ idle ∷ []) g) (TookItsOwn (marks_of given_up) g)
given_up_took zero = tt
given_up_took (suc zero) = record { last = refl; work = tt }
given_up_took (suc (suc zero)) = record { last = refl; work = tt }
given_up_took (suc (suc (suc zero))) = record { last = refl; work = tt }
given_up_took (suc (suc (suc (suc zero)))) = record { last = refl; work = tt }
given_up_took (suc (suc (suc (suc (suc zero))))) = record { last = refl; work = tt }
given_up_took (suc (suc (suc (suc (suc (suc zero)))))) = record { last = refl; work = tt }
given_up_took (suc (suc (suc (suc (suc (suc (suc g))))))) = tt

-- the replies are those of the drivers
given_up_replies : (g : ℕ) → IfSome (state_of (idle ∷ idle ∷ idle ∷ idle ∷ idle ∷ idle ∷ []) g) (RepliesOf (marks_of given_up) [] g)
given_up_replies zero = tt
given_up_replies (suc zero) = record { bad = refl; rising = refl; one = (tt, (tt, (tt, (tt, ((λ e d. cc), (tt, (tt, ((λ e d. cc), (tt, (tt, ((λ e d. cc), (tt, (tt, ((λ e d. cc), (tt, (tt, ((λ e d. cc), (tt, (tt, ((λ e d. cc), (tt, tt))))))))))))))))))))); own = tt }
given_up_replies (suc (suc zero)) = record { bad = refl; rising = refl; one = (tt, (tt, (tt, (tt, ((λ e d. cc), (tt, (tt, ((λ e d. cc), (tt, (tt, ((λ e d. cc), (tt, (tt, ((λ e d. cc), (tt, (tt, ((λ e d. cc), (tt, (tt, ((λ e d. cc), (tt, tt))))))))))))))))))))); own = tt }
given_up_replies (suc (suc (suc zero))) = record { bad = refl; rising = refl; one = (tt, (tt, (tt, (tt, ((λ e d. cc), (tt, (tt, ((λ e d. cc), (tt, (tt, ((λ e d. cc), (tt, (tt, ((λ e d. cc), (tt, (tt, ((λ e d. cc), (tt, (tt, ((λ e d. cc), (tt, tt))))))))))))))))))))); own = tt }
given_up_replies (suc (suc (suc (suc zero)))) = record { bad = refl; rising = refl; one = (tt, (tt, (tt, (tt, ((λ e d. cc), (tt, (tt, ((λ e d. cc), (tt, (tt, ((λ e d. cc), (tt, (tt, ((λ e d. cc), (tt, (tt, ((λ e d. cc), (tt, (tt, ((λ e d. cc), (tt, tt))))))))))))))))))))); own = tt }
given_up_replies (suc (suc (suc (suc (suc zero))))) = record { bad = refl; rising = refl; one = (tt, (tt, (tt, (tt, ((λ e d. cc), (tt, (tt, ((λ e d. cc), (tt, (tt, ((λ e d. cc), (tt, (tt, ((λ e d. cc), (tt, (tt, ((λ e d. cc), (tt, (tt, ((λ e d. cc), (tt, tt))))))))))))))))))))); own = tt }
given_up_replies (suc (suc (suc (suc (suc (suc zero)))))) = record { bad = refl; rising = refl; one = (tt, (tt, (tt, (tt, ((λ e d. cc), (tt, (tt, ((λ e d. cc), (tt, (tt, ((λ e d. cc), (tt, (tt, ((λ e d. cc), (tt, (tt, ((λ e d. cc), (tt, (tt, ((λ e d. cc), (tt, tt))))))))))))))))))))); own = tt }
given_up_replies (suc (suc (suc (suc (suc (suc (suc g))))))) = tt

-- the run is justified
given_up_justified : Justified default_policy (supply 7) given_up [] (idle ∷ idle ∷ idle ∷ idle ∷ idle ∷ idle ∷ []) 0
given_up_justified = record {
  events =
      shown refl refl (refl, refl) refl refl refl (tt, tt) refl refl (all_taken refl)
      ▸ shown refl refl (refl, (refl, (refl, refl))) refl refl refl (tt, (tt, (tt, tt))) refl refl (all_taken refl)
      ▸ shown refl refl (refl, (refl, refl)) refl refl refl (tt, (([], refl), tt)) refl refl (still_wait first_call refl refl refl)
      ▸ quiet refl refl refl refl refl (still_wait first_call refl refl refl)
      ▸ quiet refl refl refl refl refl (still_wait first_call refl refl refl)
      ▸ quiet refl refl refl refl refl (still_wait first_call refl refl refl)
      ▸ quiet refl refl refl refl refl (still_wait first_call refl refl refl)
      ▸ quiet refl refl refl refl refl (still_wait first_call refl refl refl)
      ▸ quiet refl refl refl refl refl (still_wait first_call refl refl refl)
      ▸ quiet refl refl refl refl refl (still_wait first_call refl refl refl)
      ▸ quiet refl refl refl refl refl (still_wait first_call refl refl refl)
      ▸ quiet refl refl refl refl refl (still_wait first_call refl refl refl)
      ▸ quiet refl refl refl refl refl (still_wait first_call refl refl refl)
      ▸ quiet refl refl refl refl refl (still_wait first_call refl refl refl)
      ▸ quiet refl refl refl refl refl (still_wait first_call refl refl refl)
      ▸ quiet refl refl refl refl refl (still_wait first_call refl refl refl)
      ▸ quiet refl refl refl refl refl (still_wait first_call refl refl refl)
      ▸ quiet refl refl refl refl refl (still_wait first_call refl refl refl)
      ▸ shown refl refl (refl, refl) refl refl refl (tt, tt) refl refl (still_wait first_call refl refl refl)
      ▸ shown refl refl (refl, (refl, refl)) refl refl refl (tt, (([], refl), tt)) refl refl (still_wait first_call refl refl refl)
      ▸ quiet refl refl refl refl refl (still_wait first_call refl refl refl)
      ▸ quiet refl refl refl refl refl (still_wait first_call refl refl refl)
      ▸ quiet refl refl refl refl refl (still_wait first_call refl refl refl)
      ▸ quiet refl refl refl refl refl (still_wait first_call refl refl refl)
      ▸ quiet refl refl refl refl refl (still_wait first_call refl refl refl)
      ▸ quiet refl refl refl refl refl (still_wait first_call refl refl refl)
      ▸ quiet refl refl refl refl refl (still_wait first_call refl refl refl)
      ▸ shown refl refl (refl, refl) refl refl refl (tt, tt) refl refl (still_wait first_call refl refl refl)
      ▸ shown refl refl (refl, (refl, refl)) refl refl refl (tt, (([], refl), tt)) refl refl (still_wait first_call refl refl refl)
      ▸ quiet refl refl refl refl refl (still_wait first_call refl refl refl)
      ▸ quiet refl refl refl refl refl (still_wait first_call refl refl refl)
      ▸ quiet refl refl refl refl refl (still_wait first_call refl refl refl)
      ▸ shown refl refl (refl, refl) refl refl refl (tt, tt) refl refl (still_wait first_call refl refl refl)
      ▸ shown refl refl (refl, (refl, refl)) refl refl refl (tt, (([], refl), tt)) refl refl (still_wait first_call refl refl refl)
      ▸ quiet refl refl refl refl refl (still_wait first_call refl refl refl)
      ▸ shown refl refl (refl, refl) refl refl refl (tt, tt) refl refl (still_wait first_call refl refl refl)
      ▸ shown refl refl (refl, (refl, refl)) refl refl refl (tt, (([], refl), tt)) refl refl (still_wait first_call refl refl refl)
      ▸ shown refl refl (refl, refl) refl refl refl (tt, tt) refl refl (still_wait first_call refl refl refl)
      ▸ shown refl refl (refl, refl) refl refl refl (tt, tt) refl refl (still_wait first_call refl refl refl)
      ▸ tt;
  drivers_stand = record { all = refl; sound = tt; failures = given_up_failures; handed_in = refl; took = given_up_took };
  replies_stand = record { order = refl; steps = tt; own = given_up_replies };
  calls_left = record { left = []; order = refl; number = refl };
}
