-- Runs at the borders of what drivers can do and of when the server is told: each is justified.
use Rattle.std.specs.Prelude.{zero, suc, ℕ, List, [], ◌∷◌, IfSome, Ok, refl}
use Rattle.std.proofs.Common.{inl, lit≤}
use Rattle.errno.specs.declared.Errno.TheVariants.{EIO}
use Rattle.message.specs.declared.BlockReply.{BlockReply}
use Rattle.message.specs.declared.BlockRequest.{BlockRequest}
use Rattle.message.specs.declared.Kind.TheVariants.{Write}
use Rattle.tree.specs.Answers.{refused}
use Rattle.bdev.specs.DriverState.{DriverState}
use Rattle.reincarnate.specs.declared.policy.Policy.{Policy}
use Rattle.reincarnate.specs.Policy.{default_policy}
use Rattle.reincarnate.specs.Watch.{driver}
use Rattle.records.specs.declared.marks.Cause.TheVariants.{Complaint}
use Rattle.records.specs.Marks.{Mark, Answered, Flush, GaveUp, Took, Issued, Fault}
use Rattle.schedule.specs.declared.Sent.{Sent}
use Rattle.schedule.specs.declared.Event.TheVariants as event
use Rattle.schedule.specs.Groups.{Group, marks_of}
use Rattle.schedule.specs.Drivers.{state_of, TookItsOwn}
use Rattle.schedule.specs.Faults.{FailsAtItsStep}
use Rattle.schedule.specs.Replies.{RepliesOf}
use Rattle.schedule.specs.Justified.{Justified}
use Rattle.schedule.proofs.Making.{◌▸◌, all_taken, still_wait, shown, quiet}
use Rattle.schedule.proofs.RightRun.{bad_reply, bad_done}
use Rattle.schedule.proofs.Small.{client, stat_root, issued_to, replied, idle, supply}

-- a write of so many bytes at a place
abbrev write_at : ℕ → ℕ → ℕ → BlockRequest
write_at id position count = record { id = id; kind = Write; minor = 0; position = position; count = count; bytes = [] }

-- it is issued to driver 1
abbrev issued : BlockRequest → Mark
issued r = Issued r (driver 1)

-- driver 1 moved so many bytes for this id
abbrev moved : ℕ → ℕ → BlockReply
moved id count = record { from = driver 1; id = id; outcome = Ok count; bytes = [] }

-- Two writes of two sectors take four steps. The second is answered short after one sector, by a step that moves none; the rest is issued
-- under a new id and takes one step more.
abbrev transfers : List Group
transfers =
    (event.Deliver 2, Answered (moved 3 512) ∷ [])
    ∷ (event.Step 1, [])
    ∷ (event.Deliver 1, issued (write_at 3 8704 512) ∷ Answered (moved 2 512) ∷ [])
    ∷ (event.Deliver 0, Answered (moved 1 1024) ∷ [])
    ∷ (event.Step 1, [])
    ∷ (event.Step 1, [])
    ∷ (event.Step 1, [])
    ∷ (event.Step 1, [])
    ∷ (event.Flush, issued (write_at 2 8192 1024) ∷ issued (write_at 1 4096 1024) ∷ Flush ∷ [])
    ∷ []

-- the replies that were sent
abbrev transfers_sent : List Sent
transfers_sent =
    record { reply = moved 1 1024; place = 2 }
    ∷ record { reply = moved 2 512; place = 4 }
    ∷ record { reply = moved 3 512; place = 7 } ∷ []

-- a driver that has done with three requests
abbrev done_three : DriverState
done_three = record idle { last = 3 }

-- no driver has failed
transfers_failures : (g : ℕ) → IfSome (state_of (done_three ∷ []) g) (FailsAtItsStep transfers g)
transfers_failures zero = tt
transfers_failures (suc zero) = record { seen = λ f. cc }
transfers_failures (suc (suc g)) = tt

-- the driver took what was issued to it
transfers_took : (g : ℕ) → IfSome (state_of (done_three ∷ []) g) (TookItsOwn (marks_of transfers) g)
transfers_took zero = tt
transfers_took (suc zero) = record { last = refl; work = tt }
transfers_took (suc (suc g)) = tt

-- the replies are those of the driver
transfers_replies : (g : ℕ) → IfSome (state_of (done_three ∷ []) g) (RepliesOf (marks_of transfers) transfers_sent g)
transfers_replies zero = tt
transfers_replies (suc zero) = record {
  bad = refl;
  rising = refl;
  one = (tt, ((λ e d. refl), (tt, (tt, ((λ e d. refl), ((λ e d. refl), (tt, (tt, tt))))))));
  own = (record { done = λ e. refl }, (record { done = λ e. refl }, (record { done = λ e. refl }, tt)));
}
transfers_replies (suc (suc g)) = tt

-- the run is justified
transfers_justified : Justified default_policy (supply 6) transfers transfers_sent (done_three ∷ []) 0
transfers_justified = record {
  events =
      shown refl refl (refl, refl) refl refl refl (tt, tt) refl refl (all_taken refl)
      ▸ quiet (inl refl) refl refl refl refl (all_taken refl)
      ▸ shown refl refl (refl, (refl, refl)) refl refl refl (tt, (tt, tt)) refl refl (all_taken refl)
      ▸ shown refl refl (refl, refl) refl refl refl (tt, tt) refl refl (all_taken refl)
      ▸ quiet (inl refl) refl refl refl refl (all_taken refl)
      ▸ quiet (inl refl) refl refl refl refl (all_taken refl)
      ▸ quiet (inl refl) refl refl refl refl (all_taken refl)
      ▸ quiet (inl refl) refl refl refl refl (all_taken refl)
      ▸ shown refl refl (refl, (refl, (refl, refl))) refl refl refl (tt, (tt, (tt, tt))) refl refl (all_taken refl)
      ▸ tt;
  drivers_stand = record { all = refl; sound = refl; failures = transfers_failures; handed_in = refl; took = transfers_took };
  replies_stand = record {
    order = refl;
    steps = (
      record { from = refl; step = refl; live = refl; asked = refl; moved = lit≤ tt },
      (
        record { from = refl; step = refl; live = refl; asked = refl; moved = lit≤ tt },
        (record { from = refl; step = refl; live = refl; asked = refl; moved = lit≤ tt }, tt),
      ),
    );
    own = transfers_replies;
  };
  calls_left = record { left = []; order = refl; number = refl };
}

-- no fault is allowed
abbrev strict : Policy
strict = record default_policy { max_faults = 0 }

-- A bad answer gives the device up. The call that took it needs no further message and is answered well; then the server is told, and the
-- queued call answers EIO in the same group.
abbrev told_after_one : List Group
told_after_one =
    (event.Deliver 0, Took (client 1) 100 stat_root (refused EIO) ∷ GaveUp ∷ replied 0 ∷ Fault (driver 1) Complaint ∷ Answered bad_reply ∷ [])
    ∷ (event.Step 1, [])
    ∷ (event.Arrive (client 1) 100 stat_root, [])
    ∷ (event.Arrive (client 0) 100 stat_root, issued_to 1 ∷ [])
    ∷ []

-- the replies that were sent
abbrev told_after_one_sent : List Sent
told_after_one_sent = record { reply = bad_reply; place = 2 } ∷ []

-- no driver has failed
told_after_one_failures : (g : ℕ) → IfSome (state_of (bad_done ∷ []) g) (FailsAtItsStep told_after_one g)
told_after_one_failures zero = tt
told_after_one_failures (suc zero) = record { seen = λ f. cc }
told_after_one_failures (suc (suc g)) = tt

-- the driver took what was issued to it
told_after_one_took : (g : ℕ) → IfSome (state_of (bad_done ∷ []) g) (TookItsOwn (marks_of told_after_one) g)
told_after_one_took zero = tt
told_after_one_took (suc zero) = record { last = refl; work = tt }
told_after_one_took (suc (suc g)) = tt

-- the replies are those of the driver
told_after_one_replies : (g : ℕ) → IfSome (state_of (bad_done ∷ []) g) (RepliesOf (marks_of told_after_one) told_after_one_sent g)
told_after_one_replies zero = tt
told_after_one_replies (suc zero) = record {
  bad = refl;
  rising = refl;
  one = (tt, (tt, (tt, (tt, (tt, ((λ e d. refl), (tt, tt)))))));
  own = (record { done = λ e. refl }, tt);
}
told_after_one_replies (suc (suc g)) = tt

-- the run is justified
told_after_one_justified : Justified strict (supply 6) told_after_one told_after_one_sent (bad_done ∷ []) 0
told_after_one_justified = record {
  events =
      shown refl refl (refl, (refl, (refl, (refl, (refl, refl))))) refl refl refl (tt, (tt, (tt, (tt, (tt, tt))))) refl refl (all_taken refl)
      ▸ quiet (inl refl) refl refl refl refl (still_wait ((client 1, 100, stat_root) ∷ (client 0, 100, stat_root) ∷ []) refl refl refl)
      ▸ quiet refl refl refl refl refl (still_wait ((client 1, 100, stat_root) ∷ (client 0, 100, stat_root) ∷ []) refl refl refl)
      ▸ shown refl refl (refl, refl) refl refl refl (tt, tt) refl refl (still_wait ((client 0, 100, stat_root) ∷ []) refl refl refl)
      ▸ tt;
  drivers_stand = record { all = refl; sound = tt; failures = told_after_one_failures; handed_in = refl; took = told_after_one_took };
  replies_stand = record { order = refl; steps = (record { from = refl; step = refl; live = refl; asked = refl; moved = lit≤ tt }, tt); own = told_after_one_replies };
  calls_left = record { left = []; order = refl; number = refl };
}
