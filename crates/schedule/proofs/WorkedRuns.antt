-- Worked runs of one `stat` that are justified as a whole.
use Rattle.std.specs.Prelude.{zero, suc, ◌≡◌, ℕ, List, [], ◌∷◌, None, IfSome, refl}
use Rattle.std.proofs.Common.{inl, inr, lit≤}
use Rattle.reincarnate.specs.Policy.{default_policy}
use Rattle.reincarnate.specs.Watch.{driver}
use Rattle.records.specs.declared.marks.Cause.TheVariants.{Exit, Hung}
use Rattle.records.specs.Marks.{Started, Answered, Fault}
use Rattle.schedule.specs.declared.Sent.{Sent}
use Rattle.schedule.specs.declared.Event.TheVariants as event
use Rattle.schedule.specs.Groups.{Group, marks_of, schedule_of}
use Rattle.schedule.specs.Drivers.{state_of, TookItsOwn}
use Rattle.schedule.specs.Faults.{FailsAtItsStep}
use Rattle.schedule.specs.Replies.{RepliesOf}
use Rattle.schedule.specs.Justified.{Justified}
use Rattle.schedule.proofs.Making.{◌▸◌, all_taken, still_wait, shown, quiet, two_is_not_one, one_is_not_two, second_is_not_first, first_is_not_second}
use Rattle.schedule.proofs.Small.{client, stat_root, first_call, issued_to, answer_of, replied, idle, done, working, failed, supply}

-- driver 1 dies, driver 2 is started at the next tick and answers
abbrev pub replaced : List Group
replaced =
    (event.Deliver 0, replied 0 ∷ Answered (answer_of 2) ∷ [])
    ∷ (event.Step 2, [])
    ∷ (event.Step 2, [])
    ∷ (event.Tick, issued_to 2 ∷ Started (driver 2) ∷ [])
    ∷ (event.Die 1 None, Fault (driver 1) Exit ∷ [])
    ∷ (event.Step 1, [])
    ∷ (event.Arrive (client 0) 100 stat_root, issued_to 1 ∷ [])
    ∷ []

-- its events, oldest first
replaced_schedule : schedule_of replaced ≡ event.Arrive (client 0) 100 stat_root ∷ event.Step 1 ∷ event.Die 1 None ∷ event.Tick ∷ event.Step 2 ∷ event.Step 2 ∷ event.Deliver 0 ∷ []
replaced_schedule = refl

-- its record, newest first
replaced_record : marks_of replaced ≡ replied 0 ∷ Answered (answer_of 2) ∷ issued_to 2 ∷ Started (driver 2) ∷ Fault (driver 1) Exit ∷ issued_to 1 ∷ Started (driver 1) ∷ []
replaced_record = refl

-- the replies that were sent
abbrev pub replaced_sent : List Sent
replaced_sent = record { reply = answer_of 2; place = 5 } ∷ []

-- no driver has failed
replaced_failures : (g : ℕ) → IfSome (state_of (working ∷ done ∷ []) g) (FailsAtItsStep replaced g)
replaced_failures zero = tt
replaced_failures (suc zero) = record { seen = λ f. cc }
replaced_failures (suc (suc zero)) = record { seen = λ f. cc }
replaced_failures (suc (suc (suc g))) = tt

-- each driver took what was issued to it
replaced_took : (g : ℕ) → IfSome (state_of (working ∷ done ∷ []) g) (TookItsOwn (marks_of replaced) g)
replaced_took zero = tt
replaced_took (suc zero) = record { last = refl; work = (refl, inl refl) }
replaced_took (suc (suc zero)) = record { last = refl; work = tt }
replaced_took (suc (suc (suc g))) = tt

-- the replies are those of the drivers
replaced_replies : (g : ℕ) → IfSome (state_of (working ∷ done ∷ []) g) (RepliesOf (marks_of replaced) replaced_sent g)
replaced_replies zero = tt
replaced_replies (suc zero) = record { bad = refl; rising = refl; one = (tt, (tt, ((λ e d. cc), (tt, (tt, ((λ e d. cc), (tt, tt))))))); own = (record { done = λ e. absurd (two_is_not_one e) }, tt) }
replaced_replies (suc (suc zero)) = record { bad = refl; rising = refl; one = (tt, (tt, ((λ e d. refl), (tt, (tt, ((λ e d. absurd (first_is_not_second e)), (tt, tt))))))); own = (record { done = λ e. refl }, tt) }
replaced_replies (suc (suc (suc g))) = tt

-- the run is justified
replaced_justified : Justified default_policy (supply 6) replaced replaced_sent (working ∷ done ∷ []) 0
replaced_justified = record {
  events =
      shown refl refl (refl, (refl, refl)) refl refl refl (tt, (tt, tt)) refl refl (all_taken refl)
      ▸ quiet (inl refl) refl refl refl refl (still_wait first_call refl refl refl)
      ▸ quiet (inl refl) refl refl refl refl (still_wait first_call refl refl refl)
      ▸ shown refl refl (refl, (refl, refl)) refl refl refl (tt, (([], refl), tt)) refl refl (still_wait first_call refl refl refl)
      ▸ shown refl refl (refl, refl) refl refl refl (tt, tt) refl refl (still_wait first_call refl refl refl)
      ▸ quiet (inl refl) refl refl refl refl (still_wait first_call refl refl refl)
      ▸ shown refl refl (refl, refl) refl refl refl (tt, tt) refl refl (still_wait first_call refl refl refl)
      ▸ tt;
  drivers_stand = record { all = refl; sound = refl; failures = replaced_failures; handed_in = refl; took = replaced_took };
  replies_stand = record { order = refl; steps = (record { from = refl; step = refl; live = refl; asked = refl; moved = lit≤ tt }, tt); own = replaced_replies };
  calls_left = record { left = []; order = refl; number = refl };
}

-- the call waits on a request when the schedule ends
abbrev pub waits : List Group
waits =
    (event.Arrive (client 0) 100 stat_root, issued_to 1 ∷ [])
    ∷ []

-- no driver has failed
waits_failures : (g : ℕ) → IfSome (state_of (idle ∷ []) g) (FailsAtItsStep waits g)
waits_failures zero = tt
waits_failures (suc zero) = record { seen = λ f. cc }
waits_failures (suc (suc g)) = tt

-- each driver took what was issued to it
waits_took : (g : ℕ) → IfSome (state_of (idle ∷ []) g) (TookItsOwn (marks_of waits) g)
waits_took zero = tt
waits_took (suc zero) = record { last = refl; work = tt }
waits_took (suc (suc g)) = tt

-- the replies are those of the drivers
waits_replies : (g : ℕ) → IfSome (state_of (idle ∷ []) g) (RepliesOf (marks_of waits) [] g)
waits_replies zero = tt
waits_replies (suc zero) = record { bad = refl; rising = refl; one = ((λ e d. cc), (tt, tt)); own = tt }
waits_replies (suc (suc g)) = tt

-- the run is justified
waits_justified : Justified default_policy (supply 6) waits [] (idle ∷ []) 1
waits_justified = record {
  events =
      shown refl refl (refl, refl) refl refl refl (tt, tt) refl refl (still_wait first_call refl refl refl)
      ▸ tt;
  drivers_stand = record { all = refl; sound = refl; failures = waits_failures; handed_in = refl; took = waits_took };
  replies_stand = record { order = refl; steps = tt; own = waits_replies };
  calls_left = record { left = first_call; order = refl; number = refl };
}

-- driver 1 answers and hangs; it is found out at the third tick, driver 2 starts at the fourth, and the old answer leaves no mark
abbrev pub hung : List Group
hung =
    (event.Deliver 1, replied 0 ∷ Answered (answer_of 2) ∷ [])
    ∷ (event.Step 2, [])
    ∷ (event.Step 2, [])
    ∷ (event.Deliver 0, [])
    ∷ (event.Tick, issued_to 2 ∷ Started (driver 2) ∷ [])
    ∷ (event.Tick, Fault (driver 1) Hung ∷ [])
    ∷ (event.Tick, [])
    ∷ (event.Tick, [])
    ∷ (event.Hang 1, [])
    ∷ (event.Step 1, [])
    ∷ (event.Step 1, [])
    ∷ (event.Arrive (client 0) 100 stat_root, issued_to 1 ∷ [])
    ∷ []

-- the replies that were sent
abbrev pub hung_sent : List Sent
hung_sent = record { reply = answer_of 1; place = 2 } ∷ record { reply = answer_of 2; place = 10 } ∷ []

-- no driver has failed
hung_failures : (g : ℕ) → IfSome (state_of (done ∷ done ∷ []) g) (FailsAtItsStep hung g)
hung_failures zero = tt
hung_failures (suc zero) = record { seen = λ f. cc }
hung_failures (suc (suc zero)) = record { seen = λ f. cc }
hung_failures (suc (suc (suc g))) = tt

-- each driver took what was issued to it
hung_took : (g : ℕ) → IfSome (state_of (done ∷ done ∷ []) g) (TookItsOwn (marks_of hung) g)
hung_took zero = tt
hung_took (suc zero) = record { last = refl; work = tt }
hung_took (suc (suc zero)) = record { last = refl; work = tt }
hung_took (suc (suc (suc g))) = tt

-- the replies are those of the drivers
hung_replies : (g : ℕ) → IfSome (state_of (done ∷ done ∷ []) g) (RepliesOf (marks_of hung) hung_sent g)
hung_replies zero = tt
hung_replies (suc zero) = record { bad = refl; rising = refl; one = (tt, (tt, ((λ e d. absurd (second_is_not_first e)), (tt, (tt, ((λ e d. refl), (tt, tt))))))); own = (record { done = λ e. refl }, (record { done = λ e. absurd (two_is_not_one e) }, tt)) }
hung_replies (suc (suc zero)) = record { bad = refl; rising = refl; one = (tt, (tt, ((λ e d. refl), (tt, (tt, ((λ e d. absurd (first_is_not_second e)), (tt, tt))))))); own = (record { done = λ e. absurd (one_is_not_two e) }, (record { done = λ e. refl }, tt)) }
hung_replies (suc (suc (suc g))) = tt

-- the run is justified
hung_justified : Justified default_policy (supply 6) hung hung_sent (done ∷ done ∷ []) 0
hung_justified = record {
  events =
      shown refl refl (refl, (refl, refl)) refl refl refl (tt, (tt, tt)) refl refl (all_taken refl)
      ▸ quiet (inl refl) refl refl refl refl (still_wait first_call refl refl refl)
      ▸ quiet (inl refl) refl refl refl refl (still_wait first_call refl refl refl)
      ▸ quiet refl refl refl refl refl (still_wait first_call refl refl refl)
      ▸ shown refl refl (refl, (refl, refl)) refl refl refl (tt, (([], refl), tt)) refl refl (still_wait first_call refl refl refl)
      ▸ shown refl refl (refl, refl) refl refl refl (tt, tt) refl refl (still_wait first_call refl refl refl)
      ▸ quiet refl refl refl refl refl (still_wait first_call refl refl refl)
      ▸ quiet refl refl refl refl refl (still_wait first_call refl refl refl)
      ▸ quiet refl refl refl refl refl (still_wait first_call refl refl refl)
      ▸ quiet (inl refl) refl refl refl refl (still_wait first_call refl refl refl)
      ▸ quiet (inl refl) refl refl refl refl (still_wait first_call refl refl refl)
      ▸ shown refl refl (refl, refl) refl refl refl (tt, tt) refl refl (still_wait first_call refl refl refl)
      ▸ tt;
  drivers_stand = record { all = refl; sound = refl; failures = hung_failures; handed_in = refl; took = hung_took };
  replies_stand = record { order = refl; steps = (record { from = refl; step = refl; live = refl; asked = refl; moved = lit≤ tt }, (record { from = refl; step = refl; live = refl; asked = refl; moved = lit≤ tt }, tt)); own = hung_replies };
  calls_left = record { left = []; order = refl; number = refl };
}

-- a request is repeated after its reply, and the reply is delivered twice
abbrev pub repeated : List Group
repeated =
    (event.Deliver 0, [])
    ∷ (event.Deliver 0, replied 0 ∷ Answered (answer_of 1) ∷ [])
    ∷ (event.Step 1, [])
    ∷ (event.Repeat 0, [])
    ∷ (event.Step 1, [])
    ∷ (event.Step 1, [])
    ∷ (event.Arrive (client 0) 100 stat_root, issued_to 1 ∷ [])
    ∷ []

-- the replies that were sent
abbrev pub repeated_sent : List Sent
repeated_sent = record { reply = answer_of 1; place = 2 } ∷ []

-- no driver has failed
repeated_failures : (g : ℕ) → IfSome (state_of (done ∷ []) g) (FailsAtItsStep repeated g)
repeated_failures zero = tt
repeated_failures (suc zero) = record { seen = λ f. cc }
repeated_failures (suc (suc g)) = tt

-- each driver took what was issued to it
repeated_took : (g : ℕ) → IfSome (state_of (done ∷ []) g) (TookItsOwn (marks_of repeated) g)
repeated_took zero = tt
repeated_took (suc zero) = record { last = refl; work = tt }
repeated_took (suc (suc g)) = tt

-- the replies are those of the drivers
repeated_replies : (g : ℕ) → IfSome (state_of (done ∷ []) g) (RepliesOf (marks_of repeated) repeated_sent g)
repeated_replies zero = tt
repeated_replies (suc zero) = record { bad = refl; rising = refl; one = (tt, (tt, ((λ e d. refl), (tt, tt)))); own = (record { done = λ e. refl }, tt) }
repeated_replies (suc (suc g)) = tt

-- the run is justified
repeated_justified : Justified default_policy (supply 6) repeated repeated_sent (done ∷ []) 0
repeated_justified = record {
  events =
      quiet refl refl refl refl refl (all_taken refl)
      ▸ shown refl refl (refl, (refl, refl)) refl refl refl (tt, (tt, tt)) refl refl (all_taken refl)
      ▸ quiet (inl refl) refl refl refl refl (still_wait first_call refl refl refl)
      ▸ quiet refl refl refl refl refl (still_wait first_call refl refl refl)
      ▸ quiet (inl refl) refl refl refl refl (still_wait first_call refl refl refl)
      ▸ quiet (inl refl) refl refl refl refl (still_wait first_call refl refl refl)
      ▸ shown refl refl (refl, refl) refl refl refl (tt, tt) refl refl (still_wait first_call refl refl refl)
      ▸ tt;
  drivers_stand = record { all = refl; sound = refl; failures = repeated_failures; handed_in = refl; took = repeated_took };
  replies_stand = record { order = refl; steps = (record { from = refl; step = refl; live = refl; asked = refl; moved = lit≤ tt }, tt); own = repeated_replies };
  calls_left = record { left = []; order = refl; number = refl };
}

-- a second call is queued and answered from the same block
abbrev pub queued : List Group
queued =
    (event.Deliver 0, replied 1 ∷ replied 0 ∷ Answered (answer_of 1) ∷ [])
    ∷ (event.Step 1, [])
    ∷ (event.Step 1, [])
    ∷ (event.Arrive (client 1) 100 stat_root, [])
    ∷ (event.Arrive (client 0) 100 stat_root, issued_to 1 ∷ [])
    ∷ []

-- the replies that were sent
abbrev pub queued_sent : List Sent
queued_sent = record { reply = answer_of 1; place = 3 } ∷ []

-- no driver has failed
queued_failures : (g : ℕ) → IfSome (state_of (done ∷ []) g) (FailsAtItsStep queued g)
queued_failures zero = tt
queued_failures (suc zero) = record { seen = λ f. cc }
queued_failures (suc (suc g)) = tt

-- each driver took what was issued to it
queued_took : (g : ℕ) → IfSome (state_of (done ∷ []) g) (TookItsOwn (marks_of queued) g)
queued_took zero = tt
queued_took (suc zero) = record { last = refl; work = tt }
queued_took (suc (suc g)) = tt

-- the replies are those of the drivers
queued_replies : (g : ℕ) → IfSome (state_of (done ∷ []) g) (RepliesOf (marks_of queued) queued_sent g)
queued_replies zero = tt
queued_replies (suc zero) = record { bad = refl; rising = refl; one = (tt, (tt, (tt, ((λ e d. refl), (tt, tt))))); own = (record { done = λ e. refl }, tt) }
queued_replies (suc (suc g)) = tt

-- the run is justified
queued_justified : Justified default_policy (supply 6) queued queued_sent (done ∷ []) 0
queued_justified = record {
  events =
      shown refl refl (refl, (refl, (refl, refl))) refl refl refl (tt, (tt, (tt, tt))) refl refl (all_taken refl)
      ▸ quiet (inl refl) refl refl refl refl (still_wait ((client 1, 100, stat_root) ∷ (client 0, 100, stat_root) ∷ []) refl refl refl)
      ▸ quiet (inl refl) refl refl refl refl (still_wait ((client 1, 100, stat_root) ∷ (client 0, 100, stat_root) ∷ []) refl refl refl)
      ▸ quiet refl refl refl refl refl (still_wait ((client 1, 100, stat_root) ∷ (client 0, 100, stat_root) ∷ []) refl refl refl)
      ▸ shown refl refl (refl, refl) refl refl refl (tt, tt) refl refl (still_wait first_call refl refl refl)
      ▸ tt;
  drivers_stand = record { all = refl; sound = refl; failures = queued_failures; handed_in = refl; took = queued_took };
  replies_stand = record { order = refl; steps = (record { from = refl; step = refl; live = refl; asked = refl; moved = lit≤ tt }, tt); own = queued_replies };
  calls_left = record { left = []; order = refl; number = refl };
}

-- a reply that was not sent yet, and one that never is, are delivered
abbrev pub not_sent_yet : List Group
not_sent_yet =
    (event.Deliver 7, [])
    ∷ (event.Deliver 0, [])
    ∷ (event.Step 1, [])
    ∷ (event.Arrive (client 0) 100 stat_root, issued_to 1 ∷ [])
    ∷ []

-- no driver has failed
not_sent_yet_failures : (g : ℕ) → IfSome (state_of (working ∷ []) g) (FailsAtItsStep not_sent_yet g)
not_sent_yet_failures zero = tt
not_sent_yet_failures (suc zero) = record { seen = λ f. cc }
not_sent_yet_failures (suc (suc g)) = tt

-- each driver took what was issued to it
not_sent_yet_took : (g : ℕ) → IfSome (state_of (working ∷ []) g) (TookItsOwn (marks_of not_sent_yet) g)
not_sent_yet_took zero = tt
not_sent_yet_took (suc zero) = record { last = refl; work = (refl, inl refl) }
not_sent_yet_took (suc (suc g)) = tt

-- the replies are those of the drivers
not_sent_yet_replies : (g : ℕ) → IfSome (state_of (working ∷ []) g) (RepliesOf (marks_of not_sent_yet) [] g)
not_sent_yet_replies zero = tt
not_sent_yet_replies (suc zero) = record { bad = refl; rising = refl; one = ((λ e d. cc), (tt, tt)); own = tt }
not_sent_yet_replies (suc (suc g)) = tt

-- the run is justified
not_sent_yet_justified : Justified default_policy (supply 6) not_sent_yet [] (working ∷ []) 1
not_sent_yet_justified = record {
  events =
      quiet refl refl refl refl refl (still_wait first_call refl refl refl)
      ▸ quiet refl refl refl refl refl (still_wait first_call refl refl refl)
      ▸ quiet (inl refl) refl refl refl refl (still_wait first_call refl refl refl)
      ▸ shown refl refl (refl, refl) refl refl refl (tt, tt) refl refl (still_wait first_call refl refl refl)
      ▸ tt;
  drivers_stand = record { all = refl; sound = refl; failures = not_sent_yet_failures; handed_in = refl; took = not_sent_yet_took };
  replies_stand = record { order = refl; steps = tt; own = not_sent_yet_replies };
  calls_left = record { left = first_call; order = refl; number = refl };
}

-- a step of driver 1 fails; driver 2 is started
abbrev pub fails : List Group
fails =
    (event.Tick, issued_to 2 ∷ Started (driver 2) ∷ [])
    ∷ (event.Step 1, Fault (driver 1) Exit ∷ [])
    ∷ (event.Step 1, [])
    ∷ (event.Arrive (client 0) 100 stat_root, issued_to 1 ∷ [])
    ∷ []

-- driver 1 failed at a step that shows it
fails_failures : (g : ℕ) → IfSome (state_of (failed ∷ idle ∷ []) g) (FailsAtItsStep fails g)
fails_failures zero = tt
fails_failures (suc zero) = record { seen = λ f. refl }
fails_failures (suc (suc zero)) = record { seen = λ f. cc }
fails_failures (suc (suc (suc g))) = tt

-- each driver took what was issued to it
fails_took : (g : ℕ) → IfSome (state_of (failed ∷ idle ∷ []) g) (TookItsOwn (marks_of fails) g)
fails_took zero = tt
fails_took (suc zero) = record { last = refl; work = (refl, inl refl) }
fails_took (suc (suc zero)) = record { last = refl; work = tt }
fails_took (suc (suc (suc g))) = tt

-- the replies are those of the drivers
fails_replies : (g : ℕ) → IfSome (state_of (failed ∷ idle ∷ []) g) (RepliesOf (marks_of fails) [] g)
fails_replies zero = tt
fails_replies (suc zero) = record { bad = refl; rising = refl; one = ((λ e d. cc), (tt, (tt, ((λ e d. cc), (tt, tt))))); own = tt }
fails_replies (suc (suc zero)) = record { bad = refl; rising = refl; one = ((λ e d. cc), (tt, (tt, ((λ e d. cc), (tt, tt))))); own = tt }
fails_replies (suc (suc (suc g))) = tt

-- the run is justified
fails_justified : Justified default_policy (supply 6) fails [] (failed ∷ idle ∷ []) 1
fails_justified = record {
  events =
      shown refl refl (refl, (refl, refl)) refl refl refl (tt, (([], refl), tt)) refl refl (still_wait first_call refl refl refl)
      ▸ shown (inr (record { one = refl; runs = refl; failed = refl })) refl (refl, refl) refl refl refl (tt, tt) refl refl (still_wait first_call refl refl refl)
      ▸ quiet (inl refl) refl refl refl refl (still_wait first_call refl refl refl)
      ▸ shown refl refl (refl, refl) refl refl refl (tt, tt) refl refl (still_wait first_call refl refl refl)
      ▸ tt;
  drivers_stand = record { all = refl; sound = refl; failures = fails_failures; handed_in = refl; took = fails_took };
  replies_stand = record { order = refl; steps = tt; own = fails_replies };
  calls_left = record { left = first_call; order = refl; number = refl };
}

-- driver 1 hangs and is replaced; its next step is refused by the media, and no mark shows it
abbrev pub fails_late : List Group
fails_late =
    (event.Deliver 0, replied 0 ∷ Answered (answer_of 2) ∷ [])
    ∷ (event.Step 2, [])
    ∷ (event.Step 2, [])
    ∷ (event.Step 1, [])
    ∷ (event.Tick, issued_to 2 ∷ Started (driver 2) ∷ [])
    ∷ (event.Tick, Fault (driver 1) Hung ∷ [])
    ∷ (event.Tick, [])
    ∷ (event.Tick, [])
    ∷ (event.Hang 1, [])
    ∷ (event.Step 1, [])
    ∷ (event.Arrive (client 0) 100 stat_root, issued_to 1 ∷ [])
    ∷ []

-- the replies that were sent
abbrev pub fails_late_sent : List Sent
fails_late_sent = record { reply = answer_of 2; place = 9 } ∷ []

-- driver 1 failed at a step that shows it
fails_late_failures : (g : ℕ) → IfSome (state_of (failed ∷ done ∷ []) g) (FailsAtItsStep fails_late g)
fails_late_failures zero = tt
fails_late_failures (suc zero) = record { seen = λ f. refl }
fails_late_failures (suc (suc zero)) = record { seen = λ f. cc }
fails_late_failures (suc (suc (suc g))) = tt

-- each driver took what was issued to it
fails_late_took : (g : ℕ) → IfSome (state_of (failed ∷ done ∷ []) g) (TookItsOwn (marks_of fails_late) g)
fails_late_took zero = tt
fails_late_took (suc zero) = record { last = refl; work = (refl, inl refl) }
fails_late_took (suc (suc zero)) = record { last = refl; work = tt }
fails_late_took (suc (suc (suc g))) = tt

-- the replies are those of the drivers
fails_late_replies : (g : ℕ) → IfSome (state_of (failed ∷ done ∷ []) g) (RepliesOf (marks_of fails_late) fails_late_sent g)
fails_late_replies zero = tt
fails_late_replies (suc zero) = record { bad = refl; rising = refl; one = (tt, (tt, ((λ e d. cc), (tt, (tt, ((λ e d. cc), (tt, tt))))))); own = (record { done = λ e. absurd (two_is_not_one e) }, tt) }
fails_late_replies (suc (suc zero)) = record { bad = refl; rising = refl; one = (tt, (tt, ((λ e d. refl), (tt, (tt, ((λ e d. absurd (first_is_not_second e)), (tt, tt))))))); own = (record { done = λ e. refl }, tt) }
fails_late_replies (suc (suc (suc g))) = tt

-- the run is justified
fails_late_justified : Justified default_policy (supply 6) fails_late fails_late_sent (failed ∷ done ∷ []) 0
fails_late_justified = record {
  events =
      shown refl refl (refl, (refl, refl)) refl refl refl (tt, (tt, tt)) refl refl (all_taken refl)
      ▸ quiet (inl refl) refl refl refl refl (still_wait first_call refl refl refl)
      ▸ quiet (inl refl) refl refl refl refl (still_wait first_call refl refl refl)
      ▸ quiet (inl refl) refl refl refl refl (still_wait first_call refl refl refl)
      ▸ shown refl refl (refl, (refl, refl)) refl refl refl (tt, (([], refl), tt)) refl refl (still_wait first_call refl refl refl)
      ▸ shown refl refl (refl, refl) refl refl refl (tt, tt) refl refl (still_wait first_call refl refl refl)
      ▸ quiet refl refl refl refl refl (still_wait first_call refl refl refl)
      ▸ quiet refl refl refl refl refl (still_wait first_call refl refl refl)
      ▸ quiet refl refl refl refl refl (still_wait first_call refl refl refl)
      ▸ quiet (inl refl) refl refl refl refl (still_wait first_call refl refl refl)
      ▸ shown refl refl (refl, refl) refl refl refl (tt, tt) refl refl (still_wait first_call refl refl refl)
      ▸ tt;
  drivers_stand = record { all = refl; sound = refl; failures = fails_late_failures; handed_in = refl; took = fails_late_took };
  replies_stand = record { order = refl; steps = (record { from = refl; step = refl; live = refl; asked = refl; moved = lit≤ tt }, tt); own = fails_late_replies };
  calls_left = record { left = []; order = refl; number = refl };
}

-- no event at all
abbrev pub empty : List Group
empty = []

-- no driver has failed
empty_failures : (g : ℕ) → IfSome (state_of (idle ∷ []) g) (FailsAtItsStep empty g)
empty_failures zero = tt
empty_failures (suc zero) = record { seen = λ f. cc }
empty_failures (suc (suc g)) = tt

-- each driver took what was issued to it
empty_took : (g : ℕ) → IfSome (state_of (idle ∷ []) g) (TookItsOwn (marks_of empty) g)
empty_took zero = tt
empty_took (suc zero) = record { last = refl; work = tt }
empty_took (suc (suc g)) = tt

-- the replies are those of the drivers
empty_replies : (g : ℕ) → IfSome (state_of (idle ∷ []) g) (RepliesOf (marks_of empty) [] g)
empty_replies zero = tt
empty_replies (suc zero) = record { bad = refl; rising = refl; one = (tt, tt); own = tt }
empty_replies (suc (suc g)) = tt

-- the run is justified
empty_justified : Justified default_policy (supply 6) empty [] (idle ∷ []) 0
empty_justified = record {
  events = tt;
  drivers_stand = record { all = refl; sound = refl; failures = empty_failures; handed_in = refl; took = empty_took };
  replies_stand = record { order = refl; steps = tt; own = empty_replies };
  calls_left = record { left = []; order = refl; number = refl };
}
