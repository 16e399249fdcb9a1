-- Where the link has ended in a run, the server needs a message.
use Rattle.std.proofs.Common.{◌≡◌, ◌+◌, List, [], ◌∷◌, ◌++◌, Bool, true, false, cond, refl, sym, ◌∙◌, ap, subst}
use Rattle.std.specs.Prelude.{Option, Some, None, is_some, not, ◌||◌, ◌&&◌, nat_lt}
use Rattle.lemmas.proofs.Bools.{true_not_false}
use Rattle.message.specs.declared.endpoint.Endpoint.{Endpoint}
use Rattle.message.specs.declared.BlockRequest.{BlockRequest}
use Rattle.message.specs.declared.Incoming.{Incoming}
use Rattle.message.specs.declared.Incoming.TheVariants as incoming
use Rattle.records.specs.Area.{Area}
use Rattle.records.specs.Marks.{Mark, Issued, last_started, gave_up}
use Rattle.records.specs.Open.{open_requests, greatest, has_none}
use Rattle.records.specs.Told.{Told, Posted, Complained, Received, with_told, took_nothing}
use Rattle.records.specs.Acts.{Began, AtLink, Outbox, owed_after_act, owed_after_post, target, needs_message, MayPost, MayTake, MayAct}
use Rattle.schedule.specs.declared.arrived.Arrived.{Arrived}
use Rattle.simulated_link.specs.StateView as link
use Rattle.simulated_link.specs.StateView.{RunState, RunsEvent, Turn}
use Rattle.simulated_link.specs.Moments.{Doing, Resting, Hearing, Answering, is_busy, Moment, record_of, at_link, Step, Begins, Tells, Takes, Settles, Brings, BringsNone, Pays, HandsCall, Replies, Runs, Starts, Then, Needs, RunsEndNeeding}
use Rattle.simulated_link.proofs.Running.{turn_record, came_live}

one_more : (rs : List BlockRequest) (r : BlockRequest) → has_none (rs ++ r ∷ []) ≡ false
one_more [] r = refl
one_more (x ∷ rs) r = refl

-- what is needed with these: open requests, whether a driver was started, whether a post was refused, what is unposted, what was never issued
abbrev needs : List BlockRequest → Bool → Bool → List BlockRequest → List BlockRequest → Bool
needs held started stopped unposted never = not (has_none held) || cond started (stopped && not (has_none unposted)) (not (has_none never))

-- a request more that is pending
begun_needs : (held : List BlockRequest) (started stopped : Bool) (unposted never : List BlockRequest) (r : BlockRequest)
    → needs held started stopped unposted never ≡ true → needs held started stopped (unposted ++ r ∷ []) (never ++ r ∷ []) ≡ true
begun_needs [] true true unposted never r h = ap not (one_more unposted r)
begun_needs [] true false unposted never r h = h
begun_needs [] false stopped unposted never r h = ap not (one_more never r)
begun_needs (x ∷ held) started stopped unposted never r h = refl

-- where none was refused after a start, some request is open
some_open : (held : List BlockRequest) (started stopped : Bool) (unposted never : List BlockRequest) → started ≡ true → stopped ≡ false
    → needs held started stopped unposted never ≡ true → has_none held ≡ false
some_open [] true true unposted never is none h = none
some_open [] true false unposted never is none h = cc
some_open [] false stopped unposted never is none h = cc
some_open (x ∷ held) started stopped unposted never is none h = refl

open_needs : (held : List BlockRequest) (started stopped : Bool) (unposted never : List BlockRequest) → has_none held ≡ false
    → needs held started stopped unposted never ≡ true
open_needs [] started stopped unposted never none = cc
open_needs (x ∷ held) started stopped unposted never none = refl

-- a post leaves it open
still_open : (lesser : Bool) (held : List BlockRequest) (r : BlockRequest) → has_none held ≡ false → has_none (cond lesser (held ++ r ∷ []) held) ≡ false
still_open true held r none = one_more held r
still_open false held r none = none

posted_open : (accepted : Bool) (to : Endpoint) (r : BlockRequest) (marks : List Mark) → has_none (open_requests marks) ≡ false
    → has_none (open_requests (with_told (Posted to r accepted) marks)) ≡ false
posted_open true to r marks none = still_open (nat_lt (greatest marks) r.id) (open_requests marks) r none
posted_open false to r marks none = none

posted_given : (accepted : Bool) (to : Endpoint) (r : BlockRequest) (marks : List Mark) → gave_up (with_told (Posted to r accepted) marks) ≡ gave_up marks
posted_given true to r marks = refl
posted_given false to r marks = refl

-- a driver that is posted to was started
posted_to : (given : Bool) (last : Option Endpoint) (to : Endpoint) → cond given None last ≡ Some to → is_some last ≡ true
posted_to true last to is = cc
posted_to false last to is = ap is_some is

-- what holds of the record and what is owed
record Wants (marks : List Mark) (o : Outbox) : Type 0 where
  needed : needs_message marks o ≡ true
  not_given_up : gave_up marks ≡ false

wants_open : (marks : List Mark) (o : Outbox) → has_none (open_requests marks) ≡ false → gave_up marks ≡ false → Wants marks o
wants_open marks o none live = record {
  needed = open_needs (open_requests marks) (is_some (last_started marks)) o.stopped o.unposted o.never_issued none;
  not_given_up = live;
}

told_wants : (area : Area) (told : Told) (marks : List Mark) (o : Outbox) → took_nothing (told ∷ []) ≡ true → MayAct area marks o (AtLink told)
    → Wants marks o → Wants (with_told told marks) (owed_after_act (AtLink told) marks o)
told_wants area (Posted to r accepted) marks o quiet may w =
    wants_open (with_told (Posted to r accepted) marks) (owed_after_post r accepted o)
    (posted_open accepted to r marks
    (some_open (open_requests marks) (is_some (last_started marks)) o.stopped o.unposted o.never_issued
    (posted_to (gave_up marks) (last_started marks) to may.endpoint) may.not_stopped w.needed))
    (posted_given accepted to r marks ∙ w.not_given_up)
told_wants area (Complained about) marks o quiet may w = record { needed = w.needed; not_given_up = w.not_given_up }
told_wants area (Received message) marks o quiet may w = cc

-- where the link ends
ended_wants : (m : Moment) (message : Incoming) (a : RunState) → MayTake (record_of m.run) m.outbox → Turn m.run (Received message) a → a.over ≡ true
    → Wants (record_of a) (owed_after_act (AtLink (Received message)) (record_of m.run) m.outbox)
ended_wants m message _ may (link.Takes _ a far) over = absurd (true_not_false (sym over ∙ came_live m.run a message far))
ended_wants m _ _ may (link.TakesOwed live owed first) over = absurd (true_not_false (sym over ∙ live))
ended_wants m _ _ may (link.TakesEnd a live ends) over =
    subst (λ (l : List Mark). Wants l m.outbox) (sym (turn_record m.run (link.ended a) (Received incoming.End) (link.TakesEnd a live ends)))
    (record { needed = may.needed; not_given_up = may.live })

-- what is not a take doesn't end the link
told_over : (b a : RunState) (told : Told) → Turn b told a → took_nothing (told ∷ []) ≡ true → a.over ≡ b.over
told_over b _ _ (link.Takes message a far) quiet = cc
told_over b _ _ (link.TakesOwed live owed first) quiet = cc
told_over b _ _ (link.TakesEnd a live ends) quiet = cc
told_over b _ _ (link.Posts to r result d unended lines) quiet = refl
told_over b _ _ (link.Complains about) quiet = refl

not_ended : {A : Type 0} (b a : RunState) → a.over ≡ b.over → b.over ≡ false → a.over ≡ true → A
not_ended b a same live over = absurd (true_not_false (sym over ∙ same ∙ live))

not_hearing : {A : Type 0} (doing : Doing) (message : Incoming) (call : Arrived) → doing ≡ Hearing message → doing ≡ Answering call → A
not_hearing doing message call hears answers = cc

needing : (m : Moment) (call : Arrived) → m.doing ≡ Answering call → Wants (record_of m.run) m.outbox → Needs m
needing m call answers w = record { call = call; answers = answers; needed = w.needed; not_given_up = w.not_given_up }

step_needs : (area : Area) (m a : Moment) → (m.run.over ≡ true → Needs m) → Step area m a → a.run.over ≡ true → Needs a
step_needs area m _ before (Begins r busy may) over =
    let n : Needs m = before over in
    record {
      call = n.call;
      answers = n.answers;
      needed = begun_needs (open_requests (record_of m.run)) (is_some (last_started (record_of m.run))) m.outbox.stopped m.outbox.unposted
          m.outbox.never_issued r n.needed;
      not_given_up = n.not_given_up;
    }
step_needs area m _ before (Tells told a busy quiet may turn) over =
    let n : Needs m = before (sym (told_over m.run a told turn quiet) ∙ over) in
    needing (at_link told a m) n.call n.answers
    (subst (λ (l : List Mark). Wants l (owed_after_act (AtLink told) (record_of m.run) m.outbox)) (sym (turn_record m.run a told turn))
    (told_wants area told (record_of m.run) m.outbox quiet may (record { needed = n.needed; not_given_up = n.not_given_up })))
step_needs area m _ before (Takes message call a answers may turn) over =
    needing (at_link (Received message) a m) call answers (ended_wants m message a may turn over)
step_needs area m _ before (Settles message hears rest) over =
    let n : Needs m = before over in not_hearing m.doing message n.call hears n.answers
step_needs area m _ before (Brings message a between none next) over = not_ended m.run a next.over between.live over
step_needs area m _ before (BringsNone a between none next) over = not_ended m.run a next.over between.live over
step_needs area m _ before (Pays between owed first) over = absurd (true_not_false (sym over ∙ between.live))
step_needs area m _ before (HandsCall call a between paid hands) over =
    not_ended m.run a (ap (λ (p : RunState). p.over) hands.after) between.live over
step_needs area m _ before (Replies call reply answers live rest) over = absurd (true_not_false (sym over ∙ live))

pub runs_end_needing : RunsEndNeeding
runs_end_needing area b _ Starts live over = absurd (true_not_false (sym over ∙ live))
runs_end_needing area b a (Then m _ before last) live over = step_needs area m a (λ over_before. runs_end_needing area b m before live over_before) last over
