-- What a server does at its link by the rules are steps of a run.
use Rattle.std.proofs.Common.{◌≡◌, ◌⊎◌, inl, inr, suc, ◌+◌, ◌≤◌, List, [], ◌∷◌, ◌++◌, Bool, true, false, cond, refl, sym, ◌∙◌, ap, subst, arith, length}
use Rattle.std.specs.Prelude.{Option, Some, None, is_ok, not, ◌||◌, ◌&&◌}
use Rattle.std.proofs.lemmas.List.{length-append}
use Rattle.lemmas.proofs.Bools.{true_not_false}
use Rattle.message.specs.declared.BlockRequest.{BlockRequest}
use Rattle.message.specs.declared.Incoming.{Incoming}
use Rattle.message.specs.declared.Incoming.TheVariants as incoming
use Rattle.message.specs.declared.endpoint.Endpoint.{Endpoint}
use Rattle.records.specs.Area.{Area}
use Rattle.records.specs.Marks.{Mark, Issued, Fault}
use Rattle.records.specs.declared.marks.Cause.TheVariants.{Complaint}
use Rattle.records.specs.Told.{Told, Posted, Complained, Received, received, with_told, took_end, took_nothing, heard}
use Rattle.records.specs.Acts.{Act, Began, Absorbed, AtLink, Outbox, told_of, has_absorbed, marks_after, outbox_after, owed_after_act, owed_after_message, IsAtRest, MayBegin, MayTake, MayAct, KeepsRules}
use Rattle.schedule.specs.Faultless.{without_faults}
use Rattle.schedule.proofs.FaultlessLaws.{leave_same_mark}
use Rattle.schedule.specs.declared.log.LogEntry.TheVariants as entry
use Rattle.schedule.specs.Noted.{Noted, marks_in, with_entry}
use Rattle.schedule.proofs.NotedLaws.{mark_in, message_in}
use Rattle.simulated_link.specs.Kept.{NotesAside}
use Rattle.simulated_link.specs.Disks.{Disks}
use Rattle.simulated_link.specs.Ruling.{is_fault, gives_up}
use Rattle.simulated_link.proofs.Keeping.{events_note_aside, history_same}
use Rattle.schedule.specs.declared.arrived.Arrived.{Arrived}
use Rattle.simulated_link.specs.StateView as link
use Rattle.simulated_link.specs.StateView.{RunState, begun, noting, paid, ended, starving, posted, complained, ruling_at, RunsEvent, Advances, Stays, Goes, ComesToEnd, IsRunOut, IsStarved, IsSpent, Turn, GoesOn, Still, Further}
use Rattle.simulated_link.specs.Laws.{IsToldOfEnd, IsEndedRightly, ServersEndRightly}
use Rattle.simulated_link.specs.Moments.{Doing, Resting, Hearing, Answering, is_busy, Moment, record_of, at_link, Step, Begins, Tells, Takes, Runs, Starts, Then}
use Rattle.simulated_link.proofs.MovingLaws.{far_history, far_no_end, IsNoEnd, message_history, to_end_history, complaint_marks}

-- the history of a link
abbrev pub history_of : RunState → List Told
history_of p = p.scene.noted.history

-- an event changes neither the server's record nor whether the link has ended
pub next_record : (b a : RunState) (result : Option Incoming) → RunsEvent b result a → record_of a ≡ record_of b
next_record b a result p = (events_note_aside b.next p.event (begun p.event b.scene) a.scene result p.plays).marks

pub next_history : (b a : RunState) (result : Option Incoming) → RunsEvent b result a → history_of a ≡ history_of b
next_history b a result p = (events_note_aside b.next p.event (begun p.event b.scene) a.scene result p.plays).history

pub far_record : (b a : RunState) (result : Option Incoming) → Advances b result a → record_of a ≡ record_of b
far_record b _ _ Stays = refl
far_record b a _ (Goes m _ result before last) = next_record m a result last ∙ far_record b m None before

far_over : (b a : RunState) (result : Option Incoming) → Advances b result a → a.over ≡ b.over
far_over b _ _ Stays = refl
far_over b a _ (Goes m _ result before last) = last.over ∙ far_over b m None before

to_end_record : (b a : RunState) → ComesToEnd b a → record_of a ≡ record_of b
to_end_record b a (IsRunOut _ far spent) = far_record b a None far
to_end_record b _ (IsStarved a far) = far_record b a None far

-- a turn adds what it tells to the history
heard_first : (told : List Told) → took_end told ≡ false → heard incoming.End told ≡ Received incoming.End ∷ told
heard_first told none = ap (λ (x : Bool). cond x told (Received incoming.End ∷ told)) none

posted_history : (accepted : Bool) (to : Endpoint) (r : BlockRequest) (n : Noted)
    → (with_entry (entry.Posted to r accepted) n).history ≡ Posted to r accepted ∷ n.history
posted_history true to r n = ap (λ (l : List Told). Posted to r true ∷ l) (history_same (Issued r to) n)
posted_history false to r n = refl

complained_history : (fault : Bool) (about : Endpoint) (n : Noted) → (with_entry (entry.Complained about fault) n).history ≡ Complained about ∷ n.history
complained_history true about n = ap (λ (l : List Told). Complained about ∷ l) (history_same (Fault about Complaint) n)
complained_history false about n = refl

turn_tells : (b a : RunState) (told : Told) → Turn b told a → IsToldOfEnd b → history_of a ≡ told ∷ history_of b
turn_tells b _ _ (link.Takes message a far) told =
    ap (λ (l : List Told). Received message ∷ l) (message_history message a.scene.noted ∙ far_history b a (Some message) far)
turn_tells b _ _ (link.TakesOwed live owed first) told =
    ap (λ (l : List Told). Received incoming.GaveUp ∷ l) (message_history incoming.GaveUp b.scene.noted)
turn_tells b _ _ (link.TakesEnd a live ends) told =
    ap (λ (l : List Told). heard incoming.End l) (to_end_history b a ends) ∙ heard_first (history_of b) (told.is ∙ live)
turn_tells b _ _ (link.Posts to r result d unended lines) told = posted_history (is_ok result) to r b.scene.noted
turn_tells b _ _ (link.Complains about) told = complained_history (is_fault (ruling_at about b.scene)) about b.scene.noted

no_end_more : (m : Incoming) (told : List Told) → IsNoEnd (Some m) → took_end (Received m ∷ told) ≡ took_end told
no_end_more (incoming.Reply a) told h = refl
no_end_more (incoming.Started e) told h = refl
no_end_more incoming.GaveUp told h = refl
no_end_more incoming.Flush told h = refl
no_end_more incoming.End told h = absurd h

turn_told_of_end : (b a : RunState) (told : Told) → Turn b told a → IsToldOfEnd b → IsToldOfEnd a
turn_told_of_end b _ _ (link.Takes message a far) told = record {
  is = ap took_end (turn_tells b (noting (entry.Received message) a) (Received message) (link.Takes message a far) told)
      ∙ no_end_more message (history_of b) (far_no_end b a (Some message) far) ∙ told.is ∙ sym (far_over b a (Some message) far);
}
turn_told_of_end b _ _ (link.TakesOwed live owed first) told = record {
  is = ap took_end (turn_tells b (noting (entry.Received incoming.GaveUp) (paid b)) (Received incoming.GaveUp) (link.TakesOwed live owed first) told) ∙ told.is;
}
turn_told_of_end b _ _ (link.TakesEnd a live ends) told = record {
  is = ap took_end (turn_tells b (ended a) (Received incoming.End) (link.TakesEnd a live ends) told);
}
turn_told_of_end b _ _ (link.Posts to r result d unended lines) told = record {
  is = ap took_end (turn_tells b (posted to r (is_ok result) d b) (Posted to r (is_ok result)) (link.Posts to r result d unended lines) told) ∙ told.is;
}
turn_told_of_end b _ _ (link.Complains about) told = record {
  is = ap took_end (turn_tells b (complained about b) (Complained about) (link.Complains about) told) ∙ told.is;
}

pub goes_told_of_end : (b a : RunState) → GoesOn b a → IsToldOfEnd b → IsToldOfEnd a
goes_told_of_end b _ Still told = told
goes_told_of_end b a (Further m _ t before last) told = turn_told_of_end m a t last (goes_told_of_end b m before told)

-- what goes on adds to the history
goes_longer : (b a : RunState) → GoesOn b a → IsToldOfEnd b → length (history_of b) ≤ length (history_of a)
goes_longer b _ Still told = omega arith
goes_longer b a (Further m _ t before last) told =
    let h : length (history_of b) ≤ length (history_of m) = goes_longer b m before told in
    let e : length (history_of a) ≡ suc (length (history_of m)) = ap length (turn_tells m a t last (goes_told_of_end b m before told)) in
    omega (arith, h, e)

-- where nothing was told, nothing went on
pub none_told : (b a : RunState) → GoesOn b a → IsToldOfEnd b → history_of a ≡ history_of b → a ≡ b
none_told b _ Still told same = refl
none_told b a (Further m _ t before last) told same =
    let h : length (history_of b) ≤ length (history_of m) = goes_longer b m before told in
    let e : length (history_of a) ≡ suc (length (history_of m)) = ap length (turn_tells m a t last (goes_told_of_end b m before told)) in
    let s : length (history_of a) ≡ length (history_of b) = ap length same in
    absurd (omega (arith, h, e, s))

-- the last thing that was told is the last turn
record LastTurn (b a : RunState) (t : Told) (rest : List Told) : Type 0 where
  between : RunState
  before : GoesOn b between
  told_before : history_of between ≡ rest ++ history_of b
  turn : Turn between t a

first_told : (t u : Told) (k l : List Told) → t ∷ k ≡ u ∷ l → t ≡ u
first_told t u k l h = cc

later_told : (t u : Told) (k l : List Told) → t ∷ k ≡ u ∷ l → k ≡ l
later_told t u k l h = cc

last_turn : (b a : RunState) (t : Told) (rest : List Told) → GoesOn b a → IsToldOfEnd b → history_of a ≡ t ∷ (rest ++ history_of b) → LastTurn b a t rest
last_turn b _ t rest Still told is =
    let e : length (history_of b) ≡ suc (length (rest ++ history_of b)) = ap length is in
    let l : length (rest ++ history_of b) ≡ length rest + length (history_of b) = length-append rest (history_of b) in
    absurd (omega (arith, e, l))
last_turn b a t rest (Further m _ u before last) told is =
    let both : u ∷ history_of m ≡ t ∷ (rest ++ history_of b) = sym (turn_tells m a u last (goes_told_of_end b m before told)) ∙ is in
    record {
      between = m;
      before = before;
      told_before = later_told u t (history_of m) (rest ++ history_of b) both;
      turn = subst (λ (x : Told). Turn m x a) (first_told u t (history_of m) (rest ++ history_of b) both) last;
    }

-- a turn leaves the mark of what it tells in the server's record
received_record : (m : Incoming) (p : RunState) → record_of (noting (entry.Received m) p) ≡ received m (record_of p)
received_record m p = ap without_faults (message_in m p.scene.noted) ∙ leave_same_mark m (marks_in p.scene.noted)

pub handed_record : (m : Incoming) (p : RunState) → record_of (noting (entry.Handed m) p) ≡ received m (record_of p)
handed_record m p = ap without_faults (message_in m p.scene.noted) ∙ leave_same_mark m (marks_in p.scene.noted)

posted_record : (accepted : Bool) (to : Endpoint) (r : BlockRequest) (n : Noted)
    → without_faults (marks_in (with_entry (entry.Posted to r accepted) n)) ≡ with_told (Posted to r accepted) (without_faults (marks_in n))
posted_record true to r n = ap without_faults (mark_in (Issued r to) n)
posted_record false to r n = refl

pub turn_record : (b a : RunState) (told : Told) → Turn b told a → record_of a ≡ with_told told (record_of b)
turn_record b _ _ (link.Takes message a far) = received_record message a ∙ ap (received message) (far_record b a (Some message) far)
turn_record b _ _ (link.TakesOwed live owed first) = received_record incoming.GaveUp (paid b)
turn_record b _ _ (link.TakesEnd a live ends) = to_end_record b a ends
turn_record b _ _ (link.Posts to r result d unended lines) = posted_record (is_ok result) to r b.scene.noted
turn_record b _ _ (link.Complains about) = complaint_marks (is_fault (ruling_at about b.scene)) about b.scene.noted

-- a message is taken within a call alone
abbrev pub MayTakeIn : Doing → List Told → Type 0
MayTakeIn Resting told = took_nothing told ≡ true
MayTakeIn (Hearing message) told = took_nothing told ≡ true
MayTakeIn (Answering call) told = Unit {0}

may_take_before : (doing : Doing) (t : Told) (told : List Told) → MayTakeIn doing (t ∷ told) → MayTakeIn doing told
may_take_before Resting (Posted to r accepted) told may = may
may_take_before Resting (Complained e) told may = may
may_take_before Resting (Received m) told may = cc
may_take_before (Hearing message) (Posted to r accepted) told may = may
may_take_before (Hearing message) (Complained e) told may = may
may_take_before (Hearing message) (Received m) told may = cc
may_take_before (Answering call) t told may = tt

-- the run led there from here by these acts of the server
pub record Reaches (area : Area) (doing : Doing) (b : RunState) (o : Outbox) (acts : List Act) (marks : List Mark) (a : RunState) : Type 0 where
  pub runs : Runs area (record { run = b; outbox = o; doing = doing }) (record { run = a; outbox = outbox_after acts marks o; doing = doing })
  pub record_is : record_of a ≡ marks_after acts marks

-- one turn of a server that may act so
turn_step : (area : Area) (doing : Doing) (told : Told) (more : List Told) (m a : RunState) (o : Outbox) → is_busy doing ≡ true → MayTakeIn doing (told ∷ more)
    → MayAct area (record_of m) o (AtLink told) → Turn m told a
    → Step area (record { run = m; outbox = o; doing = doing }) (at_link told a (record { run = m; outbox = o; doing = doing }))
turn_step area doing (Posted to r accepted) more m a o busy take may turn = Tells (Posted to r accepted) a busy refl may turn
turn_step area doing (Complained e) more m a o busy take may turn = Tells (Complained e) a busy refl may turn
turn_step area Resting (Received message) more m a o busy take may turn = cc
turn_step area (Hearing x) (Received message) more m a o busy take may turn = cc
turn_step area (Answering call) (Received message) more m a o busy take may turn = Takes message call a refl may turn

-- what a server does at its link by the rules
pub acts_run : (area : Area) (doing : Doing) (b : RunState) (o : Outbox) (marks : List Mark) → is_busy doing ≡ true → IsToldOfEnd b → record_of b ≡ marks
    → (acts : List Act) (a : RunState) → GoesOn b a → history_of a ≡ told_of acts ++ history_of b → has_absorbed acts ≡ false → MayTakeIn doing (told_of acts)
    → KeepsRules area acts marks o → Reaches area doing b o acts marks a
acts_run area doing b o marks busy told is [] a on history none take keeps =
    let same : a ≡ b = none_told b a on told history in
    record {
      runs = subst (λ (p : RunState). Runs area (record { run = b; outbox = o; doing = doing }) (record { run = p; outbox = o; doing = doing })) (sym same) Starts;
      record_is = ap record_of same ∙ is;
    }
acts_run area doing b o marks busy told is (Began r ∷ acts) a on history none take keeps =
    let x : Reaches area doing b o acts marks a = acts_run area doing b o marks busy told is acts a on history none take keeps.0 in
    record {
      runs = Then (record { run = a; outbox = outbox_after acts marks o; doing = doing })
          (record { run = a; outbox = outbox_after (Began r ∷ acts) marks o; doing = doing }) x.runs
          (Begins r busy (subst (λ (l : List Mark). MayBegin l (outbox_after acts marks o) r) (sym x.record_is) keeps.1));
      record_is = x.record_is;
    }
acts_run area doing b o marks busy told is (Absorbed message ∷ acts) a on history none take keeps = cc
acts_run area doing b o marks busy told is (AtLink t ∷ acts) a on history none take keeps =
    let last : LastTurn b a t (told_of acts) = last_turn b a t (told_of acts) on told history in
    let x : Reaches area doing b o acts marks last.between =
    acts_run area doing b o marks busy told is acts last.between last.before last.told_before none (may_take_before doing t (told_of acts) take) keeps.0 in
    let may : MayAct area (record_of last.between) (outbox_after acts marks o) (AtLink t) =
    subst (λ (l : List Mark). MayAct area l (outbox_after acts marks o) (AtLink t)) (sym x.record_is) keeps.1 in
    record {
      runs = subst (λ (l : List Mark). Runs area (record { run = b; outbox = o; doing = doing })
          (record { run = a; outbox = owed_after_act (AtLink t) l (outbox_after acts marks o); doing = doing })) x.record_is
          (Then (record { run = last.between; outbox = outbox_after acts marks o; doing = doing })
          (at_link t a (record { run = last.between; outbox = outbox_after acts marks o; doing = doing })) x.runs
          (turn_step area doing t (told_of acts) last.between a (outbox_after acts marks o) busy take may last.turn));
      record_is = turn_record last.between a t last.turn ∙ ap (with_told t) x.record_is;
    }

-- one run after another
pub runs_join : (area : Area) (x y z : Moment) → Runs area x y → Runs area y z → Runs area x z
runs_join area x y _ first Starts = first
runs_join area x y z first (Then m _ next last) = Then m z (runs_join area x y m first next) last

pub runs_at : (n m : Area) (x y : Moment) → n ≡ m → Runs n x y → Runs m x y
runs_at n m x y same runs = subst (λ (k : Area). Runs k x y) same runs

-- a message that was handed over comes before what is done then
pub record ActsAfter (area : Area) (acts : List Act) (message : Incoming) (marks : List Mark) (o : Outbox) : Type 0 where
  pub keep : KeepsRules area acts (received message marks) (owed_after_message message marks o)
  pub at_rest : IsAtRest marks o
  pub outbox : outbox_after (acts ++ Absorbed message ∷ []) marks o ≡ outbox_after acts (received message marks) (owed_after_message message marks o)

pub marks_after_message : (acts : List Act) (message : Incoming) (marks : List Mark)
    → marks_after (acts ++ Absorbed message ∷ []) marks ≡ marks_after acts (received message marks)
marks_after_message [] message marks = refl
marks_after_message (Began r ∷ acts) message marks = marks_after_message acts message marks
marks_after_message (Absorbed m ∷ acts) message marks = ap (received m) (marks_after_message acts message marks)
marks_after_message (AtLink t ∷ acts) message marks = ap (with_told t) (marks_after_message acts message marks)

pub acts_after : (area : Area) (acts : List Act) (message : Incoming) (marks : List Mark) (o : Outbox)
    → KeepsRules area (acts ++ Absorbed message ∷ []) marks o → ActsAfter area acts message marks o
acts_after area [] message marks o keeps = record { keep = tt; at_rest = keeps.1; outbox = refl }
acts_after area (act ∷ acts) message marks o keeps =
    let x : ActsAfter area acts message marks o = acts_after area acts message marks o keeps.0 in
    let at : marks_after (acts ++ Absorbed message ∷ []) marks ≡ marks_after acts (received message marks) = marks_after_message acts message marks in
    record {
      keep = (
        x.keep,
        subst (λ (l : List Mark). MayAct area l (outbox_after acts (received message marks) (owed_after_message message marks o)) act) at
            (subst (λ (p : Outbox). MayAct area (marks_after (acts ++ Absorbed message ∷ []) marks) p act) x.outbox keeps.1),
      );
      at_rest = x.at_rest;
      outbox = ap (owed_after_act act (marks_after (acts ++ Absorbed message ∷ []) marks)) x.outbox
          ∙ ap (λ (l : List Mark). owed_after_act act l (outbox_after acts (received message marks) (owed_after_message message marks o))) at;
    }

-- where no message was taken, no event was run
quiet_turn : (b a : RunState) (told : Told) (rest : List Told) → Turn b told a → took_nothing (told ∷ rest) ≡ true → a.next ≡ b.next
quiet_turn b _ _ rest (link.Takes message a far) quiet = cc
quiet_turn b _ _ rest (link.TakesOwed live owed first) quiet = cc
quiet_turn b _ _ rest (link.TakesEnd a live ends) quiet = cc
quiet_turn b _ _ rest (link.Posts to r result d unended lines) quiet = refl
quiet_turn b _ _ rest (link.Complains about) quiet = refl

quiet_before : (t : Told) (told : List Told) → took_nothing (t ∷ told) ≡ true → took_nothing told ≡ true
quiet_before (Posted to r accepted) told quiet = quiet
quiet_before (Complained e) told quiet = quiet
quiet_before (Received m) told quiet = cc

pub quiet_next : (b a : RunState) (told : List Told) → GoesOn b a → IsToldOfEnd b → history_of a ≡ told ++ history_of b → took_nothing told ≡ true → a.next ≡ b.next
quiet_next b a [] on end history quiet = ap (λ (p : RunState). p.next) (none_told b a on end history)
quiet_next b a (t ∷ rest) on end history quiet =
    let last : LastTurn b a t rest = last_turn b a t rest on end history in
    quiet_turn last.between a t rest last.turn quiet ∙ quiet_next b last.between rest last.before end last.told_before (quiet_before t rest quiet)

-- the link ends rightly
pub came_live : (b a : RunState) (message : Incoming) → Advances b (Some message) a → a.over ≡ false
came_live b a message (Goes m _ _ before last) = last.over ∙ last.live

spent_still : (owed gives told over : Bool) → owed ≡ false → over ≡ true → (owed || (gives && not told && not over)) ≡ false
spent_still true gives told over paid ended = paid
spent_still false true true true paid ended = refl
spent_still false true false true paid ended = refl
spent_still false false told true paid ended = refl
spent_still false gives told false paid ended = absurd (true_not_false (sym ended))

to_end_rightly : (b a : RunState) → ComesToEnd b a → (a.starved ≡ true) ⊎ IsSpent a
to_end_rightly b a (IsRunOut _ far spent) = inr spent
to_end_rightly b _ (IsStarved a far) = inl refl

ended_spent : (a : RunState) → (a.starved ≡ true) ⊎ IsSpent a → ((ended a).starved ≡ true) ⊎ IsSpent (ended a)
ended_spent a (inl starved) = inl starved
ended_spent a (inr spent) = inr (record { events = spent.events; paid = spent.paid })

posted_spent : (to : Endpoint) (r : BlockRequest) (accepted : Bool) (d : Disks) (b : RunState) → (b.starved ≡ true) ⊎ IsSpent b
    → ((posted to r accepted d b).starved ≡ true) ⊎ IsSpent (posted to r accepted d b)
posted_spent to r accepted d b (inl starved) = inl starved
posted_spent to r accepted d b (inr spent) = inr (record { events = spent.events; paid = spent.paid })

complained_spent : (about : Endpoint) (b : RunState) → b.over ≡ true → (b.starved ≡ true) ⊎ IsSpent b
    → ((complained about b).starved ≡ true) ⊎ IsSpent (complained about b)
complained_spent about b over (inl starved) = inl starved
complained_spent about b over (inr spent) =
    inr (record { events = spent.events; paid = spent_still b.owed (gives_up (ruling_at about b.scene)) b.told b.over spent.paid over })

turn_ends_rightly : (b a : RunState) (told : Told) → Turn b told a → IsEndedRightly b → IsEndedRightly a
turn_ends_rightly b _ _ (link.Takes message a far) h = record { why = λ over. absurd (true_not_false (sym over ∙ came_live b a message far)) }
turn_ends_rightly b _ _ (link.TakesOwed live owed first) h = record { why = λ over. absurd (true_not_false (sym over ∙ live)) }
turn_ends_rightly b _ _ (link.TakesEnd a live ends) h = record { why = λ over. ended_spent a (to_end_rightly b a ends) }
turn_ends_rightly b _ _ (link.Posts to r result d unended lines) h = record { why = λ over. posted_spent to r (is_ok result) d b (h.why over) }
turn_ends_rightly b _ _ (link.Complains about) h = record { why = λ over. complained_spent about b over (h.why over) }

pub servers_end_rightly : ServersEndRightly
servers_end_rightly b _ Still h = h
servers_end_rightly b a (Further m _ t before last) h = turn_ends_rightly m a t last (servers_end_rightly b m before h)
