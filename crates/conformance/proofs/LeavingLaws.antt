-- Calls are left only while a request is open or a start is awaited, and not after giving up.
use Rattle.std.proofs.Common.{◌≡◌, ℕ, suc, ◌<◌, ◌≤◌, List, [], ◌∷◌, ◌++◌, append_assoc, length, Bool, true, false, cond, refl, sym, ◌∙◌, ap, subst, inl, inr, ◌⊎◌, arith}
use Rattle.std.specs.Prelude.{◌≢◌, ◌&&◌, ◌||◌, ◌==◌, not, map, reverse, Option, Some, None, Result, Ok, Err, is_ok, is_some, if◌then◌else◌}
use Rattle.message.specs.declared.endpoint.Endpoint.{Endpoint}
use Rattle.message.specs.declared.BlockRequest.{BlockRequest}
use Rattle.message.specs.declared.Incoming.{Incoming}
use Rattle.message.specs.declared.Incoming.TheVariants as incoming
use Rattle.tree.specs.Answers.{answer_of}
use Rattle.reincarnate.specs.Watch.{Phase, Running, Waiting, GivenUp, driver}
use Rattle.records.specs.Area.{Area}
use Rattle.records.specs.Marks.{Mark, Started, Answered, Flush, GaveUp, Took, Issued, Fault, last_started, gave_up, awaits_start, is_endpoint}
use Rattle.records.specs.declared.marks.Cause.TheVariants.{Complaint}
use Rattle.records.specs.Open.{open_requests, has_none}
use Rattle.records.specs.Told.{Told, Posted, Received, took_nothing}
use Rattle.records.specs.Acts.{AtLink, Outbox, owed_after_act, owed_after_message, needs_message, MayPost, MayAct}
use Rattle.schedule.specs.Faultless.{without_faults, FaultsChangeNothing}
use Rattle.schedule.proofs.FaultlessLaws.{faults_change_nothing}
use Rattle.schedule.specs.declared.Event.{Event}
use Rattle.schedule.specs.Groups.{Group, marks_of, running, EachGroup}
use Rattle.schedule.specs.Calls.{Arrival, arrived, taken, MayWait}
use Rattle.reissue.specs.declared.link.LinkRefusal.{LinkRefusal}
use Rattle.schedule.specs.Noted.{Noted, with_mark, with_entry}
use Rattle.schedule.specs.declared.log.LogEntry.TheVariants as entry
use Rattle.simulated_link.specs.Ruling.{is_fault}
use Rattle.simulated_link.specs.Disks.{Disks, is_at, LinesUp, NoneIsThere, LineIsFull, IsLinedUp}
use Rattle.simulated_link.specs.Scene.{Scene}
use Rattle.schedule.specs.declared.arrived.Arrived.{Arrived}
use Rattle.simulated_link.specs.StateView.{RunState, RunsEvent, Advances, Stays, Goes, Turn, Takes, TakesOwed, TakesEnd, Posts, Complains, ComesToEnd, IsRunOut, IsStarved, noting, ruling_at}
use Rattle.simulated_link.specs.Waiting.{HasCalls, arrival_of}
use Rattle.simulated_link.specs.Moments.{Resting, Moment, record_of, Step, Begins as StepBegins, Tells, Takes as StepTakes, Settles, Brings, BringsNone, Pays as StepPays, HandsCall, Replies as StepReplies, Runs, Starts, Then, Needs}
use Rattle.simulated_link.proofs.Needing.{runs_end_needing}
use Rattle.simulated_link.proofs.MovingLaws.{IsNoEnd, far_no_end}
use Rattle.simulated_link.proofs.Running.{next_record}
use Rattle.conformance.specs.Core.{Core, story, PhaseIs, FollowsGroups}
use Rattle.conformance.specs.Seen.{with_brought, EventDone}
use Rattle.conformance.proofs.Events.{event_done, record_of_groups}
use Rattle.conformance.proofs.FollowLaws.{same_number}
use Rattle.conformance.specs.Said.{core_of, IsSaid, IsBegun, HasBegun, StandsBefore, OverCalm}
use Rattle.conformance.specs.Ordered.{answering}
use Rattle.conformance.proofs.SaidLaws.{not_before, not_owed_before, busy_answering, step_begun, step_calm, step_said}
use Rattle.conformance.proofs.ComplaintLaws.{OnlyFollows, follows_kept}
use Rattle.conformance.proofs.OpeningLaws.{calm_before, opened_said, opened_follows}
use Rattle.conformance.specs.Leaving.{CallsAsDue, HasRoom, RunsKeepWaits}
use Rattle.conformance.proofs.CallLaws.{at_rest, at_work, next_calls, step_calls, opened_calls, mark_groups}

one_more : (n k : ℕ) → n ≤ k → n ≤ suc k
one_more n k low = omega (arith, low)

-- marks that are faults alone leave the record without faults
none_less : (marks more : List Mark) → length (without_faults more) ≤ length (without_faults (marks ++ more))
none_less [] more = omega arith
none_less (Fault e cause ∷ marks) more = none_less marks more
none_less (Started e ∷ marks) more = one_more _ _ (none_less marks more)
none_less (Answered a ∷ marks) more = one_more _ _ (none_less marks more)
none_less (Flush ∷ marks) more = one_more _ _ (none_less marks more)
none_less (GaveUp ∷ marks) more = one_more _ _ (none_less marks more)
none_less (Took who now call answer ∷ marks) more = one_more _ _ (none_less marks more)
none_less (Issued r e ∷ marks) more = one_more _ _ (none_less marks more)

not_more : (m : Mark) (marks more : List Mark) → m ∷ without_faults (marks ++ more) ≡ without_faults more → ⊥
not_more m marks more same =
    let k : length (without_faults more) ≤ length (without_faults (marks ++ more)) = none_less marks more in
    let e : suc (length (without_faults (marks ++ more))) ≡ length (without_faults more) = ap (λ (l : List Mark). length l) same in
    omega (arith, k, e)

-- then a start that is awaited still is
still_awaits : (marks more : List Mark) → without_faults (marks ++ more) ≡ without_faults more → awaits_start more ≡ true
    → awaits_start (marks ++ more) ≡ true
still_awaits [] more same awaits = awaits
still_awaits (Fault e cause ∷ marks) more same awaits = refl
still_awaits (Started e ∷ marks) more same awaits = absurd (not_more (Started e) marks more same)
still_awaits (Answered a ∷ marks) more same awaits = absurd (not_more (Answered a) marks more same)
still_awaits (Flush ∷ marks) more same awaits = absurd (not_more Flush marks more same)
still_awaits (GaveUp ∷ marks) more same awaits = absurd (not_more GaveUp marks more same)
still_awaits (Took who now call answer ∷ marks) more same awaits = absurd (not_more (Took who now call answer) marks more same)
still_awaits (Issued r e ∷ marks) more same awaits = absurd (not_more (Issued r e) marks more same)

-- and where no driver runs, none does
none_after_fault : (e : Endpoint) (runs : Option Endpoint) → runs ≡ None → (if is_endpoint e runs then None else runs) ≡ None
none_after_fault e runs none = ap (λ (o : Option Endpoint). if is_endpoint e o then None else o) none

still_none : (marks more : List Mark) → without_faults (marks ++ more) ≡ without_faults more → running more ≡ None
    → running (marks ++ more) ≡ None
still_none [] more same none = none
still_none (Fault e cause ∷ marks) more same none = none_after_fault e (running (marks ++ more)) (still_none marks more same none)
still_none (Started e ∷ marks) more same none = absurd (not_more (Started e) marks more same)
still_none (Answered a ∷ marks) more same none = absurd (not_more (Answered a) marks more same)
still_none (Flush ∷ marks) more same none = absurd (not_more Flush marks more same)
still_none (GaveUp ∷ marks) more same none = absurd (not_more GaveUp marks more same)
still_none (Took who now call answer ∷ marks) more same none = absurd (not_more (Took who now call answer) marks more same)
still_none (Issued r e ∷ marks) more same none = absurd (not_more (Issued r e) marks more same)

or_so : (x y z : Bool) → (x || y) ≡ true → (y ≡ true → z ≡ true) → (x || z) ≡ true
or_so true y z is so = refl
or_so false y z is so = so is

-- so calls may still wait
still_waits : (marks more : List Mark) → without_faults (marks ++ more) ≡ without_faults more → MayWait more → MayWait (marks ++ more)
still_waits marks more same h =
    let f : FaultsChangeNothing (marks ++ more) = faults_change_nothing (marks ++ more) in
    let g : FaultsChangeNothing more = faults_change_nothing more in
    let opened : open_requests (marks ++ more) ≡ open_requests more = sym f.opened_same ∙ ap open_requests same ∙ g.opened_same in
    record {
      unfinished = ap (λ (l : List BlockRequest). not (has_none l) || awaits_start (marks ++ more)) opened
          ∙ or_so (not (has_none (open_requests more))) (awaits_start more) (awaits_start (marks ++ more)) h.unfinished (still_awaits marks more same);
      not_given_up = sym f.given_up ∙ ap gave_up same ∙ g.given_up ∙ h.not_given_up;
    }

-- an event that brings no message leaves marks of faults alone
record Silent (b a : RunState) : Type 0 where
  event : Event
  marks : List Mark
  first : a.scene.noted.first ≡ Started (driver 1) ∷ []
  groups : a.scene.noted.groups ≡ (event, marks) ∷ b.scene.noted.groups
  same : without_faults (marks ++ marks_of b.scene.noted.groups) ≡ without_faults (marks_of b.scene.noted.groups)

record_is : (p : RunState) → p.scene.noted.first ≡ Started (driver 1) ∷ [] → record_of p ≡ without_faults (marks_of p.scene.noted.groups)
record_is p first = ap without_faults (record_of_groups p.scene.noted.groups p.scene.noted.first first)

silent : (b a : RunState) → RunsEvent b None a → b.scene.noted.first ≡ Started (driver 1) ∷ [] → Silent b a
silent b a p first =
    let done : EventDone b.next b.owed b.told p.event b.scene None a.scene =
    event_done b.next b.owed b.told p.event b.scene None a.scene first p.plays in
    let first_now : a.scene.noted.first ≡ Started (driver 1) ∷ [] = done.first ∙ first in
    record {
      event = p.event;
      marks = done.marks;
      first = first_now;
      groups = done.groups;
      same = sym (record_is a first_now ∙ ap (λ (l : List Group). without_faults (marks_of l)) done.groups) ∙ next_record b a None p ∙ record_is b first;
    }

silent_waits : (b a : RunState) → Silent b a → MayWait (marks_of b.scene.noted.groups) → MayWait (marks_of a.scene.noted.groups)
silent_waits b a s h =
    subst (λ (l : List Group). MayWait (marks_of l)) (sym s.groups) (still_waits s.marks (marks_of b.scene.noted.groups) s.same h)

silent_none : (b a : RunState) → Silent b a → running (marks_of b.scene.noted.groups) ≡ None → running (marks_of a.scene.noted.groups) ≡ None
silent_none b a s h = ap (λ (l : List Group). running (marks_of l)) s.groups ∙ still_none s.marks (marks_of b.scene.noted.groups) s.same h

-- where no driver runs and the device isn't given up, a start is awaited
awaits_now : (drivers : ℕ) (groups : List Group) (c : Core) → FollowsGroups drivers groups c → running (marks_of groups) ≡ None
    → gave_up (marks_of groups) ≡ false → awaits_start (marks_of groups) ≡ true
awaits_now drivers groups c follows none goes = by c.watch.phase follows.phase_is where
  clash : (e : Endpoint) → None ≡ Some e → ⊥
  clash e is = cc

  owes : (owed : Bool) → gave_up (marks_of groups) ≡ not owed → owed ≡ true
  owes true is = refl
  owes false is = sym goes ∙ is

  by : (p : Phase) → PhaseIs (story c.policy c.watch.generation groups) c p → awaits_start (marks_of groups) ≡ true
  by (Running last count) k = absurd (clash (driver c.watch.generation) (sym none ∙ k.runs_is))
  by (Waiting until) k = k.awaited
  by GivenUp k = k.awaited (owes c.owed k.ended_is)

-- the last driver that was started is the one that runs, if one does
last_runs : (marks : List Mark) (e : Endpoint) → running marks ≡ Some e → last_started marks ≡ Some e
last_runs [] e is = absurd (clash is) where
  clash : None ≡ Some e → ⊥
  clash c = cc
last_runs (Started x ∷ marks) e is = is
last_runs (Fault x cause ∷ marks) e is = last_runs marks e (by (is_endpoint x (running marks)) is) where
  by : (t : Bool) → (if t then None else running marks) ≡ Some e → running marks ≡ Some e
  by true at = absurd (clash at) where
    clash : None ≡ Some e → ⊥
    clash c = cc
  by false at = at
last_runs (Answered a ∷ marks) e is = last_runs marks e is
last_runs (Flush ∷ marks) e is = last_runs marks e is
last_runs (GaveUp ∷ marks) e is = last_runs marks e is
last_runs (Took who now call answer ∷ marks) e is = last_runs marks e is
last_runs (Issued r x ∷ marks) e is = last_runs marks e is

posted_there : (given : Bool) (last : Option Endpoint) (to : Endpoint) → cond given None last ≡ Some to → last ≡ Some to
posted_there true last to is = absurd (clash is) where
  clash : None ≡ Some to → ⊥
  clash c = cc
posted_there false last to is = is

same_endpoint : (x y : Endpoint) → Some x ≡ Some y → x ≡ y
same_endpoint x y is = cc

-- a post that is refused for want of a driver: none runs
refused_none : (area : Area) (drivers : ℕ) (p : RunState) (o : Outbox) (to : Endpoint) (r : BlockRequest) → IsSaid (OnlyFollows drivers) p
    → MayPost area (record_of p) o to r → is_at to p.scene.disks ≡ false → running (marks_of p.scene.noted.groups) ≡ None
refused_none area drivers p o to r said may none = by p.scene.watch.phase said.said.phase_is where
  groups : List Group
  groups = p.scene.noted.groups

  started : last_started (marks_of groups) ≡ Some to
  started = sym (faults_change_nothing (marks_of groups)).started ∙ sym (ap last_started (record_is p said.first))
      ∙ posted_there (gave_up (record_of p)) (last_started (record_of p)) to may.endpoint

  there : (g : ℕ) (d : Disks) → d.media.generation ≡ g → d.current.live ≡ true → is_at (driver g) d ≡ true
  there g d at live =
      ap (λ (n : ℕ). (g == n) && d.current.live) at ∙ ap (λ (t : Bool). t && d.current.live) (same_number g) ∙ live

  clash : ◌≡◌ {A = Bool} false true → ⊥
  clash c = cc

  by : (x : Phase) → PhaseIs (story p.scene.policy p.scene.watch.generation groups) (core_of p) x → running (marks_of groups) ≡ None
  by (Running last count) k =
      let at : to ≡ driver p.scene.watch.generation = same_endpoint to (driver p.scene.watch.generation)
      (sym started ∙ last_runs (marks_of groups) (driver p.scene.watch.generation) k.runs_is) in
      absurd (clash (sym none ∙ ap (λ (e : Endpoint). is_at e p.scene.disks) at ∙ there p.scene.watch.generation p.scene.disks said.said.latest k.live))
  by (Waiting until) k = k.none_runs
  by GivenUp k = k.none_runs

-- once a post was refused, until the next message, no driver runs
abbrev StoppedRight : Outbox → RunState → Type 0
StoppedRight o p = o.stopped ≡ true → running (marks_of p.scene.noted.groups) ≡ None

not_stopped : (o : Outbox) (p : RunState) → o.stopped ≡ false → StoppedRight o p
not_stopped o p none is = absurd (clash (sym none ∙ is)) where
  clash : ◌≡◌ {A = Bool} false true → ⊥
  clash c = cc

-- a message lets a refused post be tried again
message_lets : (message : Incoming) (marks : List Mark) (o : Outbox) → IsNoEnd (Some message)
    → (owed_after_message message marks o).stopped ≡ false
message_lets (incoming.Reply a) marks o some = refl
message_lets (incoming.Started e) marks o some = by (gave_up marks) where
  by : (t : Bool)
      → (if t then record o { stopped = false } else record o { unposted = open_requests marks ++ o.never_issued; stopped = false }).stopped ≡ false
  by true = refl
  by false = refl
message_lets incoming.GaveUp marks o some = refl
message_lets incoming.Flush marks o some = refl
message_lets incoming.End marks o some = absurd some

-- a mark more, which starts no driver
mark_none : (n : Noted) (m : Mark) → IsBegun n.groups → ((marks : List Mark) → running marks ≡ None → running (m ∷ marks) ≡ None)
    → running (marks_of n.groups) ≡ None → running (marks_of (with_mark m n).groups) ≡ None
mark_none n m begun still none =
    ap (λ (l : List Group). running (marks_of l)) (mark_groups n m begun)
    ∙ still (begun.group ++ marks_of begun.earlier) (sym (ap (λ (l : List Group). running (marks_of l)) begun.is) ∙ none)

-- events are run
record FarSilent (b a : RunState) : Type 0 where
  first : a.scene.noted.first ≡ Started (driver 1) ∷ []
  none : running (marks_of b.scene.noted.groups) ≡ None → running (marks_of a.scene.noted.groups) ≡ None

far_silent : (b a : RunState) (result : Option Incoming) → Advances b result a → result ≡ None → b.scene.noted.first ≡ Started (driver 1) ∷ []
    → FarSilent b a
far_silent b _ _ Stays is first = record { first = first; none = λ h. h }
far_silent b a _ (Goes m _ result before last) is first =
    let k : FarSilent b m = far_silent b m None before refl first in
    let s : Silent m a = silent m a (subst (λ (r : Option Incoming). RunsEvent m r a) is last) k.first in
    record { first = s.first; none = λ h. silent_none m a s (k.none h) }

posts_stopped : (area : Area) (drivers : ℕ) (m : Moment) (to : Endpoint) (r : BlockRequest) (result : Result (Unit {0}) LinkRefusal) (d : Disks) (a : RunState)
    → LinesUp to r m.run.scene.disks result d → MayPost area (record_of m.run) m.outbox to r → HasRoom area m
    → IsSaid (OnlyFollows drivers) m.run
    → (is_ok result ≡ false → a.scene.noted.groups ≡ m.run.scene.noted.groups)
    → StoppedRight (owed_after_act (AtLink (Posted to r (is_ok result))) (record_of m.run) m.outbox) a
posts_stopped area drivers m to r _ _ a (NoneIsThere none) may room said same is =
    ap (λ (l : List Group). running (marks_of l)) (same refl) ∙ refused_none area drivers m.run m.outbox to r said may none
posts_stopped area drivers m to r _ _ a (LineIsFull there full) may room said same is =
    let few : length m.run.scene.disks.current.line < 32 = room to r may there in absurd (omega (arith, few, full))
posts_stopped area drivers m to r _ d a (IsLinedUp there few) may room said same is = not_stopped m.outbox a may.not_stopped is

complaint_stopped : (fault : Bool) (b : RunState) (about : Endpoint) → IsBegun b.scene.noted.groups
    → running (marks_of b.scene.noted.groups) ≡ None
    → running (marks_of (with_entry (entry.Complained about fault) b.scene.noted).groups) ≡ None
complaint_stopped false b about begun none = none
complaint_stopped true b about begun none =
    mark_none b.scene.noted (Fault about Complaint) begun (λ marks h. none_after_fault about (running marks) h) none

tell_stopped : (area : Area) (drivers : ℕ) (m : Moment) (told : Told) (a : RunState) → Turn m.run told a → took_nothing (told ∷ []) ≡ true
    → MayAct area (record_of m.run) m.outbox (AtLink told) → HasRoom area m → IsBegun m.run.scene.noted.groups
    → IsSaid (OnlyFollows drivers) m.run
    → StoppedRight m.outbox m.run → StoppedRight (owed_after_act (AtLink told) (record_of m.run) m.outbox) a
tell_stopped area drivers m _ _ (Takes message a far) nothing may room begun said h = cc
tell_stopped area drivers m _ _ (TakesOwed live owed first) nothing may room begun said h = cc
tell_stopped area drivers m _ _ (TakesEnd a live ends) nothing may room begun said h = cc
tell_stopped area drivers m _ a (Posts to r result d unended lines) nothing may room begun said h =
    posts_stopped area drivers m to r result d a lines may room said (refused_groups result) where
      refused_groups : (x : Result (Unit {0}) LinkRefusal) → is_ok x ≡ false
          → (with_entry (entry.Posted to r (is_ok x)) m.run.scene.noted).groups ≡ m.run.scene.noted.groups
      refused_groups (Ok done) is = absurd (clash is) where
        clash : ◌≡◌ {A = Bool} true false → ⊥
        clash c = cc
      refused_groups (Err error) is = refl
tell_stopped area drivers m _ _ (Complains about) nothing may room begun said h =
    λ is. complaint_stopped (is_fault (ruling_at about m.run.scene)) m.run about begun (h is)

take_stopped : (m : Moment) (message : Incoming) (a : RunState) → Turn m.run (Received message) a
    → m.run.scene.noted.first ≡ Started (driver 1) ∷ []
    → StoppedRight m.outbox m.run → StoppedRight (owed_after_message message (record_of m.run) m.outbox) a
take_stopped m message _ (Takes _ a far) first h =
    not_stopped (owed_after_message message (record_of m.run) m.outbox) (noting (entry.Received message) a)
    (message_lets message (record_of m.run) m.outbox (far_no_end m.run a (Some message) far))
take_stopped m _ a (TakesOwed live owed told) first h = not_stopped (owed_after_message incoming.GaveUp (record_of m.run) m.outbox) a refl
take_stopped m _ _ (TakesEnd a live ends) first h = by a ends where
  by : (x : RunState) → ComesToEnd m.run x → StoppedRight m.outbox x
  by _ (IsRunOut x far spent) = λ is. (far_silent m.run x None far refl first).none (h is)
  by _ (IsStarved x far) = λ is. (far_silent m.run x None far refl first).none (h is)

step_stopped : (area : Area) (drivers : ℕ) (m a : Moment) → Step area m a → HasBegun m → HasRoom area m → IsSaid (OnlyFollows drivers) m.run
    → StoppedRight m.outbox m.run → StoppedRight a.outbox a.run
step_stopped area drivers m _ (StepBegins r busy may) begun room said h = h
step_stopped area drivers m _ (Tells told a busy nothing may turn) begun room said h =
    tell_stopped area drivers m told a turn nothing may room (not_before m busy begun) said h
step_stopped area drivers m _ (StepTakes message call a doing may turn) begun room said h = take_stopped m message a turn said.first h
step_stopped area drivers m _ (Settles message doing rest) begun room said h = h
step_stopped area drivers m _ (Brings message a between none next) begun room said h =
    not_stopped (owed_after_message message (record_of m.run) m.outbox) (noting (entry.Handed message) a)
    (message_lets message (record_of m.run) m.outbox (far_no_end m.run a (Some message) (Goes m.run a (Some message) Stays next)))
step_stopped area drivers m _ (BringsNone a between none next) begun room said h =
    λ is. silent_none m.run a (silent m.run a next said.first) (h is)
step_stopped area drivers m a (StepPays between owed told) begun room said h = not_stopped a.outbox a.run refl
step_stopped area drivers m _ (HandsCall call a between paid_so hands) begun room said h =
    λ is. ap (λ (p : RunState). running (marks_of p.scene.noted.groups)) hands.after ∙ h is
step_stopped area drivers m _ (StepReplies call reply doing live rest) begun room said h =
    λ is. mark_none m.run.scene.noted (Took call.who call.now call.call (answer_of reply)) (not_before m (busy_answering m.doing call doing) begun)
    (λ marks none. none) (h is)

-- a driver was started first of all
last_some : (marks more : List Mark) → is_some (last_started more) ≡ true → is_some (last_started (marks ++ more)) ≡ true
last_some [] more some = some
last_some (Started e ∷ marks) more some = refl
last_some (Fault e cause ∷ marks) more some = last_some marks more some
last_some (Answered a ∷ marks) more some = last_some marks more some
last_some (Flush ∷ marks) more some = last_some marks more some
last_some (GaveUp ∷ marks) more some = last_some marks more some
last_some (Took who now call answer ∷ marks) more some = last_some marks more some
last_some (Issued r e ∷ marks) more some = last_some marks more some

some_started : (groups : List Group) → is_some (last_started (marks_of groups)) ≡ true
some_started [] = refl
some_started (g ∷ groups) = last_some g.1 (marks_of groups) (some_started groups)

-- where a message is needed, a request is open, or the last post was refused
stopped_or_open : (none started stopped others unissued : Bool) → started ≡ true
    → (not none || cond started (stopped && others) unissued) ≡ true
    → (not none || stopped) ≡ true
stopped_or_open true true true others unissued is needed = refl
stopped_or_open true true false others unissued is needed = needed
stopped_or_open true false stopped others unissued is needed = absurd (clash is) where
  clash : ◌≡◌ {A = Bool} false true → ⊥
  clash c = cc
stopped_or_open false started stopped others unissued is needed = refl

-- so calls may wait
waits_now : (drivers : ℕ) (p : RunState) (o : Outbox) → IsSaid (OnlyFollows drivers) p → StoppedRight o p → needs_message (record_of p) o ≡ true
    → gave_up (record_of p) ≡ false → MayWait (marks_of p.scene.noted.groups)
waits_now drivers p o said stopped needed live =
    let marks : List Mark = marks_of p.scene.noted.groups in
    let f : FaultsChangeNothing marks = faults_change_nothing marks in
    let goes : gave_up marks ≡ false = sym f.given_up ∙ sym (ap gave_up (record_is p said.first)) ∙ live in
    let opened : open_requests (record_of p) ≡ open_requests marks = ap open_requests (record_is p said.first) ∙ f.opened_same in
    let started : is_some (last_started (record_of p)) ≡ true =
    ap (λ (l : List Mark). is_some (last_started l)) (record_is p said.first) ∙ ap is_some f.started ∙ some_started p.scene.noted.groups in
    let either : (not (has_none (open_requests marks)) || o.stopped) ≡ true =
    sym (ap (λ (l : List BlockRequest). not (has_none l) || o.stopped) opened)
    ∙ stopped_or_open (has_none (open_requests (record_of p))) (is_some (last_started (record_of p))) o.stopped (not (has_none o.unposted))
    (not (has_none o.never_issued)) started needed in
    record {
      unfinished = or_so (not (has_none (open_requests marks))) o.stopped (awaits_start marks) either
          (λ is. awaits_now drivers p.scene.noted.groups (core_of p) said.said (stopped is) goes);
      not_given_up = goes;
    }

-- so it was at each event before the last one
abbrev EarlierCalled : List Group → Type 0
EarlierCalled [] = Unit {0}
EarlierCalled (g ∷ earlier) = EachGroup CallsAsDue earlier

-- with the last event
all_called : (out : List Arrival) (p : RunState) → p.scene.noted.first ≡ Started (driver 1) ∷ [] → HasCalls out p
    → (reverse (map arrival_of p.queue) ++ out ≢ [] → MayWait (marks_of p.scene.noted.groups)) → EarlierCalled p.scene.noted.groups
    → EachGroup CallsAsDue p.scene.noted.groups
all_called out p first calls waits h = by p.scene.noted.groups refl h where
  last : arrived p.scene.noted.groups ≡ (reverse (map arrival_of p.queue) ++ out) ++ taken (marks_of p.scene.noted.groups)
  last = calls.order
      ∙ ap (λ (l : List Mark). reverse (map arrival_of p.queue) ++ (out ++ taken l)) (record_of_groups p.scene.noted.groups p.scene.noted.first first)
      ∙ sym (append_assoc (reverse (map arrival_of p.queue)) out (taken (marks_of p.scene.noted.groups)))

  by : (groups : List Group) → p.scene.noted.groups ≡ groups → EarlierCalled groups → EachGroup CallsAsDue groups
  by [] is k = tt
  by (g ∷ earlier) is k = (
    record {
      left = reverse (map arrival_of p.queue) ++ out;
      order = subst (λ (l : List Group). arrived l ≡ (reverse (map arrival_of p.queue) ++ out) ++ taken (marks_of l)) is last;
      waits = λ some. subst (λ (l : List Group). MayWait (marks_of l)) is (waits some);
    },
    k,
  )

-- where no call waits and none is answered, none is left
none_left : (out : List Arrival) (p : RunState) → out ≡ [] → p.queue ≡ [] → reverse (map arrival_of p.queue) ++ out ≢ []
    → MayWait (marks_of p.scene.noted.groups)
none_left out p is none some = absurd (some (ap (λ (l : List Arrived). reverse (map arrival_of l) ++ out) none ∙ is))

-- an event is run
next_called : (out : List Arrival) (b a : RunState) (result : Option Incoming) (n : Noted) → RunsEvent b result a
    → n.groups ≡ (with_brought result a.scene.noted).groups
    → b.scene.noted.first ≡ Started (driver 1) ∷ [] → HasCalls out b
    → (reverse (map arrival_of b.queue) ++ out ≢ [] → MayWait (marks_of b.scene.noted.groups))
    → EarlierCalled b.scene.noted.groups → EarlierCalled n.groups
next_called out b a result n p groups first calls waits h =
    let done : EventDone b.next b.owed b.told p.event b.scene result a.scene =
    event_done b.next b.owed b.told p.event b.scene result a.scene first p.plays in
    subst (λ (l : List Group). EarlierCalled l) (sym (groups ∙ done.groups)) (all_called out b first calls waits h)

-- while a call is answered, and may wait
record Called (out : List Arrival) (p : RunState) : Type 0 where
  first : p.scene.noted.first ≡ Started (driver 1) ∷ []
  calls : HasCalls out p
  waits : MayWait (marks_of p.scene.noted.groups)
  earlier : EarlierCalled p.scene.noted.groups

far_called : (out : List Arrival) (b a : RunState) (result : Option Incoming) → Advances b result a → result ≡ None → Called out b
    → Called out a
far_called out b _ _ Stays is h = h
far_called out b a _ (Goes m _ result before last) is h =
    let next : RunsEvent m None a = subst (λ (r : Option Incoming). RunsEvent m r a) is last in
    let k : Called out m = far_called out b m None before refl h in
    let s : Silent m a = silent m a next k.first in
    record {
      first = s.first;
      calls = next_calls out m a next k.calls;
      waits = silent_waits m a s k.waits;
      earlier = next_called out m a None a.scene.noted next refl k.first k.calls (λ some. k.waits) k.earlier;
    }

far_some_called : (out : List Arrival) (b a : RunState) (result : Option Incoming) (message : Incoming) → Advances b result a
    → result ≡ Some message → Called out b
    → EarlierCalled (noting (entry.Received message) a).scene.noted.groups
far_some_called out b _ _ message Stays is h = cc
far_some_called out b a _ message (Goes m _ result before last) is h =
    let k : Called out m = far_called out b m None before refl h in
    next_called out m a (Some message) (with_entry (entry.Received message) a.scene.noted) (subst (λ (r : Option Incoming). RunsEvent m r a) is last) refl k.first k.calls
    (λ some. k.waits) k.earlier

-- a mark more in the last group
mark_called : (n : Noted) (m : Mark) → IsBegun n.groups → EarlierCalled n.groups → EarlierCalled (with_mark m n).groups
mark_called n m begun h =
    subst (λ (l : List Group). EarlierCalled l) (sym (mark_groups n m begun)) (subst (λ (l : List Group). EarlierCalled l) begun.is h)

posts_called : (n : Noted) (to : Endpoint) (r : BlockRequest) (accepted : Bool) → IsBegun n.groups → EarlierCalled n.groups
    → EarlierCalled (with_entry (entry.Posted to r accepted) n).groups
posts_called n to r true begun h = mark_called n (Issued r to) begun h
posts_called n to r false begun h = h

complaint_called : (n : Noted) (about : Endpoint) (fault : Bool) → IsBegun n.groups → EarlierCalled n.groups
    → EarlierCalled (with_entry (entry.Complained about fault) n).groups
complaint_called n about true begun h = mark_called n (Fault about Complaint) begun h
complaint_called n about false begun h = h

tell_called : (b a : RunState) (told : Told) → Turn b told a → took_nothing (told ∷ []) ≡ true → IsBegun b.scene.noted.groups
    → EarlierCalled b.scene.noted.groups
    → EarlierCalled a.scene.noted.groups
tell_called b _ _ (Takes message a far) nothing begun h = cc
tell_called b _ _ (TakesOwed live owed first) nothing begun h = cc
tell_called b _ _ (TakesEnd a live ends) nothing begun h = cc
tell_called b _ _ (Posts to r result d unended lines) nothing begun h = posts_called b.scene.noted to r (is_ok result) begun h
tell_called b _ _ (Complains about) nothing begun h = complaint_called b.scene.noted about (is_fault (ruling_at about b.scene)) begun h

take_called : (out : List Arrival) (b a : RunState) (message : Incoming) → Turn b (Received message) a → IsBegun b.scene.noted.groups
    → Called out b
    → EarlierCalled a.scene.noted.groups
take_called out b _ message (Takes _ a far) begun h = far_some_called out b a (Some message) message far refl h
take_called out b _ _ (TakesOwed live owed first) begun h = mark_called b.scene.noted GaveUp begun h.earlier
take_called out b _ _ (TakesEnd a live ends) begun h = by a ends where
  by : (x : RunState) → ComesToEnd b x → EarlierCalled x.scene.noted.groups
  by _ (IsRunOut x far spent) = (far_called out b x None far refl h).earlier
  by _ (IsStarved x far) = (far_called out b x None far refl h).earlier

record LeavesStand (drivers : ℕ) (m : Moment) : Type 0 where
  calm : OverCalm m
  begun : HasBegun m
  said : IsSaid (OnlyFollows drivers) m.run
  calls : HasCalls (answering m.doing) m.run
  stopped : StoppedRight m.outbox m.run
  earlier : EarlierCalled m.run.scene.noted.groups

step_called : (area : Area) (drivers : ℕ) (m a : Moment) → Step area m a → LeavesStand drivers m → EarlierCalled a.run.scene.noted.groups
step_called area drivers m _ (StepBegins r busy may) k = k.earlier
step_called area drivers m _ (Tells told a busy nothing may turn) k =
    tell_called m.run a told turn nothing (not_before m busy k.begun) k.earlier
step_called area drivers m _ (StepTakes message call a doing may turn) k =
    take_called (arrival_of call ∷ []) m.run a message turn (not_before m (busy_answering m.doing call doing) k.begun) (record {
      first = k.said.first;
      calls = at_work m call doing k.calls;
      waits = waits_now drivers m.run m.outbox k.said k.stopped may.needed may.live;
      earlier = k.earlier;
    })
step_called area drivers m _ (Settles message doing rest) k = k.earlier
step_called area drivers m _ (Brings message a between none next) k =
    next_called [] m.run a (Some message) (with_entry (entry.Handed message) a.scene.noted) next refl k.said.first (at_rest m between.rests k.calls)
    (none_left [] m.run refl none) k.earlier
step_called area drivers m _ (BringsNone a between none next) k =
    next_called [] m.run a None a.scene.noted next refl k.said.first (at_rest m between.rests k.calls) (none_left [] m.run refl none) k.earlier
step_called area drivers m _ (StepPays between owed told) k =
    mark_called m.run.scene.noted GaveUp (not_owed_before m owed k.begun) k.earlier
step_called area drivers m _ (HandsCall call a between paid_so hands) k =
    subst (λ (p : RunState). EarlierCalled p.scene.noted.groups) (sym hands.after) k.earlier
step_called area drivers m _ (StepReplies call reply doing live rest) k =
    mark_called m.run.scene.noted (Took call.who call.now call.call (answer_of reply)) (not_before m (busy_answering m.doing call doing) k.begun) k.earlier

leaves_stand : (area : Area) (drivers : ℕ) (b a : Moment) → Runs area b a → ((m : Moment) → Runs area b m → HasRoom area m)
    → LeavesStand drivers b
    → LeavesStand drivers a
leaves_stand area drivers b _ Starts room h = h
leaves_stand area drivers b a (Then m _ before last) room h =
    let k : LeavesStand drivers m = leaves_stand area drivers b m before room h in
    record {
      calm = step_calm area m a last k.calm;
      begun = step_begun area m a last k.calm k.said.first k.begun;
      said = step_said (OnlyFollows drivers) (follows_kept drivers) area m a last k.calm k.begun k.said;
      calls = step_calls area m a last k.calls;
      stopped = step_stopped area drivers m a last k.begun (room m before) k.said k.stopped;
      earlier = step_called area drivers m a last k;
    }

pub runs_keep_waits : RunsKeepWaits
runs_keep_waits media rules supply events area b a new o rests empty runs room out = by out where
  n : ℕ
  n = length supply

  no_groups : b.run.scene.noted.groups ≡ []
  no_groups = ap (λ (x : Scene). x.noted.groups) o.scene.is

  k : LeavesStand n a
  k = leaves_stand area n b a runs room (record {
    calm = calm_before media rules supply events b o;
    begun = StandsBefore rests o.queue o.owed;
    said = opened_said (OnlyFollows n) media rules supply events b.run o (opened_follows media rules supply o.scene.first o.scene.rest new o.scene.spare);
    calls = opened_calls media rules supply events b o rests;
    stopped = not_stopped b.outbox b.run (ap (λ (x : Outbox). x.stopped) empty);
    earlier = subst (λ (l : List Group). EarlierCalled l) (sym no_groups) tt;
  })

  by : ((a.doing ≡ Resting) × (a.run.queue ≡ [])) ⊎ (a.run.over ≡ true) → EachGroup CallsAsDue a.run.scene.noted.groups
  by (inl idle) = all_called [] a.run k.said.first (at_rest a idle.0 k.calls) (none_left [] a.run refl idle.1) k.earlier
  by (inr over) =
      let need : Needs a = runs_end_needing area b a runs o.over over in
      all_called (answering a.doing) a.run k.said.first k.calls
      (λ some. waits_now n a.run a.outbox k.said k.stopped need.needed need.not_given_up) k.earlier
