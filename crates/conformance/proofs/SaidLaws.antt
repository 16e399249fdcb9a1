-- What each event and what is done within one keep, each step of a run keeps.
use Rattle.std.proofs.Common.{◌≡◌, ℕ, zero, suc, ◌+◌, List, [], ◌∷◌, ◌++◌, Bool, true, false, refl, sym, ◌∙◌, ap, subst}
use Rattle.std.specs.Prelude.{◌||◌, ◌&&◌, not, Option, Some, None, Result, Ok, Err, is_ok, slice_get}
use Rattle.message.specs.declared.endpoint.Endpoint.{Endpoint}
use Rattle.message.specs.declared.BlockRequest.{BlockRequest}
use Rattle.message.specs.declared.Incoming.{Incoming}
use Rattle.message.specs.declared.Incoming.TheVariants as incoming
use Rattle.tree.specs.declared.Reply.{Reply}
use Rattle.tree.specs.Answers.{answer_of}
use Rattle.reincarnate.specs.declared.policy.Event.TheVariants as policy
use Rattle.reincarnate.specs.Watch.{driver, on}
use Rattle.records.specs.Area.{Area}
use Rattle.records.specs.Marks.{Mark, Started, GaveUp, Issued, Fault, Took}
use Rattle.records.specs.declared.marks.Cause.TheVariants.{Complaint}
use Rattle.records.specs.Told.{Told, Posted, Complained, Received, took_nothing}
use Rattle.records.specs.Acts.{AtLink, Outbox, MayAct, owed_after_act, owed_after_message}
use Rattle.schedule.specs.declared.Event.{Event}
use Rattle.schedule.specs.Groups.{Group}
use Rattle.reissue.specs.declared.link.LinkRefusal.{LinkRefusal}
use Rattle.schedule.specs.Noted.{Noted, grouped, with_mark, with_message, with_entry}
use Rattle.schedule.specs.declared.log.Post.{Post}
use Rattle.schedule.specs.declared.log.LogEntry.{LogEntry}
use Rattle.schedule.specs.declared.log.LogEntry.TheVariants as entry
use Rattle.simulated_link.specs.declared.events.ruling.Ruling.{Ruling}
use Rattle.simulated_link.specs.Ruling.{is_fault, gives_up}
use Rattle.simulated_link.specs.Disks.{Disks, LinesUp, NoneIsThere, LineIsFull, IsLinedUp}
use Rattle.simulated_link.specs.Scene.{ruled}
use Rattle.schedule.specs.declared.arrived.Arrived.{Arrived}
use Rattle.simulated_link.specs.StateView.{RunState, RunsEvent, Advances, Stays, Goes, Turn, Takes, TakesOwed, TakesEnd, Posts, Complains, ComesToEnd, IsRunOut, IsStarved, HandsOut, noting, paid, ended, posted, complained, ruling_at}
use Rattle.simulated_link.specs.Moments.{Doing, Resting, Hearing, Answering, is_busy, Moment, record_of, Step, Begins as StepBegins, Tells, Takes as StepTakes, Settles, Brings, BringsNone, Pays as StepPays, HandsCall, Replies as StepReplies, Runs, Starts, Then}
use Rattle.conformance.specs.Core.{Core}
use Rattle.conformance.specs.Seen.{core_at, with_brought, EventDone}
use Rattle.conformance.specs.Happens.{AtReport, Begins, Adds, AddsNothing, Posts as AddsPost, Replies, Complains as AddsComplaint, Pays}
use Rattle.conformance.specs.Steady.{IsKept}
use Rattle.conformance.proofs.Events.{event_done, Reported, reported, ruling_for}
use Rattle.conformance.specs.Said.{core_of, IsSaid, IsBegun, HasBegun, Began, StandsBefore, OverCalm}

-- a complaint, by what is ruled
abbrev pub complained_as : Ruling → Endpoint → RunState → RunState
complained_as u about b = noting (entry.Complained about (is_fault u)) (record b {
  scene = ruled (policy.Complaint about b.scene.tick) b.scene;
  owed = b.owed || (gives_up u && not b.told);
})

-- while the link hasn't ended a complaint is that
pub complained_is : (b : RunState) (about : Endpoint) → b.over ≡ false → complained about b ≡ complained_as (ruling_at about b.scene) about b
complained_is b about live = ap (λ (o : Bool). record (complained about b) { owed = o })
    (ap (λ (t : Bool). b.owed || (gives_up (ruling_at about b.scene) && not b.told && not t)) live ∙ by b.owed (gives_up (ruling_at about b.scene)) b.told) where
      by : (owed gives told : Bool) → (owed || (gives && not told && not false)) ≡ (owed || (gives && not told))
      by true gives told = refl
      by false true true = refl
      by false true false = refl
      by false false told = refl

module _ (Said : ℕ → List Group → Core → Type 0) (kept : IsKept Said) where
  -- an event is run, and the message that it brings is noted
  next_brought : (b a : RunState) (result : Option Incoming) (n : Noted) → RunsEvent b result a → n.groups ≡ (with_brought result a.scene.noted).groups
      → n.first ≡ (with_brought result a.scene.noted).first → n.posts ≡ a.scene.noted.posts → IsSaid Said b
      → IsSaid Said (record a { scene = record (a.scene) { noted = n } })
  next_brought b a result n p groups first posts h =
      let done : EventDone b.next b.owed b.told p.event b.scene result a.scene = event_done b.next b.owed b.told p.event b.scene result a.scene h.first p.plays in
      let after : Said (b.next + 1) ((p.event, done.marks) ∷ b.scene.noted.groups) (core_at a.scene b.owed b.told) =
      kept.begins b.next b.scene.noted.groups (core_of b) (core_at a.scene b.owed b.told) p.event done.marks p.paid done.begins h.said in
      record {
        first = first ∙ done.first ∙ h.first;
        said = subst (λ (l : List Post). Said a.next n.groups (record (core_of a) { posts = l })) (sym posts)
            (subst (λ (k : ℕ). Said k n.groups (core_of a)) (sym p.next)
            (subst (λ (l : List Group). Said (b.next + 1) l (core_of a)) (sym (groups ∙ done.groups))
            (subst (λ (o : Bool). Said (b.next + 1) ((p.event, done.marks) ∷ b.scene.noted.groups) (core_at a.scene o a.told)) (sym p.owed)
            (subst (λ (t : Bool). Said (b.next + 1) ((p.event, done.marks) ∷ b.scene.noted.groups) (core_at a.scene b.owed t)) (sym p.told) after))));
      }

  pub next_none : (b a : RunState) → RunsEvent b None a → IsSaid Said b → IsSaid Said a
  next_none b a p h = next_brought b a None a.scene.noted p refl refl refl h

  pub next_received : (b a : RunState) (m : Incoming) → RunsEvent b (Some m) a → IsSaid Said b → IsSaid Said (noting (entry.Received m) a)
  next_received b a m p h = next_brought b a (Some m) (with_entry (entry.Received m) a.scene.noted) p refl refl refl h

  pub next_handed : (b a : RunState) (m : Incoming) → RunsEvent b (Some m) a → IsSaid Said b → IsSaid Said (noting (entry.Handed m) a)
  next_handed b a m p h = next_brought b a (Some m) (with_entry (entry.Handed m) a.scene.noted) p refl refl refl h

  -- events are run
  advance_none : (b a : RunState) (result : Option Incoming) → Advances b result a → result ≡ None → IsSaid Said b → IsSaid Said a
  advance_none b _ _ Stays is h = h
  advance_none b a _ (Goes m _ result before last) is h =
      next_none m a (subst (λ (r : Option Incoming). RunsEvent m r a) is last) (advance_none b m None before refl h)

  advance_some : (b a : RunState) (result : Option Incoming) (m : Incoming) → Advances b result a → result ≡ Some m → IsSaid Said b
      → IsSaid Said (noting (entry.Received m) a)
  advance_some b _ _ m Stays is h = cc
  advance_some b a _ m (Goes x _ result before last) is h =
      next_received x a m (subst (λ (r : Option Incoming). RunsEvent x r a) is last) (advance_none b x None before refl h)

  -- a mark more in the last group
  marked : (b : RunState) (c : Core) (m : Mark) (n : Noted) (marks : List Mark) (begun : IsBegun b.scene.noted.groups)
      → n.groups ≡ (with_mark m b.scene.noted).groups → n.first ≡ (with_mark m b.scene.noted).first → Adds (core_of b) (m ∷ []) c → IsSaid Said b
      → (n.first ≡ Started (driver 1) ∷ []) × Said b.next n.groups c
  marked b c m n marks begun groups first adds h =
      let g : (with_mark m b.scene.noted).groups ≡ (begun.event, m ∷ begun.group) ∷ begun.earlier =
      ap (λ (l : List Group). (grouped m l b.scene.noted.first b.scene.noted).groups) begun.is in
      let f : (with_mark m b.scene.noted).first ≡ b.scene.noted.first =
      ap (λ (l : List Group). (grouped m l b.scene.noted.first b.scene.noted).first) begun.is in
      let was : Said b.next ((begun.event, begun.group) ∷ begun.earlier) (core_of b) = subst (λ (l : List Group). Said b.next l (core_of b)) begun.is h.said in (
        first ∙ f ∙ h.first,
        subst (λ (l : List Group). Said b.next l c) (sym (groups ∙ g)) (kept.adds b.next begun.event begun.group begun.earlier (core_of b) c (m ∷ []) adds was),
      )

  owed_told : (b : RunState) (e : LogEntry) → (with_entry e b.scene.noted).groups ≡ (with_mark GaveUp b.scene.noted).groups
      → (with_entry e b.scene.noted).first ≡ (with_mark GaveUp b.scene.noted).first → (with_entry e b.scene.noted).posts ≡ b.scene.noted.posts
      → b.owed ≡ true → IsBegun b.scene.noted.groups → IsSaid Said b → IsSaid Said (noting e (paid b))
  owed_told b e groups first posts owed begun h =
      let k : ((with_entry e b.scene.noted).first ≡ Started (driver 1) ∷ []) × Said b.next (with_entry e b.scene.noted).groups (core_of (paid b)) =
      marked b (core_of (paid b)) GaveUp (with_entry e b.scene.noted) [] begun groups first (Pays owed) h in
      record {
        first = k.0;
        said = subst (λ (l : List Post). Said b.next (with_entry e b.scene.noted).groups (record (core_of (paid b)) { posts = l })) (sym posts) k.1;
      }

  posts_said : (b : RunState) (to : Endpoint) (r : BlockRequest) (result : Result (Unit {0}) LinkRefusal) (d : Disks) → LinesUp to r b.scene.disks result d
      → IsBegun b.scene.noted.groups → IsSaid Said b → IsSaid Said (posted to r (is_ok result) d b)
  posts_said b to r _ _ (NoneIsThere none) begun h = record { first = h.first; said = h.said }
  posts_said b to r _ _ (LineIsFull there full) begun h = record { first = h.first; said = h.said }
  posts_said b to r _ d (IsLinedUp there few) begun h =
      let n : Noted = with_entry (entry.Posted to r true) b.scene.noted in
      let k : (n.first ≡ Started (driver 1) ∷ []) × Said b.next n.groups (core_of (posted to r true d b)) =
      marked b (core_of (posted to r true d b)) (Issued r to) n [] begun refl refl (AddsPost r to d (IsLinedUp there few)) h in
      record { first = k.0; said = k.1 }

  complains_as : (b : RunState) (about : Endpoint) (ends : Option Bool)
      → AtReport b.scene.policy b.scene.watch about b.scene.tick ends (on b.scene.policy b.scene.watch (policy.Complaint about b.scene.tick)).0
      → IsBegun b.scene.noted.groups → IsSaid Said b → IsSaid Said (complained_as (ruling_for ends) about b)
  complains_as b about None report begun h =
      let c : Core = core_of (complained_as (ruling_for None) about b) in
      let was : Said b.next ((begun.event, begun.group) ∷ begun.earlier) (core_of b) = subst (λ (l : List Group). Said b.next l (core_of b)) begun.is h.said in
      record {
        first = h.first;
        said = subst (λ (l : List Group). Said b.next l c) (sym begun.is)
            (kept.adds b.next begun.event begun.group begun.earlier (core_of b) c [] (AddsComplaint about None _ report) was);
      }
  complains_as b about (Some true) report begun h =
      let a : RunState = complained_as (ruling_for (Some true)) about b in
      let k : (a.scene.noted.first ≡ Started (driver 1) ∷ []) × Said b.next a.scene.noted.groups (core_of a) =
      marked b (core_of a) (Fault about Complaint) a.scene.noted [] begun refl refl (AddsComplaint about (Some true) _ report) h in
      record { first = k.0; said = k.1 }
  complains_as b about (Some false) report begun h =
      let a : RunState = complained_as (ruling_for (Some false)) about b in
      let k : (a.scene.noted.first ≡ Started (driver 1) ∷ []) × Said b.next a.scene.noted.groups (core_of a) =
      marked b (core_of a) (Fault about Complaint) a.scene.noted [] begun refl refl (AddsComplaint about (Some false) _ report) h in
      record { first = k.0; said = k.1 }

  complains_said : (b : RunState) (about : Endpoint) → b.over ≡ false → IsBegun b.scene.noted.groups → IsSaid Said b → IsSaid Said (complained about b)
  complains_said b about live begun h =
      let r : Reported b.scene.policy b.scene.watch about b.scene.tick (on b.scene.policy b.scene.watch (policy.Complaint about b.scene.tick)) =
      reported b.scene.policy b.scene.watch about b.scene.tick in
      subst (λ (p : RunState). IsSaid Said p) (sym (complained_is b about live))
      (subst (λ (u : Ruling). IsSaid Said (complained_as u about b)) (sym r.ruled) (complains_as b about r.ends r.report begun h))

  end_said : (b a : RunState) → ComesToEnd b a → IsSaid Said b → IsSaid Said (ended a)
  end_said b _ (IsRunOut a far spent) h = let k : IsSaid Said a = advance_none b a None far refl h in record { first = k.first; said = k.said }
  end_said b _ (IsStarved a far) h = let k : IsSaid Said a = advance_none b a None far refl h in record { first = k.first; said = k.said }

  -- a turn of the server at its link
  pub turn_said : (b a : RunState) (told : Told) → Turn b told a → ((about : Endpoint) → told ≡ Complained about → b.over ≡ false)
      → IsBegun b.scene.noted.groups → IsSaid Said b → IsSaid Said a
  turn_said b _ _ (Takes message a far) live begun h = advance_some b a (Some message) message far refl h
  turn_said b _ _ (TakesOwed still owed first) live begun h = owed_told b (entry.Received incoming.GaveUp) refl refl refl owed begun h
  turn_said b _ _ (TakesEnd a still ends) live begun h = end_said b a ends h
  turn_said b _ _ (Posts to r result d unended lines) live begun h = posts_said b to r result d lines begun h
  turn_said b _ _ (Complains about) live begun h = complains_said b about (live about refl) begun h

  replied_said : (b : RunState) (call : Arrived) (reply : Reply) → IsBegun b.scene.noted.groups → IsSaid Said b
      → IsSaid Said (noting (entry.Took call.who call.now call.call reply) b)
  replied_said b call reply begun h =
      let a : RunState = noting (entry.Took call.who call.now call.call reply) b in
      let k : (a.scene.noted.first ≡ Started (driver 1) ∷ []) × Said b.next a.scene.noted.groups (core_of a) =
      marked b (core_of a) (Took call.who call.now call.call (answer_of reply)) a.scene.noted [] begun refl refl
      (Replies call.who call.now call.call (answer_of reply)) h in
      record { first = k.0; said = k.1 }

  out_said : (b a : RunState) (result : Option Arrived) → HandsOut b result a → IsSaid Said b → IsSaid Said a
  out_said b a result hands h = subst (λ (p : RunState). IsSaid Said p) (sym hands.after) (record { first = h.first; said = h.said })

-- before the first event nothing is done at the link
pub not_before : (m : Moment) → is_busy m.doing ≡ true → HasBegun m → IsBegun m.run.scene.noted.groups
not_before m busy (Began begun) = begun
not_before m busy (StandsBefore rests queue owed) = absurd (clash (sym (ap is_busy rests) ∙ busy)) where
  clash : ◌≡◌ {A = Bool} false true → ⊥
  clash e = cc

pub not_owed_before : (m : Moment) → m.run.owed ≡ true → HasBegun m → IsBegun m.run.scene.noted.groups
not_owed_before m owed (Began begun) = begun
not_owed_before m owed (StandsBefore rests queue paid_so) = absurd (clash (sym paid_so ∙ owed)) where
  clash : ◌≡◌ {A = Bool} false true → ⊥
  clash e = cc

pub none_waits_before : (m : Moment) (call : Arrived) (a : RunState) → HandsOut m.run (Some call) a → HasBegun m → IsBegun m.run.scene.noted.groups
none_waits_before m call a hands (Began begun) = begun
none_waits_before m call a hands (StandsBefore rests queue owed) = absurd (clash (hands.first ∙ ap (λ (l : List Arrived). slice_get l 0) queue)) where
  clash : Some call ≡ None → ⊥
  clash e = cc

pub busy_hearing : (d : Doing) (message : Incoming) → d ≡ Hearing message → is_busy d ≡ true
busy_hearing d message is = ap is_busy is

pub busy_answering : (d : Doing) (call : Arrived) → d ≡ Answering call → is_busy d ≡ true
busy_answering d call is = ap is_busy is

-- a complaint is made before the link has ended
pub may_complain : (area : Area) (m : Moment) (told : Told) → OverCalm m → MayAct area (record_of m.run) m.outbox (AtLink told)
    → (about : Endpoint) → told ≡ Complained about → m.run.over ≡ false
may_complain area m told calm may about is = by m.run.over refl where
  owed : m.outbox.complaint ≡ Some about
  owed = subst (λ (t : Told). MayAct area (record_of m.run) m.outbox (AtLink t)) is may

  by : (b : Bool) → m.run.over ≡ b → m.run.over ≡ false
  by true over = absurd (clash (sym (calm.none over) ∙ owed)) where
    clash : None ≡ Some about → ⊥
    clash e = cc
  by false live = live

far_over : (b a : RunState) (result : Option Incoming) → Advances b result a → a.over ≡ b.over
far_over b _ _ Stays = refl
far_over b a _ (Goes m _ result before last) = last.over ∙ far_over b m None before

some_live : (b a : RunState) (result : Option Incoming) (message : Incoming) → Advances b result a → result ≡ Some message → a.over ≡ false
some_live b _ _ message Stays is = cc
some_live b a _ message (Goes m _ result before last) is = last.over ∙ last.live

live_calm : (over : Bool) (owed : Option Endpoint) → over ≡ false → over ≡ true → owed ≡ None
live_calm over owed live is = cc

turn_calm : (area : Area) (b a : RunState) (told : Told) (o : Outbox) → Turn b told a → took_nothing (told ∷ []) ≡ true → MayAct area (record_of b) o (AtLink told)
    → (b.over ≡ true → o.complaint ≡ None) → a.over ≡ true → (owed_after_act (AtLink told) (record_of b) o).complaint ≡ None
turn_calm area b _ _ o (Takes message a far) nothing may calm over = cc
turn_calm area b _ _ o (TakesOwed live owed first) nothing may calm over = cc
turn_calm area b _ _ o (TakesEnd a live ends) nothing may calm over = cc
turn_calm area b _ _ o (Posts to r result d unended lines) nothing may calm over = by (is_ok result) where
  by : (t : Bool) → (owed_after_act (AtLink (Posted to r t)) (record_of b) o).complaint ≡ None
  by true = calm over
  by false = calm over
turn_calm area b _ _ o (Complains about) nothing may calm over = refl

take_calm : (b a : RunState) (told : Told) (message : Incoming) (o : Outbox) → Turn b told a → told ≡ Received message → o.complaint ≡ None → a.over ≡ true
    → (owed_after_message message (record_of b) o).complaint ≡ None
take_calm b _ _ message o (Takes m a far) is none over = live_calm a.over _ (some_live b a (Some m) m far refl) over
take_calm b _ _ message o (TakesOwed live owed first) is none over = live_calm b.over _ live over
take_calm b _ _ message o (TakesEnd a live ends) is none over = still message is where
  still : (x : Incoming) → Received incoming.End ≡ Received x → (owed_after_message x (record_of b) o).complaint ≡ None
  still (incoming.Reply a') e = cc
  still (incoming.Started e') e = cc
  still incoming.GaveUp e = cc
  still incoming.Flush e = cc
  still incoming.End e = none
take_calm b _ _ message o (Posts to r result d unended lines) is none over = cc
take_calm b _ _ message o (Complains about) is none over = cc

paid_calm : (o : Outbox) (marks : List Mark) → o.complaint ≡ None → (owed_after_message incoming.GaveUp marks o).complaint ≡ None
paid_calm o marks none = none

-- once the link has ended no complaint is owed
pub step_calm : (area : Area) (m a : Moment) → Step area m a → OverCalm m → OverCalm a
step_calm area m _ (StepBegins r busy may) calm = record { none = calm.none }
step_calm area m _ (Tells told a busy nothing may turn) calm = record { none = turn_calm area m.run a told m.outbox turn nothing may calm.none }
step_calm area m _ (StepTakes message call a doing may turn) calm = record { none = take_calm m.run a (Received message) message m.outbox turn refl may.at_rest.complaint }
step_calm area m _ (Settles message doing rest) calm = record { none = calm.none }
step_calm area m _ (Brings message a between none next) calm = record { none = live_calm a.over _ (next.over ∙ between.live) }
step_calm area m _ (BringsNone a between none next) calm = record { none = λ over. between.at_rest.complaint }
step_calm area m _ (StepPays between owed told) calm = record { none = λ over. paid_calm m.outbox (record_of m.run) between.at_rest.complaint }
step_calm area m _ (HandsCall call a between paid_so hands) calm = record { none = λ over. between.at_rest.complaint }
step_calm area m _ (StepReplies call reply doing live rest) calm = record { none = λ over. rest.complaint }

module _ (Said : ℕ → List Group → Core → Type 0) (kept : IsKept Said) where
  -- a step of a run
  pub step_said : (area : Area) (m a : Moment) → Step area m a → OverCalm m → HasBegun m → IsSaid Said m.run → IsSaid Said a.run
  step_said area m _ (StepBegins r busy may) calm begun h = h
  step_said area m _ (Tells told a busy nothing may turn) calm begun h = turn_said Said kept m.run a told turn (may_complain area m told calm may) (not_before m busy begun) h
  step_said area m _ (StepTakes message call a doing may turn) calm begun h =
      turn_said Said kept m.run a (Received message) turn (λ about is. cc) (not_before m (busy_answering m.doing call doing) begun) h
  step_said area m _ (Settles message doing rest) calm begun h = h
  step_said area m _ (Brings message a between none next) calm begun h = next_handed Said kept m.run a message next h
  step_said area m _ (BringsNone a between none next) calm begun h = next_none Said kept m.run a next h
  step_said area m _ (StepPays between owed told) calm begun h =
      owed_told Said kept m.run (entry.Handed incoming.GaveUp) refl refl refl owed (not_owed_before m owed begun) h
  step_said area m _ (HandsCall call a between paid_so hands) calm begun h = out_said Said kept m.run a (Some call) hands h
  step_said area m _ (StepReplies call reply doing live rest) calm begun h =
      replied_said Said kept m.run call reply (not_before m (busy_answering m.doing call doing) begun) h

-- an event that began stays begun
abbrev Some_began : ℕ → List Group → Core → Type 0
Some_began place groups c = IsBegun groups

began_kept : IsKept Some_began
began_kept = record {
  begins = λ place groups c a event marks paid begins h. record { event = event; group = marks; earlier = groups; is = refl };
  adds = λ place event group earlier c a marks adds h. record { event = event; group = marks ++ group; earlier = earlier; is = refl };
}

next_began : (b a : RunState) (result : Option Incoming) (e : LogEntry) → b.scene.noted.first ≡ Started (driver 1) ∷ [] → RunsEvent b result a
    → (n : Noted) → n.groups ≡ (with_brought result a.scene.noted).groups → IsBegun n.groups
next_began b a result e first p n groups =
    let done : EventDone b.next b.owed b.told p.event b.scene result a.scene = event_done b.next b.owed b.told p.event b.scene result a.scene first p.plays in
    record { event = p.event; group = done.marks; earlier = b.scene.noted.groups; is = groups ∙ done.groups }

pub step_begun : (area : Area) (m a : Moment) → Step area m a → OverCalm m → m.run.scene.noted.first ≡ Started (driver 1) ∷ [] → HasBegun m → HasBegun a
step_begun area m _ (StepBegins r busy may) calm first begun = Began (not_before m busy begun)
step_begun area m _ (Tells told a busy nothing may turn) calm first begun = let g : IsBegun m.run.scene.noted.groups = not_before m busy begun in
    Began (turn_said Some_began began_kept m.run a told turn (may_complain area m told calm may) g (record { first = first; said = g })).said
step_begun area m _ (StepTakes message call a doing may turn) calm first begun =
    let g : IsBegun m.run.scene.noted.groups = not_before m (busy_answering m.doing call doing) begun in
    Began (turn_said Some_began began_kept m.run a (Received message) turn (λ about is. cc) g (record { first = first; said = g })).said
step_begun area m _ (Settles message doing rest) calm first begun = Began (not_before m (busy_hearing m.doing message doing) begun)
step_begun area m _ (Brings message a between none next) calm first begun =
    Began (next_began m.run a (Some message) (entry.Handed message) first next (with_entry (entry.Handed message) a.scene.noted) refl)
step_begun area m _ (BringsNone a between none next) calm first begun =
    Began (next_began m.run a None (entry.Handed incoming.GaveUp) first next a.scene.noted refl)
step_begun area m _ (StepPays between owed told) calm first begun = let g : IsBegun m.run.scene.noted.groups = not_owed_before m owed begun in
    Began (owed_told Some_began began_kept m.run (entry.Handed incoming.GaveUp) refl refl refl owed g (record { first = first; said = g })).said
step_begun area m _ (HandsCall call a between paid_so hands) calm first begun =
    let g : IsBegun m.run.scene.noted.groups = none_waits_before m call a hands begun in
    Began (out_said Some_began began_kept m.run a (Some call) hands (record { first = first; said = g })).said
step_begun area m _ (StepReplies call reply doing live rest) calm first begun =
    let g : IsBegun m.run.scene.noted.groups = not_before m (busy_answering m.doing call doing) begun in
    Began (replied_said Some_began began_kept m.run call reply g (record { first = first; said = g })).said

record Stands (Said : ℕ → List Group → Core → Type 0) (m : Moment) : Type 0 where
  calm : OverCalm m
  begun : HasBegun m
  said : IsSaid Said m.run

stands_on : (Said : ℕ → List Group → Core → Type 0) → IsKept Said → (area : Area) (b a : Moment) → Runs area b a → Stands Said b → Stands Said a
stands_on Said kept area b _ Starts h = h
stands_on Said kept area b a (Then m _ before last) h = let k : Stands Said m = stands_on Said kept area b m before h in
    record { calm = step_calm area m a last k.calm; begun = step_begun area m a last k.calm k.said.first k.begun; said = step_said Said kept area m a last k.calm k.begun k.said }

-- a whole run
pub runs_said : (Said : ℕ → List Group → Core → Type 0) → IsKept Said → (area : Area) (b a : Moment) → Runs area b a → OverCalm b → HasBegun b → IsSaid Said b.run
    → IsSaid Said a.run
runs_said Said kept area b a runs calm begun h = (stands_on Said kept area b a runs (record { calm = calm; begun = begun; said = h })).said
