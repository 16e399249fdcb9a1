-- An exact run begins with an exact run of each beginning of its schedule.
use Rattle.std.proofs.Common.{◌≡◌, ◌⊎◌, inl, inr, ℕ, zero, suc, ◌+◌, ◌<◌, ◌≤◌, List, [], ◌∷◌, ◌++◌, length, take, true, false, refl, sym}
use Rattle.std.proofs.Common.{◌∙◌, ap, subst, arith}
use Rattle.std.specs.Prelude.{Option, Some, None, slice_get}
use Rattle.std.specs.List.{concat}
use Rattle.std.proofs.lemmas.List.{append_assoc}
use Rattle.message.specs.declared.Incoming.{Incoming}
use Rattle.message.specs.declared.Incoming.TheVariants as incoming
use Rattle.layout.specs.declared.Geometry.{Geometry}
use Rattle.media.specs.Contents.{MediaState}
use Rattle.bdev.specs.DriverState.{DriverState}
use Rattle.reincarnate.specs.declared.policy.Policy.{Policy}
use Rattle.reincarnate.specs.declared.policy.Setup.{Setup}
use Rattle.reincarnate.specs.Watch.{Watch, new_watch}
use Rattle.records.specs.Area.{Area, area_of}
use Rattle.records.specs.Marks.{Mark}
use Rattle.records.specs.Told.{Told, Received, took_nothing}
use Rattle.records.specs.Acts.{AtLink, owed_after_act, MayTake}
use Rattle.schedule.specs.declared.Sent.{Sent}
use Rattle.schedule.specs.declared.Event.{Event}
use Rattle.schedule.specs.declared.arrived.Arrived.{Arrived}
use Rattle.schedule.specs.declared.log.LogEntry.TheVariants as entry
use Rattle.schedule.specs.Groups.{Group, marks_of, Each}
use Rattle.schedule.specs.Headline.{Transcript}
use Rattle.schedule.specs.Noted.{Noted, marks_in, with_entry}
use Rattle.simulated_link.specs.Scene.{Scene}
use Rattle.simulated_link.specs.StateView as link
use Rattle.simulated_link.specs.StateView.{RunState, RunsEvent, Advances, Stays, Goes, ComesToEnd, IsRunOut, IsStarved, Turn}
use Rattle.simulated_link.specs.StateView.{IsSpent, IsOpened, noting, paid, ended, starving}
use Rattle.simulated_link.specs.Moments.{Answering, Moment, IsBetween, record_of, hearing, at_link, Step, Begins, Tells, Takes, Settles}
use Rattle.simulated_link.specs.Moments.{Brings, BringsNone, Pays, HandsCall, Replies, Runs, Starts, Then}
use Rattle.simulated_link.proofs.Running.{far_record}
use Rattle.simulated_link.proofs.Needing.{runs_end_needing}
use Rattle.conformance.specs.Core.{Core}
use Rattle.conformance.specs.Happens as happens
use Rattle.conformance.specs.Seen.{core_at, with_brought, EventDone}
use Rattle.conformance.specs.Steady.{IsKept, drivers_of}
use Rattle.conformance.specs.Said.{core_of, IsSaid, HasBegun, StandsBefore, OverCalm}
use Rattle.conformance.proofs.AnswerLaws.{SentMore, begins_sent, lines_sent}
use Rattle.conformance.proofs.Events.{event_done, record_of_groups}
use Rattle.conformance.proofs.SaidLaws.{next_none, next_received, step_calm, step_begun, step_said}
use Rattle.world.specs.Starts.{at_first}
use Rattle.world.specs.Exact.{IsExact, IsOver, IsReadOff, media_with, unanswered_in}
use Rattle.world.specs.FirstEvents.{with_first, EndsAt, AsItStands, OnceEnded, ComesTo, Comes, BeginsWith, RunsHaveBeginnings}

-- ---- the first n events of a schedule

got_of_first : (events : List Event) (n k : ℕ) → k < n → slice_get (take n events) k ≡ slice_get events k
got_of_first [] zero k low = absurd (omega (arith, low))
got_of_first [] (suc n) k low = refl
got_of_first (x ∷ events) zero k low = absurd (omega (arith, low))
got_of_first (x ∷ events) (suc n) zero low = refl
got_of_first (x ∷ events) (suc n) (suc k) low = got_of_first events n k (omega (arith, low))

at_most : (n : ℕ) (events : List Event) → length (take n events) ≤ n
at_most zero [] = omega arith
at_most (suc n) [] = omega arith
at_most zero (x ∷ events) = omega arith
at_most (suc n) (x ∷ events) = let h : length (take n events) ≤ n = at_most n events in omega (arith, h)

no_more_than_all : (n : ℕ) (events : List Event) → length (take n events) ≤ length events
no_more_than_all zero [] = omega arith
no_more_than_all (suc n) [] = omega arith
no_more_than_all zero (x ∷ events) = omega arith
no_more_than_all (suc n) (x ∷ events) = let h : length (take n events) ≤ length events = no_more_than_all n events in omega (arith, h)

below_or_not : (k n : ℕ) → (k < n) ⊎ (n ≤ k)
below_or_not k zero = inr (omega arith)
below_or_not zero (suc n) = inl (omega arith)
below_or_not (suc k) (suc n) = elim (below_or_not k n) [ inl h ↦ inl (omega (arith, h)) | inr h ↦ inr (omega (arith, h)) ]

-- a run, where the schedule has its first n events alone
abbrev first_of : ℕ → RunState → RunState
first_of n p = record p { events = take n p.events }

event_of_first : (n : ℕ) (b a : RunState) (result : Option Incoming) → b.next < n → RunsEvent b result a
    → RunsEvent (first_of n b) result (first_of n a)
event_of_first n b a result low r = record {
  event = r.event;
  live = r.live;
  paid = r.paid;
  is = got_of_first b.events n b.next low ∙ r.is;
  latest = r.latest;
  plays = r.plays;
  queue = r.queue;
  events = ap (λ (l : List Event). take n l) r.events;
  next = r.next;
  owed = r.owed;
  told = r.told;
  over = r.over;
  starved = r.starved;
}

far_of_first : (n : ℕ) (b a : RunState) (result : Option Incoming) → Advances b result a → a.next ≤ n
    → Advances (first_of n b) result (first_of n a)
far_of_first n b _ _ Stays low = Stays
far_of_first n b a _ (Goes m _ result before last) low =
    let here : m.next < n = (let h : a.next ≡ m.next + 1 = last.next in omega (arith, h, low)) in
    Goes (first_of n m) (first_of n a) result (far_of_first n b m None before (omega (arith, here))) (event_of_first n m a result here last)

far_over : (b a : RunState) (result : Option Incoming) → Advances b result a → a.over ≡ b.over
far_over b _ _ Stays = refl
far_over b a _ (Goes m _ result before last) = last.over ∙ far_over b m None before

-- where more events are run than the first n, those come first
record Parts (n : ℕ) (b : RunState) (result : Option Incoming) (a : RunState) : Type 0 where
  middle : RunState
  before : Advances b None middle
  at : middle.next ≡ n
  paid : middle.owed ≡ false
  live : middle.over ≡ false
  after : Advances middle result a

parts : (n : ℕ) (b a : RunState) (result : Option Incoming) → Advances b result a → b.next ≤ n → n < a.next → Parts n b result a
parts n b _ _ Stays low past = absurd (omega (arith, low, past))
parts n b a _ (Goes m _ result before last) low past = elim (below_or_not n m.next) [
  | inl sooner ↦
      let p : Parts n b None m = parts n b m None before low sooner in
      record {
        middle = p.middle;
        before = p.before;
        at = p.at;
        paid = p.paid;
        live = p.live;
        after = Goes m a result p.after last;
      }
  | inr here ↦ record {
    middle = m;
    before = before;
    at = (let h : a.next ≡ m.next + 1 = last.next in omega (arith, h, here, past));
    paid = last.paid;
    live = last.live;
    after = Goes m a result Stays last;
  }
]

-- what is told to the link, and gives nothing, runs no event
tells_of_first : (n : ℕ) (b a : RunState) (told : Told) → Turn b told a → took_nothing (told ∷ []) ≡ true
    → Turn (first_of n b) told (first_of n a)
tells_of_first n b _ _ (link.Takes message a far) nothing = cc
tells_of_first n b _ _ (link.TakesOwed live owed first) nothing = cc
tells_of_first n b _ _ (link.TakesEnd a live ends) nothing = cc
tells_of_first n b _ _ (link.Posts to r result d unended lines) nothing = link.Posts to r result d unended lines
tells_of_first n b _ _ (link.Complains about) nothing = link.Complains about

tells_none_next : (b a : RunState) (told : Told) → Turn b told a → took_nothing (told ∷ []) ≡ true → a.next ≡ b.next
tells_none_next b _ _ (link.Takes message a far) nothing = cc
tells_none_next b _ _ (link.TakesOwed live owed first) nothing = cc
tells_none_next b _ _ (link.TakesEnd a live ends) nothing = cc
tells_none_next b _ _ (link.Posts to r result d unended lines) nothing = refl
tells_none_next b _ _ (link.Complains about) nothing = refl

between_first : (n : ℕ) (m : Moment) → IsBetween m → IsBetween (with_first n m)
between_first n m between = record { rests = between.rests; live = between.live; at_rest = between.at_rest }

-- ---- what comes later

-- nothing is said
abbrev Anything : ℕ → List Group → Core → Type 0
Anything place groups c = Unit {0}

anything_kept : IsKept Anything
anything_kept = record {
  begins = λ place groups c a event marks paid begins h. tt;
  adds = λ place event group earlier c a marks adds h. tt;
}

record Stood (m : Moment) : Type 0 where
  calm : OverCalm m
  begun : HasBegun m
  first : IsSaid Anything m.run

stood_on : (area : Area) (b a : Moment) → Runs area b a → Stood b → Stood a
stood_on area b _ Starts h = h
stood_on area b a (Then m _ before last) h =
    let k : Stood m = stood_on area b m before h in
    record {
      calm = step_calm area m a last k.calm;
      begun = step_begun area m a last k.calm k.first.first k.begun;
      first = step_said Anything anything_kept area m a last k.calm k.begun k.first;
    }

far_first : (b a : RunState) (result : Option Incoming) → Advances b result a → result ≡ None → IsSaid Anything b → IsSaid Anything a
far_first b _ _ Stays is h = h
far_first b a _ (Goes m _ result before last) is h =
    next_none Anything anything_kept m a (subst (λ (r : Option Incoming). RunsEvent m r a) is last) (far_first b m None before refl h)

-- since these groups and these replies an event was run, the one with number n or a later one
record Grown (n : ℕ) (was : List Group) (sent : List Sent) (place : ℕ) (groups : List Group) (c : Core) : Type 0 where
  low : n ≤ place
  last : Group
  more : List Group
  groups_are : groups ≡ last ∷ (more ++ was)
  later_sent : List Sent
  sent_are : c.disks.sent ≡ sent ++ later_sent
  places : Each (λ reply. n ≤ reply.place) later_sent

each_later : (n m : ℕ) (sent : List Sent) → n ≤ m → Each (λ reply. m ≤ reply.place) sent → Each (λ reply. n ≤ reply.place) sent
each_later n m [] low h = tt
each_later n m (s ∷ sent) low h = (omega (arith, low, h.0), each_later n m sent low h.1)

each_joined : (n : ℕ) (sent more : List Sent) → Each (λ reply. n ≤ reply.place) sent → Each (λ reply. n ≤ reply.place) more
    → Each (λ reply. n ≤ reply.place) (sent ++ more)
each_joined n [] more h k = k
each_joined n (s ∷ sent) more h k = (h.0, each_joined n sent more h.1 k)

adds_sent : (c a : Core) (marks : List Mark) → happens.Adds c marks a → a.disks.sent ≡ c.disks.sent
adds_sent c _ _ happens.AddsNothing = refl
adds_sent c _ _ (happens.Posts r to d lines) = lines_sent to r c.disks d _ lines
adds_sent c _ _ (happens.Replies who now call answer) = refl
adds_sent c _ _ (happens.Complains about ends after report) = refl
adds_sent c _ _ (happens.Pays owed) = refl

earlier_same : (g h : Group) (k l : List Group) → g ∷ k ≡ h ∷ l → k ≡ l
earlier_same g h k l same = cc

grown_kept : (n : ℕ) (was : List Group) (sent : List Sent) → IsKept (Grown n was sent)
grown_kept n was sent = record {
  begins = λ place groups c a event marks paid begins h.
      let s : SentMore place c.disks.sent a.disks.sent = begins_sent place groups c a event marks begins in
      record {
        low = omega (arith, h.low);
        last = (event, marks);
        more = h.last ∷ h.more;
        groups_are = ap (λ (l : List Group). (event, marks) ∷ l) h.groups_are;
        later_sent = h.later_sent ++ s.more;
        sent_are = s.is ∙ ap (λ (l : List Sent). l ++ s.more) h.sent_are ∙ append_assoc sent h.later_sent s.more;
        places = each_joined n h.later_sent s.more h.places (each_later n place s.more h.low s.from);
      };
  adds = λ place event group earlier c a marks adds h. record {
    low = h.low;
    last = (event, marks ++ group);
    more = h.more;
    groups_are = ap (λ (l : List Group). (event, marks ++ group) ∷ l)
        (earlier_same (event, group) h.last earlier (h.more ++ was) h.groups_are);
    later_sent = h.later_sent;
    sent_are = adds_sent c a marks adds ∙ h.sent_are;
    places = h.places;
  };
}

-- so it is since a moment
abbrev GrownSince : ℕ → RunState → RunState → Type 0
GrownSince n b a = IsSaid (Grown n b.scene.noted.groups b.scene.disks.sent) a

since_kept : (n : ℕ) (b : RunState) → IsKept (Grown n b.scene.noted.groups b.scene.disks.sent)
since_kept n b = grown_kept n b.scene.noted.groups b.scene.disks.sent

-- an event is run, and the message that it brings is noted
first_grown : (n : ℕ) (b a : RunState) (result : Option Incoming) (noted : Noted) → n ≤ b.next → IsSaid Anything b → RunsEvent b result a
    → noted.groups ≡ (with_brought result a.scene.noted).groups → noted.first ≡ (with_brought result a.scene.noted).first
    → GrownSince n b (record a { scene = record (a.scene) { noted = noted } })
first_grown n b a result noted there h r groups first =
    let done : EventDone b.next b.owed b.told r.event b.scene result a.scene =
    event_done b.next b.owed b.told r.event b.scene result a.scene h.first r.plays in
    let s : SentMore b.next b.scene.disks.sent a.scene.disks.sent =
    begins_sent b.next b.scene.noted.groups (core_of b) (core_at a.scene b.owed b.told) r.event done.marks done.begins in
    record {
      first = first ∙ done.first ∙ h.first;
      said = record {
        low = (let h : a.next ≡ b.next + 1 = r.next in omega (arith, h, there));
        last = (r.event, done.marks);
        more = [];
        groups_are = groups ∙ done.groups;
        later_sent = s.more;
        sent_are = s.is;
        places = each_later n b.next s.more there s.from;
      };
    }

-- events are run, that bring no message: none, or some
far_grown : (n : ℕ) (b a : RunState) (result : Option Incoming) → Advances b result a → result ≡ None → n ≤ b.next → IsSaid Anything b
    → (a ≡ b) ⊎ GrownSince n b a
far_grown n b _ _ Stays is there h = inl refl
far_grown n b a _ (Goes m _ result before last) is there h =
    let r : RunsEvent m None a = subst (λ (x : Option Incoming). RunsEvent m x a) is last in
    elim (far_grown n b m None before refl there h) [
      | inl same ↦ inr (first_grown n b a None a.scene.noted there h (subst (λ (p : RunState). RunsEvent p None a) same r) refl refl)
      | inr grown ↦ inr (next_none (Grown n b.scene.noted.groups b.scene.disks.sent) (since_kept n b) m a r grown)
    ]

-- that bring one, which is noted
came_grown : (n : ℕ) (b a : RunState) (result : Option Incoming) (message : Incoming) → Advances b result a → result ≡ Some message
    → n ≤ b.next → IsSaid Anything b → GrownSince n b (noting (entry.Received message) a)
came_grown n b _ _ message Stays is there h = cc
came_grown n b a _ message (Goes m _ result before last) is there h =
    let r : RunsEvent m (Some message) a = subst (λ (x : Option Incoming). RunsEvent m x a) is last in
    elim (far_grown n b m None before refl there h) [
      | inl same ↦ first_grown n b a (Some message) (with_entry (entry.Received message) a.scene.noted) there h
          (subst (λ (p : RunState). RunsEvent p (Some message) a) same r) refl refl
      | inr grown ↦ next_received (Grown n b.scene.noted.groups b.scene.disks.sent) (since_kept n b) m a message r grown
    ]

-- past event n some were run
past_grown : (n : ℕ) (b a : RunState) → Advances b None a → b.next ≡ n → n < a.next → IsSaid Anything b → GrownSince n b a
past_grown n b a far at past h = elim (far_grown n b a None far refl (omega (arith, at)) h) [
  | inl same ↦ (let e : a.next ≡ b.next = ap (λ (p : RunState). p.next) same in absurd (omega (arith, e, at, past)))
  | inr grown ↦ grown
]

-- ---- a run beside that of the first n events

-- How a run from b to this moment stands beside that of the first n events: so far it is that one; or that one has ended, and this one went
-- on from the moment where it did.
data Beside (area : Area) (n : ℕ) (b a : Moment) : Type 0 where
  SoFar : a.run.next ≤ n → Runs area (with_first n b) (with_first n a) → Beside area n b a
  Passed : (moment last : Moment) → ComesTo area b moment → Runs area (with_first n b) last → IsOver last
      → EndsAt (with_first n moment) last → Runs area moment a → GrownSince n moment.run a.run → Beside area n b a

-- each of the first n events was run, and nothing is owed
spent_at : (n : ℕ) (p : RunState) → n ≤ p.next → p.owed ≡ false → IsSpent (first_of n p)
spent_at n p there paid = record {
  events = (let h : length (take n p.events) ≤ n = at_most n p.events in omega (arith, h, there));
  paid = paid;
}

spent_of_first : (n : ℕ) (p : RunState) → IsSpent p → IsSpent (first_of n p)
spent_of_first n p spent = record {
  events = (let h : length (take n p.events) ≤ length p.events = no_more_than_all n p.events in omega (arith, h, spent.events));
  paid = spent.paid;
}

module _ (area : Area) (n : ℕ) (b : Moment) (live : b.run.over ≡ false) where
  -- the next event isn't one of the first n, and the server rests
  passed_between : (m a : Moment) → n ≤ m.run.next → Runs area b m → Runs area (with_first n b) (with_first n m) → IsBetween m
      → m.run.queue ≡ [] → m.run.owed ≡ false → Step area m a → GrownSince n m.run a.run → Beside area n b a
  passed_between m a there came runs between none paid step grown =
      Passed m (with_first n m) (Comes m m.run came Stays) runs
      (record { spent = spent_at n m.run there paid; calm = between.at_rest.complaint; ends = inl (between.rests, none) }) AsItStands
      (Then m a Starts step) grown

  -- nor is it, and the server needs a message
  passed_within : (m : Moment) (call : Arrived) (middle : RunState) (a : Moment) → Runs area b m
      → Runs area (with_first n b) (with_first n m)
      → m.doing ≡ Answering call → MayTake (record_of m.run) m.outbox → Advances m.run None middle → middle.next ≡ n
      → middle.owed ≡ false → middle.over ≡ false → Step area (record m { run = middle }) a → GrownSince n middle a.run → Beside area n b a
  passed_within m call middle a came runs answers may far at paid unended step grown =
      let last : Moment = at_link (Received incoming.End) (ended (first_of n middle)) (with_first n m) in
      let spent : IsSpent (first_of n middle) = spent_at n middle (omega (arith, at)) paid in
      let to_last : Runs area (with_first n b) last =
      Then (with_first n m) last runs (Takes incoming.End call (ended (first_of n middle)) answers may
      (link.TakesEnd (first_of n middle) (sym (far_over m.run middle None far) ∙ unended)
      (IsRunOut (first_of n middle) (far_of_first n m.run middle None far (omega (arith, at))) spent))) in
      Passed (record m { run = middle }) last (Comes m middle came far) to_last (record {
        spent = record { events = spent.events; paid = paid };
        calm = may.at_rest.complaint;
        ends = inr (refl, runs_end_needing area (with_first n b) last to_last live refl);
      }) OnceEnded (Then (record m { run = middle }) a Starts step) grown

  -- a take from the middle is that from before
  from_middle : (m : Moment) (told : Told) (middle a : RunState) → Advances m.run None middle
      → at_link told a (record m { run = middle }) ≡ at_link told a m
  from_middle m told middle a far =
      ap (λ (l : List Mark). record m { run = a; outbox = owed_after_act (AtLink told) l m.outbox }) (far_record m.run middle None far)

  may_in_middle : (m : Moment) (middle : RunState) → Advances m.run None middle → MayTake (record_of m.run) m.outbox
      → MayTake (record_of middle) m.outbox
  may_in_middle m middle far may = subst (λ (l : List Mark). MayTake l m.outbox) (sym (far_record m.run middle None far)) may

  ends_beside : (m : Moment) (call : Arrived) (a : RunState) → m.run.next ≤ n → IsSaid Anything m.run → Runs area b m
      → Runs area (with_first n b) (with_first n m)
      → m.doing ≡ Answering call → MayTake (record_of m.run) m.outbox → m.run.over ≡ false → ComesToEnd m.run a
      → Beside area n b (at_link (Received incoming.End) (ended a) m)
  ends_beside m call a low first came runs answers may unended (IsRunOut _ far spent) = elim (below_or_not n a.next) [
    | inl past ↦
        let p : Parts n m.run None a = parts n m.run a None far low past in
        let grown : GrownSince n p.middle a =
        past_grown n p.middle a p.after p.at past (far_first m.run p.middle None p.before refl first) in
        passed_within m call p.middle (at_link (Received incoming.End) (ended a) m) came runs answers may p.before p.at p.paid p.live
        (Takes incoming.End call (ended a) answers (may_in_middle m p.middle p.before may)
        (link.TakesEnd a p.live (IsRunOut a p.after spent)))
        (record { first = grown.first; said = grown.said })
    | inr in_time ↦ SoFar in_time (Then (with_first n m) _ runs
        (Takes incoming.End call (ended (first_of n a)) answers may (link.TakesEnd (first_of n a) unended
        (IsRunOut (first_of n a) (far_of_first n m.run a None far in_time) (spent_of_first n a spent)))))
  ]
  ends_beside m call _ low first came runs answers may unended (IsStarved a far) = elim (below_or_not n a.next) [
    | inl past ↦
        let p : Parts n m.run None a = parts n m.run a None far low past in
        let grown : GrownSince n p.middle a =
        past_grown n p.middle a p.after p.at past (far_first m.run p.middle None p.before refl first) in
        passed_within m call p.middle (at_link (Received incoming.End) (ended (starving a)) m) came runs answers may p.before p.at p.paid
        p.live
        (Takes incoming.End call (ended (starving a)) answers (may_in_middle m p.middle p.before may)
        (link.TakesEnd (starving a) p.live (IsStarved a p.after)))
        (record { first = grown.first; said = grown.said })
    | inr in_time ↦ SoFar in_time (Then (with_first n m) _ runs
        (Takes incoming.End call (ended (starving (first_of n a))) answers may (link.TakesEnd (starving (first_of n a)) unended
        (IsStarved (first_of n a) (far_of_first n m.run a None far in_time)))))
  ]

  takes_beside : (m : Moment) (message : Incoming) (call : Arrived) (a : RunState) → m.run.next ≤ n → IsSaid Anything m.run
      → Runs area b m → Runs area (with_first n b) (with_first n m) → m.doing ≡ Answering call → MayTake (record_of m.run) m.outbox
      → Turn m.run (Received message) a → Beside area n b (at_link (Received message) a m)
  takes_beside m message call _ low first came runs answers may (link.Takes _ a far) = elim (below_or_not n a.next) [
    | inl past ↦
        let p : Parts n m.run (Some message) a = parts n m.run a (Some message) far low past in
        let from : Moment = record m { run = p.middle } in
        let after : RunState = noting (entry.Received message) a in
        passed_within m call p.middle (at_link (Received message) after m) came runs answers may p.before p.at p.paid p.live
        (subst (λ (x : Moment). Step area from x) (from_middle m (Received message) p.middle after p.before)
        (Takes message call after answers (may_in_middle m p.middle p.before may) (link.Takes message a p.after)))
        (came_grown n p.middle a (Some message) message p.after refl (omega (arith, p.at))
        (far_first m.run p.middle None p.before refl first))
    | inr in_time ↦
        let after : RunState = noting (entry.Received message) a in
        SoFar in_time (Then (with_first n m) _ runs (Takes message call (first_of n after) answers may
        (link.Takes message (first_of n a) (far_of_first n m.run a (Some message) far in_time))))
  ]
  takes_beside m _ call _ low first came runs answers may (link.TakesOwed unended owed untold) =
      let after : RunState = noting (entry.Received incoming.GaveUp) (paid m.run) in
      SoFar low (Then (with_first n m) _ runs
      (Takes incoming.GaveUp call (first_of n after) answers may (link.TakesOwed unended owed untold)))
  takes_beside m _ call _ low first came runs answers may (link.TakesEnd a unended ends) =
      ends_beside m call a low first came runs answers may unended ends

  step_beside : (m a : Moment) → m.run.next ≤ n → IsSaid Anything m.run → Runs area b m → Runs area (with_first n b) (with_first n m)
      → Step area m a → Beside area n b a
  step_beside m _ low first came runs (Begins r busy may) = SoFar low (Then (with_first n m) _ runs (Begins r busy may))
  step_beside m _ low first came runs (Tells told a busy nothing may turn) =
      SoFar (let h : a.next ≡ m.run.next = tells_none_next m.run a told turn nothing in omega (arith, h, low))
      (Then (with_first n m) _ runs (Tells told (first_of n a) busy nothing may (tells_of_first n m.run a told turn nothing)))
  step_beside m _ low first came runs (Takes message call a answers may turn) =
      takes_beside m message call a low first came runs answers may turn
  step_beside m _ low first came runs (Settles message hears calm) = SoFar low (Then (with_first n m) _ runs (Settles message hears calm))
  step_beside m _ low first came runs (Brings message a between none next) = elim (below_or_not m.run.next n) [
    | inl here ↦
        SoFar (let h : a.next ≡ m.run.next + 1 = next.next in omega (arith, h, here)) (Then (with_first n m) _ runs
        (Brings message (first_of n a) (between_first n m between) none (event_of_first n m.run a (Some message) here next)))
    | inr there ↦
        passed_between m (hearing message a m) there came runs between none next.paid (Brings message a between none next)
        (first_grown n m.run a (Some message) (with_entry (entry.Handed message) a.scene.noted) there first next refl refl)
  ]
  step_beside m _ low first came runs (BringsNone a between none next) = elim (below_or_not m.run.next n) [
    | inl here ↦
        SoFar (let h : a.next ≡ m.run.next + 1 = next.next in omega (arith, h, here)) (Then (with_first n m) _ runs
        (BringsNone (first_of n a) (between_first n m between) none (event_of_first n m.run a None here next)))
    | inr there ↦
        passed_between m (record m { run = a }) there came runs between none next.paid (BringsNone a between none next)
        (first_grown n m.run a None a.scene.noted there first next refl refl)
  ]
  step_beside m _ low first came runs (Pays between owed untold) =
      SoFar low (Then (with_first n m) _ runs (Pays (between_first n m between) owed untold))
  step_beside m _ low first came runs (HandsCall call a between settled hands) =
      SoFar (let h : a.next ≡ m.run.next = ap (λ (p : RunState). p.next) hands.after in omega (arith, h, low))
      (Then (with_first n m) _ runs (HandsCall call (first_of n a) (between_first n m between) settled
      (record { first = hands.first; after = ap (λ (p : RunState). first_of n p) hands.after })))
  step_beside m _ low first came runs (Replies call reply answers unended calm) =
      SoFar low (Then (with_first n m) _ runs (Replies call reply answers unended calm))

  more_beside : (m a : Moment) → Stood m → Runs area b m → Beside area n b m → Step area m a → Beside area n b a
  more_beside m a stood came (SoFar low runs) step = step_beside m a low stood.first came runs step
  more_beside m a stood came (Passed moment last comes runs over ends on grown) step =
      Passed moment last comes runs over ends (Then m a on step)
      (step_said (Grown n moment.run.scene.noted.groups moment.run.scene.disks.sent) (since_kept n moment.run) area m a step stood.calm
      stood.begun grown)

  run_beside : (a : Moment) → b.run.next ≤ n → Stood b → Runs area b a → Beside area n b a
  run_beside _ low stood Starts = SoFar low Starts
  run_beside a low stood (Then m _ before last) =
      more_beside m a (stood_on area b m before stood) before (run_beside m low stood before) last

-- ---- what is read off

-- what is read off a moment, with these frames
abbrev read_off : (m : Moment) → Transcript → Transcript
read_off m t = record {
  marks = marks_in m.run.scene.noted;
  sent = m.run.scene.disks.sent;
  drivers = drivers_of m.run.scene.disks;
  frames = t.frames;
  unanswered = length (unanswered_in m);
  image = concat m.run.scene.disks.media.sectors;
}

is_read_off : (m : Moment) (t : Transcript) → IsReadOff m (read_off m t)
is_read_off m t = record { marks = refl; sent = refl; drivers = refl; image = refl; unanswered = refl }

none_after : (sent : List Sent) → sent ≡ sent ++ []
none_after [] = refl
none_after (x ∷ sent) = ap (λ (l : List Sent). x ∷ l) (none_after sent)

same_groups : (n : ℕ) (m last : Moment) → EndsAt (with_first n m) last → m.run.scene.noted.groups ≡ last.run.scene.noted.groups
same_groups n m _ AsItStands = refl
same_groups n m _ OnceEnded = refl

same_sent : (n : ℕ) (m last : Moment) → EndsAt (with_first n m) last → m.run.scene.disks.sent ≡ last.run.scene.disks.sent
same_sent n m _ AsItStands = refl
same_sent n m _ OnceEnded = refl

-- the marks of these groups alone
abbrev marks_at : List Group → List Mark
marks_at [] = []
marks_at (g ∷ groups) = g.1 ++ marks_at groups

joined_marks : (later was : List Group) → marks_of (later ++ was) ≡ marks_at later ++ marks_of was
joined_marks [] was = refl
joined_marks (g ∷ later) was =
    ap (λ (l : List Mark). g.1 ++ l) (joined_marks later was) ∙ sym (append_assoc g.1 (marks_at later) (marks_of was))

opened_of_first : (n : ℕ) (media : MediaState) (rules : Policy) (watch : Watch) (supply : List DriverState) (events : List Event)
    (p : RunState) → IsOpened media rules watch supply events p → IsOpened media rules watch supply (take n events) (first_of n p)
opened_of_first n media rules watch supply events p o = record {
  scene = o.scene;
  events_are = ap (λ (l : List Event). take n l) o.events_are;
  next = o.next;
  queue = o.queue;
  owed = o.owed;
  told = o.told;
  over = o.over;
  starved = o.starved;
}

stood_first : (media : MediaState) (rules : Policy) (watch : Watch) (supply : List DriverState) (events : List Event) (p : RunState)
    → IsOpened media rules watch supply events p → Stood (at_first p)
stood_first media rules watch supply events p o = record {
  calm = record { none = λ over. refl };
  begun = StandsBefore refl o.queue o.owed;
  first = record { first = ap (λ (s : Scene). s.noted.first) o.scene.is; said = tt };
}

over_of_first : (n : ℕ) (m : Moment) → IsOver m → IsOver (with_first n m)
over_of_first n m over = record {
  spent = spent_of_first n m.run over.spent;
  calm = over.calm;
  ends = elim over.ends [
    | inl rests ↦ inl rests
    | inr need ↦ inr (
      need.0,
      record {
        call = need.1.call;
        answers = need.1.answers;
        needed = need.1.needed;
        not_given_up = need.1.not_given_up;
      },
    )
  ];
}

module _ (g : Geometry) (image : List ℕ) (setup : Setup) (supply : List DriverState) (events : List Event) (t : Transcript)
    (whole : IsExact g image setup supply events t) (n : ℕ) where
  abbrev area : Area
  area = area_of g setup.minor

  abbrev from : Moment
  from = at_first whole.first

  opened : IsOpened (media_with image) setup.policy (new_watch (length supply)) supply (take n events) (first_of n whole.first)
  opened = opened_of_first n (media_with image) setup.policy (new_watch (length supply)) supply events whole.first whole.opened

  abbrev exact : (last : Moment) → Runs area (with_first n from) last → IsOver last
      → IsExact g image setup supply (take n events) (read_off last t)
  exact last runs over = record {
    first = first_of n whole.first;
    opened = opened;
    last = last;
    steps = runs;
    over = over;
    read_off = is_read_off last t;
  }

  stood : Stood (with_first n from)
  stood = stood_first (media_with image) setup.policy (new_watch (length supply)) supply (take n events) (first_of n whole.first) opened

  -- the whole run is the run of the first n events
  not_passed : Runs area (with_first n from) (with_first n whole.last) → BeginsWith g image setup supply events t whole n
  not_passed runs = record {
    start = read_off (with_first n whole.last) t;
    exact = exact (with_first n whole.last) runs (over_of_first n whole.last whole.over);
    moment = whole.last;
    comes = Comes whole.last whole.last.run whole.steps Stays;
    ends = AsItStands;
    goes_on = Starts;
    later = [];
    groups = refl;
    marks = record { later = []; is = whole.read_off.marks };
    later_sent = [];
    sent = whole.read_off.sent ∙ none_after whole.last.run.scene.disks.sent;
    places = tt;
  }

  passed : (moment last : Moment) → ComesTo area from moment → Runs area (with_first n from) last → IsOver last
      → EndsAt (with_first n moment) last
      → Runs area moment whole.last → GrownSince n moment.run whole.last.run → BeginsWith g image setup supply events t whole n
  passed moment last comes runs over ends on grown =
      let then : List Group = grown.said.last ∷ grown.said.more in
      let was : List Group = last.run.scene.noted.groups in
      let groups_are : whole.last.run.scene.noted.groups ≡ then ++ was =
      grown.said.groups_are ∙ ap (λ (l : List Group). then ++ l) (same_groups n moment last ends) in
      record {
        start = read_off last t;
        exact = exact last runs over;
        moment = moment;
        comes = comes;
        ends = ends;
        goes_on = on;
        later = then;
        groups = groups_are;
        marks = record {
          later = marks_at then;
          is = whole.read_off.marks
              ∙ record_of_groups whole.last.run.scene.noted.groups whole.last.run.scene.noted.first grown.first
              ∙ ap marks_of groups_are ∙ joined_marks then was
              ∙ ap (λ (l : List Mark). marks_at then ++ l)
              (sym (record_of_groups was last.run.scene.noted.first (stood_on area (with_first n from) last runs stood).first.first));
        };
        later_sent = grown.said.later_sent;
        sent = whole.read_off.sent ∙ grown.said.sent_are
            ∙ ap (λ (l : List Sent). l ++ grown.said.later_sent) (same_sent n moment last ends);
        places = grown.said.places;
      }

  by_place : Beside area n from whole.last → BeginsWith g image setup supply events t whole n
  by_place (SoFar low runs) = not_passed runs
  by_place (Passed moment last comes runs over ends on grown) = passed moment last comes runs over ends on grown

pub runs_have_beginnings : RunsHaveBeginnings
runs_have_beginnings g image setup supply events t whole n =
    let none : whole.first.next ≡ 0 = whole.opened.next in
    by_place g image setup supply events t whole n
    (run_beside (area_of g setup.minor) n (at_first whole.first) whole.opened.over whole.last (omega (arith, none))
    (stood_first (media_with image) setup.policy (new_watch (length supply)) supply events whole.first whole.opened) whole.steps)
