-- Calls are finished and requests issued only where the server was handed something.
use Rattle.std.proofs.Common.{◌≡◌, ℕ, zero, suc, ◌<◌, ◌≤◌, List, [], ◌∷◌, ◌++◌, length, Bool, true, false, refl, sym, ◌∙◌, ap, subst, arith}
use Rattle.std.proofs.lemmas.Bool.Decides.{nat_tests}
use Rattle.std.specs.Prelude.{◌&&◌, ◌||◌, nat_le, map, reverse, Option, Some, None, Result, is_ok, is_some, slice_get}
use Rattle.lemmas.proofs.Bools.{and_both, or_right}
use Rattle.message.specs.declared.endpoint.Endpoint.{Endpoint}
use Rattle.message.specs.declared.BlockRequest.{BlockRequest}
use Rattle.message.specs.declared.Incoming.{Incoming}
use Rattle.message.specs.declared.Incoming.TheVariants as incoming
use Rattle.tree.specs.Answers.{answer_of}
use Rattle.bdev.specs.declared.Step.{Step as DriverStep}
use Rattle.bdev.specs.declared.Step.TheVariants.{Working, Idle, Done, Failed}
use Rattle.reincarnate.specs.Watch as restart
use Rattle.reincarnate.specs.Watch.{driver, new_watch}
use Rattle.records.specs.Area.{Area}
use Rattle.records.specs.Marks.{Mark, Started, GaveUp, Took, Issued, Fault}
use Rattle.records.specs.declared.marks.Cause.{Cause}
use Rattle.records.specs.declared.marks.Cause.TheVariants.{Exit, Hung, Complaint}
use Rattle.records.specs.Told.{Told, Received}
use Rattle.schedule.specs.declared.Sent.{Sent}
use Rattle.schedule.specs.declared.Event.{Event}
use Rattle.schedule.specs.declared.Event.TheVariants as event
use Rattle.schedule.specs.Groups.{Group, marks_of, Each, EachGroup}
use Rattle.schedule.specs.Calls.{Arrival, arrived, taken}
use Rattle.schedule.specs.Handed.{was_sent, is_handed, is_told, acts_when_handed}
use Rattle.reissue.specs.declared.link.LinkRefusal.{LinkRefusal}
use Rattle.schedule.specs.Noted.{Noted, marks_in, grouped, with_mark, with_message, with_entry}
use Rattle.schedule.specs.declared.log.LogEntry.TheVariants as entry
use Rattle.simulated_link.specs.declared.events.ruling.Ruling.{Ruling}
use Rattle.simulated_link.specs.declared.events.ruling.Ruling.TheVariants as ruling
use Rattle.simulated_link.specs.Ruling.{is_fault}
use Rattle.simulated_link.specs.Disks.{Disks, LinesUp, NoneIsThere, LineIsFull, IsLinedUp}
use Rattle.simulated_link.specs.Scene.{Scene, Occurs, told_of_ruling, told_of_action, delivered, AfterStep, AfterDeath}
use Rattle.schedule.specs.declared.arrived.Arrived.{Arrived}
use Rattle.simulated_link.specs.StateView.{RunState, RunsEvent, Advances, Stays, Goes, Turn, Takes, TakesOwed, TakesEnd, Posts, Complains, ComesToEnd, IsRunOut, IsStarved, HandsOut, noting, posted, ruling_at}
use Rattle.schedule.specs.ArrivingCalls.{calls_of}
use Rattle.simulated_link.specs.Waiting.{HasCalls, arrival_of}
use Rattle.simulated_link.specs.Moments.{Doing, Resting, Answering, is_busy, Moment, Step, Begins as StepBegins, Tells, Takes as StepTakes, Settles, Brings, BringsNone, Pays as StepPays, HandsCall, Replies as StepReplies, Runs, Starts, Then}
use Rattle.conformance.specs.Core.{Core}
use Rattle.conformance.specs.Happens.{fault_marks, exit_marks, TicksTo, Beats, MissesOne, FoundHung, WaitsOn, StartsNext, IsOver, Begins, Arrives, Flushes, Answers, Drops, Delivers, LinesAgain, HangsOne, StepsOne, FailsOne, DiesNone, DiesOne, Ticks}
use Rattle.conformance.specs.Seen.{core_at, with_brought, EventDone, begun_scene}
use Rattle.conformance.specs.Steady.{AnsweredSoFar}
use Rattle.conformance.proofs.Events.{event_done, record_of_groups}
use Rattle.conformance.proofs.AnswerLaws.{SentMore, begins_sent, answered_kept}
use Rattle.conformance.specs.Said.{IsSaid, IsBegun, HasBegun, StandsBefore, OverCalm}
use Rattle.conformance.specs.Ordered.{answering}
use Rattle.conformance.proofs.SaidLaws.{not_before, not_owed_before, busy_answering, step_begun, step_calm, step_said, next_none}
use Rattle.conformance.proofs.OpeningLaws.{calm_before, opened_said}
use Rattle.conformance.specs.Acting.{ActsAsDue, RunsKeepActs, was_handed, HandedAt, HasEnded, WasHanded, HasNoWork}
use Rattle.conformance.proofs.CallLaws.{at_rest, step_calls, opened_calls, mark_groups}

-- the replies sent at this event or later
abbrev AreLater : ℕ → List Sent → Type 0
AreLater n more = Each (λ s. n ≤ s.place) more

later_below : (m n : ℕ) (more : List Sent) → m ≤ n → AreLater n more → AreLater m more
later_below m n [] below later = tt
later_below m n (s ∷ more) below later = (omega (arith, below, later.0), later_below m n more below later.1)

-- such a reply wasn't sent before it
sent_later : (s : Sent) (place : ℕ) → place ≤ s.place → was_sent (Some s) place ≡ false
sent_later s place later = grind (arith, nat_tests, later)

sent_among_later : (k : ℕ) (more : List Sent) (place : ℕ) → AreLater place more → was_sent (slice_get more k) place ≡ false
sent_among_later k [] place later = refl
sent_among_later zero (s ∷ more) place later = sent_later s place later.0
sent_among_later (suc k) (s ∷ more) place later = sent_among_later k more place later.1

sent_append : (k : ℕ) (sent more : List Sent) (place : ℕ) → AreLater place more
    → was_sent (slice_get (sent ++ more) k) place ≡ was_sent (slice_get sent k) place
sent_append k [] more place later = sent_among_later k more place later
sent_append zero (s ∷ sent) more place later = refl
sent_append (suc k) (s ∷ sent) more place later = sent_append k sent more place later

handed_append : (sent more : List Sent) (e : Event) (earlier : List Group) → AreLater (length earlier) more
    → is_handed (sent ++ more) e earlier ≡ is_handed sent e earlier
handed_append sent more (event.Deliver k) earlier later = sent_append k sent more (length earlier) later
handed_append sent more (event.Arrive who now call) earlier later = refl
handed_append sent more event.Flush earlier later = refl
handed_append sent more event.Tick earlier later = refl
handed_append sent more (event.Step g) earlier later = refl
handed_append sent more (event.Die g bytes) earlier later = refl
handed_append sent more (event.Hang g) earlier later = refl
handed_append sent more (event.Repeat n) earlier later = refl

-- later replies change nothing of it
acts_still : (sent more : List Sent) (groups : List Group) → AreLater (length groups) more → EachGroup (ActsAsDue sent) groups
    → EachGroup (ActsAsDue (sent ++ more)) groups
acts_still sent more [] later each = tt
acts_still sent more (g ∷ groups) later each =
    let sooner : AreLater (length groups) more = later_below (length groups) (length (g ∷ groups)) more (omega arith) later in
    (ap (λ (h : Bool). acts_when_handed h g.1) (handed_append sent more g.0 groups sooner) ∙ each.0, acts_still sent more groups sooner each.1)

-- no event finishes a call or issues a request
faults_act : (ends handed : Bool) (e : Endpoint) (cause : Cause) → acts_when_handed handed (fault_marks ends e cause) ≡ true
faults_act true handed e cause = refl
faults_act false handed e cause = refl

exits_act : (ends : Option Bool) (handed : Bool) (e : Endpoint) → acts_when_handed handed (exit_marks ends e) ≡ true
exits_act None handed e = refl
exits_act (Some ends) handed e = faults_act ends handed e Exit

ticks_act : (c a : Core) (marks : List Mark) (handed : Bool) → TicksTo c marks a → acts_when_handed handed marks ≡ true
ticks_act c _ _ handed (Beats last count is same) = refl
ticks_act c _ _ handed (MissesOne last count is same few) = refl
ticks_act c _ _ handed (FoundHung last count ends after is same enough fault) =
    faults_act ends handed (driver c.disks.media.generation) Hung
ticks_act c _ _ handed (WaitsOn until is early) = refl
ticks_act c _ _ handed (StartsNext until d rest is come spare) = refl
ticks_act c _ _ handed (IsOver is) = refl

begins_act : (place : ℕ) (groups : List Group) (c a : Core) (e : Event) (marks : List Mark) (handed : Bool)
    → Begins place groups c e marks a
    → acts_when_handed handed marks ≡ true
begins_act place groups c _ _ _ handed (Arrives who now call) = refl
begins_act place groups c _ _ _ handed Flushes = refl
begins_act place groups c _ _ _ handed (Answers n s there counts) = refl
begins_act place groups c _ _ _ handed (Drops n s there counts) = refl
begins_act place groups c _ _ _ handed (Delivers n there) = refl
begins_act place groups c _ _ _ handed (LinesAgain n p d same again) = refl
begins_act place groups c _ _ _ handed (HangsOne g d hangs) = refl
begins_act place groups c _ _ _ handed (StepsOne g step d steps well) = refl
begins_act place groups c _ _ _ handed (FailsOne g d ends after steps report) = exits_act ends handed (driver g)
begins_act place groups c _ _ _ handed (DiesNone g bytes d dies) = refl
begins_act place groups c _ _ _ handed (DiesOne g bytes d ends after dies report) = exits_act ends handed (driver g)
begins_act place groups c a _ marks handed (Ticks _ _ ticks) = ticks_act _ a marks handed ticks

-- a message of a start or of giving up
abbrev tells : Incoming → Bool
tells (incoming.Reply a) = false
tells (incoming.Started e) = true
tells incoming.GaveUp = true
tells incoming.Flush = false
tells incoming.End = false

abbrev last_marks : List Group → List Mark
last_marks [] = []
last_marks (g ∷ groups) = g.1

told_mark : (m : Mark) (groups : List Group) (n : Noted) (e : Event) (marks : List Mark) (earlier : List Group)
    → ((rest : List Mark) → is_told (m ∷ rest) ≡ true)
    → n.groups ≡ groups → (grouped m groups n.first n).groups ≡ (e, marks) ∷ earlier → is_told marks ≡ true
told_mark m [] n e marks earlier told at is = absurd (clash (sym at ∙ is)) where
  clash : ◌≡◌ {A = List Group} [] ((e, marks) ∷ earlier) → ⊥
  clash c = cc
told_mark m (g ∷ groups) n e marks earlier told at is = ap (λ (l : List Group). is_told (last_marks l)) (sym is) ∙ told g.1

told_first : (message : Incoming) (n : Noted) (e : Event) (marks : List Mark) (earlier : List Group) → tells message ≡ true
    → (with_message message n).groups ≡ (e, marks) ∷ earlier → is_told marks ≡ true
told_first (incoming.Reply a) n e marks earlier was_so is = cc
told_first (incoming.Started x) n e marks earlier was_so is = told_mark (Started x) n.groups n e marks earlier (λ rest. refl) refl is
told_first incoming.GaveUp n e marks earlier was_so is = told_mark GaveUp n.groups n e marks earlier (λ rest. refl) refl is
told_first incoming.Flush n e marks earlier was_so is = cc
told_first incoming.End n e marks earlier was_so is = cc

-- the message that an event brings is of a start or of giving up, where it is neither a reply nor a flush
none_tells : (message : Incoming) → None ≡ Some message → tells message ≡ true
none_tells message is = absurd (clash is) where
  clash : None ≡ Some message → ⊥
  clash c = cc

same_tells : (x y : Incoming) → Some x ≡ Some y → tells x ≡ true → tells y ≡ true
same_tells x y is was_so = ap tells (sym (same is)) ∙ was_so where
  same : Some x ≡ Some y → x ≡ y
  same c = cc

ruling_tells : (u : Ruling) (message : Incoming) → told_of_ruling u ≡ Some message → tells message ≡ true
ruling_tells ruling.Ignored message is = none_tells message is
ruling_tells ruling.Fault message is = none_tells message is
ruling_tells ruling.GivesUp message is = same_tells incoming.GaveUp message is refl

action_tells : (u : restart.Action) (message : Incoming) → told_of_action u ≡ Some message → tells message ≡ true
action_tells restart.Nothing message is = none_tells message is
action_tells (restart.WaitUntil tick) message is = none_tells message is
action_tells (restart.Start e) message is = same_tells (incoming.Started e) message is refl
action_tells restart.GiveUp message is = same_tells incoming.GaveUp message is refl

step_tells : (step : Option DriverStep) (g : ℕ) (b a : Scene) (message : Incoming) → AfterStep step g b (Some message) a
    → tells message ≡ true
step_tells (Some Failed) g b a message x = ruling_tells x.ruling message (sym x.tells)
step_tells (Some Working) g b a message x = none_tells message (sym x.0)
step_tells (Some Idle) g b a message x = none_tells message (sym x.0)
step_tells (Some (Done answer)) g b a message x = none_tells message (sym x.0)
step_tells None g b a message x = none_tells message (sym x.0)

death_tells : (died : Bool) (g : ℕ) (b a : Scene) (message : Incoming) → AfterDeath died g b (Some message) a → tells message ≡ true
death_tells true g b a message x = ruling_tells x.ruling message (sym x.tells)
death_tells false g b a message x = none_tells message (sym x.0)

-- a reply that is there was sent before this event
was_there : (n place : ℕ) (sent : List Sent) → Each (λ s. s.place < place) sent → is_some (slice_get sent n) ≡ true
    → was_sent (slice_get sent n) place ≡ true
was_there n place [] low some = cc
was_there zero place (s ∷ sent) low some = let here : s.place < place = low.0 in grind (arith, nat_tests, here)
was_there (suc n) place (s ∷ sent) low some = was_there n place sent low.1 some

delivered_some : (o : Option Sent) (message : Incoming) → Some message ≡ delivered o → is_some o ≡ true
delivered_some None message is = cc
delivered_some (Some s) message is = refl

runs_handed : (place : ℕ) (e : Event) (b : Scene) (message : Incoming) (a : Scene) (marks : List Mark)
    → Occurs place e (begun_scene e b) (Some message) a
    → (with_message message a.noted).groups ≡ (e, marks) ∷ b.noted.groups → length b.noted.groups ≡ place
    → Each (λ s. s.place < place) b.disks.sent
    → (is_handed a.disks.sent e b.noted.groups || is_told marks) ≡ true
runs_handed place (event.Arrive who now call) b message a marks p is at low =
    or_right (is_handed a.disks.sent (event.Arrive who now call) b.noted.groups) (is_told marks)
    (told_first message a.noted (event.Arrive who now call) marks b.noted.groups (none_tells message (sym p.0)) is)
runs_handed place event.Flush b message a marks p is at low = refl
runs_handed place event.Tick b message a marks p is at low =
    told_first message a.noted event.Tick marks b.noted.groups (action_tells p.action message (sym p.tells)) is
runs_handed place (event.Step g) b message a marks p is at low =
    told_first message a.noted (event.Step g) marks b.noted.groups (step_tells p.step g _ a message p.after) is
runs_handed place (event.Die g bytes) b message a marks p is at low =
    told_first message a.noted (event.Die g bytes) marks b.noted.groups (death_tells p.died g _ a message p.after) is
runs_handed place (event.Hang g) b message a marks p is at low =
    told_first message a.noted (event.Hang g) marks b.noted.groups (none_tells message (sym p.tells)) is
runs_handed place (event.Deliver n) b message a marks p is at low =
    let sent : was_sent (slice_get b.disks.sent n) place ≡ true =
    was_there n place b.disks.sent low (delivered_some (slice_get b.disks.sent n) message p.0) in
    ap (λ (x : Scene). was_sent (slice_get x.disks.sent n) (length b.noted.groups) || is_told marks) p.1
    ∙ ap (λ (k : ℕ). was_sent (slice_get b.disks.sent n) k || is_told marks) at
    ∙ ap (λ (t : Bool). t || is_told marks) sent
runs_handed place (event.Repeat n) b message a marks p is at low =
    told_first message a.noted (event.Repeat n) marks b.noted.groups (none_tells message (sym p.tells)) is

-- at each event so far it is as it must be; the replies so far were sent at events so far
record Acts (p : RunState) : Type 0 where
  said : IsSaid AnsweredSoFar p
  acts : EachGroup (ActsAsDue p.scene.disks.sent) p.scene.noted.groups

-- an event is run
next_acts : (b a : RunState) (result : Option Incoming) (n : Noted) → RunsEvent b result a
    → n.groups ≡ (with_brought result a.scene.noted).groups → Acts b
    → EachGroup (ActsAsDue a.scene.disks.sent) n.groups
next_acts b a result n p groups h =
    let done : EventDone b.next b.owed b.told p.event b.scene result a.scene =
    event_done b.next b.owed b.told p.event b.scene result a.scene h.said.first p.plays in
    let s : SentMore b.next b.scene.disks.sent a.scene.disks.sent =
    begins_sent b.next b.scene.noted.groups (core_at b.scene b.owed b.told) (core_at a.scene b.owed b.told) p.event done.marks done.begins in
    let later : AreLater (length b.scene.noted.groups) s.more = subst (λ (k : ℕ). AreLater k s.more) (sym h.said.said.places) s.from in
    subst (λ (l : List Group). EachGroup (ActsAsDue a.scene.disks.sent) l) (sym (groups ∙ done.groups)) (
      begins_act b.next b.scene.noted.groups (core_at b.scene b.owed b.told) (core_at a.scene b.owed b.told) p.event done.marks
          (is_handed a.scene.disks.sent p.event b.scene.noted.groups) done.begins,
      subst (λ (l : List Sent). EachGroup (ActsAsDue l) b.scene.noted.groups) (sym s.is) (acts_still b.scene.disks.sent s.more b.scene.noted.groups later h.acts),
    )

-- where it brings a message, the server was handed something
next_handed : (b a : RunState) (message : Incoming) (n : Noted) → RunsEvent b (Some message) a
    → n.groups ≡ (with_message message a.scene.noted).groups → Acts b
    → was_handed a.scene.disks.sent n.groups ≡ true
next_handed b a message n p groups h =
    let done : EventDone b.next b.owed b.told p.event b.scene (Some message) a.scene =
    event_done b.next b.owed b.told p.event b.scene (Some message) a.scene h.said.first p.plays in
    ap (λ (l : List Group). was_handed a.scene.disks.sent l) (groups ∙ done.groups)
    ∙ runs_handed b.next p.event b.scene message a.scene done.marks p.plays done.groups h.said.said.places h.said.said.sent

next_none_acts : (b a : RunState) → RunsEvent b None a → Acts b → Acts a
next_none_acts b a p h =
    record { said = next_none AnsweredSoFar answered_kept b a p h.said; acts = next_acts b a None a.scene.noted p refl h }

far_acts : (b a : RunState) (result : Option Incoming) → Advances b result a → result ≡ None → Acts b → Acts a
far_acts b _ _ Stays is h = h
far_acts b a _ (Goes m _ result before last) is h =
    next_none_acts m a (subst (λ (r : Option Incoming). RunsEvent m r a) is last) (far_acts b m None before refl h)

-- what stands at the link after what is done
abbrev ActsOn : RunState → Type 0
ActsOn p = EachGroup (ActsAsDue p.scene.disks.sent) p.scene.noted.groups

abbrev HandedOn : RunState → Doing → Type 0
HandedOn p doing = HandedAt p.over (was_handed p.scene.disks.sent p.scene.noted.groups) doing p.queue

far_some_acts : (b a : RunState) (result : Option Incoming) (message : Incoming) (doing : Doing) → Advances b result a → result ≡ Some message
    → Acts b
    → ActsOn (noting (entry.Received message) a) × HandedOn (noting (entry.Received message) a) doing
far_some_acts b _ _ message doing Stays is h = cc
far_some_acts b a _ message doing (Goes m _ result before last) is h =
    let next : RunsEvent m (Some message) a = subst (λ (r : Option Incoming). RunsEvent m r a) is last in
    let k : Acts m = far_acts b m None before refl h in (
      next_acts m a (Some message) (with_entry (entry.Received message) a.scene.noted) next refl k,
      WasHanded (next_handed m a message (with_entry (entry.Received message) a.scene.noted) next refl k),
    )

-- a mark more in the last group
mark_acts : (sent : List Sent) (n : Noted) (m : Mark) (begun : IsBegun n.groups)
    → acts_when_handed (is_handed sent begun.event begun.earlier) (m ∷ begun.group) ≡ true
    → EachGroup (ActsAsDue sent) n.groups → EachGroup (ActsAsDue sent) (with_mark m n).groups
mark_acts sent n m begun now each =
    let was : EachGroup (ActsAsDue sent) ((begun.event, begun.group) ∷ begun.earlier) =
    subst (λ (l : List Group). EachGroup (ActsAsDue sent) l) begun.is each in
    subst (λ (l : List Group). EachGroup (ActsAsDue sent) l) (sym (mark_groups n m begun)) (now, was.1)

last_acts : (sent : List Sent) (groups : List Group) (begun : IsBegun groups) → EachGroup (ActsAsDue sent) groups
    → acts_when_handed (is_handed sent begun.event begun.earlier) begun.group ≡ true
last_acts sent groups begun each = (subst (λ (l : List Group). EachGroup (ActsAsDue sent) l) begun.is each).0

-- whether the server was handed something, in the last group
handed_last : (sent : List Sent) (groups : List Group) (begun : IsBegun groups)
    → was_handed sent groups ≡ (is_handed sent begun.event begun.earlier || is_told begun.group)
handed_last sent groups begun = ap (λ (l : List Group). was_handed sent l) begun.is

handed_mark : (sent : List Sent) (n : Noted) (m : Mark) (begun : IsBegun n.groups)
    → was_handed sent (with_mark m n).groups ≡ (is_handed sent begun.event begun.earlier || is_told (m ∷ begun.group))
handed_mark sent n m begun = ap (λ (l : List Group). was_handed sent l) (mark_groups n m begun)

-- a mark of what the server does, where it was handed something
done_mark : (sent : List Sent) (n : Noted) (m : Mark) (begun : IsBegun n.groups)
    → ((handed : Bool) (group : List Mark) → acts_when_handed handed (m ∷ group) ≡ ((handed || is_told group) && acts_when_handed handed group))
    → ((group : List Mark) → is_told (m ∷ group) ≡ is_told group) → was_handed sent n.groups ≡ true → EachGroup (ActsAsDue sent) n.groups
    → EachGroup (ActsAsDue sent) (with_mark m n).groups × (was_handed sent (with_mark m n).groups ≡ true)
done_mark sent n m begun asks tells_not handed each =
    let now : (is_handed sent begun.event begun.earlier || is_told begun.group) ≡ true = sym (handed_last sent n.groups begun) ∙ handed in (
      mark_acts sent n m begun
          (asks (is_handed sent begun.event begun.earlier) begun.group
          ∙ and_both (is_handed sent begun.event begun.earlier || is_told begun.group) _ now (last_acts sent n.groups begun each)) each,
      handed_mark sent n m begun ∙ ap (λ (t : Bool). is_handed sent begun.event begun.earlier || t) (tells_not begun.group) ∙ now,
    )

-- that the device was given up
owed_acts : (sent : List Sent) (n : Noted) (begun : IsBegun n.groups) → EachGroup (ActsAsDue sent) n.groups
    → EachGroup (ActsAsDue sent) (with_mark GaveUp n).groups × (was_handed sent (with_mark GaveUp n).groups ≡ true)
owed_acts sent n begun each = (
  mark_acts sent n GaveUp begun (last_acts sent n.groups begun each) each,
  handed_mark sent n GaveUp begun ∙ or_right (is_handed sent begun.event begun.earlier) true refl,
)

-- the server is at work, and the link hasn't ended: it was handed something
at_work_handed : (over handed : Bool) (doing : Doing) (queue : List Arrived) → over ≡ false → is_busy doing ≡ true
    → HandedAt over handed doing queue → handed ≡ true
at_work_handed over handed doing queue live busy (HasEnded ends) = absurd (clash (sym live ∙ ends)) where
  clash : ◌≡◌ {A = Bool} false true → ⊥
  clash e = cc
at_work_handed over handed doing queue live busy (WasHanded was_so) = was_so
at_work_handed over handed doing queue live busy (HasNoWork rests none) = absurd (clash (sym (ap is_busy rests) ∙ busy)) where
  clash : ◌≡◌ {A = Bool} false true → ⊥
  clash e = cc

posts_act : (b : RunState) (to : Endpoint) (r : BlockRequest) (result : Result (Unit {0}) LinkRefusal) (d : Disks) (doing : Doing)
    → b.over ≡ false → is_busy doing ≡ true
    → LinesUp to r b.scene.disks result d → IsBegun b.scene.noted.groups → ActsOn b → HandedOn b doing
    → ActsOn (posted to r (is_ok result) d b) × HandedOn (posted to r (is_ok result) d b) doing
posts_act b to r _ _ doing live busy (NoneIsThere none) begun h handed = (h, handed)
posts_act b to r _ _ doing live busy (LineIsFull there full) begun h handed = (h, handed)
posts_act b to r _ d doing live busy (IsLinedUp there few) begun h handed =
    let was_so : was_handed b.scene.disks.sent b.scene.noted.groups ≡ true = at_work_handed b.over _ doing b.queue live busy handed in
    let k : EachGroup (ActsAsDue b.scene.disks.sent) (with_mark (Issued r to) b.scene.noted).groups
    × (was_handed b.scene.disks.sent (with_mark (Issued r to) b.scene.noted).groups ≡ true) =
    done_mark b.scene.disks.sent b.scene.noted (Issued r to) begun (λ x group. refl) (λ group. refl) was_so h in
    (k.0, WasHanded k.1)

complaint_acts : (fault : Bool) (b : RunState) (about : Endpoint) (doing : Doing) → IsBegun b.scene.noted.groups → ActsOn b → HandedOn b doing
    → EachGroup (ActsAsDue b.scene.disks.sent) (with_entry (entry.Complained about fault) b.scene.noted).groups
    × HandedAt b.over (was_handed b.scene.disks.sent (with_entry (entry.Complained about fault) b.scene.noted).groups) doing b.queue
complaint_acts false b about doing begun h handed = (h, handed)
complaint_acts true b about doing begun h handed = (
  mark_acts b.scene.disks.sent b.scene.noted (Fault about Complaint) begun (last_acts b.scene.disks.sent b.scene.noted.groups begun h) h,
  subst (λ (t : Bool). HandedAt b.over t doing b.queue)
      (handed_last b.scene.disks.sent b.scene.noted.groups begun ∙ sym (handed_mark b.scene.disks.sent b.scene.noted (Fault about Complaint) begun)) handed,
)

-- what a server does at the link
turn_acts : (b a : RunState) (told : Told) (doing : Doing) → Turn b told a → is_busy doing ≡ true → IsBegun b.scene.noted.groups → Acts b
    → HandedOn b doing
    → ActsOn a × HandedOn a doing
turn_acts b _ _ doing (Takes message a far) busy begun h handed = far_some_acts b a (Some message) message doing far refl h
turn_acts b _ _ doing (TakesOwed live owes first) busy begun h handed =
    let k : EachGroup (ActsAsDue b.scene.disks.sent) (with_mark GaveUp b.scene.noted).groups × (was_handed b.scene.disks.sent (with_mark GaveUp b.scene.noted).groups ≡ true) =
    owed_acts b.scene.disks.sent b.scene.noted begun h.acts in
    (k.0, WasHanded k.1)
turn_acts b _ _ doing (TakesEnd a live ends) busy begun h handed = (end_acts a ends, HasEnded refl) where
  end_acts : (x : RunState) → ComesToEnd b x → ActsOn x
  end_acts _ (IsRunOut x far spent) = (far_acts b x None far refl h).acts
  end_acts _ (IsStarved x far) = (far_acts b x None far refl h).acts
turn_acts b _ _ doing (Posts to r result d unended lines) busy begun h handed =
    posts_act b to r result d doing unended busy lines begun h.acts handed
turn_acts b _ _ doing (Complains about) busy begun h handed =
    complaint_acts (is_fault (ruling_at about b.scene)) b about doing begun h.acts handed

-- where no call waits and the next event brings no message, it is a call that is handed over, or nothing
same_count : (n : ℕ) → nat_le n n ≡ true
same_count n = grind (arith, nat_tests)

none_handed : (e : Event) (sent : List Sent) (marks : List Mark) (earlier : List Group) (over : Bool) (doing : Doing) (queue : List Arrived)
    → doing ≡ Resting → queue ≡ calls_of e → arrived earlier ≡ taken (marks_of earlier)
    → HandedAt over (was_handed sent ((e, marks) ∷ earlier)) doing queue
none_handed (event.Arrive who now call) sent marks earlier over doing queue rests is calls =
    let enough : nat_le (length (arrived earlier)) (length (taken (marks_of earlier))) ≡ true =
    ap (λ (l : List Arrival). nat_le (length l) (length (taken (marks_of earlier)))) calls ∙ same_count (length (taken (marks_of earlier))) in
    WasHanded (ap (λ (t : Bool). t || is_told marks) enough)
none_handed event.Flush sent marks earlier over doing queue rests is calls = HasNoWork rests is
none_handed event.Tick sent marks earlier over doing queue rests is calls = HasNoWork rests is
none_handed (event.Step g) sent marks earlier over doing queue rests is calls = HasNoWork rests is
none_handed (event.Die g bytes) sent marks earlier over doing queue rests is calls = HasNoWork rests is
none_handed (event.Hang g) sent marks earlier over doing queue rests is calls = HasNoWork rests is
none_handed (event.Deliver n) sent marks earlier over doing queue rests is calls = HasNoWork rests is
none_handed (event.Repeat n) sent marks earlier over doing queue rests is calls = HasNoWork rests is

-- all calls that arrived were taken
all_taken : (p : RunState) → p.scene.noted.first ≡ Started (driver 1) ∷ [] → p.queue ≡ [] → HasCalls [] p
    → arrived p.scene.noted.groups ≡ taken (marks_of p.scene.noted.groups)
all_taken p first none calls =
    calls.order
    ∙ ap (λ (l : List Arrived). reverse (map arrival_of l) ++ taken (marks_in p.scene.noted)) none
    ∙ ap taken (record_of_groups p.scene.noted.groups p.scene.noted.first first)

next_none_handed : (b a : RunState) (doing : Doing) → RunsEvent b None a → Acts b → doing ≡ Resting → b.queue ≡ [] → HasCalls [] b
    → HandedOn a doing
next_none_handed b a doing p h rests none calls =
    let done : EventDone b.next b.owed b.told p.event b.scene None a.scene =
    event_done b.next b.owed b.told p.event b.scene None a.scene h.said.first p.plays in
    subst (λ (l : List Group). HandedAt a.over (was_handed a.scene.disks.sent l) doing a.queue) (sym done.groups)
    (none_handed p.event a.scene.disks.sent done.marks b.scene.noted.groups a.over doing a.queue rests
    (p.queue ∙ ap (λ (l : List Arrived). l ++ calls_of p.event) none) (all_taken b h.said.first none calls))

handed_after : (over handed : Bool) (doing : Doing) (queue : List Arrived) → HandedAt over handed doing queue
    → HandedAt over handed Resting queue
handed_after over handed doing queue (HasEnded ends) = HasEnded ends
handed_after over handed doing queue (WasHanded was_so) = WasHanded was_so
handed_after over handed doing queue (HasNoWork rests none) = HasNoWork refl none

-- a call that waits is handed out
out_handed : (b a : RunState) (call : Arrived) (doing : Doing) → b.over ≡ false → HandsOut b (Some call) a → HandedOn b doing
    → HandedOn a (Answering call)
out_handed b a call doing live hands (HasEnded ends) = absurd (clash (sym live ∙ ends)) where
  clash : ◌≡◌ {A = Bool} false true → ⊥
  clash e = cc
out_handed b a call doing live hands (WasHanded was_so) =
    WasHanded (ap (λ (p : RunState). was_handed p.scene.disks.sent p.scene.noted.groups) hands.after ∙ was_so)
out_handed b a call doing live hands (HasNoWork rests none) =
    absurd (clash (hands.first ∙ ap (λ (l : List Arrived). slice_get l 0) none)) where
      clash : Some call ≡ None → ⊥
      clash e = cc

record ActsStand (m : Moment) : Type 0 where
  calm : OverCalm m
  begun : HasBegun m
  calls : HasCalls (answering m.doing) m.run
  acts : Acts m.run
  handed : HandedOn m.run m.doing

-- a step
step_acts : (area : Area) (m a : Moment) → Step area m a → ActsStand m → ActsOn a.run × HandedOn a.run a.doing
step_acts area m _ (StepBegins r busy may) k = (k.acts.acts, k.handed)
step_acts area m _ (Tells told a busy nothing may turn) k =
    turn_acts m.run a told m.doing turn busy (not_before m busy k.begun) k.acts k.handed
step_acts area m _ (StepTakes message call a doing may turn) k =
    let busy : is_busy m.doing ≡ true = busy_answering m.doing call doing in
    turn_acts m.run a (Received message) m.doing turn busy (not_before m busy k.begun) k.acts k.handed
step_acts area m _ (Settles message doing rest) k = (k.acts.acts, handed_after m.run.over _ m.doing m.run.queue k.handed)
step_acts area m _ (Brings message a between none next) k = (
  next_acts m.run a (Some message) (with_entry (entry.Handed message) a.scene.noted) next refl k.acts,
  WasHanded (next_handed m.run a message (with_entry (entry.Handed message) a.scene.noted) next refl k.acts),
)
step_acts area m _ (BringsNone a between none next) k = (
  next_acts m.run a None a.scene.noted next refl k.acts,
  next_none_handed m.run a m.doing next k.acts between.rests none (at_rest m between.rests k.calls),
)
step_acts area m _ (StepPays between owed told) k =
    let x : EachGroup (ActsAsDue m.run.scene.disks.sent) (with_mark GaveUp m.run.scene.noted).groups
    × (was_handed m.run.scene.disks.sent (with_mark GaveUp m.run.scene.noted).groups ≡ true) =
    owed_acts m.run.scene.disks.sent m.run.scene.noted (not_owed_before m owed k.begun) k.acts.acts in
    (x.0, WasHanded x.1)
step_acts area m _ (HandsCall call a between paid_so hands) k = (
  subst (λ (p : RunState). ActsOn p) (sym hands.after) k.acts.acts,
  out_handed m.run a call m.doing between.live hands k.handed,
)
step_acts area m _ (StepReplies call reply doing live rest) k =
    let busy : is_busy m.doing ≡ true = busy_answering m.doing call doing in
    let t : Mark = Took call.who call.now call.call (answer_of reply) in
    let x : EachGroup (ActsAsDue m.run.scene.disks.sent) (with_mark t m.run.scene.noted).groups
    × (was_handed m.run.scene.disks.sent (with_mark t m.run.scene.noted).groups ≡ true) =
    done_mark m.run.scene.disks.sent m.run.scene.noted t (not_before m busy k.begun) (λ h group. refl) (λ group. refl)
    (at_work_handed m.run.over _ m.doing m.run.queue live busy k.handed) k.acts.acts in
    (x.0, WasHanded x.1)

acts_stand : (area : Area) (b a : Moment) → Runs area b a → ActsStand b → ActsStand a
acts_stand area b _ Starts h = h
acts_stand area b a (Then m _ before last) h =
    let k : ActsStand m = acts_stand area b m before h in
    let x : ActsOn a.run × HandedOn a.run a.doing = step_acts area m a last k in
    record {
      calm = step_calm area m a last k.calm;
      begun = step_begun area m a last k.calm k.acts.said.first k.begun;
      calls = step_calls area m a last k.calls;
      acts = record { said = step_said AnsweredSoFar answered_kept area m a last k.calm k.begun k.acts.said; acts = x.0 };
      handed = x.1;
    }

pub runs_keep_acts : RunsKeepActs
runs_keep_acts media rules supply events area b a o rests runs =
    let no_groups : b.run.scene.noted.groups ≡ [] = ap (λ (x : Scene). x.noted.groups) o.scene.is in
    (acts_stand area b a runs (record {
      calm = calm_before media rules supply events b o;
      begun = StandsBefore rests o.queue o.owed;
      calls = opened_calls media rules supply events b o rests;
      acts = record {
        said = opened_said AnsweredSoFar media rules supply events b.run o (record { places = refl; sent = tt; order = refl; each = tt });
        acts = subst (λ (l : List Group). EachGroup (ActsAsDue b.run.scene.disks.sent) l) (sym no_groups) tt;
      };
      handed = HasNoWork rests o.queue;
    })).acts.acts
