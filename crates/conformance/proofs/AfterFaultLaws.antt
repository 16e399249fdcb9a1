-- The device is given up only after its fault.
use Rattle.std.proofs.Common.{◌≡◌, ℕ, zero, suc, ◌+◌, ◌≤◌, List, [], ◌∷◌, ◌++◌, Bool, true, false, cond, refl, sym, ◌∙◌, ap, subst, arith}
use Rattle.std.proofs.lemmas.Bool.Decides.{nat_tests}
use Rattle.std.specs.Prelude.{◌&&◌, ◌||◌, not, nat_le, length, Option, Some, None, Result, Ok, Err, is_ok, if◌then◌else◌}
use Rattle.message.specs.declared.endpoint.Endpoint.{Endpoint}
use Rattle.message.specs.declared.BlockRequest.{BlockRequest}
use Rattle.message.specs.declared.BlockReply.{BlockReply}
use Rattle.message.specs.declared.Incoming.{Incoming}
use Rattle.message.specs.declared.Incoming.TheVariants as incoming
use Rattle.tree.specs.Answers.{answer_of}
use Rattle.bdev.specs.DriverState.{DriverState}
use Rattle.media.specs.Contents.{MediaState}
use Rattle.reincarnate.specs.declared.policy.Policy.{Policy}
use Rattle.reincarnate.specs.declared.policy.Event.TheVariants as policy
use Rattle.reincarnate.specs.Watch.{Watch, Phase, Running, Waiting, GivenUp, driver, new_watch, on}
use Rattle.records.specs.Area.{Area}
use Rattle.records.specs.Marks.{Mark, Started, Answered, Flush, GaveUp, Took, Issued, Fault, awaits_start}
use Rattle.records.specs.declared.marks.Cause.{Cause}
use Rattle.records.specs.declared.marks.Cause.TheVariants.{Exit, Hung, Complaint}
use Rattle.records.specs.Told.{Told, Complained, Received, took_nothing}
use Rattle.records.specs.Acts.{AtLink, MayAct}
use Rattle.schedule.specs.declared.Sent.{Sent}
use Rattle.schedule.specs.declared.Event.{Event}
use Rattle.schedule.specs.declared.Event.TheVariants as event
use Rattle.schedule.specs.Groups.{Group, marks_of, running, EachGroup}
use Rattle.schedule.specs.Faults.{complaint_after}
use Rattle.schedule.specs.Replies.{answers_in, answers_due}
use Rattle.schedule.specs.Starts.{calls_since_fault, may_give_up, is_given_up_after_fault}
use Rattle.reissue.specs.declared.link.LinkRefusal.{LinkRefusal}
use Rattle.schedule.specs.Noted.{Noted, grouped, with_mark, with_entry}
use Rattle.schedule.specs.declared.log.LogEntry.TheVariants as entry
use Rattle.simulated_link.specs.declared.events.ruling.Ruling.{Ruling}
use Rattle.simulated_link.specs.Disks.{Disks, LinesUp, NoneIsThere, LineIsFull, IsLinedUp}
use Rattle.simulated_link.specs.Scene.{Scene}
use Rattle.schedule.specs.declared.arrived.Arrived.{Arrived}
use Rattle.simulated_link.specs.StateView.{RunState, IsOpened, RunsEvent, Advances, Stays, Goes, Turn, Takes, TakesOwed, TakesEnd, Posts, Complains, ComesToEnd, IsRunOut, IsStarved, noting, paid, posted, complained, ruling_at}
use Rattle.simulated_link.specs.Moments.{Doing, Resting, Hearing, Answering, is_busy, Moment, record_of, IsBetween, Step, Begins as StepBegins, Tells, Takes as StepTakes, Settles, Brings, BringsNone, Pays as StepPays, HandsCall, Replies as StepReplies, Runs, Starts, Then}
use Rattle.conformance.specs.Core.{Core, Story, story, RunsNow, WaitsNow, IsGivenUp, PhaseIs, FollowsGroups}
use Rattle.conformance.specs.Seen.{core_at, with_brought, EventDone}
use Rattle.conformance.specs.Happens.{AtReport, OfNone, OfRunning, fault_marks, exit_marks, beaten_core, TicksTo, Beats, MissesOne, FoundHung, WaitsOn, StartsNext, IsOver, Begins, Arrives, Flushes, Answers, Drops, Delivers, LinesAgain, HangsOne, StepsOne, FailsOne, DiesNone, DiesOne, Ticks}
use Rattle.conformance.specs.Steady.{IsKept, AnsweredSoFar}
use Rattle.conformance.proofs.AnswerLaws.{answered_kept}
use Rattle.conformance.proofs.Events.{event_done, Reported, reported, ruling_for}
use Rattle.conformance.specs.Said.{core_of, IsSaid, IsBegun, HasBegun, StandsBefore, OverCalm}
use Rattle.conformance.specs.Complaining.{fault_due, HeadFollows, LastFollows}
use Rattle.conformance.specs.Owing.{FewCalls, IsOwedAt, AfterFaultAsDue}
use Rattle.conformance.specs.RunLaws.{RunsKeepAfterFault}
use Rattle.conformance.proofs.SaidLaws.{complained_as, complained_is, may_complain, step_calm, not_before, not_owed_before, busy_answering, step_said, step_begun}
use Rattle.conformance.proofs.OpeningLaws.{opened_said, opened_follows, calm_before}
use Rattle.conformance.proofs.ComplaintLaws.{OnlyFollows, follows_kept, runs_this, step_follows}

-- an event of itself
fault_after : (event : Event) (ends : Bool) (e : Endpoint) (cause : Cause) (before : List Mark) → ((marks : List Mark) → may_give_up event (Fault e cause ∷ marks) ≡ true)
    → is_given_up_after_fault event (fault_marks ends e cause) before ≡ true
fault_after event true e cause before may = ap (λ (b : Bool). b && true) (may before)
fault_after event false e cause before may = refl

exit_after : (event : Event) (ends : Option Bool) (e : Endpoint) (before : List Mark) → ((marks : List Mark) → may_give_up event (Fault e Exit ∷ marks) ≡ true)
    → is_given_up_after_fault event (exit_marks ends e) before ≡ true
exit_after event None e before may = refl
exit_after event (Some ends) e before may = fault_after event ends e Exit before may

tick_after : (c a : Core) (marks before : List Mark) → TicksTo c marks a → is_given_up_after_fault event.Tick marks before ≡ true
tick_after c _ _ before (Beats last count is same) = refl
tick_after c _ _ before (MissesOne last count is same few) = refl
tick_after c _ _ before (FoundHung last count ends after is same enough fault) = fault_after event.Tick ends (driver c.disks.media.generation) Hung before (λ marks. refl)
tick_after c _ _ before (WaitsOn until is early) = refl
tick_after c _ _ before (StartsNext until d rest is come spare) = refl
tick_after c _ _ before (IsOver is) = refl

begins_after : (place : ℕ) (groups : List Group) (c a : Core) (event : Event) (marks before : List Mark) → Begins place groups c event marks a
    → is_given_up_after_fault event marks before ≡ true
begins_after place groups c _ _ _ before (Arrives who now call) = refl
begins_after place groups c _ _ _ before Flushes = refl
begins_after place groups c _ _ _ before (Answers n s there counts) = refl
begins_after place groups c _ _ _ before (Drops n s there counts) = refl
begins_after place groups c _ _ _ before (Delivers n there) = refl
begins_after place groups c _ _ _ before (LinesAgain n p d same again) = refl
begins_after place groups c _ _ _ before (HangsOne g d hangs) = refl
begins_after place groups c _ _ _ before (StepsOne g step d steps well) = refl
begins_after place groups c _ _ _ before (FailsOne g d ends after steps report) = exit_after (event.Step g) ends (driver g) before (λ marks. refl)
begins_after place groups c _ _ _ before (DiesNone g bytes d dies) = refl
begins_after place groups c _ _ _ before (DiesOne g bytes d ends after dies report) = exit_after (event.Die g bytes) ends (driver g) before (λ marks. refl)
begins_after place groups c a _ marks before (Ticks _ _ ticks) = tick_after (beaten_core c) a marks before ticks

abbrev AllAfter : List Group → Type 0
AllAfter groups = EachGroup AfterFaultAsDue groups

next_after : (b a : RunState) (result : Option Incoming) (n : Noted) → RunsEvent b result a → n.groups ≡ (with_brought result a.scene.noted).groups
    → b.scene.noted.first ≡ Started (driver 1) ∷ [] → AllAfter b.scene.noted.groups → AllAfter n.groups
next_after b a result n p groups first h =
    let done : EventDone b.next b.owed b.told p.event b.scene result a.scene = event_done b.next b.owed b.told p.event b.scene result a.scene first p.plays in
    subst (λ (l : List Group). AllAfter l) (sym (groups ∙ done.groups))
    (begins_after b.next b.scene.noted.groups (core_of b) (core_at a.scene b.owed b.told) p.event done.marks (marks_of b.scene.noted.groups) done.begins, h)

-- a mark that doesn't give up
abbrev IsOther : Mark → Type 0
IsOther m = (event : Event) (group before : List Mark) → is_given_up_after_fault event (m ∷ group) before ≡ is_given_up_after_fault event group before

mark_after : (groups after : List Group) (m : Mark) (n : Noted) → IsBegun groups → n.groups ≡ groups → after ≡ (with_mark m n).groups → IsOther m
    → AllAfter groups → AllAfter after
mark_after groups after m n begun at is other h =
    let g : (with_mark m n).groups ≡ (begun.event, m ∷ begun.group) ∷ begun.earlier = ap (λ (l : List Group). (grouped m l n.first n).groups) (at ∙ begun.is) in
    let now : AllAfter ((begun.event, begun.group) ∷ begun.earlier) = subst (λ (l : List Group). AllAfter l) begun.is h in
    subst (λ (l : List Group). AllAfter l) (sym (is ∙ g)) (other begun.event begun.group (marks_of begun.earlier) ∙ now.0, now.1)

few_enough : (doing : Doing) (n : ℕ) → FewCalls doing n → nat_le n 1 ≡ true
few_enough Resting n few = grind (arith, nat_tests, few)
few_enough (Hearing message) n few = grind (arith, nat_tests, few)
few_enough (Answering call) n few = grind (arith, nat_tests, few)

-- that the device was given up is told
told_after : (groups after : List Group) (doing : Doing) (n : Noted) → IsOwedAt groups doing → awaits_start (marks_of groups) ≡ true → n.groups ≡ groups
    → after ≡ (with_mark GaveUp n).groups → AllAfter groups → AllAfter after
told_after groups after doing n owed awaits at is h =
    let g : (with_mark GaveUp n).groups ≡ (event.Deliver owed.number, GaveUp ∷ owed.group) ∷ owed.earlier =
    ap (λ (l : List Group). (grouped GaveUp l n.first n).groups) (at ∙ owed.is) in
    let now : AllAfter ((event.Deliver owed.number, owed.group) ∷ owed.earlier) = subst (λ (l : List Group). AllAfter l) owed.is h in
    let marks : List Mark = owed.group ++ marks_of owed.earlier in
    let awaits_it : awaits_start marks ≡ true = sym (ap (λ (l : List Group). awaits_start (marks_of l)) owed.is) ∙ awaits in
    let few : nat_le (calls_since_fault marks) 1 ≡ true =
    sym (ap (λ (l : List Group). nat_le (calls_since_fault (marks_of l)) 1) owed.is) ∙ few_enough doing (calls_since_fault (marks_of groups)) owed.few in
    subst (λ (l : List Group). AllAfter l) (sym (is ∙ g)) (
      ap (λ (b : Bool). (b && nat_le (calls_since_fault marks) 1) && is_given_up_after_fault (event.Deliver owed.number) owed.group (marks_of owed.earlier)) awaits_it
          ∙ ap (λ (b : Bool). b && is_given_up_after_fault (event.Deliver owed.number) owed.group (marks_of owed.earlier)) few ∙ now.0,
      now.1,
    )

-- a complaint is made at a delivery
asks_at_answer : (m : Mark) (marks : List Mark) (e : Endpoint) → complaint_after m marks ≡ Some e → (group : List Mark) → answers_in (m ∷ group) ≡ [] → ⊥
asks_at_answer (Answered a) marks e asks group none = cc
asks_at_answer (Started d) marks e asks group none = cc
asks_at_answer Flush marks e asks group none = cc
asks_at_answer GaveUp marks e asks group none = cc
asks_at_answer (Took who now call answer) marks e asks group none = cc
asks_at_answer (Issued r to) marks e asks group none = cc
asks_at_answer (Fault d cause) marks e asks group none = cc

due_at_answer : (group before : List Mark) (e : Endpoint) → HeadFollows group before (Some e) → answers_in group ≡ [] → ⊥
due_at_answer [] before e h none = clash h where
  clash : ◌≡◌ {A = Option Endpoint} (Some e) None → ⊥
  clash is = cc
due_at_answer (m ∷ group) before e h none = asks_at_answer m (group ++ before) e h.0 group none

delivery_alone : (sent : List Sent) (e : Event) (group : List Mark) (earlier : List Group) → answers_in group ≡ answers_due sent e earlier
    → (answers_in group ≡ [] → ⊥) → (n : ℕ) × (e ≡ event.Deliver n)
delivery_alone sent (event.Deliver n) group earlier answered some = (n, refl)
delivery_alone sent (event.Arrive who now call) group earlier answered some = absurd (some answered)
delivery_alone sent event.Flush group earlier answered some = absurd (some answered)
delivery_alone sent event.Tick group earlier answered some = absurd (some answered)
delivery_alone sent (event.Step g) group earlier answered some = absurd (some answered)
delivery_alone sent (event.Die g bytes) group earlier answered some = absurd (some answered)
delivery_alone sent (event.Hang g) group earlier answered some = absurd (some answered)
delivery_alone sent (event.Repeat n) group earlier answered some = absurd (some answered)

busy_few : (doing : Doing) (n : ℕ) → is_busy doing ≡ true → n ≡ 0 → FewCalls doing n
busy_few Resting n busy none = cc
busy_few (Hearing message) n busy none = none
busy_few (Answering call) n busy none = none

abbrev OwedWell : RunState → Doing → Type 0
OwedWell p doing = p.owed ≡ true → IsOwedAt p.scene.noted.groups doing

none_owed : (p : RunState) (doing : Doing) → p.owed ≡ false → OwedWell p doing
none_owed p doing paid is = absurd (clash (sym paid ∙ is)) where
  clash : ◌≡◌ {A = Bool} false true → ⊥
  clash e = cc

-- all that is needed of a moment
record GivesUpWell (drivers : ℕ) (m : Moment) : Type 0 where
  calm : OverCalm m
  begun : HasBegun m
  said : IsSaid (OnlyFollows drivers) m.run
  follow : LastFollows m.run.scene.noted.groups m.outbox.complaint
  answered : IsSaid AnsweredSoFar m.run
  after : AllAfter m.run.scene.noted.groups
  owed : OwedWell m.run m.doing

awaits_while_owed : (drivers : ℕ) (p : RunState) → IsSaid (OnlyFollows drivers) p → p.owed ≡ true → awaits_start (marks_of p.scene.noted.groups) ≡ true
awaits_while_owed drivers p h owed = by p.scene.watch.phase h.said.phase_is where
  clash : (o : Bool) → o ≡ true → o ≡ false → ⊥
  clash o is not_so = cc

  by : (phase : Phase) → PhaseIs (story p.scene.policy p.scene.watch.generation p.scene.noted.groups) (core_of p) phase → awaits_start (marks_of p.scene.noted.groups) ≡ true
  by (Running last count) k = absurd (clash p.owed owed k.paid)
  by (Waiting until) k = absurd (clash p.owed owed k.paid)
  by GivenUp k = k.awaited owed

-- a complaint
complaint_after_fault : (drivers : ℕ) (b : RunState) (doing : Doing) (about : Endpoint) (ends : Option Bool) (w : Watch)
    → AtReport b.scene.policy b.scene.watch about b.scene.tick ends w → is_busy doing ≡ true → IsBegun b.scene.noted.groups
    → FollowsGroups drivers b.scene.noted.groups (core_of b) → LastFollows b.scene.noted.groups (Some about) → IsSaid AnsweredSoFar b
    → AllAfter b.scene.noted.groups → OwedWell b doing
    → AllAfter (complained_as (ruling_for ends) about b).scene.noted.groups × OwedWell (complained_as (ruling_for ends) about b) doing
complaint_after_fault drivers b doing about _ _ (OfNone other) busy begun follows last answered h owed =
    (h, λ is. owed (same b.owed is)) where
      same : (o : Bool) → (o || false) ≡ true → o ≡ true
      same true is = refl
      same false is = is
complaint_after_fault drivers b doing about _ _ (OfRunning l count ends w is at fault) busy begun follows last answered h owed = by ends where
  due : fault_due (Some about) (running (marks_of b.scene.noted.groups)) ≡ Some about
  due = ap (λ (t : Bool). if t then Some about else None) (runs_this drivers b.scene.noted.groups (core_of b) about l count follows is at)

  now : LastFollows ((begun.event, begun.group) ∷ begun.earlier) (Some about)
  now = subst (λ (g : List Group). LastFollows g (Some about)) begun.is last

  head : HeadFollows begun.group (marks_of begun.earlier) (Some about)
  head = subst (λ (o : Option Endpoint). HeadFollows begun.group (marks_of begun.earlier) o)
      (sym (ap (λ (g : List Group). fault_due (Some about) (running (marks_of g))) begun.is) ∙ due) now.0

  each : EachGroup (λ event group earlier. answers_in group ≡ answers_due b.scene.disks.sent event earlier) ((begun.event, begun.group) ∷ begun.earlier)
  each = subst (λ (g : List Group). EachGroup (λ event group earlier. answers_in group ≡ answers_due b.scene.disks.sent event earlier) g) begun.is answered.said.each

  delivery : (n : ℕ) × (begun.event ≡ event.Deliver n)
  delivery = delivery_alone b.scene.disks.sent begun.event begun.group begun.earlier each.0 (due_at_answer begun.group (marks_of begun.earlier) about head)

  groups_are : (ends' : Bool) → (complained_as (ruling_for (Some ends')) about b).scene.noted.groups ≡ (begun.event, Fault about Complaint ∷ begun.group) ∷ begun.earlier
  groups_are true = ap (λ (g : List Group). (grouped (Fault about Complaint) g b.scene.noted.first b.scene.noted).groups) begun.is
  groups_are false = ap (λ (g : List Group). (grouped (Fault about Complaint) g b.scene.noted.first b.scene.noted).groups) begun.is

  owed_now : (ends' : Bool) → IsOwedAt (complained_as (ruling_for (Some ends')) about b).scene.noted.groups doing
  owed_now ends' = record {
    number = delivery.0;
    group = Fault about Complaint ∷ begun.group;
    earlier = begun.earlier;
    is = groups_are ends' ∙ ap (λ (e : Event). (e, Fault about Complaint ∷ begun.group) ∷ begun.earlier) delivery.1;
    few = subst (λ (g : List Group). FewCalls doing (calls_since_fault (marks_of g))) (sym (groups_are ends')) (busy_few doing 0 busy refl);
  }

  after_now : (ends' : Bool) → AllAfter (complained_as (ruling_for (Some ends')) about b).scene.noted.groups
  after_now ends' = subst (λ (g : List Group). AllAfter g) (sym (groups_are ends')) (subst (λ (g : List Group). AllAfter g) begun.is h)

  by : (ends' : Bool) → AllAfter (complained_as (ruling_for (Some ends')) about b).scene.noted.groups × OwedWell (complained_as (ruling_for (Some ends')) about b) doing
  by ends' = (after_now ends', λ is. owed_now ends')

complains_after : (drivers : ℕ) (b : RunState) (doing : Doing) (about : Endpoint) → b.over ≡ false → is_busy doing ≡ true → IsBegun b.scene.noted.groups
    → FollowsGroups drivers b.scene.noted.groups (core_of b) → LastFollows b.scene.noted.groups (Some about) → IsSaid AnsweredSoFar b
    → AllAfter b.scene.noted.groups → OwedWell b doing → AllAfter (complained about b).scene.noted.groups × OwedWell (complained about b) doing
complains_after drivers b doing about live busy begun follows last answered h owed =
    let r : Reported b.scene.policy b.scene.watch about b.scene.tick (on b.scene.policy b.scene.watch (policy.Complaint about b.scene.tick)) =
    reported b.scene.policy b.scene.watch about b.scene.tick in
    subst (λ (p : RunState). AllAfter p.scene.noted.groups × OwedWell p doing) (sym (complained_is b about live))
    (subst (λ (u : Ruling). AllAfter (complained_as u about b).scene.noted.groups × OwedWell (complained_as u about b) doing) (sym r.ruled)
    (complaint_after_fault drivers b doing about r.ends _ r.report busy begun follows last answered h owed))

-- posts leave it as it is
same_few : (groups after : List Group) (doing : Doing) (m : Mark) (n : Noted) → n.groups ≡ groups → after ≡ (with_mark m n).groups
    → ((marks : List Mark) → calls_since_fault (m ∷ marks) ≡ calls_since_fault marks) → IsOwedAt groups doing → IsOwedAt after doing
same_few groups after doing m n at is same owed =
    let g : (with_mark m n).groups ≡ (event.Deliver owed.number, m ∷ owed.group) ∷ owed.earlier =
    ap (λ (l : List Group). (grouped m l n.first n).groups) (at ∙ owed.is) in
    let was : FewCalls doing (calls_since_fault (owed.group ++ marks_of owed.earlier)) =
    subst (λ (l : List Group). FewCalls doing (calls_since_fault (marks_of l))) owed.is owed.few in
    record {
      number = owed.number;
      group = m ∷ owed.group;
      earlier = owed.earlier;
      is = is ∙ g;
      few = subst (λ (l : List Group). FewCalls doing (calls_since_fault (marks_of l))) (sym (is ∙ g))
          (subst (λ (k : ℕ). FewCalls doing k) (sym (same (owed.group ++ marks_of owed.earlier))) was);
    }

posts_after : (b : RunState) (doing : Doing) (to : Endpoint) (r : BlockRequest) (result : Result (Unit {0}) LinkRefusal) (d : Disks) → LinesUp to r b.scene.disks result d
    → IsBegun b.scene.noted.groups → AllAfter b.scene.noted.groups → OwedWell b doing
    → AllAfter (posted to r (is_ok result) d b).scene.noted.groups × OwedWell (posted to r (is_ok result) d b) doing
posts_after b doing to r _ _ (NoneIsThere none) begun h owed = (h, owed)
posts_after b doing to r _ _ (LineIsFull there full) begun h owed = (h, owed)
posts_after b doing to r _ d (IsLinedUp there few) begun h owed = (
  mark_after b.scene.noted.groups _ (Issued r to) b.scene.noted begun refl refl (λ event group before. refl) h,
  λ is. same_few b.scene.noted.groups _ doing (Issued r to) b.scene.noted refl refl (λ marks. refl) (owed is),
)

-- events that are run
far_after : (b a : RunState) (result : Option Incoming) → Advances b result a → result ≡ None → b.scene.noted.first ≡ Started (driver 1) ∷ []
    → AllAfter b.scene.noted.groups → (a.scene.noted.first ≡ Started (driver 1) ∷ []) × AllAfter a.scene.noted.groups
far_after b _ _ Stays is first h = (first, h)
far_after b a _ (Goes m _ result before last) is first h =
    let next : RunsEvent m None a = subst (λ (r : Option Incoming). RunsEvent m r a) is last in
    let k : (m.scene.noted.first ≡ Started (driver 1) ∷ []) × AllAfter m.scene.noted.groups = far_after b m None before refl first h in
    let done : EventDone m.next m.owed m.told next.event m.scene None a.scene = event_done m.next m.owed m.told next.event m.scene None a.scene k.0 next.plays in
    (done.first ∙ k.0, next_after m a None a.scene.noted next refl k.0 k.1)

far_after_some : (b a : RunState) (result : Option Incoming) (message : Incoming) → Advances b result a → result ≡ Some message
    → b.scene.noted.first ≡ Started (driver 1) ∷ [] → AllAfter b.scene.noted.groups → AllAfter (noting (entry.Received message) a).scene.noted.groups
far_after_some b _ _ message Stays is first h = cc
far_after_some b a _ message (Goes m _ result before last) is first h =
    let next : RunsEvent m (Some message) a = subst (λ (r : Option Incoming). RunsEvent m r a) is last in
    let k : (m.scene.noted.first ≡ Started (driver 1) ∷ []) × AllAfter m.scene.noted.groups = far_after b m None before refl first h in
    next_after m a (Some message) (with_entry (entry.Received message) a.scene.noted) next refl k.0 k.1

far_owed : (b a : RunState) (result : Option Incoming) (doing : Doing) → Advances b result a → result ≡ None → OwedWell b doing → OwedWell a doing
far_owed b _ _ doing Stays is owed = owed
far_owed b a _ doing (Goes m _ result before last) is owed = none_owed a doing (last.owed ∙ last.paid)

some_owed : (b a : RunState) (result : Option Incoming) (message : Incoming) → Advances b result a → result ≡ Some message → a.owed ≡ false
some_owed b _ _ message Stays is = cc
some_owed b a _ message (Goes m _ result before last) is = last.owed ∙ last.paid

end_after : (b a : RunState) (doing : Doing) → ComesToEnd b a → b.scene.noted.first ≡ Started (driver 1) ∷ [] → AllAfter b.scene.noted.groups → OwedWell b doing
    → AllAfter a.scene.noted.groups × OwedWell a doing
end_after b _ doing (IsRunOut a far spent) first h owed = ((far_after b a None far refl first h).1, far_owed b a None doing far refl owed)
end_after b _ doing (IsStarved a far) first h owed = ((far_after b a None far refl first h).1, far_owed b a None doing far refl owed)

-- a turn
turn_after : (drivers : ℕ) (b a : RunState) (told : Told) (doing : Doing) (due : Option Endpoint) → Turn b told a
    → ((about : Endpoint) → told ≡ Complained about → (b.over ≡ false) × (due ≡ Some about)) → is_busy doing ≡ true
    → IsBegun b.scene.noted.groups → IsSaid (OnlyFollows drivers) b → LastFollows b.scene.noted.groups due → IsSaid AnsweredSoFar b
    → AllAfter b.scene.noted.groups → OwedWell b doing → AllAfter a.scene.noted.groups × OwedWell a doing
turn_after drivers b _ _ doing due (Takes message a far) may busy begun said last answered h owed =
    (far_after_some b a (Some message) message far refl said.first h, none_owed (noting (entry.Received message) a) doing (some_owed b a (Some message) message far refl))
turn_after drivers b _ _ doing due (TakesOwed live owes first) may busy begun said last answered h owed = (
  told_after b.scene.noted.groups _ doing b.scene.noted (owed owes) (awaits_while_owed drivers b said owes) refl refl h,
  none_owed (noting (entry.Received incoming.GaveUp) (paid b)) doing refl,
)
turn_after drivers b _ _ doing due (TakesEnd a live ends) may busy begun said last answered h owed = end_after b a doing ends said.first h owed
turn_after drivers b _ _ doing due (Posts to r result d unended lines) may busy begun said last answered h owed = posts_after b doing to r result d lines begun h owed
turn_after drivers b _ _ doing due (Complains about) may busy begun said last answered h owed =
    complains_after drivers b doing about (may about refl).0 busy begun said.said
    (subst (λ (o : Option Endpoint). LastFollows b.scene.noted.groups o) (may about refl).1 last) answered h owed

settled_few : (d : Doing) (message : Incoming) (n : ℕ) → d ≡ Hearing message → FewCalls d n → FewCalls Resting n
settled_few d message n is few =
    let none : n ≡ 0 = subst (λ (x : Doing). FewCalls x n) is few in omega (arith, none)

replied_few : (d : Doing) (call : Arrived) (n : ℕ) → d ≡ Answering call → FewCalls d n → n + 1 ≤ 1
replied_few d call n is few =
    let none : n ≡ 0 = subst (λ (x : Doing). FewCalls x n) is few in omega (arith, none)

not_complaint : (message : Incoming) (about : Endpoint) → Received message ≡ Complained about → ⊥
not_complaint message about is = cc

-- a step
step_after : (area : Area) (drivers : ℕ) (m a : Moment) → Step area m a → GivesUpWell drivers m → AllAfter a.run.scene.noted.groups × OwedWell a.run a.doing
step_after area drivers m _ (StepBegins r busy may) k = (k.after, k.owed)
step_after area drivers m _ (Tells told a busy nothing may turn) k =
    turn_after drivers m.run a told m.doing m.outbox.complaint turn
    (λ about is. (may_complain area m told k.calm may about is, subst (λ (t : Told). MayAct area (record_of m.run) m.outbox (AtLink t)) is may)) busy
    (not_before m busy k.begun) k.said k.follow k.answered k.after k.owed
step_after area drivers m _ (StepTakes message call a doing may turn) k =
    let busy : is_busy m.doing ≡ true = busy_answering m.doing call doing in
    turn_after drivers m.run a (Received message) m.doing m.outbox.complaint turn (λ about is. absurd (not_complaint message about is)) busy
    (not_before m busy k.begun) k.said k.follow k.answered k.after k.owed
step_after area drivers m _ (Settles message doing rest) k = (
  k.after,
  λ is. let o : IsOwedAt m.run.scene.noted.groups m.doing = k.owed is in record {
    number = o.number;
    group = o.group;
    earlier = o.earlier;
    is = o.is;
    few = settled_few m.doing message (calls_since_fault (marks_of m.run.scene.noted.groups)) doing o.few;
  },
)
step_after area drivers m _ (Brings message a between none next) k = (
  next_after m.run a (Some message) (with_entry (entry.Handed message) a.scene.noted) next refl k.said.first k.after,
  none_owed (noting (entry.Handed message) a) (Hearing message) (next.owed ∙ next.paid),
)
step_after area drivers m _ (BringsNone a between none next) k =
    (next_after m.run a None a.scene.noted next refl k.said.first k.after, none_owed a m.doing (next.owed ∙ next.paid))
step_after area drivers m _ (StepPays between owed told) k = (
  told_after m.run.scene.noted.groups _ m.doing m.run.scene.noted (k.owed owed) (awaits_while_owed drivers m.run k.said owed) refl refl k.after,
  none_owed (noting (entry.Handed incoming.GaveUp) (paid m.run)) (Hearing incoming.GaveUp) refl,
)
step_after area drivers m _ (HandsCall call a between paid_so hands) k =
    subst (λ (p : RunState). AllAfter p.scene.noted.groups × OwedWell p (Answering call)) (sym hands.after) (k.after, λ is. absurd (clash (sym paid_so ∙ is))) where
      clash : ◌≡◌ {A = Bool} false true → ⊥
      clash e = cc
step_after area drivers m _ (StepReplies call reply doing live rest) k =
    let groups : List Group = m.run.scene.noted.groups in
    let t : Mark = Took call.who call.now call.call (answer_of reply) in
    let begun : IsBegun groups = not_before m (busy_answering m.doing call doing) k.begun in (
      mark_after groups _ t m.run.scene.noted begun refl refl (λ event group before. refl) k.after,
      λ is. let o : IsOwedAt groups m.doing = k.owed is in
          let g : (with_mark t m.run.scene.noted).groups ≡ (event.Deliver o.number, t ∷ o.group) ∷ o.earlier =
          ap (λ (l : List Group). (grouped t l m.run.scene.noted.first m.run.scene.noted).groups) o.is in
          let was : FewCalls m.doing (calls_since_fault (o.group ++ marks_of o.earlier)) =
          subst (λ (l : List Group). FewCalls m.doing (calls_since_fault (marks_of l))) o.is o.few in
          record {
            number = o.number;
            group = t ∷ o.group;
            earlier = o.earlier;
            is = g;
            few = subst (λ (l : List Group). FewCalls Resting (calls_since_fault (marks_of l))) (sym g)
                (replied_few m.doing call (calls_since_fault (o.group ++ marks_of o.earlier)) doing was);
          },
    )

gives_up_well : (area : Area) (drivers : ℕ) (b a : Moment) → Runs area b a → GivesUpWell drivers b → GivesUpWell drivers a
gives_up_well area drivers b _ Starts h = h
gives_up_well area drivers b a (Then m _ before last) h =
    let k : GivesUpWell drivers m = gives_up_well area drivers b m before h in
    let s : AllAfter a.run.scene.noted.groups × OwedWell a.run a.doing = step_after area drivers m a last k in
    record {
      calm = step_calm area m a last k.calm;
      begun = step_begun area m a last k.calm k.said.first k.begun;
      said = step_said (OnlyFollows drivers) (follows_kept drivers) area m a last k.calm k.begun k.said;
      follow = step_follows area drivers m a last k.calm k.begun k.said k.follow;
      answered = step_said AnsweredSoFar answered_kept area m a last k.calm k.begun k.answered;
      after = s.0;
      owed = s.1;
    }

pub runs_keep_after_fault : RunsKeepAfterFault
runs_keep_after_fault media rules supply events area b a new o rests none runs =
    let n : ℕ = length supply in
    let no_groups : b.run.scene.noted.groups ≡ [] = ap (λ (x : Scene). x.noted.groups) o.scene.is in
    (gives_up_well area n b a runs (record {
      calm = calm_before media rules supply events b o;
      begun = StandsBefore rests o.queue o.owed;
      said = opened_said (OnlyFollows n) media rules supply events b.run o (opened_follows media rules supply o.scene.first o.scene.rest new o.scene.spare);
      follow = subst (λ (l : List Group). LastFollows l b.outbox.complaint) (sym no_groups) none;
      answered = opened_said AnsweredSoFar media rules supply events b.run o (record { places = refl; sent = tt; order = refl; each = tt });
      after = subst (λ (l : List Group). AllAfter l) (sym no_groups) tt;
      owed = none_owed b.run b.doing o.owed;
    })).after
