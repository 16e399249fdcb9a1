-- A complaint follows exactly each answer of the running driver that isn't good.
use Rattle.std.proofs.Common.{◌≡◌, ℕ, zero, suc, ◌+◌, List, [], ◌∷◌, ◌++◌, Bool, true, false, cond, refl, sym, ◌∙◌, ap, subst, arith}
use Rattle.std.proofs.lemmas.Bool.Decides.{nat_tests}
use Rattle.std.specs.Prelude.{◌&&◌, ◌||◌, not, ◌==◌, length, Option, Some, None, Result, Ok, Err, is_ok, is_some, if◌then◌else◌, slice_get}
use Rattle.message.specs.declared.endpoint.Endpoint.{Endpoint}
use Rattle.message.specs.declared.BlockRequest.{BlockRequest}
use Rattle.message.specs.declared.BlockReply.{BlockReply}
use Rattle.message.specs.declared.Incoming.{Incoming}
use Rattle.message.specs.declared.Incoming.TheVariants as incoming
use Rattle.tree.specs.declared.Reply.{Reply}
use Rattle.tree.specs.Answers.{answer_of}
use Rattle.bdev.specs.DriverState.{DriverState}
use Rattle.media.specs.Contents.{MediaState}
use Rattle.reincarnate.specs.declared.policy.Policy.{Policy}
use Rattle.reincarnate.specs.declared.policy.Event.TheVariants as policy
use Rattle.reincarnate.specs.Watch.{Watch, Phase, Running, Waiting, GivenUp, driver, new_watch, is_last_started, on}
use Rattle.records.specs.Area.{Area}
use Rattle.records.specs.Marks.{Mark, Started, Answered, Flush, GaveUp, Took, Issued, Fault, is_endpoint, gave_up}
use Rattle.records.specs.declared.marks.Cause.{Cause}
use Rattle.records.specs.declared.marks.Cause.TheVariants.{Exit, Hung, Complaint}
use Rattle.records.specs.Open.{counts, moved_by, moved_of, with_id, open_requests}
use Rattle.records.specs.Told.{Told, Posted, Complained, Received, took_nothing}
use Rattle.records.specs.Acts.{AtLink, Outbox, MayAct, complaint_due, owed_after_message, owed_after_act}
use Rattle.schedule.specs.Faultless.{without_faults}
use Rattle.schedule.proofs.FaultlessLaws.{faults_change_nothing, counts_same}
use Rattle.schedule.specs.declared.Event.{Event}
use Rattle.schedule.specs.Groups.{Group, marks_of, running, EachGroup}
use Rattle.schedule.specs.Faults.{complaint_after, complaint_of, ComplaintsFollow}
use Rattle.schedule.specs.Replies.{answers_in}
use Rattle.reissue.specs.declared.link.LinkRefusal.{LinkRefusal}
use Rattle.schedule.specs.Noted.{Noted, marks_in, grouped, with_mark, with_entry}
use Rattle.schedule.specs.declared.log.LogEntry.{LogEntry}
use Rattle.schedule.specs.declared.log.LogEntry.TheVariants as entry
use Rattle.simulated_link.specs.declared.events.ruling.Ruling.{Ruling}
use Rattle.simulated_link.specs.Ruling.{is_fault, gives_up}
use Rattle.simulated_link.specs.Disks.{Disks, LinesUp, NoneIsThere, LineIsFull, IsLinedUp}
use Rattle.simulated_link.specs.Scene.{Scene, ruled}
use Rattle.simulated_link.specs.Kept.{NotesAside}
use Rattle.simulated_link.proofs.Keeping.{events_note_aside}
use Rattle.schedule.specs.declared.arrived.Arrived.{Arrived}
use Rattle.simulated_link.specs.StateView.{RunState, IsOpened, begun, RunsEvent, Advances, Stays, Goes, Turn, Takes, TakesOwed, TakesEnd, Posts, Complains, ComesToEnd, IsRunOut, IsStarved, HandsOut, noting, paid, ended, starving, posted, complained}
use Rattle.simulated_link.specs.Moments.{Doing, Resting, Hearing, Answering, is_busy, Moment, record_of, IsBetween, hearing, at_link, Step, Begins as StepBegins, Tells, Takes as StepTakes, Settles, Brings, BringsNone, Pays as StepPays, HandsCall, Replies as StepReplies, Runs, Starts, Then}
use Rattle.conformance.specs.Core.{Core, Story, story, RunsNow, PhaseIs, FollowsGroups}
use Rattle.conformance.specs.Seen.{core_at, with_brought, Brought, NoMessage, Counted, Uncounted, NoReply, EventDone, is_reply}
use Rattle.conformance.specs.Happens.{IsNotRunning, AtReport, OfNone, OfRunning, fault_marks, exit_marks, beaten_core, TicksTo, Beats, MissesOne, FoundHung, WaitsOn, StartsNext, IsOver, Begins, Arrives, Flushes, Answers, Drops, Delivers, LinesAgain, HangsOne, StepsOne, FailsOne, DiesNone, DiesOne, Ticks}
use Rattle.conformance.specs.Steady.{IsKept}
use Rattle.conformance.proofs.FollowLaws.{same_number, other_number}
use Rattle.conformance.proofs.TickLaws.{follows_begins, follows_adds}
use Rattle.conformance.proofs.Events.{event_done, Reported, reported, ruling_for, record_of_groups}
use Rattle.conformance.specs.Said.{core_of, IsSaid, IsBegun, HasBegun, Began, StandsBefore, OverCalm}
use Rattle.conformance.specs.Complaining.{fault_due, HeadFollows, ComplaintsAsDue, LastFollows}
use Rattle.conformance.specs.RunLaws.{RunsKeepComplaints}
use Rattle.conformance.proofs.SaidLaws.{complained_as, complained_is, may_complain, step_calm, not_before, not_owed_before, none_waits_before, busy_answering, busy_hearing, step_said, step_begun, next_none}
use Rattle.conformance.proofs.OpeningLaws.{opened_said, opened_follows, opened_scene, calm_before}

-- where no complaint is due, the group is done
finished : (group before : List Mark) → HeadFollows group before None → ComplaintsFollow None group before
finished [] before h = refl
finished (m ∷ group) before h = (sym h.0, h.1)

all_finished : (groups : List Group) → LastFollows groups None → EachGroup ComplaintsAsDue groups
all_finished [] h = tt
all_finished ((event, group) ∷ earlier) h = (finished group (marks_of earlier) h.0, h.1)

-- one mark more
mark_follows : (m : Mark) (group before : List Mark) (due after : Option Endpoint) → HeadFollows group before due → complaint_of (Some m) ≡ due
    → complaint_after m (group ++ before) ≡ after → HeadFollows (m ∷ group) before after
mark_follows m [] before due after h is next = (next, is ∙ h)
mark_follows m (x ∷ group) before due after h is next = (next, (is ∙ sym h.0, h.1))

-- the marks of an event that isn't answered
calm_fault : (ends : Bool) (e : Endpoint) (cause : Cause) (before : List Mark) → complaint_of (Some (Fault e cause)) ≡ None → HeadFollows (fault_marks ends e cause) before None
calm_fault true e cause before is = (refl, (refl, is))
calm_fault false e cause before is = (refl, is)

calm_exit : (ends : Option Bool) (e : Endpoint) (before : List Mark) → HeadFollows (exit_marks ends e) before None
calm_exit None e before = refl
calm_exit (Some ends) e before = calm_fault ends e Exit before refl

calm_tick : (c a : Core) (marks before : List Mark) → TicksTo c marks a → HeadFollows marks before None
calm_tick c _ _ before (Beats last count is same) = refl
calm_tick c _ _ before (MissesOne last count is same few) = refl
calm_tick c _ _ before (FoundHung last count ends after is same enough fault) = calm_fault ends (driver c.disks.media.generation) Hung before refl
calm_tick c _ _ before (WaitsOn until is early) = refl
calm_tick c _ _ before (StartsNext until d rest is come spare) = (refl, refl)
calm_tick c _ _ before (IsOver is) = refl

calm_begins : (place : ℕ) (groups : List Group) (c a : Core) (event : Event) (marks before : List Mark) → Begins place groups c event marks a
    → answers_in marks ≡ [] → HeadFollows marks before None
calm_begins place groups c _ _ _ before (Arrives who now call) none = refl
calm_begins place groups c _ _ _ before Flushes none = (refl, refl)
calm_begins place groups c _ _ _ before (Answers n s there counts) none = absurd (clash none) where
  clash : ◌≡◌ {A = List BlockReply} (s.reply ∷ []) [] → ⊥
  clash e = cc
calm_begins place groups c _ _ _ before (Drops n s there counts) none = refl
calm_begins place groups c _ _ _ before (Delivers n there) none = refl
calm_begins place groups c _ _ _ before (LinesAgain n p d same again) none = refl
calm_begins place groups c _ _ _ before (HangsOne g d hangs) none = refl
calm_begins place groups c _ _ _ before (StepsOne g step d steps well) none = refl
calm_begins place groups c _ _ _ before (FailsOne g d ends after steps report) none = calm_exit ends (driver g) before
calm_begins place groups c _ _ _ before (DiesNone g bytes d dies) none = refl
calm_begins place groups c _ _ _ before (DiesOne g bytes d ends after dies report) none = calm_exit ends (driver g) before
calm_begins place groups c a _ marks before (Ticks _ _ ticks) none = calm_tick (beaten_core c) a marks before ticks

-- the complaint that is owed after a message, where none was owed
abbrev owed_by : Option Incoming → List Mark → Option Endpoint
owed_by None marks = None
owed_by (Some (incoming.Reply a)) marks = complaint_due a marks
owed_by (Some (incoming.Started e)) marks = None
owed_by (Some incoming.GaveUp) marks = None
owed_by (Some incoming.Flush) marks = None
owed_by (Some incoming.End) marks = None

none_by : (message : Incoming) (marks : List Mark) → is_reply message ≡ false → owed_by (Some message) marks ≡ None
none_by (incoming.Reply a) marks is = cc
none_by (incoming.Started e) marks is = refl
none_by incoming.GaveUp marks is = refl
none_by incoming.Flush marks is = refl
none_by incoming.End marks is = refl

owed_after : (message : Incoming) (marks : List Mark) (o : Outbox) → o.complaint ≡ None → (owed_after_message message marks o).complaint ≡ owed_by (Some message) marks
owed_after (incoming.Reply a) marks o none = refl
owed_after (incoming.Started e) marks o none = by (gave_up marks) where
  by : (b : Bool) → (cond b (record o { stopped = false }) (record o { unposted = open_requests marks ++ o.never_issued; stopped = false })).complaint ≡ None
  by true = none
  by false = none
owed_after incoming.GaveUp marks o none = none
owed_after incoming.Flush marks o none = none
owed_after incoming.End marks o none = none

moved_same : (a : BlockReply) (marks : List Mark) → moved_by a (without_faults marks) ≡ moved_by a marks
moved_same a marks = ap (λ (l : List BlockRequest). moved_of (with_id a.id l) a) (faults_change_nothing marks).opened_same

owed_same : (message : Option Incoming) (marks : List Mark) → owed_by message (without_faults marks) ≡ owed_by message marks
owed_same None marks = refl
owed_same (Some (incoming.Reply a)) marks =
    ap (λ (b : Bool). if b && not (is_some (moved_by a (without_faults marks))) then Some a.from else None) (counts_same marks a)
    ∙ ap (λ (o : Option ℕ). if counts marks a && not (is_some o) then Some a.from else None) (moved_same a marks)
owed_same (Some (incoming.Started e)) marks = refl
owed_same (Some incoming.GaveUp) marks = refl
owed_same (Some incoming.Flush) marks = refl
owed_same (Some incoming.End) marks = refl

-- an answer asks for the complaint that the server then owes
answer_asks : (a : BlockReply) (marks : List Mark) → counts marks a ≡ true
    → complaint_after (Answered a) marks ≡ fault_due (complaint_due a marks) (running marks)
answer_asks a marks counted =
    by (is_some (moved_by a marks)) ∙ sym (ap (λ (b : Bool). fault_due (if b && not (is_some (moved_by a marks)) then Some a.from else None) (running marks)) counted) where
      by : (good : Bool) → (if not good && is_endpoint a.from (running marks) then Some a.from else None) ≡ fault_due (if not good then Some a.from else None) (running marks)
      by true = refl
      by false = refl

brought_follows : (groups : List Group) (result : Option Incoming) (marks : List Mark) → Brought groups result marks
    → (answers_in marks ≡ [] → HeadFollows marks (marks_of groups) None)
    → HeadFollows marks (marks_of groups) (fault_due (owed_by result (marks_of groups)) (running (marks ++ marks_of groups)))
brought_follows groups _ _ (NoMessage marks none) calm = calm none
brought_follows groups _ _ (Counted a counted) calm = (answer_asks a (marks_of groups) counted, refl)
brought_follows groups _ _ (Uncounted a counted) calm =
    ap (λ (b : Bool). fault_due (if b && not (is_some (moved_by a (marks_of groups))) then Some a.from else None) (running (marks_of groups))) counted
brought_follows groups _ _ (NoReply message marks is none) calm =
    subst (λ (o : Option Endpoint). HeadFollows marks (marks_of groups) (fault_due o (running (marks ++ marks_of groups)))) (sym (none_by message (marks_of groups) is)) (calm none)

-- an event is run
next_follows : (b a : RunState) (result : Option Incoming) (n : Noted) → RunsEvent b result a → n.groups ≡ (with_brought result a.scene.noted).groups
    → b.scene.noted.first ≡ Started (driver 1) ∷ [] → LastFollows b.scene.noted.groups None → LastFollows n.groups (owed_by result (marks_of b.scene.noted.groups))
next_follows b a result n p groups first h =
    let old : List Group = b.scene.noted.groups in
    let done : EventDone b.next b.owed b.told p.event b.scene result a.scene = event_done b.next b.owed b.told p.event b.scene result a.scene first p.plays in
    subst (λ (l : List Group). LastFollows l (owed_by result (marks_of old))) (sym (groups ∙ done.groups)) (
      brought_follows old result done.marks done.brought
          (λ none. calm_begins b.next old (core_of b) (core_at a.scene b.owed b.told) p.event done.marks (marks_of old) done.begins none),
      all_finished old h,
    )

-- what the server was told of the record stays, while events bring no message
next_record : (b a : RunState) → RunsEvent b None a → record_of a ≡ record_of b
next_record b a p = (events_note_aside b.next p.event (begun p.event b.scene) a.scene None p.plays).marks

abbrev pub OnlyFollows : ℕ → ℕ → List Group → Core → Type 0
OnlyFollows drivers place groups c = FollowsGroups drivers groups c

pub follows_kept : (drivers : ℕ) → IsKept (OnlyFollows drivers)
follows_kept drivers = record {
  begins = λ place groups c a event marks paid begins h. follows_begins drivers place groups c a event marks h begins;
  adds = λ place event group earlier c a marks adds h. follows_adds drivers event group earlier c a marks h adds;
}

-- what holds while events are run
record Far (drivers : ℕ) (b a : RunState) : Type 0 where
  said : IsSaid (OnlyFollows drivers) a
  follow : LastFollows a.scene.noted.groups None
  same : record_of a ≡ record_of b

far_none : (drivers : ℕ) (b a : RunState) (result : Option Incoming) → Advances b result a → result ≡ None → IsSaid (OnlyFollows drivers) b
    → LastFollows b.scene.noted.groups None → Far drivers b a
far_none drivers b _ _ Stays is said h = record { said = said; follow = h; same = refl }
far_none drivers b a _ (Goes m _ result before last) is said h =
    let next : RunsEvent m None a = subst (λ (r : Option Incoming). RunsEvent m r a) is last in
    let k : Far drivers b m = far_none drivers b m None before refl said h in
    record {
      said = next_none (OnlyFollows drivers) (follows_kept drivers) m a next k.said;
      follow = next_follows m a None a.scene.noted next refl k.said.first k.follow;
      same = next_record m a next ∙ k.same;
    }

record_is : (p : RunState) → p.scene.noted.first ≡ Started (driver 1) ∷ [] → record_of p ≡ without_faults (marks_of p.scene.noted.groups)
record_is p first = ap without_faults (record_of_groups p.scene.noted.groups p.scene.noted.first first)

owed_here : (message : Option Incoming) (b x : RunState) → record_of x ≡ record_of b → x.scene.noted.first ≡ Started (driver 1) ∷ []
    → owed_by message (record_of b) ≡ owed_by message (marks_of x.scene.noted.groups)
owed_here message b x same first =
    ap (λ (l : List Mark). owed_by message l) (sym same ∙ record_is x first) ∙ owed_same message (marks_of x.scene.noted.groups)

far_some : (drivers : ℕ) (b a : RunState) (result : Option Incoming) (message : Incoming) → Advances b result a → result ≡ Some message → IsSaid (OnlyFollows drivers) b
    → LastFollows b.scene.noted.groups None → LastFollows (noting (entry.Received message) a).scene.noted.groups (owed_by (Some message) (record_of b))
far_some drivers b _ _ message Stays is said h = cc
far_some drivers b a _ message (Goes m _ result before last) is said h =
    let next : RunsEvent m (Some message) a = subst (λ (r : Option Incoming). RunsEvent m r a) is last in
    let k : Far drivers b m = far_none drivers b m None before refl said h in
    subst (λ (o : Option Endpoint). LastFollows (noting (entry.Received message) a).scene.noted.groups o) (sym (owed_here (Some message) b m k.same k.said.first))
    (next_follows m a (Some message) (with_entry (entry.Received message) a.scene.noted) next refl k.said.first k.follow)

-- a mark more in the last group
marks_follow : (groups after : List Group) (m : Mark) (n : Noted) (owed next : Option Endpoint) (begun : IsBegun groups) → n.groups ≡ groups
    → after ≡ (with_mark m n).groups → complaint_of (Some m) ≡ fault_due owed (running (marks_of groups))
    → complaint_after m (marks_of groups) ≡ fault_due next (running (m ∷ marks_of groups)) → LastFollows groups owed → LastFollows after next
marks_follow groups after m n owed next begun at is this asks h =
    let g : (with_mark m n).groups ≡ (begun.event, m ∷ begun.group) ∷ begun.earlier = ap (λ (l : List Group). (grouped m l n.first n).groups) (at ∙ begun.is) in
    let now : LastFollows ((begun.event, begun.group) ∷ begun.earlier) owed = subst (λ (l : List Group). LastFollows l owed) begun.is h in
    let this_is : complaint_of (Some m) ≡ fault_due owed (running (begun.group ++ marks_of begun.earlier)) =
    this ∙ ap (λ (l : List Group). fault_due owed (running (marks_of l))) begun.is in
    let asks_it : complaint_after m (begun.group ++ marks_of begun.earlier) ≡ fault_due next (running (m ∷ (begun.group ++ marks_of begun.earlier))) =
    subst (λ (l : List Group). complaint_after m (marks_of l) ≡ fault_due next (running (m ∷ marks_of l))) begun.is asks in
    subst (λ (l : List Group). LastFollows l next) (sym (is ∙ g)) (
      mark_follows m begun.group (marks_of begun.earlier) _ _ now.0 this_is asks_it,
      now.1,
    )

due_none : (owed : Option Endpoint) (runs : Option Endpoint) → owed ≡ None → None ≡ fault_due owed runs
due_none owed runs is = sym (ap (λ (o : Option Endpoint). fault_due o runs) is)

owing : (groups : List Group) (owed next : Option Endpoint) → owed ≡ next → LastFollows groups owed → LastFollows groups next
owing groups owed next is h = subst (λ (o : Option Endpoint). LastFollows groups o) is h

-- a mark that neither is a complaint nor asks for one
calm_mark : (p : RunState) (after : List Group) (m : Mark) (owed next : Option Endpoint) → IsBegun p.scene.noted.groups → after ≡ (with_mark m p.scene.noted).groups
    → owed ≡ None → next ≡ None → complaint_of (Some m) ≡ None → complaint_after m (marks_of p.scene.noted.groups) ≡ None
    → LastFollows p.scene.noted.groups owed → LastFollows after next
calm_mark p after m owed next begun is none none_next no_complaint asks_none h =
    marks_follow p.scene.noted.groups after m p.scene.noted owed next begun refl is
    (no_complaint ∙ due_none owed (running (marks_of p.scene.noted.groups)) none)
    (asks_none ∙ due_none next (running (m ∷ marks_of p.scene.noted.groups)) none_next) h

-- which driver runs
runs_none : (drivers : ℕ) (groups : List Group) (c : Core) (e : Endpoint) → FollowsGroups drivers groups c → IsNotRunning c.watch e
    → is_endpoint e (running (marks_of groups)) ≡ false
runs_none drivers groups c e h other = by c.watch.phase refl h.phase_is where
  turned : (s g w : ℕ) → ((s == 1) && (g == w)) ≡ false → ((1 == s) && (w == g)) ≡ false
  turned s g w is = ap (λ (b : Bool). b && (w == g)) (swapped 1 s) ∙ ap (λ (b : Bool). (s == 1) && b) (swapped w g) ∙ is where
    swapped : (n m : ℕ) → (n == m) ≡ (m == n)
    swapped n m = by_test (n == m) (m == n) refl refl where
      by_test : (x y : Bool) → (n == m) ≡ x → (m == n) ≡ y → (n == m) ≡ (m == n)
      by_test true true ex ey = ex ∙ sym ey
      by_test false false ex ey = ex ∙ sym ey
      by_test true false ex ey = grind (arith, nat_tests, ex, ey)
      by_test false true ex ey = grind (arith, nat_tests, ex, ey)

  by : (p : Phase) → c.watch.phase ≡ p → PhaseIs (story c.policy c.watch.generation groups) c p → is_endpoint e (running (marks_of groups)) ≡ false
  by (Running last count) is k = ap (λ (o : Option Endpoint). is_endpoint e o) k.runs_is
      ∙ turned e.slot e.generation c.watch.generation (other.other last count is)
  by (Waiting until) is k = ap (λ (o : Option Endpoint). is_endpoint e o) k.none_runs
  by GivenUp is k = ap (λ (o : Option Endpoint). is_endpoint e o) k.none_runs

pub runs_this : (drivers : ℕ) (groups : List Group) (c : Core) (e : Endpoint) (last : ℕ × ℕ) (count : ℕ) → FollowsGroups drivers groups c
    → c.watch.phase ≡ Running last count → e ≡ driver c.watch.generation → is_endpoint e (running (marks_of groups)) ≡ true
runs_this drivers groups c e last count h is at =
    let now : RunsNow (story c.policy c.watch.generation groups) c last count =
    subst (λ (p : Phase). PhaseIs (story c.policy c.watch.generation groups) c p) is h.phase_is in
    ap (λ (o : Option Endpoint). is_endpoint e o) now.runs_is
    ∙ ap (λ (d : Endpoint). is_endpoint d (Some (driver c.watch.generation))) at ∙ same_number c.watch.generation

complaint_follows : (drivers : ℕ) (b : RunState) (about : Endpoint) (ends : Option Bool) (after : Watch) → AtReport b.scene.policy b.scene.watch about b.scene.tick ends after
    → IsBegun b.scene.noted.groups → FollowsGroups drivers b.scene.noted.groups (core_of b) → LastFollows b.scene.noted.groups (Some about)
    → LastFollows (complained_as (ruling_for ends) about b).scene.noted.groups None
complaint_follows drivers b about _ _ (OfNone other) begun follows h =
    let none : fault_due (Some about) (running (marks_of b.scene.noted.groups)) ≡ None =
    ap (λ (t : Bool). if t then Some about else None) (runs_none drivers b.scene.noted.groups (core_of b) about follows other) in
    let now : LastFollows ((begun.event, begun.group) ∷ begun.earlier) (Some about) = subst (λ (l : List Group). LastFollows l (Some about)) begun.is h in
    let none_is : fault_due (Some about) (running (begun.group ++ marks_of begun.earlier)) ≡ None =
    sym (ap (λ (l : List Group). fault_due (Some about) (running (marks_of l))) begun.is) ∙ none in
    subst (λ (l : List Group). LastFollows l None) (sym begun.is)
    (subst (λ (o : Option Endpoint). HeadFollows begun.group (marks_of begun.earlier) o) none_is now.0, now.1)
complaint_follows drivers b about _ _ (OfRunning last count true after is at fault) begun follows h =
    marks_follow b.scene.noted.groups _ (Fault about Complaint) b.scene.noted (Some about) None begun refl refl
    (sym (ap (λ (t : Bool). if t then Some about else None) (runs_this drivers b.scene.noted.groups (core_of b) about last count follows is at))) refl h
complaint_follows drivers b about _ _ (OfRunning last count false after is at fault) begun follows h =
    marks_follow b.scene.noted.groups _ (Fault about Complaint) b.scene.noted (Some about) None begun refl refl
    (sym (ap (λ (t : Bool). if t then Some about else None) (runs_this drivers b.scene.noted.groups (core_of b) about last count follows is at))) refl h

complains_follow : (drivers : ℕ) (b : RunState) (about : Endpoint) → b.over ≡ false → IsBegun b.scene.noted.groups → FollowsGroups drivers b.scene.noted.groups (core_of b)
    → LastFollows b.scene.noted.groups (Some about) → LastFollows (complained about b).scene.noted.groups None
complains_follow drivers b about live begun follows h =
    let r : Reported b.scene.policy b.scene.watch about b.scene.tick (on b.scene.policy b.scene.watch (policy.Complaint about b.scene.tick)) =
    reported b.scene.policy b.scene.watch about b.scene.tick in
    subst (λ (p : RunState). LastFollows p.scene.noted.groups None) (sym (complained_is b about live))
    (subst (λ (u : Ruling). LastFollows (complained_as u about b).scene.noted.groups None) (sym r.ruled)
    (complaint_follows drivers b about r.ends _ r.report begun follows h))

-- what a server tells its link
posts_follow : (b : RunState) (o : Option Endpoint) (to : Endpoint) (r : BlockRequest) (result : Result (Unit {0}) LinkRefusal) (d : Disks) → LinesUp to r b.scene.disks result d
    → IsBegun b.scene.noted.groups → o ≡ None → LastFollows b.scene.noted.groups o → LastFollows (posted to r (is_ok result) d b).scene.noted.groups o
posts_follow b o to r _ _ (NoneIsThere none) begun is h = h
posts_follow b o to r _ _ (LineIsFull there full) begun is h = h
posts_follow b o to r _ d (IsLinedUp there few) begun is h = calm_mark b _ (Issued r to) o o begun refl is is refl refl h

-- a take within a call
take_follows : (drivers : ℕ) (b a : RunState) (told : Told) (message : Incoming) (o : Outbox) → Turn b told a → told ≡ Received message → IsBegun b.scene.noted.groups
    → o.complaint ≡ None → IsSaid (OnlyFollows drivers) b → LastFollows b.scene.noted.groups None
    → LastFollows a.scene.noted.groups (owed_after_message message (record_of b) o).complaint
take_follows drivers b _ _ message o (Takes m a far) is begun none said h =
    owing (noting (entry.Received m) a).scene.noted.groups (owed_by (Some m) (record_of b)) _
    (ap (λ (x : Incoming). owed_by (Some x) (record_of b)) (same_message m message is) ∙ sym (owed_after message (record_of b) o none))
    (far_some drivers b a (Some m) m far refl said h) where
      same_message : (x y : Incoming) → Received x ≡ Received y → x ≡ y
      same_message x y e = cc
take_follows drivers b _ _ message o (TakesOwed live owed first) is begun none said h =
    owing (noting (entry.Received incoming.GaveUp) (paid b)).scene.noted.groups None _ (sym (still message is))
    (calm_mark b _ GaveUp None None begun refl refl refl refl refl h) where
      still : (x : Incoming) → Received incoming.GaveUp ≡ Received x → (owed_after_message x (record_of b) o).complaint ≡ None
      still (incoming.Reply a) e = cc
      still (incoming.Started e') e = cc
      still incoming.GaveUp e = none
      still incoming.Flush e = cc
      still incoming.End e = cc
take_follows drivers b _ _ message o (TakesEnd a live ends) is begun none said h =
    owing a.scene.noted.groups None _ (sym (still message is)) (end_follows a ends) where
      still : (x : Incoming) → Received incoming.End ≡ Received x → (owed_after_message x (record_of b) o).complaint ≡ None
      still (incoming.Reply a) e = cc
      still (incoming.Started e') e = cc
      still incoming.GaveUp e = cc
      still incoming.Flush e = cc
      still incoming.End e = none

      end_follows : (x : RunState) → ComesToEnd b x → LastFollows x.scene.noted.groups None
      end_follows _ (IsRunOut x far spent) = (far_none drivers b x None far refl said h).follow
      end_follows _ (IsStarved x far) = (far_none drivers b x None far refl said h).follow
take_follows drivers b _ _ message o (Posts to r result d unended lines) is begun none said h = cc
take_follows drivers b _ _ message o (Complains about) is begun none said h = cc

-- what stands after each step
record ComplaintsStand (drivers : ℕ) (m : Moment) : Type 0 where
  calm : OverCalm m
  begun : HasBegun m
  said : IsSaid (OnlyFollows drivers) m.run
  follow : LastFollows m.run.scene.noted.groups m.outbox.complaint

tell_follows : (area : Area) (drivers : ℕ) (m : Moment) (told : Told) (a : RunState) → Turn m.run told a → took_nothing (told ∷ []) ≡ true → OverCalm m
    → MayAct area (record_of m.run) m.outbox (AtLink told) → IsBegun m.run.scene.noted.groups → IsSaid (OnlyFollows drivers) m.run
    → LastFollows m.run.scene.noted.groups m.outbox.complaint
    → LastFollows a.scene.noted.groups (owed_after_act (AtLink told) (record_of m.run) m.outbox).complaint
tell_follows area drivers m _ _ (Takes message a far) nothing calm may begun said h = cc
tell_follows area drivers m _ _ (TakesOwed live owed first) nothing calm may begun said h = cc
tell_follows area drivers m _ _ (TakesEnd a live ends) nothing calm may begun said h = cc
tell_follows area drivers m _ _ (Posts to r result d unended lines) nothing calm may begun said h =
    owing (posted to r (is_ok result) d m.run).scene.noted.groups m.outbox.complaint _ (same (is_ok result))
    (posts_follow m.run m.outbox.complaint to r result d lines begun may.complained h) where
      same : (b : Bool) → m.outbox.complaint ≡ (owed_after_act (AtLink (Posted to r b)) (record_of m.run) m.outbox).complaint
      same true = refl
      same false = refl
tell_follows area drivers m _ _ (Complains about) nothing calm may begun said h =
    complains_follow drivers m.run about (may_complain area m (Complained about) calm may about refl) begun said.said (owing m.run.scene.noted.groups m.outbox.complaint (Some about) may h)

pub step_follows : (area : Area) (drivers : ℕ) (m a : Moment) → Step area m a → OverCalm m → HasBegun m → IsSaid (OnlyFollows drivers) m.run
    → LastFollows m.run.scene.noted.groups m.outbox.complaint → LastFollows a.run.scene.noted.groups a.outbox.complaint
step_follows area drivers m _ (StepBegins r busy may) calm begun said h = h
step_follows area drivers m _ (Tells told a busy nothing may turn) calm begun said h =
    tell_follows area drivers m told a turn nothing calm may (not_before m busy begun) said h
step_follows area drivers m _ (StepTakes message call a doing may turn) calm begun said h =
    take_follows drivers m.run a (Received message) message m.outbox turn refl (not_before m (busy_answering m.doing call doing) begun) may.at_rest.complaint said
    (owing m.run.scene.noted.groups m.outbox.complaint None may.at_rest.complaint h)
step_follows area drivers m _ (Settles message doing rest) calm begun said h = h
step_follows area drivers m _ (Brings message a between none next) calm begun said h =
    owing (noting (entry.Handed message) a).scene.noted.groups (owed_by (Some message) (marks_of m.run.scene.noted.groups)) _
    (sym (owed_here (Some message) m.run m.run refl said.first) ∙ sym (owed_after message (record_of m.run) m.outbox between.at_rest.complaint))
    (next_follows m.run a (Some message) (with_entry (entry.Handed message) a.scene.noted) next refl said.first
    (owing m.run.scene.noted.groups m.outbox.complaint None between.at_rest.complaint h))
step_follows area drivers m _ (BringsNone a between none next) calm begun said h =
    owing a.scene.noted.groups None m.outbox.complaint (sym between.at_rest.complaint)
    (next_follows m.run a None a.scene.noted next refl said.first (owing m.run.scene.noted.groups m.outbox.complaint None between.at_rest.complaint h))
step_follows area drivers m _ (StepPays between owed told) calm begun said h =
    calm_mark m.run _ GaveUp m.outbox.complaint m.outbox.complaint (not_owed_before m owed begun) refl between.at_rest.complaint between.at_rest.complaint refl refl h
step_follows area drivers m _ (HandsCall call a between paid_so hands) calm begun said h =
    subst (λ (p : RunState). LastFollows p.scene.noted.groups m.outbox.complaint) (sym hands.after) h
step_follows area drivers m _ (StepReplies call reply doing live rest) calm begun said h =
    calm_mark m.run _ (Took call.who call.now call.call (answer_of reply)) m.outbox.complaint m.outbox.complaint
    (not_before m (busy_answering m.doing call doing) begun) refl rest.complaint rest.complaint refl refl h

complaints_stand : (area : Area) (drivers : ℕ) (b a : Moment) → Runs area b a → ComplaintsStand drivers b → ComplaintsStand drivers a
complaints_stand area drivers b _ Starts h = h
complaints_stand area drivers b a (Then m _ before last) h = let k : ComplaintsStand drivers m = complaints_stand area drivers b m before h in record {
  calm = step_calm area m a last k.calm;
  begun = step_begun area m a last k.calm k.said.first k.begun;
  said = step_said (OnlyFollows drivers) (follows_kept drivers) area m a last k.calm k.begun k.said;
  follow = step_follows area drivers m a last k.calm k.begun k.said k.follow;
}

pub runs_keep_complaints : RunsKeepComplaints
runs_keep_complaints media rules supply events area b a new o rests none runs none_now =
    let n : ℕ = length supply in
    let said : IsSaid (OnlyFollows n) b.run = opened_said (OnlyFollows n) media rules supply events b.run o
    (opened_follows media rules supply o.scene.first o.scene.rest new o.scene.spare) in
    let no_groups : b.run.scene.noted.groups ≡ [] = ap (λ (x : Scene). x.noted.groups) o.scene.is in
    let k : ComplaintsStand n a = complaints_stand area n b a runs (record {
      calm = calm_before media rules supply events b o;
      begun = StandsBefore rests o.queue o.owed;
      said = said;
      follow = subst (λ (l : List Group). LastFollows l b.outbox.complaint) (sym no_groups) none;
    }) in
    all_finished a.run.scene.noted.groups (owing a.run.scene.noted.groups a.outbox.complaint None none_now k.follow)
