-- What is said of the groups, of what stands and of what the server owes, each step of a run keeps.
use Rattle.std.proofs.Common.{◌≡◌, ℕ, ◌+◌, List, [], ◌∷◌, ◌++◌, Bool, true, false, refl, sym, ◌∙◌, ap, subst}
use Rattle.std.specs.Prelude.{◌&&◌, not, Option, Some, None, Result, Ok, Err, is_ok}
use Rattle.message.specs.declared.endpoint.Endpoint.{Endpoint}
use Rattle.message.specs.declared.BlockRequest.{BlockRequest}
use Rattle.message.specs.declared.Incoming.{Incoming}
use Rattle.message.specs.declared.Incoming.TheVariants as incoming
use Rattle.tree.specs.Answers.{answer_of}
use Rattle.reincarnate.specs.declared.policy.Event.TheVariants as policy
use Rattle.reincarnate.specs.Watch.{driver, on}
use Rattle.records.specs.Area.{Area}
use Rattle.records.specs.Marks.{Mark, Started, GaveUp, Issued, Fault, Took, Answered, Flush}
use Rattle.records.specs.declared.marks.Cause.TheVariants.{Complaint}
use Rattle.records.specs.Open.{without_id}
use Rattle.records.specs.Told.{Told, Posted, Complained, Received, took_nothing}
use Rattle.records.specs.Acts.{AtLink, Outbox, MayAct, MayBegin, MayPost, IsAtRest, is_post_due, owed_after_act, owed_after_message}
use Rattle.schedule.specs.Faultless.{without_faults}
use Rattle.schedule.proofs.FaultlessLaws.{leave_same_mark}
use Rattle.schedule.specs.declared.Event.{Event}
use Rattle.schedule.specs.Groups.{Group, marks_of}
use Rattle.reissue.specs.declared.link.LinkRefusal.{LinkRefusal}
use Rattle.schedule.specs.Noted.{Noted, marks_in, grouped, with_mark, with_entry}
use Rattle.schedule.specs.declared.log.Post.{Post}
use Rattle.schedule.specs.declared.log.LogEntry.TheVariants as entry
use Rattle.schedule.proofs.NotedLaws.{message_in}
use Rattle.simulated_link.specs.declared.events.ruling.Ruling.{Ruling}
use Rattle.simulated_link.specs.Disks.{Disks, LinesUp}
use Rattle.simulated_link.specs.Kept.{with_next}
use Rattle.simulated_link.proofs.Keeping.{events_note_aside}
use Rattle.simulated_link.specs.StateView.{RunState, begun, RunsEvent, Advances, Stays, Goes, Turn, Takes, TakesOwed, TakesEnd, Posts, Complains, ComesToEnd, IsRunOut, IsStarved, noting, paid, ended, posted, complained}
use Rattle.simulated_link.specs.Moments.{is_busy, Moment, record_of, Step, Begins as StepBegins, Tells, Takes as StepTakes, Settles, Brings, BringsNone, Pays as StepPays, HandsCall, Replies as StepReplies, Runs, Starts, Then}
use Rattle.conformance.specs.Core.{Core}
use Rattle.conformance.specs.Seen.{core_at, with_brought, EventDone}
use Rattle.conformance.specs.Happens.{AtReport, Begins, Adds, Replies, Complains as AddsComplaint, Pays}
use Rattle.conformance.proofs.Events.{event_done, Reported, reported, ruling_for, record_of_groups}
use Rattle.conformance.specs.Said.{core_of, IsBegun, HasBegun, OverCalm}
use Rattle.conformance.proofs.SaidLaws.{complained_as, complained_is, may_complain, step_calm, step_begun, not_before, not_owed_before, busy_answering}

-- what is owed after a message, if one came
abbrev pub owed_with : Option Incoming → List Mark → Outbox → Outbox
owed_with None marks o = o
owed_with (Some m) marks o = owed_after_message m marks o

-- the server's record of these groups
abbrev pub served : List Group → List Mark
served groups = without_faults (marks_of groups)

-- no post is due, but while a complaint is
abbrev pub IsCalm : List Mark → Outbox → Type 0
IsCalm marks o = o.complaint ≡ None → is_post_due marks o ≡ false

-- whether no request is issued
abbrev pub is_quiet : List Mark → Bool
is_quiet [] = true
is_quiet (Issued r e ∷ marks) = false
is_quiet (Started e ∷ marks) = is_quiet marks
is_quiet (Answered a ∷ marks) = is_quiet marks
is_quiet (Flush ∷ marks) = is_quiet marks
is_quiet (GaveUp ∷ marks) = is_quiet marks
is_quiet (Took who now call answer ∷ marks) = is_quiet marks
is_quiet (Fault e cause ∷ marks) = is_quiet marks

-- a request more is pending
abbrev pub with_began : BlockRequest → Outbox → Outbox
with_began r o = record o { never_issued = o.never_issued ++ r ∷ []; unposted = o.unposted ++ r ∷ [] }

-- it is done with
abbrev pub with_posted : BlockRequest → Outbox → Outbox
with_posted r o = record o { never_issued = without_id r.id o.never_issued; unposted = without_id r.id o.unposted }

-- a post more was accepted
abbrev pub core_posted : Endpoint → BlockRequest → Disks → Core → Core
core_posted to r d c = record c { disks = d; posts = c.posts ++ record { to = to; request = r } ∷ [] }

-- Something that is said of the number of the next event, the groups, what stands, what is owed, and whether the server is at work while the
-- link hasn't ended: each thing that a run does keeps it.
pub record IsKeptOwing (Said : ℕ → List Group → Core → Outbox → Bool → Type 0) : Type 0 where
  pub begins_one : (place : ℕ) (groups : List Group) (c : Core) (o : Outbox) (t : Bool) (r : BlockRequest)
      → MayBegin (served groups) o r → Said place groups c o t → Said place groups c (with_began r o) t
  pub rests : (place : ℕ) (groups : List Group) (c : Core) (o : Outbox) (t t' : Bool)
      → IsAtRest (served groups) o → Said place groups c o t → Said place groups c o t'
  pub begins : (place : ℕ) (groups : List Group) (c a : Core) (event : Event) (marks : List Mark) (result : Option Incoming) (o : Outbox)
      → c.owed ≡ false → IsAtRest (served groups) o → Begins place groups c event marks a
      → served ((event, marks) ∷ groups) ≡ with_next result (served groups) → Said place groups c o true
      → Said (place + 1) ((event, marks) ∷ groups) a (owed_with result (served groups) o) true
  pub posts : (place : ℕ) (event : Event) (group : List Mark) (earlier : List Group) (c : Core) (d : Disks) (to : Endpoint) (r : BlockRequest)
      (o : Outbox) (t : Bool) (area : Area) → MayPost area (served ((event, group) ∷ earlier)) o to r → LinesUp to r c.disks (Ok tt) d
      → Said place ((event, group) ∷ earlier) c o t
      → Said place ((event, Issued r to ∷ group) ∷ earlier) (core_posted to r d c) (with_posted r o) t
  pub refused : (place : ℕ) (groups : List Group) (c : Core) (d : Disks) (why : LinkRefusal) (to : Endpoint) (r : BlockRequest) (o : Outbox)
      (t : Bool) (area : Area) → MayPost area (served groups) o to r → LinesUp to r c.disks (Err why) d → Said place groups c o t
      → Said place groups (record c { disks = d }) (record o { stopped = true }) t
  pub adds : (place : ℕ) (event : Event) (group : List Mark) (earlier : List Group) (c a : Core) (marks : List Mark) (o o' : Outbox) (t : Bool)
      → Adds c marks a → is_quiet marks ≡ true → IsCalm (served ((event, group) ∷ earlier)) o → o'.unposted ≡ o.unposted
      → o'.never_issued ≡ o.never_issued → Said place ((event, group) ∷ earlier) c o t → Said place ((event, marks ++ group) ∷ earlier) a o' t

-- of what stands at the link, with what is owed
pub record IsOwed (Said : ℕ → List Group → Core → Outbox → Bool → Type 0) (p : RunState) (o : Outbox) (t : Bool) : Type 0 where
  pub first : p.scene.noted.first ≡ Started (driver 1) ∷ []
  pub said : Said p.next p.scene.noted.groups (core_of p) o t

-- whether the server is at work, while the link hasn't ended
abbrev pub at_work : Moment → Bool
at_work m = is_busy m.doing && not m.run.over

pub served_is : (p : RunState) → p.scene.noted.first ≡ Started (driver 1) ∷ [] → record_of p ≡ served p.scene.noted.groups
served_is p first = ap without_faults (record_of_groups p.scene.noted.groups p.scene.noted.first first)

-- the record with what an event brought
brought_in : (result : Option Incoming) (n : Noted) → marks_in (with_brought result n) ≡ with_next result (marks_in n)
brought_in None n = refl
brought_in (Some m) n = message_in m n

brought_same : (result : Option Incoming) (marks : List Mark) → without_faults (with_next result marks) ≡ with_next result (without_faults marks)
brought_same None marks = refl
brought_same (Some m) marks = leave_same_mark m marks

next_record : (b a : RunState) (result : Option Incoming) → RunsEvent b result a → record_of a ≡ record_of b
next_record b a result p = (events_note_aside b.next p.event (begun p.event b.scene) a.scene result p.plays).marks

done_record : (b a : RunState) (result : Option Incoming) (p : RunsEvent b result a) → b.scene.noted.first ≡ Started (driver 1) ∷ []
    → (done : EventDone b.next b.owed b.told p.event b.scene result a.scene)
    → served ((p.event, done.marks) ∷ b.scene.noted.groups) ≡ with_next result (served b.scene.noted.groups)
done_record b a result p first done =
    let n : Noted = with_brought result a.scene.noted in
    sym (ap (λ (l : List Group). served l) done.groups)
    ∙ sym (ap without_faults (record_of_groups n.groups n.first (done.first ∙ first)))
    ∙ ap without_faults (brought_in result a.scene.noted)
    ∙ brought_same result (marks_in a.scene.noted)
    ∙ ap (λ (l : List Mark). with_next result l) (next_record b a result p ∙ served_is b first)

rest_there : (p : RunState) (o : Outbox) → p.scene.noted.first ≡ Started (driver 1) ∷ [] → IsAtRest (record_of p) o → IsAtRest (served p.scene.noted.groups) o
rest_there p o first rest = subst (λ (l : List Mark). IsAtRest l o) (served_is p first) rest

rest_calm : (marks : List Mark) (o : Outbox) → IsAtRest marks o → IsCalm marks o
rest_calm marks o rest = λ none. rest.post

due_calm : (marks : List Mark) (o : Outbox) (about : Endpoint) → o.complaint ≡ Some about → IsCalm marks o
due_calm marks o about is = λ none. absurd (clash (sym none ∙ is)) where
  clash : ◌≡◌ {A = Option Endpoint} None (Some about) → ⊥
  clash same = cc

some_live : (b a : RunState) (result : Option Incoming) (message : Incoming) → Advances b result a → result ≡ Some message → a.over ≡ false
some_live b _ _ message Stays is = cc
some_live b a _ message (Goes m _ result before last) is = last.over ∙ last.live

tells_over : (b a : RunState) (told : Told) → Turn b told a → took_nothing (told ∷ []) ≡ true → a.over ≡ b.over
tells_over b _ _ (Takes message a far) nothing = cc
tells_over b _ _ (TakesOwed live owed first) nothing = cc
tells_over b _ _ (TakesEnd a live ends) nothing = cc
tells_over b _ _ (Posts to r result d live lines) nothing = refl
tells_over b _ _ (Complains about) nothing = refl

module _ (Said : ℕ → List Group → Core → Outbox → Bool → Type 0) (kept : IsKeptOwing Said) where
  -- at rest it doesn't matter what the server does
  rests_owed : (p : RunState) (o : Outbox) (t t' : Bool) → IsAtRest (record_of p) o → IsOwed Said p o t → IsOwed Said p o t'
  rests_owed p o t t' rest h = record {
    first = h.first;
    said = kept.rests p.next p.scene.noted.groups (core_of p) o t t' (rest_there p o h.first rest) h.said;
  }

  -- an event is run, and the message that it brings is noted
  next_owed : (b a : RunState) (result : Option Incoming) (n : Noted) (o : Outbox) → RunsEvent b result a → n.groups ≡ (with_brought result a.scene.noted).groups
      → n.first ≡ (with_brought result a.scene.noted).first → n.posts ≡ a.scene.noted.posts → IsAtRest (record_of b) o → IsOwed Said b o true
      → IsOwed Said (record a { scene = record (a.scene) { noted = n } }) (owed_with result (record_of b) o) true
  next_owed b a result n o p groups first posts rest h =
      let old : List Group = b.scene.noted.groups in
      let done : EventDone b.next b.owed b.told p.event b.scene result a.scene = event_done b.next b.owed b.told p.event b.scene result a.scene h.first p.plays in
      let now : Outbox = owed_with result (record_of b) o in
      let after : Said (b.next + 1) ((p.event, done.marks) ∷ old) (core_at a.scene b.owed b.told) now true =
      subst (λ (l : List Mark). Said (b.next + 1) ((p.event, done.marks) ∷ old) (core_at a.scene b.owed b.told) (owed_with result l o) true) (sym (served_is b h.first))
      (kept.begins b.next old (core_of b) (core_at a.scene b.owed b.told) p.event done.marks result o p.paid (rest_there b o h.first rest) done.begins
      (done_record b a result p h.first done) h.said) in
      record {
        first = first ∙ done.first ∙ h.first;
        said = subst (λ (l : List Post). Said a.next n.groups (record (core_of a) { posts = l }) now true) (sym posts)
            (subst (λ (k : ℕ). Said k n.groups (core_of a) now true) (sym p.next)
            (subst (λ (l : List Group). Said (b.next + 1) l (core_of a) now true) (sym (groups ∙ done.groups))
            (subst (λ (w : Bool). Said (b.next + 1) ((p.event, done.marks) ∷ old) (core_at a.scene w a.told) now true) (sym p.owed)
            (subst (λ (w : Bool). Said (b.next + 1) ((p.event, done.marks) ∷ old) (core_at a.scene b.owed w) now true) (sym p.told) after))));
      }

  -- what holds while events are run
  record Far (b a : RunState) (o : Outbox) : Type 0 where
    owed : IsOwed Said a o true
    same : record_of a ≡ record_of b

  far_none : (b a : RunState) (result : Option Incoming) (o : Outbox) → Advances b result a → result ≡ None → IsAtRest (record_of b) o → IsOwed Said b o true → Far b a o
  far_none b _ _ o Stays is rest h = record { owed = h; same = refl }
  far_none b a _ o (Goes m _ result before last) is rest h =
      let next : RunsEvent m None a = subst (λ (r : Option Incoming). RunsEvent m r a) is last in
      let k : Far b m o = far_none b m None o before refl rest h in
      record {
        owed = next_owed m a None a.scene.noted o next refl refl refl (subst (λ (l : List Mark). IsAtRest l o) (sym k.same) rest) k.owed;
        same = next_record m a None next ∙ k.same;
      }

  far_some : (b a : RunState) (result : Option Incoming) (message : Incoming) (o : Outbox) → Advances b result a → result ≡ Some message → IsAtRest (record_of b) o
      → IsOwed Said b o true → IsOwed Said (noting (entry.Received message) a) (owed_after_message message (record_of b) o) true
  far_some b _ _ message o Stays is rest h = cc
  far_some b a _ message o (Goes m _ result before last) is rest h =
      let next : RunsEvent m (Some message) a = subst (λ (r : Option Incoming). RunsEvent m r a) is last in
      let k : Far b m o = far_none b m None o before refl rest h in
      subst (λ (l : List Mark). IsOwed Said (noting (entry.Received message) a) (owed_after_message message l o) true) k.same
      (next_owed m a (Some message) (with_entry (entry.Received message) a.scene.noted) o next refl refl refl
      (subst (λ (l : List Mark). IsAtRest l o) (sym k.same) rest) k.owed)

  -- a mark more in the last group
  marked : (b : RunState) (c : Core) (m : Mark) (n : Noted) (o o' : Outbox) (t : Bool) (begun_is : IsBegun b.scene.noted.groups)
      → n.groups ≡ (with_mark m b.scene.noted).groups → n.first ≡ (with_mark m b.scene.noted).first
      → ((event : Event) (group : List Mark) (earlier : List Group) → record_of b ≡ served ((event, group) ∷ earlier)
      → Said b.next ((event, group) ∷ earlier) (core_of b) o t → Said b.next ((event, m ∷ group) ∷ earlier) c o' t)
      → IsOwed Said b o t → (n.first ≡ Started (driver 1) ∷ []) × Said b.next n.groups c o' t
  marked b c m n o o' t begun groups first does h =
      let g : (with_mark m b.scene.noted).groups ≡ (begun.event, m ∷ begun.group) ∷ begun.earlier =
      ap (λ (l : List Group). (grouped m l b.scene.noted.first b.scene.noted).groups) begun.is in
      let f : (with_mark m b.scene.noted).first ≡ b.scene.noted.first =
      ap (λ (l : List Group). (grouped m l b.scene.noted.first b.scene.noted).first) begun.is in
      let was : Said b.next ((begun.event, begun.group) ∷ begun.earlier) (core_of b) o t = subst (λ (l : List Group). Said b.next l (core_of b) o t) begun.is h.said in
      let same : record_of b ≡ served ((begun.event, begun.group) ∷ begun.earlier) = served_is b h.first ∙ ap (λ (l : List Group). served l) begun.is in (
        first ∙ f ∙ h.first,
        subst (λ (l : List Group). Said b.next l c o' t) (sym (groups ∙ g)) (does begun.event begun.group begun.earlier same was),
      )

  -- one that no post leaves
  quietly_marked : (b : RunState) (c : Core) (m : Mark) (n : Noted) (o o' : Outbox) (t : Bool) (begun_is : IsBegun b.scene.noted.groups)
      → n.groups ≡ (with_mark m b.scene.noted).groups → n.first ≡ (with_mark m b.scene.noted).first → Adds (core_of b) (m ∷ []) c → is_quiet (m ∷ []) ≡ true
      → IsCalm (record_of b) o → o'.unposted ≡ o.unposted → o'.never_issued ≡ o.never_issued
      → IsOwed Said b o t → (n.first ≡ Started (driver 1) ∷ []) × Said b.next n.groups c o' t
  quietly_marked b c m n o o' t begun groups first adds quiet calm unposted never h = marked b c m n o o' t begun groups first
      (λ event group earlier same was. kept.adds b.next event group earlier (core_of b) c (m ∷ []) o o' t adds quiet
      (subst (λ (l : List Mark). IsCalm l o) same calm) unposted never was) h

  -- that the device was given up is told
  paid_owed : (b : RunState) (n : Noted) (o : Outbox) (t : Bool) → n.groups ≡ (with_mark GaveUp b.scene.noted).groups → n.first ≡ (with_mark GaveUp b.scene.noted).first
      → n.posts ≡ b.scene.noted.posts → b.owed ≡ true → IsAtRest (record_of b) o → IsBegun b.scene.noted.groups → IsOwed Said b o t
      → IsOwed Said (record (paid b) { scene = record (b.scene) { noted = n } }) (record o { stopped = false }) t
  paid_owed b n o t groups first posts owed rest begun h =
      let k : (n.first ≡ Started (driver 1) ∷ []) × Said b.next n.groups (core_of (paid b)) (record o { stopped = false }) t =
      quietly_marked b (core_of (paid b)) GaveUp n o (record o { stopped = false }) t begun groups first (Pays owed) refl (rest_calm (record_of b) o rest) refl refl h in
      record {
        first = k.0;
        said = subst (λ (l : List Post). Said b.next n.groups (record (core_of (paid b)) { posts = l }) (record o { stopped = false }) t) (sym posts) k.1;
      }

  -- a post
  posts_owed : (area : Area) (b : RunState) (to : Endpoint) (r : BlockRequest) (result : Result (Unit {0}) LinkRefusal) (d : Disks) (o : Outbox) (t : Bool)
      → LinesUp to r b.scene.disks result d → MayPost area (record_of b) o to r → IsBegun b.scene.noted.groups → IsOwed Said b o t
      → IsOwed Said (posted to r (is_ok result) d b) (owed_after_act (AtLink (Posted to r (is_ok result))) (record_of b) o) t
  posts_owed area b to r (Ok tt) d o t lines may begun h =
      let a : RunState = posted to r true d b in
      let k : (a.scene.noted.first ≡ Started (driver 1) ∷ []) × Said b.next a.scene.noted.groups (core_of a) (with_posted r o) t =
      marked b (core_of a) (Issued r to) a.scene.noted o (with_posted r o) t begun refl refl
      (λ event group earlier same was. kept.posts b.next event group earlier (core_of b) d to r o t area
      (subst (λ (l : List Mark). MayPost area l o to r) same may) lines was) h in
      record { first = k.0; said = k.1 }
  posts_owed area b to r (Err why) d o t lines may begun h = record {
    first = h.first;
    said = kept.refused b.next b.scene.noted.groups (core_of b) d why to r o t area
        (subst (λ (l : List Mark). MayPost area l o to r) (served_is b h.first) may) lines h.said;
  }

  -- a complaint
  complains_as : (b : RunState) (about : Endpoint) (ends : Option Bool) (o : Outbox) (t : Bool)
      → AtReport b.scene.policy b.scene.watch about b.scene.tick ends (on b.scene.policy b.scene.watch (policy.Complaint about b.scene.tick)).0
      → o.complaint ≡ Some about → IsBegun b.scene.noted.groups → IsOwed Said b o t
      → IsOwed Said (complained_as (ruling_for ends) about b) (record o { complaint = None }) t
  complains_as b about None o t report due begun h =
      let c : Core = core_of (complained_as (ruling_for None) about b) in
      let was : Said b.next ((begun.event, begun.group) ∷ begun.earlier) (core_of b) o t = subst (λ (l : List Group). Said b.next l (core_of b) o t) begun.is h.said in
      record {
        first = h.first;
        said = subst (λ (l : List Group). Said b.next l c (record o { complaint = None }) t) (sym begun.is)
            (kept.adds b.next begun.event begun.group begun.earlier (core_of b) c [] o (record o { complaint = None }) t (AddsComplaint about None _ report) refl
            (due_calm (served ((begun.event, begun.group) ∷ begun.earlier)) o about due) refl refl was);
      }
  complains_as b about (Some true) o t report due begun h =
      let a : RunState = complained_as (ruling_for (Some true)) about b in
      let k : (a.scene.noted.first ≡ Started (driver 1) ∷ []) × Said b.next a.scene.noted.groups (core_of a) (record o { complaint = None }) t =
      quietly_marked b (core_of a) (Fault about Complaint) a.scene.noted o (record o { complaint = None }) t begun refl refl
      (AddsComplaint about (Some true) _ report) refl (due_calm (record_of b) o about due) refl refl h in
      record { first = k.0; said = k.1 }
  complains_as b about (Some false) o t report due begun h =
      let a : RunState = complained_as (ruling_for (Some false)) about b in
      let k : (a.scene.noted.first ≡ Started (driver 1) ∷ []) × Said b.next a.scene.noted.groups (core_of a) (record o { complaint = None }) t =
      quietly_marked b (core_of a) (Fault about Complaint) a.scene.noted o (record o { complaint = None }) t begun refl refl
      (AddsComplaint about (Some false) _ report) refl (due_calm (record_of b) o about due) refl refl h in
      record { first = k.0; said = k.1 }

  complains_owed : (b : RunState) (about : Endpoint) (o : Outbox) (t : Bool) → b.over ≡ false → o.complaint ≡ Some about → IsBegun b.scene.noted.groups
      → IsOwed Said b o t → IsOwed Said (complained about b) (record o { complaint = None }) t
  complains_owed b about o t live due begun h =
      let r : Reported b.scene.policy b.scene.watch about b.scene.tick (on b.scene.policy b.scene.watch (policy.Complaint about b.scene.tick)) =
      reported b.scene.policy b.scene.watch about b.scene.tick in
      subst (λ (p : RunState). IsOwed Said p (record o { complaint = None }) t) (sym (complained_is b about live))
      (subst (λ (u : Ruling). IsOwed Said (complained_as u about b) (record o { complaint = None }) t) (sym r.ruled)
      (complains_as b about r.ends o t r.report due begun h))

  -- the link is told something
  tells_owed : (area : Area) (b a : RunState) (told : Told) (o : Outbox) (t : Bool) → Turn b told a → took_nothing (told ∷ []) ≡ true
      → MayAct area (record_of b) o (AtLink told) → ((about : Endpoint) → told ≡ Complained about → b.over ≡ false) → IsBegun b.scene.noted.groups
      → IsOwed Said b o t → IsOwed Said a (owed_after_act (AtLink told) (record_of b) o) t
  tells_owed area b _ _ o t (Takes message a far) nothing may live begun h = cc
  tells_owed area b _ _ o t (TakesOwed still owed first) nothing may live begun h = cc
  tells_owed area b _ _ o t (TakesEnd a still ends) nothing may live begun h = cc
  tells_owed area b _ _ o t (Posts to r result d unended lines) nothing may live begun h = by result lines may where
    by : (x : Result (Unit {0}) LinkRefusal) → LinesUp to r b.scene.disks x d → MayAct area (record_of b) o (AtLink (Posted to r (is_ok x)))
        → IsOwed Said (posted to r (is_ok x) d b) (owed_after_act (AtLink (Posted to r (is_ok x))) (record_of b) o) t
    by (Ok tt) l m = posts_owed area b to r (Ok tt) d o t l m begun h
    by (Err why) l m = posts_owed area b to r (Err why) d o t l m begun h
  tells_owed area b _ _ o t (Complains about) nothing may live begun h = complains_owed b about o t (live about refl) may begun h

  end_owed : (b a : RunState) (o : Outbox) → ComesToEnd b a → IsAtRest (record_of b) o → IsOwed Said b o true → IsOwed Said (ended a) o false
  end_owed b _ o (IsRunOut a far spent) rest h =
      let f : Far b a o = far_none b a None o far refl rest h in
      let k : IsOwed Said a o false = rests_owed a o true false (subst (λ (l : List Mark). IsAtRest l o) (sym f.same) rest) f.owed in
      record { first = k.first; said = k.said }
  end_owed b _ o (IsStarved a far) rest h =
      let f : Far b a o = far_none b a None o far refl rest h in
      let k : IsOwed Said a o false = rests_owed a o true false (subst (λ (l : List Mark). IsAtRest l o) (sym f.same) rest) f.owed in
      record { first = k.first; said = k.said }

  -- a message is taken
  takes_owed : (b a : RunState) (told : Told) (message : Incoming) (o : Outbox) → Turn b told a → told ≡ Received message → IsAtRest (record_of b) o
      → IsBegun b.scene.noted.groups → IsOwed Said b o true → IsOwed Said a (owed_after_message message (record_of b) o) (not a.over)
  takes_owed b _ _ message o (Takes m a far) is rest begun h = by m message far is where
    by : (x y : Incoming) → Advances b (Some x) a → Received x ≡ Received y
        → IsOwed Said (noting (entry.Received x) a) (owed_after_message y (record_of b) o) (not a.over)
    by x y far is =
        let same : x ≡ y = ap (λ (w : Told). message_of x w) is in
        subst (λ (w : Bool). IsOwed Said (noting (entry.Received x) a) (owed_after_message y (record_of b) o) (not w)) (sym (some_live b a (Some x) x far refl))
        (subst (λ (z : Incoming). IsOwed Said (noting (entry.Received x) a) (owed_after_message z (record_of b) o) true) same
        (far_some b a (Some x) x o far refl rest h)) where
          message_of : Incoming → Told → Incoming
          message_of d (Received z) = z
          message_of d (Posted to r accepted) = d
          message_of d (Complained about) = d
  takes_owed b _ _ message o (TakesOwed live owed first) is rest begun h = by message is where
    by : (y : Incoming) → Received incoming.GaveUp ≡ Received y
        → IsOwed Said (noting (entry.Received incoming.GaveUp) (paid b)) (owed_after_message y (record_of b) o) (not b.over)
    by (incoming.Reply a) e = cc
    by (incoming.Started x) e = cc
    by incoming.Flush e = cc
    by incoming.End e = cc
    by incoming.GaveUp e =
        let k : IsOwed Said (noting (entry.Received incoming.GaveUp) (paid b)) (record o { stopped = false }) (not b.over) =
        paid_owed b (with_entry (entry.Received incoming.GaveUp) b.scene.noted) o (not b.over) refl refl refl owed rest begun (rests_owed b o true (not b.over) rest h) in k
  takes_owed b _ _ message o (TakesEnd a live ends) is rest begun h = by message is where
    by : (y : Incoming) → Received incoming.End ≡ Received y → IsOwed Said (ended a) (owed_after_message y (record_of b) o) false
    by (incoming.Reply x) e = cc
    by (incoming.Started x) e = cc
    by incoming.Flush e = cc
    by incoming.GaveUp e = cc
    by incoming.End e = end_owed b a o ends rest h
  takes_owed b _ _ message o (Posts to r result d unended lines) is rest begun h = cc
  takes_owed b _ _ message o (Complains about) is rest begun h = cc

  -- a step of a run
  pub step_owed : (area : Area) (m a : Moment) → Step area m a → OverCalm m → HasBegun m → IsOwed Said m.run m.outbox (at_work m)
      → IsOwed Said a.run a.outbox (at_work a)
  step_owed area m _ (StepBegins r busy may) calm begun h = record {
    first = h.first;
    said = kept.begins_one m.run.next m.run.scene.noted.groups (core_of m.run) m.outbox (at_work m) r
        (subst (λ (l : List Mark). MayBegin l m.outbox r) (served_is m.run h.first) may) h.said;
  }
  step_owed area m _ (Tells told a busy nothing may turn) calm begun h =
      subst (λ (w : Bool). IsOwed Said a (owed_after_act (AtLink told) (record_of m.run) m.outbox) (is_busy m.doing && not w))
      (sym (tells_over m.run a told turn nothing))
      (tells_owed area m.run a told m.outbox (at_work m) turn nothing may (may_complain area m told calm may) (not_before m busy begun) h)
  step_owed area m _ (StepTakes message call a doing may turn) calm begun h =
      subst (λ (w : Bool). IsOwed Said a (owed_after_message message (record_of m.run) m.outbox) (w && not a.over)) (sym (busy_answering m.doing call doing))
      (takes_owed m.run a (Received message) message m.outbox turn refl may.at_rest (not_before m (busy_answering m.doing call doing) begun)
      (rests_owed m.run m.outbox (at_work m) true may.at_rest h))
  step_owed area m _ (Settles message doing rest) calm begun h = rests_owed m.run m.outbox (at_work m) false rest h
  step_owed area m _ (Brings message a between none next) calm begun h =
      let k : IsOwed Said (noting (entry.Handed message) a) (owed_after_message message (record_of m.run) m.outbox) true =
      next_owed m.run a (Some message) (with_entry (entry.Handed message) a.scene.noted) m.outbox next refl refl refl between.at_rest
      (rests_owed m.run m.outbox (at_work m) true between.at_rest h) in
      subst (λ (w : Bool). IsOwed Said (noting (entry.Handed message) a) (owed_after_message message (record_of m.run) m.outbox) (not w))
      (sym (next.over ∙ between.live)) k
  step_owed area m _ (BringsNone a between none next) calm begun h =
      let k : IsOwed Said a m.outbox true = next_owed m.run a None a.scene.noted m.outbox next refl refl refl between.at_rest
      (rests_owed m.run m.outbox (at_work m) true between.at_rest h) in
      rests_owed a m.outbox true (is_busy m.doing && not a.over)
      (subst (λ (l : List Mark). IsAtRest l m.outbox) (sym (next_record m.run a None next)) between.at_rest) k
  step_owed area m _ (StepPays between owed told) calm begun h =
      paid_owed m.run (with_entry (entry.Handed incoming.GaveUp) m.run.scene.noted) m.outbox (not m.run.over) refl refl refl owed between.at_rest
      (not_owed_before m owed begun) (rests_owed m.run m.outbox (at_work m) (not m.run.over) between.at_rest h)
  step_owed area m _ (HandsCall call a between paid_so hands) calm begun h =
      let k : IsOwed Said m.run m.outbox (not a.over) = rests_owed m.run m.outbox (at_work m) (not a.over) between.at_rest h in
      subst (λ (p : RunState). IsOwed Said p m.outbox (not a.over)) (sym hands.after) (record { first = k.first; said = k.said })
  step_owed area m _ (StepReplies call reply doing live rest) calm begun h =
      let a : RunState = noting (entry.Took call.who call.now call.call reply) m.run in
      let k : (a.scene.noted.first ≡ Started (driver 1) ∷ []) × Said m.run.next a.scene.noted.groups (core_of a) m.outbox false =
      quietly_marked m.run (core_of a) (Took call.who call.now call.call (answer_of reply)) a.scene.noted m.outbox m.outbox false
      (not_before m (busy_answering m.doing call doing) begun) refl refl (Replies call.who call.now call.call (answer_of reply)) refl
      (rest_calm (record_of m.run) m.outbox rest) refl refl (rests_owed m.run m.outbox (at_work m) false rest h) in
      record { first = k.0; said = k.1 }

record Stands (Said : ℕ → List Group → Core → Outbox → Bool → Type 0) (m : Moment) : Type 0 where
  calm : OverCalm m
  begun_is : HasBegun m
  owed : IsOwed Said m.run m.outbox (at_work m)

stands_on : (Said : ℕ → List Group → Core → Outbox → Bool → Type 0) → IsKeptOwing Said → (area : Area) (b a : Moment) → Runs area b a → Stands Said b → Stands Said a
stands_on Said kept area b _ Starts h = h
stands_on Said kept area b a (Then m _ before last) h = let k : Stands Said m = stands_on Said kept area b m before h in record {
  calm = step_calm area m a last k.calm;
  begun_is = step_begun area m a last k.calm k.owed.first k.begun_is;
  owed = step_owed Said kept area m a last k.calm k.begun_is k.owed;
}

-- a whole run
pub runs_owed : (Said : ℕ → List Group → Core → Outbox → Bool → Type 0) → IsKeptOwing Said → (area : Area) (b a : Moment) → Runs area b a → OverCalm b → HasBegun b
    → IsOwed Said b.run b.outbox (at_work b) → IsOwed Said a.run a.outbox (at_work a)
runs_owed Said kept area b a runs calm begun h = (stands_on Said kept area b a runs (record { calm = calm; begun_is = begun; owed = h })).owed
