-- Each event of a run keeps what holds of its requests; so each is issued in its place, and all open ones after a start.
use Rattle.std.proofs.Common.{◌≡◌, ℕ, ◌+◌, ◌≤◌, List, [], ◌∷◌, ◌++◌, length, map, max, Bool, true, false, refl, sym, ◌∙◌, ap, subst, arith, inl, inr, ◌⊎◌}
use Rattle.std.proofs.lemmas.List.{append-nil}
use Rattle.std.specs.Prelude.{Option, Some, None, ◌&&◌, not, ◌==◌, if◌then◌else◌}
use Rattle.message.specs.declared.endpoint.Endpoint.{Endpoint}
use Rattle.message.specs.declared.BlockRequest.{BlockRequest}
use Rattle.message.specs.declared.Incoming.{Incoming}
use Rattle.message.specs.declared.Incoming.TheVariants as incoming
use Rattle.bdev.specs.DriverState.{DriverState}
use Rattle.media.specs.Contents.{MediaState}
use Rattle.reincarnate.specs.declared.policy.Policy.{Policy}
use Rattle.reincarnate.specs.Watch.{Phase, Waiting, driver, new_watch}
use Rattle.records.specs.Area.{Area}
use Rattle.records.specs.Marks.{Mark, Started, Answered, Issued, gave_up, last_started}
use Rattle.records.specs.Open.{open_requests, counts, IsIn}
use Rattle.records.specs.Laws.{IsRising}
use Rattle.records.specs.Acts.{Outbox, IsAtRest, is_post_due, without_answered, empty_outbox}
use Rattle.records.proofs.OpenRequests.{cond_has}
use Rattle.records.proofs.Rising.{open_are_rising}
use Rattle.schedule.proofs.FaultlessLaws.{faults_change_nothing}
use Rattle.schedule.specs.declared.Event.{Event}
use Rattle.schedule.specs.Groups.{Group, marks_of, started_in, Each, EachGroup}
use Rattle.schedule.specs.Starts.{IssuesFollow, is_among_first, are_issued_in_place}
use Rattle.simulated_link.specs.Disks.{Disks, is_at, started}
use Rattle.simulated_link.specs.Kept.{with_next}
use Rattle.simulated_link.specs.StateView.{RunState, IsOpened}
use Rattle.simulated_link.specs.Moments.{Doing, Moment, Resting, is_busy, Runs}
use Rattle.conformance.specs.Core.{Core, story, PhaseIs, WaitsNow, FollowsGroups}
use Rattle.conformance.specs.Seen.{core_at}
use Rattle.conformance.specs.Happens.{Begins}
use Rattle.conformance.specs.Steady.{SlotsSoFar}
use Rattle.conformance.proofs.FollowLaws.{same_number}
use Rattle.conformance.proofs.SlotLaws.{slots_kept}
use Rattle.conformance.specs.Said.{core_of, IsSaid, StandsBefore}
use Rattle.conformance.proofs.OpeningLaws.{opened_scene, opened_said, opened_follows, calm_before}
use Rattle.conformance.specs.Issuing.{FollowedAsDue, RunsKeepPlaces, RunsKeepFollowed, RunsEndFollowed}
use Rattle.conformance.proofs.OwingLaws.{owed_with, served, IsKeptOwing, IsOwed, at_work, served_is, runs_owed}
use Rattle.conformance.proofs.NumberLaws.{fewer_answered, never_answered}
use Rattle.conformance.proofs.Starting.{NextStart, BeginsCalmly, begins_calm, not_told, told_of, none_follow, quiet_placed}
use Rattle.conformance.proofs.Issues.{Numbered, AllOpen, AgainNow, Issues, none_left, level, levelled, followed, begins_one, rests, adds, posts, refused}

-- a message other than a start leaves no request to follow one
record Quiet (result : Option Incoming) (marks : List Mark) (o : Outbox) : Type 0 where
  unposted : (owed_with result marks o).unposted ≡ (owed_with result marks o).never_issued
  numbered : Numbered (with_next result marks) (owed_with result marks o).never_issued

quiet_message : (result : Option Incoming) (marks : List Mark) (o : Outbox) → ((e : Endpoint) → result ≡ Some (incoming.Started e) → ⊥)
    → Numbered marks o.never_issued → o.unposted ≡ o.never_issued → Quiet result marks o
quiet_message None marks o other n is = record { unposted = is; numbered = n }
quiet_message (Some (incoming.Reply a)) marks o other n is = record {
  unposted = ap (λ (l : List BlockRequest). without_answered a marks l) is ∙ never_answered marks a o.never_issued n.ids;
  numbered = cond_has (λ (l : List Mark). Numbered l o.never_issued) (counts marks a) (Answered a ∷ marks) marks
      (record { ids = n.ids; few = omega (arith, fewer_answered marks a, n.few) }) n;
}
quiet_message (Some (incoming.Started e)) marks o other n is = absurd (other e refl)
quiet_message (Some incoming.GaveUp) marks o other n is = record { unposted = is; numbered = record { ids = n.ids; few = n.few } }
quiet_message (Some incoming.Flush) marks o other n is = record { unposted = is; numbered = record { ids = n.ids; few = n.few } }
quiet_message (Some incoming.End) marks o other n is = record { unposted = is; numbered = n }

-- a start that is awaited comes before the device is given up
pub waits_on : (drivers : ℕ) (groups : List Group) (c : Core) (until : ℕ) → FollowsGroups drivers groups c → c.watch.phase ≡ Waiting until → gave_up (served groups) ≡ false
waits_on drivers groups c until h is =
    let w : WaitsNow (story c.policy c.watch.generation groups) c until =
    subst (λ (p : Phase). PhaseIs (story c.policy c.watch.generation groups) c p) is h.phase_is in
    (faults_change_nothing (marks_of groups)).given_up ∙ w.goes_on

all_open : (marks : List Mark) (rs : List BlockRequest) → ((r : BlockRequest) → IsIn r rs → IsIn r (open_requests marks)) → AllOpen marks rs
all_open marks [] f = tt
all_open marks (r ∷ rs) f = (f r (inl refl), all_open marks rs (λ s i. f s (inr i)))

-- right after a start all of these are left
start_again : (groups : List Group) (d : Disks) (complaint : Option Endpoint) (to : Endpoint) (left : List BlockRequest)
    → ((id : ℕ) → is_among_first id (marks_of groups) ≡ true) → IsRising left → AllOpen (served groups) left → complaint ≡ None
    → gave_up (served groups) ≡ false → last_started (served groups) ≡ Some to → is_at to d ≡ true → length d.current.line + length left ≤ 16
    → AgainNow groups d complaint false true to left
start_again groups d complaint to [] among rising opened none goes_on last there room = tt
start_again groups d complaint to (r ∷ rest) among rising opened none goes_on last there room = record {
  among = among r.id;
  rising = rising;
  opened = opened;
  uncomplained = none;
  going = refl;
  goes_on = goes_on;
  last_is = last;
  there = there;
  room = room;
  working = refl;
}

started_there : (g : ℕ) (next : DriverState) (d : Disks) → d.media.generation ≤ g → is_at (driver g) (started g next d) ≡ true
started_there g next d low =
    let most : max d.media.generation g ≡ g = omega (arith, low) in
    ap (λ (n : ℕ). (1 == 1) && (g == n) && true) most ∙ ap (λ (b : Bool). (1 == 1) && b && true) (same_number g)

-- a driver is started
start_issues : (drivers place : ℕ) (event : Event) (groups : List Group) (c a : Core) (o : Outbox) (t : Bool) (g : ℕ) (next : DriverState)
    → SlotsSoFar drivers (place + 1) ((event, Started (driver g) ∷ []) ∷ groups) a → a.disks ≡ started g next c.disks → c.disks.media.generation ≤ g
    → gave_up (served groups) ≡ false → o.complaint ≡ None → o.unposted ≡ o.never_issued → EachGroup FollowedAsDue groups → Issues drivers place groups c o t
    → Issues drivers (place + 1) ((event, Started (driver g) ∷ []) ∷ groups) a (owed_with (Some (incoming.Started (driver g))) (served groups) o) true
start_issues drivers place event groups c a o t g next slots disks low goes_on none flat follow h =
    let s : List Mark = served groups in
    let now : List Group = (event, Started (driver g) ∷ []) ∷ groups in
    let opened : open_requests s ≡ open_requests (marks_of groups) = (faults_change_nothing (marks_of groups)).opened_same in
    subst (λ (b : Bool). Issues drivers (place + 1) now a
    (if b then record o { stopped = false } else record o { unposted = open_requests s ++ o.never_issued; stopped = false }) true) (sym goes_on) (record {
      slots = slots;
      placed = (refl, h.placed);
      numbered = record { ids = h.numbered.ids; few = h.numbered.few };
      to = driver g;
      left = open_requests s;
      unposted = refl;
      follow = (
        (
          (
            [],
            ap (λ (l : List BlockRequest). map (λ r. Issued r (driver g)) l) opened
                ∙ sym (append-nil (map (λ r. Issued r (driver g)) (open_requests (marks_of groups)))),
          ),
          tt,
        ),
        follow,
      );
      again = subst (λ (d : Disks). AgainNow now d o.complaint false true (driver g) (open_requests s)) (sym disks)
          (start_again now (started g next c.disks) o.complaint (driver g) (open_requests s) (λ id. refl) (open_are_rising s)
          (all_open (served now) (open_requests s) (λ r i. i)) none goes_on refl (started_there g next c.disks low) (omega (arith, h.numbered.few)));
    })

-- an event
pub begins : (drivers place : ℕ) (groups : List Group) (c a : Core) (event : Event) (marks : List Mark) (result : Option Incoming) (o : Outbox)
    → c.owed ≡ false → IsAtRest (served groups) o → Begins place groups c event marks a
    → served ((event, marks) ∷ groups) ≡ with_next result (served groups) → Issues drivers place groups c o true
    → Issues drivers (place + 1) ((event, marks) ∷ groups) a (owed_with result (served groups) o) true
begins drivers place groups c a event marks result o paid rest does same h = by calm.starts where
  calm : BeginsCalmly c a marks
  calm = begins_calm place groups c a event marks does

  none : h.left ≡ []
  none = none_left groups c.disks o true h.to h.left h.unposted h.again (λ is. rest.post)

  flat : o.unposted ≡ o.never_issued
  flat = levelled o h.left none h.unposted

  follow : EachGroup FollowedAsDue groups
  follow = followed h.to h.left groups none h.follow

  slots : SlotsSoFar drivers (place + 1) ((event, marks) ∷ groups) a
  slots = (slots_kept drivers).begins place groups c a event marks paid does h.slots

  placed : are_issued_in_place ((event, marks) ∷ groups) marks (marks_of groups) ≡ true
  placed = subst (λ (l : List Mark). are_issued_in_place ((event, marks) ∷ groups) l (marks_of groups) ≡ true) (append-nil marks)
      (quiet_placed ((event, marks) ∷ groups) marks [] (marks_of groups) calm.quiet)

  by : NextStart c a marks ⊎ (started_in marks ≡ []) → Issues drivers (place + 1) ((event, marks) ∷ groups) a (owed_with result (served groups) o) true
  by (inr no_start) =
      let q : Quiet result (served groups) o = quiet_message result (served groups) o
      (λ e is. not_told event marks groups e no_start (same ∙ ap (λ (x : Option Incoming). with_next x (served groups)) is)) h.numbered flat in
      level drivers (place + 1) ((event, marks) ∷ groups) a (owed_with result (served groups) o) true slots (placed, h.placed)
      (subst (λ (l : List Mark). Numbered l (owed_with result (served groups) o).never_issued) (sym same) q.numbered) q.unposted
      (subst (λ (l : List Mark). IssuesFollow [] l (marks_of groups)) (append-nil marks) (none_follow [] marks [] (marks_of groups) no_start tt), follow)
  by (inl s) =
      let e : Endpoint = driver (c.watch.generation + 1) in
      let told : result ≡ Some (incoming.Started e) =
      told_of result (served groups) e (sym (ap (λ (l : List Mark). served ((event, l) ∷ groups)) s.marks_are) ∙ same) in
      subst (λ (l : List Mark). Issues drivers (place + 1) ((event, l) ∷ groups) a (owed_with result (served groups) o) true) (sym s.marks_are)
      (subst (λ (x : Option Incoming). Issues drivers (place + 1) ((event, Started e ∷ []) ∷ groups) a (owed_with x (served groups) o) true) (sym told)
      (start_issues drivers place event groups c a o true (c.watch.generation + 1) s.next
      (subst (λ (l : List Mark). SlotsSoFar drivers (place + 1) ((event, l) ∷ groups) a) s.marks_are slots) s.disks_are
      (omega (arith, h.slots.follows.latest)) (waits_on drivers groups c s.until h.slots.follows s.waits) rest.complaint flat follow h))

pub issues_kept : (drivers : ℕ) → IsKeptOwing (Issues drivers)
issues_kept drivers = record {
  begins_one = λ place groups c o t r may h. begins_one drivers place groups c o t r may h;
  rests = λ place groups c o t t' rest h. rests drivers place groups c o t t' rest h;
  begins = λ place groups c a event marks result o paid rest does same h. begins drivers place groups c a event marks result o paid rest does same h;
  posts = λ place event group earlier c d to r o t area may lines h. posts drivers place event group earlier c d to r o t area may lines h;
  refused = λ place groups c d why to r o t area may lines h. refused drivers place groups c d why to r o t area may lines h;
  adds = λ place event group earlier c a marks o o' t does quiet calm unposted never h.
      adds drivers place event group earlier c a marks o o' t does quiet calm unposted never h;
}

-- before the first event
pub slots_opened : (media : MediaState) (rules : Policy) (supply : List DriverState) (events : List Event) (p : RunState) → media.generation ≡ 0
    → Each (λ d. d.failed ≡ false) supply → (o : IsOpened media rules (new_watch (length supply)) supply events p)
    → SlotsSoFar (length supply) 0 [] (core_at (opened_scene media rules (length supply) o.scene.first o.scene.rest) false false)
slots_opened media rules supply events p new ready o =
    let first_ones : Each (λ d. d.failed ≡ false) (o.scene.first ∷ o.scene.rest) = subst (λ (l : List DriverState). Each (λ d. d.failed ≡ false) l) o.scene.spare ready in
    record {
      follows = opened_follows media rules supply o.scene.first o.scene.rest new o.scene.spare;
      numbered = omega (arith, new);
      fresh = first_ones.1;
      slots = record {
        older = λ at s there. cc;
        current = record { live = λ alive. refl; failed = λ fails. absurd (clash (sym first_ones.0 ∙ fails)) };
      };
      unstarted = λ h low. refl;
    } where
      clash : ◌≡◌ {A = Bool} false true → ⊥
      clash is = cc

pub issues_opened : (drivers : ℕ) (c : Core) (t : Bool) → SlotsSoFar drivers 0 [] c → Issues drivers 0 [] c empty_outbox t
issues_opened drivers c t slots = record {
  slots = slots;
  placed = tt;
  numbered = record { ids = tt; few = omega arith };
  to = driver 0;
  left = [];
  unposted = refl;
  follow = tt;
  again = tt;
}

run_issues : (media : MediaState) (rules : Policy) (supply : List DriverState) (events : List Event) (area : Area) (b a : Moment)
    → media.generation ≡ 0 → Each (λ d. d.failed ≡ false) supply → IsOpened media rules (new_watch (length supply)) supply events b.run
    → b.doing ≡ Resting → b.outbox ≡ empty_outbox → Runs area b a → IsOwed (Issues (length supply)) a.run a.outbox (at_work a)
run_issues media rules supply events area b a new ready o rests empty runs =
    let n : ℕ = length supply in
    let t : Bool = at_work b in
    let k : IsSaid (λ place groups c. Issues n place groups c empty_outbox t) b.run =
    opened_said (λ place groups c. Issues n place groups c empty_outbox t) media rules supply events b.run o
    (issues_opened n (core_at (opened_scene media rules n o.scene.first o.scene.rest) false false) t (slots_opened media rules supply events b.run new ready o)) in
    runs_owed (Issues n) (issues_kept n) area b a runs (calm_before media rules supply events b o) (StandsBefore rests o.queue o.owed) (record {
      first = k.first;
      said = subst (λ (x : Outbox). Issues n b.run.next b.run.scene.noted.groups (core_of b.run) x t) (sym empty) k.said;
    })

pub runs_keep_places : RunsKeepPlaces
runs_keep_places media rules supply events area b a new ready o rests empty runs =
    (run_issues media rules supply events area b a new ready o rests empty runs).said.placed

pub runs_keep_followed : RunsKeepFollowed
runs_keep_followed media rules supply events area b a new ready o rests empty runs none_due =
    let k : IsOwed (Issues (length supply)) a.run a.outbox (at_work a) = run_issues media rules supply events area b a new ready o rests empty runs in
    let groups : List Group = a.run.scene.noted.groups in
    followed k.said.to k.said.left groups (none_left groups a.run.scene.disks a.outbox (at_work a) k.said.to k.said.left k.said.unposted k.said.again
    (λ is. subst (λ (l : List Mark). is_post_due l a.outbox ≡ false) (served_is a.run k.first) none_due)) k.said.follow

idle_left : (groups : List Group) (d : Disks) (complaint : Option Endpoint) (stopped t : Bool) (to : Endpoint) (left : List BlockRequest) → t ≡ false
    → AgainNow groups d complaint stopped t to left → left ≡ []
idle_left groups d complaint stopped t to [] idle again = refl
idle_left groups d complaint stopped t to (r ∷ rest) idle again = absurd (clash (sym again.working ∙ idle)) where
  clash : ◌≡◌ {A = Bool} true false → ⊥
  clash e = cc

pub runs_end_followed : RunsEndFollowed
runs_end_followed media rules supply events area b a new ready o rests empty runs ends =
    let k : IsOwed (Issues (length supply)) a.run a.outbox (at_work a) = run_issues media rules supply events area b a new ready o rests empty runs in
    let groups : List Group = a.run.scene.noted.groups in
    followed k.said.to k.said.left groups (idle_left groups a.run.scene.disks a.outbox.complaint a.outbox.stopped (at_work a) k.said.to k.said.left (idle ends) k.said.again)
    k.said.follow where
      none_and : (x : Bool) → (x && false) ≡ false
      none_and true = refl
      none_and false = refl

      idle : (a.doing ≡ Resting) ⊎ (a.run.over ≡ true) → at_work a ≡ false
      idle (inl is) = ap (λ (d : Doing). is_busy d && not a.run.over) is
      idle (inr is) = ap (λ (x : Bool). is_busy a.doing && not x) is ∙ none_and (is_busy a.doing)
