-- Where a request is to be posted, the line of its driver has room: it holds at most 16 requests, and others that are open.
use Rattle.std.proofs.Common.{◌≡◌, ℕ, suc, ◌+◌, ◌<◌, ◌≤◌, List, [], ◌∷◌, ◌++◌, length, Bool, true, false, refl, sym, ◌∙◌, ap, subst, arith, inl, inr, ◌⊎◌}
use Rattle.std.proofs.lemmas.List.{length-append}
use Rattle.std.specs.Prelude.{Option, Some, Ok, Err, if◌then◌else◌}
use Rattle.message.specs.declared.endpoint.Endpoint.{Endpoint}
use Rattle.message.specs.declared.BlockRequest.{BlockRequest}
use Rattle.message.specs.declared.Incoming.{Incoming}
use Rattle.message.specs.declared.Incoming.TheVariants as incoming
use Rattle.bdev.specs.DriverState.{DriverState}
use Rattle.reincarnate.specs.Watch.{driver}
use Rattle.records.specs.Area.{Area}
use Rattle.records.specs.Marks.{Mark, Issued, gave_up, last_started}
use Rattle.records.specs.Open.{greatest, open_requests, without_id}
use Rattle.records.specs.Acts.{Outbox, MayBegin, MayPost, IsAtRest, first_of, empty_outbox}
use Rattle.records.proofs.OpenRequests.{below_open}
use Rattle.records.proofs.Rising.{open_are_rising}
use Rattle.schedule.specs.declared.Event.{Event}
use Rattle.schedule.specs.Groups.{Group, marks_of, started_in, Each}
use Rattle.reissue.specs.declared.link.LinkRefusal.{LinkRefusal}
use Rattle.schedule.specs.declared.log.Post.{Post}
use Rattle.simulated_link.specs.Disks.{Disks, LinesUp, IsLinedUp, lined_up, started}
use Rattle.simulated_link.specs.Kept.{with_next}
use Rattle.conformance.specs.Core.{Core}
use Rattle.conformance.specs.Seen.{core_at}
use Rattle.conformance.specs.Happens.{Begins, Adds, AddsNothing, Posts, Replies, Complains, Pays}
use Rattle.conformance.specs.Said.{core_of, IsSaid, StandsBefore}
use Rattle.conformance.proofs.OpeningLaws.{opened_scene, opened_said, calm_before}
use Rattle.conformance.specs.Issuing.{HasNoWork, RunsKeepRoom}
use Rattle.conformance.proofs.OwingLaws.{owed_with, served, IsCalm, is_quiet, with_began, with_posted, core_posted, IsKeptOwing, IsOwed, at_work, runs_owed}
use Rattle.conformance.proofs.NumberLaws.{length_push, FirstOut, first_out}
use Rattle.conformance.proofs.Starting.{NextStart, begins_calm, not_told, told_of, same_last, Within, adds_within, Numbers, adds_numbers}
use Rattle.conformance.proofs.Issues.{all_open_as, AgainNow, Issues, levelled, begins_one, rests, adds, posts, refused, at_generation}
use Rattle.conformance.proofs.PlaceLaws.{begins, waits_on, issues_opened, slots_opened}
use Rattle.conformance.proofs.Lines.{Between, OnLine, PostLow, between_push, between_join, between_numbered, between_rising, post_push, few_open, open_in, issue_leaves, same_line, lined_on, started_on}
use Rattle.conformance.proofs.Roomy.{on_line_as, EventLine, event_line, message_unposted, PostFacts, post_facts, FirstPosted, first_posted, posts_more, posts_older, refused_same}

-- with what holds of requests: the line of the current driver, the posts, and those unposted, each of which has a greater id
record Roomy (drivers : ℕ) (place : ℕ) (groups : List Group) (c : Core) (o : Outbox) (t : Bool) : Type 0 where
  issues : Issues drivers place groups c o t
  fresh : Each HasNoWork c.supply
  last_is : last_started (marks_of groups) ≡ Some (driver c.disks.media.generation)
  bound : ℕ
  on_line : OnLine (served groups) c.disks bound
  posts_low : Each (PostLow c.disks.media.generation bound) c.posts
  unposted_is : Between bound (suc (greatest (served groups) + length o.never_issued)) o.unposted

begins_one_roomy : (drivers place : ℕ) (groups : List Group) (c : Core) (o : Outbox) (t : Bool) (r : BlockRequest) → MayBegin (served groups) o r
    → Roomy drivers place groups c o t → Roomy drivers place groups c (with_began r o) t
begins_one_roomy drivers place groups c o t r may h =
    let more : length (o.never_issued ++ r ∷ []) ≡ suc (length o.never_issued) = length_push o.never_issued r in
    record {
      issues = begins_one drivers place groups c o t r may h.issues;
      fresh = h.fresh;
      last_is = h.last_is;
      bound = h.bound;
      on_line = h.on_line;
      posts_low = h.posts_low;
      unposted_is = subst (λ (n : ℕ). Between h.bound n (o.unposted ++ r ∷ [])) (omega (arith, may.next, more))
          (between_push h.bound (suc (greatest (served groups) + length o.never_issued)) o.unposted r h.unposted_is (omega (arith, may.next)));
    }

rests_roomy : (drivers place : ℕ) (groups : List Group) (c : Core) (o : Outbox) (t t' : Bool) → IsAtRest (served groups) o
    → Roomy drivers place groups c o t → Roomy drivers place groups c o t'
rests_roomy drivers place groups c o t t' rest h = record {
  issues = rests drivers place groups c o t t' rest h.issues;
  fresh = h.fresh;
  last_is = h.last_is;
  bound = h.bound;
  on_line = h.on_line;
  posts_low = h.posts_low;
  unposted_is = h.unposted_is;
}

posts_roomy : (drivers place : ℕ) (event : Event) (group : List Mark) (earlier : List Group) (c : Core) (d : Disks) (to : Endpoint) (r : BlockRequest)
    (o : Outbox) (t : Bool) (area : Area) → MayPost area (served ((event, group) ∷ earlier)) o to r → LinesUp to r c.disks (Ok tt) d
    → Roomy drivers place ((event, group) ∷ earlier) c o t
    → Roomy drivers place ((event, Issued r to ∷ group) ∷ earlier) (core_posted to r d c) (with_posted r o) t
posts_roomy drivers place event group earlier c _ to r o t area may (IsLinedUp there few) h =
    let s : List Mark = served ((event, group) ∷ earlier) in
    let k : PostFacts s o to r = post_facts drivers place ((event, group) ∷ earlier) c o t to r h.issues may.first in
    let p : FirstPosted h.bound (suc (greatest s + length o.never_issued)) r o.unposted =
    first_posted h.bound (suc (greatest s + length o.never_issued)) r o.unposted h.unposted_is may.first in
    record {
      issues = posts drivers place event group earlier c (lined_up r c.disks) to r o t area may (IsLinedUp there few) h.issues;
      fresh = h.fresh;
      last_is = h.last_is;
      bound = suc r.id;
      on_line = lined_on s (Issued r to ∷ s) h.bound r c.disks p.from (λ rs l. issue_leaves s r to rs l) k.opened h.on_line;
      posts_low = post_push (PostLow c.disks.media.generation (suc r.id)) c.posts (record { to = to; request = r })
          (posts_more c.disks.media.generation h.bound (suc r.id) c.posts (omega (arith, p.from)) h.posts_low)
          (omega (arith, at_generation to c.disks there), λ own. omega arith);
      unposted_is = subst (λ (n : ℕ). Between (suc r.id) n (without_id r.id o.unposted)) (ap suc (sym k.same_top)) p.rest;
    }

refused_roomy : (drivers place : ℕ) (groups : List Group) (c : Core) (d : Disks) (why : LinkRefusal) (to : Endpoint) (r : BlockRequest) (o : Outbox)
    (t : Bool) (area : Area) → MayPost area (served groups) o to r → LinesUp to r c.disks (Err why) d → Roomy drivers place groups c o t
    → Roomy drivers place groups (record c { disks = d }) (record o { stopped = true }) t
refused_roomy drivers place groups c d why to r o t area may lines h =
    let same : d ≡ c.disks = refused_same to r c.disks d why lines in
    subst (λ (x : Disks). Roomy drivers place groups (record c { disks = x }) (record o { stopped = true }) t) (sym same) (record {
      issues = refused drivers place groups c c.disks why to r o t area may (subst (λ (x : Disks). LinesUp to r c.disks (Err why) x) same lines) h.issues;
      fresh = h.fresh;
      last_is = h.last_is;
      bound = h.bound;
      on_line = h.on_line;
      posts_low = h.posts_low;
      unposted_is = h.unposted_is;
    })

-- what stands but for a post
record Still (c a : Core) : Type 0 where
  disks_are : a.disks ≡ c.disks
  posts_are : a.posts ≡ c.posts
  supply_is : a.supply ≡ c.supply

adds_still : (c a : Core) (marks : List Mark) → Adds c marks a → is_quiet marks ≡ true → Still c a
adds_still c _ _ AddsNothing quiet = record { disks_are = refl; posts_are = refl; supply_is = refl }
adds_still c _ _ (Posts r to d lines) quiet = cc
adds_still c _ _ (Replies who now call answer) quiet = record { disks_are = refl; posts_are = refl; supply_is = refl }
adds_still c _ _ (Complains about ends after report) quiet = record { disks_are = refl; posts_are = refl; supply_is = refl }
adds_still c _ _ (Pays owed) quiet = record { disks_are = refl; posts_are = refl; supply_is = refl }

adds_roomy : (drivers place : ℕ) (event : Event) (group : List Mark) (earlier : List Group) (c a : Core) (marks : List Mark) (o o' : Outbox) (t : Bool)
    → Adds c marks a → is_quiet marks ≡ true → IsCalm (served ((event, group) ∷ earlier)) o → o'.unposted ≡ o.unposted → o'.never_issued ≡ o.never_issued
    → Roomy drivers place ((event, group) ∷ earlier) c o t → Roomy drivers place ((event, marks ++ group) ∷ earlier) a o' t
adds_roomy drivers place event group earlier c a marks o o' t does quiet calm same_unposted same_never h =
    let s : List Mark = served ((event, group) ∷ earlier) in
    let s' : List Mark = served ((event, marks ++ group) ∷ earlier) in
    let w : Within marks group (marks_of earlier) = adds_within c a marks group (marks_of earlier) does in
    let n : Numbers s s' = adds_numbers c a marks group (marks_of earlier) does quiet in
    let k : Still c a = adds_still c a marks does quiet in
    record {
      issues = adds drivers place event group earlier c a marks o o' t does quiet calm same_unposted same_never h.issues;
      fresh = subst (λ (l : List DriverState). Each HasNoWork l) (sym k.supply_is) h.fresh;
      last_is = w.last_is ∙ h.last_is ∙ ap (λ (d : Disks). Some (driver d.media.generation)) (sym k.disks_are);
      bound = h.bound;
      on_line = subst (λ (d : Disks). OnLine s' d h.bound) (sym k.disks_are)
          (on_line_as s s' c.disks h.bound (λ rs l. all_open_as s s' rs n.open_is l) h.on_line);
      posts_low = subst (λ (d : Disks). Each (PostLow d.media.generation h.bound) a.posts) (sym k.disks_are)
          (subst (λ (l : List Post). Each (PostLow c.disks.media.generation h.bound) l) (sym k.posts_are) h.posts_low);
      unposted_is = subst (λ (l : List BlockRequest). Between h.bound (suc (greatest s' + length o'.never_issued)) l) (sym same_unposted)
          (subst (λ (l : List BlockRequest). Between h.bound (suc (greatest s' + length l)) o.unposted) (sym same_never)
          (subst (λ (m : ℕ). Between h.bound (suc (m + length o.never_issued)) o.unposted) (sym n.greatest_is) h.unposted_is));
    }

-- an event
module _ (drivers place : ℕ) (groups : List Group) (c a : Core) (event : Event) (marks : List Mark) (result : Option Incoming) (o : Outbox)
    (paid : c.owed ≡ false) (rest : IsAtRest (served groups) o) (does : Begins place groups c event marks a)
    (same : served ((event, marks) ∷ groups) ≡ with_next result (served groups)) (h : Roomy drivers place groups c o true) where
  issues_after : Issues drivers (place + 1) ((event, marks) ∷ groups) a (owed_with result (served groups) o) true
  issues_after = begins drivers place groups c a event marks result o paid rest does same h.issues

  -- no driver is started
  calm_roomy : started_in marks ≡ [] → Roomy drivers (place + 1) ((event, marks) ∷ groups) a (owed_with result (served groups) o) true
  calm_roomy none =
      let k : EventLine groups event marks c a h.bound = event_line place groups c a event marks h.bound does none h.last_is h.posts_low h.on_line in
      record {
        issues = issues_after;
        fresh = subst (λ (l : List DriverState). Each HasNoWork l) (sym k.supply_is) h.fresh;
        last_is = same_last marks (marks_of groups) none ∙ h.last_is ∙ ap (λ (g : ℕ). Some (driver g)) (sym k.generation);
        bound = h.bound;
        on_line = k.on_line;
        posts_low = subst (λ (g : ℕ). Each (PostLow g h.bound) a.posts) (sym k.generation)
            (subst (λ (l : List Post). Each (PostLow c.disks.media.generation h.bound) l) (sym k.posts_are) h.posts_low);
        unposted_is = subst (λ (l : List Mark). Between h.bound (suc (greatest l + length (owed_with result (served groups) o).never_issued))
            (owed_with result (served groups) o).unposted) (sym same)
            (message_unposted result (served groups) o h.bound
            (λ e is. not_told event marks groups e none (same ∙ ap (λ (x : Option Incoming). with_next x (served groups)) is)) h.unposted_is);
      }

  -- the next driver is
  started_roomy : NextStart c a marks → Roomy drivers (place + 1) ((event, marks) ∷ groups) a (owed_with result (served groups) o) true
  started_roomy s =
      let g : ℕ = c.watch.generation + 1 in
      let e : Endpoint = driver g in
      let m : List Mark = served groups in
      let ones : Each HasNoWork (s.next ∷ s.rest) = subst (λ (l : List DriverState). Each HasNoWork l) s.spare h.fresh in
      let told : result ≡ Some (incoming.Started e) = told_of result m e (sym (ap (λ (l : List Mark). served ((event, l) ∷ groups)) s.marks_are) ∙ same) in
      let more : c.disks.media.generation < g = omega (arith, h.issues.slots.follows.latest) in
      let adopts : a.disks.media.generation ≡ g = ap (λ (d : Disks). d.media.generation) s.disks_are ∙ omega (arith, more) in
      let goes_on : gave_up m ≡ false = waits_on drivers groups c s.until h.issues.slots.follows s.waits in
      let open_low : Between 0 (suc (greatest m)) (open_requests m) =
      between_rising 0 (greatest m) (open_requests m) (open_are_rising m) (below_open m) (omega arith) (λ r i. omega arith) in
      let all_low : Between 0 (suc (greatest m + length o.never_issued)) (open_requests m ++ o.never_issued) =
      between_join 0 (suc (greatest m)) (suc (greatest m + length o.never_issued)) (open_requests m) o.never_issued open_low
      (subst (λ (n : ℕ). Between (suc (greatest m)) n o.never_issued) (omega arith) (between_numbered (suc (greatest m)) o.never_issued h.issues.numbered.ids)) in
      record {
        issues = issues_after;
        fresh = subst (λ (l : List DriverState). Each HasNoWork l) (sym s.supply_is) ones.1;
        last_is = ap (λ (l : List Mark). last_started (l ++ marks_of groups)) s.marks_are ∙ ap (λ (n : ℕ). Some (driver n)) (sym adopts);
        bound = 0;
        on_line = subst (λ (d : Disks). OnLine (served ((event, marks) ∷ groups)) d 0) (sym s.disks_are)
            (started_on (served ((event, marks) ∷ groups)) g s.next c.disks h.on_line.low ones.0.idle more h.on_line.sent_low);
        posts_low = subst (λ (n : ℕ). Each (PostLow n 0) a.posts) (sym adopts)
            (subst (λ (l : List Post). Each (PostLow g 0) l) (sym s.posts_are) (posts_older c.disks.media.generation h.bound g c.posts more h.posts_low));
        unposted_is = subst (λ (l : List Mark). Between 0 (suc (greatest (served ((event, l) ∷ groups)) + length (owed_with result m o).never_issued))
            (owed_with result m o).unposted) (sym s.marks_are)
            (subst (λ (x : Option Incoming). Between 0 (suc (greatest m + length (owed_with x m o).never_issued)) (owed_with x m o).unposted) (sym told)
            (subst (λ (b : Bool). Between 0 (suc (greatest m + length (if b then record o { stopped = false }
            else record o { unposted = open_requests m ++ o.never_issued; stopped = false }).never_issued))
            (if b then record o { stopped = false } else record o { unposted = open_requests m ++ o.never_issued; stopped = false }).unposted) (sym goes_on) all_low));
      }

  begins_roomy : Roomy drivers (place + 1) ((event, marks) ∷ groups) a (owed_with result (served groups) o) true
  begins_roomy = by (begins_calm place groups c a event marks does).starts where
    by : NextStart c a marks ⊎ (started_in marks ≡ []) → Roomy drivers (place + 1) ((event, marks) ∷ groups) a (owed_with result (served groups) o) true
    by (inl s) = started_roomy s
    by (inr none) = calm_roomy none

roomy_kept : (drivers : ℕ) → IsKeptOwing (Roomy drivers)
roomy_kept drivers = record {
  begins_one = λ place groups c o t r may h. begins_one_roomy drivers place groups c o t r may h;
  rests = λ place groups c o t t' rest h. rests_roomy drivers place groups c o t t' rest h;
  begins = λ place groups c a event marks result o paid rest does same h. begins_roomy drivers place groups c a event marks result o paid rest does same h;
  posts = λ place event group earlier c d to r o t area may lines h. posts_roomy drivers place event group earlier c d to r o t area may lines h;
  refused = λ place groups c d why to r o t area may lines h. refused_roomy drivers place groups c d why to r o t area may lines h;
  adds = λ place event group earlier c a marks o o' t does quiet calm unposted never h.
      adds_roomy drivers place event group earlier c a marks o o' t does quiet calm unposted never h;
}

-- what is to be posted leaves at most 15 others open
room_now : (drivers place : ℕ) (groups : List Group) (c : Core) (o : Outbox) (t : Bool) (r : BlockRequest) → Roomy drivers place groups c o t
    → first_of o.unposted ≡ Some r → length c.disks.current.line < 32
room_now drivers place groups c o t r h first = by h.issues.left refl where
  by : (left : List BlockRequest) → h.issues.left ≡ left → length c.disks.current.line < 32
  by [] none =
      let s : List Mark = served groups in
      let l : OnLine s c.disks h.bound = h.on_line in
      let out : FirstOut (suc (greatest s)) r o.never_issued = first_out (suc (greatest s)) r o.never_issued h.issues.numbered.ids
      (ap first_of (sym (levelled o h.issues.left none h.issues.unposted)) ∙ first) in
      let few : length l.new ≤ length (open_requests s) =
      few_open l.low h.bound l.new (open_requests s) l.new_is (open_in s l.new l.new_open) (open_are_rising s) in
      let both : length c.disks.current.line ≡ length l.old + length l.new =
      ap (λ (x : List BlockRequest). length x) l.line_is ∙ length-append l.old l.new in
      let pending : length (open_requests s) + length o.never_issued ≤ 16 = h.issues.numbered.few in
      omega (arith, both, few, pending, out.fewer, l.short)
  by (x ∷ rest) is = of_again (subst (λ (l : List BlockRequest). AgainNow groups c.disks o.complaint o.stopped t h.issues.to l) is h.issues.again) where
    of_again : AgainNow groups c.disks o.complaint o.stopped t h.issues.to (x ∷ rest) → length c.disks.current.line < 32
    of_again again = omega (arith, again.room)

pub runs_keep_room : RunsKeepRoom
runs_keep_room media rules supply events area b a new ready fresh o idle empty runs to r may there =
    let n : ℕ = length supply in
    let t : Bool = at_work b in
    let c : Core = core_at (opened_scene media rules n o.scene.first o.scene.rest) false false in
    let ones : Each HasNoWork (o.scene.first ∷ o.scene.rest) = subst (λ (l : List DriverState). Each HasNoWork l) o.scene.spare fresh in
    let before : Disks = record (c.disks) { media = media } in
    let k : IsSaid (λ place groups c. Roomy n place groups c empty_outbox t) b.run =
    opened_said (λ place groups c. Roomy n place groups c empty_outbox t) media rules supply events b.run o (record {
      issues = issues_opened n c t (slots_opened media rules supply events b.run new ready o);
      fresh = ones.1;
      last_is = ap (λ (g : ℕ). Some (driver g)) (omega (arith, new));
      bound = 0;
      on_line = same_line (served []) (started 1 o.scene.first before) c.disks 0 refl refl refl refl
          (started_on (served []) 1 o.scene.first before 0 ones.0.idle (omega (arith, new)) tt);
      posts_low = tt;
      unposted_is = omega arith;
    }) in
    let now : IsOwed (Roomy n) a.run a.outbox (at_work a) =
    runs_owed (Roomy n) (roomy_kept n) area b a runs (calm_before media rules supply events b o) (StandsBefore idle o.queue o.owed) (record {
      first = k.first;
      said = subst (λ (x : Outbox). Roomy n b.run.next b.run.scene.noted.groups (core_of b.run) x t) (sym empty) k.said;
    }) in
    room_now n a.run.next a.run.scene.noted.groups (core_of a.run) a.outbox (at_work a) r now.said may.first
