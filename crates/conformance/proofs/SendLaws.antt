-- Each event, and what is done within one, leaves each reply at a step of its driver.
use Rattle.std.proofs.Common.{◌≡◌, ℕ, zero, suc, ◌+◌, ◌*◌, ◌<◌, ◌≤◌, List, [], ◌∷◌, ◌++◌, length, Bool, true, false, refl, sym, ◌∙◌, ap, subst, arith, inl, inr}
use Rattle.std.proofs.lemmas.Bool.Decides.{nat_tests}
use Rattle.std.proofs.lemmas.List.{append-nil, append_assoc}
use Rattle.std.specs.Prelude.{◌&&◌, ◌||◌, ◌==◌, not, nat_lt, nat_le, Option, Some, None, Ok, slice_get}
use Rattle.message.specs.declared.endpoint.Endpoint.{Endpoint}
use Rattle.message.specs.declared.BlockRequest.{BlockRequest}
use Rattle.bdev.specs.declared.Step.{Step}
use Rattle.bdev.specs.declared.Step.TheVariants.{Working, Idle, Done, Failed}
use Rattle.bdev.specs.DriverState.{DriverState}
use Rattle.records.specs.Marks.{Mark, Issued}
use Rattle.schedule.specs.declared.Sent.{Sent}
use Rattle.schedule.specs.declared.Event.{Event}
use Rattle.schedule.specs.declared.Event.TheVariants as event
use Rattle.schedule.specs.Groups.{Group, marks_of, first_groups, generation, Each}
use Rattle.schedule.specs.Drivers.{is_issued_to, has_started, has_ended, is_live}
use Rattle.schedule.specs.Replies.{has_sent_at, steps_for, bytes_of, IsSentAtItsStep}
use Rattle.schedule.proofs.GoingOn.{replies_stay}
use Rattle.schedule.specs.declared.log.Post.{Post}
use Rattle.simulated_link.specs.Disks.{Disks, Slot, started, Steps, Repeats}
use Rattle.conformance.specs.Core.{Core}
use Rattle.conformance.specs.Happens.{beaten_core, TicksTo, Beats, MissesOne, FoundHung, WaitsOn, StartsNext, IsOver, Begins, Arrives, Flushes, Answers, Drops, Delivers, LinesAgain, HangsOne, StepsOne, FailsOne, DiesNone, DiesOne, Ticks, Adds, AddsNothing, Posts, Replies, Complains, Pays}
use Rattle.conformance.specs.Steady.{IsKept, AnsweredSoFar, SlotStands, AllSlots, SlotsSoFar}
use Rattle.conformance.proofs.FollowLaws.{same_number}
use Rattle.conformance.proofs.AnswerLaws.{dies_sent, hangs_sent, repeats_sent, lines_sent, answered_kept}
use Rattle.conformance.proofs.SlotLaws.{slots_kept}
use Rattle.conformance.proofs.IssuedMarks.{IssueNone, still_issued, none_more_issued, begins_issues, IssuesStand, begins_stands, adds_stands, posted_there, AllNewOrFirst, fewer_new, adds_issues}
use Rattle.conformance.proofs.StepCounts.{AreLater, steps_append, sent_there, steps_more, steps_within, first_before}
use Rattle.conformance.proofs.SlotWork.{IsIssued, SlotWorks, StaysIssued, NoFewer, slot_stays, slot_lined, replies_at, StepMade, step_made}
use Rattle.conformance.proofs.DisksWork.{Follow, follow_all, follow_none, Goes, Stays, Lines, Nobodys, OnlyTo, OwnOr, dies_goes, hangs_goes, again_goes, lines_goes, IsSlot, TheCurrent, AnOlder, slot_is, LiveStep, StepDone, DidNothing, DidStep, step_done, started_all}

-- Each reply stands at a step of its driver; the requests that were accepted were issued, and none to a driver that wasn't started; the drivers
-- that are left are new, and those that live work on what was issued to them.
pub record SendsSoFar (drivers : ℕ) (place : ℕ) (groups : List Group) (c : Core) : Type 0 where
  pub slots : SlotsSoFar drivers place groups c
  pub answered : AnsweredSoFar place groups c
  pub issues : IssuesStand c.watch.generation (marks_of groups)
  pub posts : Each (λ p. IsIssued groups p.to.generation p.request) c.posts
  pub fresh : Each (λ d. d.last ≡ 0) c.supply
  pub works : AllSlots (SlotWorks groups c.disks.sent) c.disks
  pub steps : Each (IsSentAtItsStep groups c.disks.sent) c.disks.sent

-- so it is where no request was issued to a driver twice
abbrev pub SendsWell : ℕ → ℕ → List Group → Core → Type 0
SendsWell drivers place groups c = AllNewOrFirst groups → SendsSoFar drivers place groups c

-- what an event leaves of the drivers, and the replies that are sent there
record Sends (groups : List Group) (event : Event) (marks : List Mark) (b a : Disks) : Type 0 where
  more : List Sent
  sent : a.sent ≡ b.sent ++ more
  later : Each (λ s. length groups ≤ s.place) more
  works : AllSlots (SlotWorks ((event, marks) ∷ groups) (b.sent ++ more)) a
  replies : Each (IsSentAtItsStep ((event, marks) ∷ groups) (b.sent ++ more)) more

-- what is known before an event, of its marks and the replies so far
record Before (place : ℕ) (groups : List Group) (marks : List Mark) (sent : List Sent) : Type 0 where
  none : IssueNone marks
  at : length groups ≡ place
  low : Each (λ s. s.place < place) sent

stays_issued : (groups : List Group) (event : Event) (marks : List Mark) (h : ℕ) → StaysIssued groups ((event, marks) ∷ groups) h
stays_issued groups event marks h id is = still_issued h id marks (marks_of groups) is

no_fewer : (place : ℕ) (groups : List Group) (event : Event) (marks : List Mark) (sent more : List Sent) (h : ℕ) → Before place groups marks sent
    → AreLater (length groups) more → has_sent_at h place more ≡ false → NoFewer groups sent ((event, marks) ∷ groups) (sent ++ more) h
no_fewer place groups event marks sent more h before later silent id is =
    let same : steps_for h id (sent ++ more) groups ≡ steps_for h id sent groups = steps_append h id sent more groups later in
    let none : has_sent_at h (length groups) (sent ++ more) ≡ false =
    ap (λ (n : ℕ). has_sent_at h n (sent ++ more)) before.at ∙ sent_there h place sent more before.low ∙ silent in
    let low : steps_for h id (sent ++ more) groups ≤ steps_for h id (sent ++ more) ((event, marks) ∷ groups) =
    steps_more h id (sent ++ more) event marks groups (before.none h id) none in
    omega (arith, same, low)

goes_works : (Lined : ℕ → BlockRequest → Type 0) (place : ℕ) (groups : List Group) (event : Event) (marks : List Mark) (sent more : List Sent)
    → Before place groups marks sent → AreLater (length groups) more → ((h : ℕ) (r : BlockRequest) → Lined h r → IsIssued groups h r)
    → (h : ℕ) (s t : Slot) → Goes Lined place more h s t → SlotWorks groups sent h s → SlotWorks ((event, marks) ∷ groups) (sent ++ more) h t
goes_works Lined place groups event marks sent more before later issued h s _ (Stays t state line live silent) k =
    slot_stays groups ((event, marks) ∷ groups) sent (sent ++ more) h s t (stays_issued groups event marks h)
    (λ alive. no_fewer place groups event marks sent more h before later (silent alive)) state line live k
goes_works Lined place groups event marks sent more before later issued h s _ (Lines r goes silent) k =
    slot_lined groups ((event, marks) ∷ groups) sent (sent ++ more) h r s (stays_issued groups event marks h)
    (no_fewer place groups event marks sent more h before later silent) (stays_issued groups event marks h r.id (issued h r goes)) k

-- no reply is sent
quiet_sends : (Lined : ℕ → BlockRequest → Type 0) (place : ℕ) (groups : List Group) (event : Event) (marks : List Mark) (b a : Disks) → Before place groups marks b.sent
    → a.sent ≡ b.sent → Follow (Goes Lined place []) b a → ((h : ℕ) (r : BlockRequest) → Lined h r → IsIssued groups h r) → AllSlots (SlotWorks groups b.sent) b
    → Sends groups event marks b a
quiet_sends Lined place groups event marks b a before same follow issued k = record {
  more = [];
  sent = same ∙ sym (append-nil b.sent);
  later = tt;
  works = follow_all (SlotWorks groups b.sent) (SlotWorks ((event, marks) ∷ groups) (b.sent ++ [])) (Goes Lined place []) b a
      (goes_works Lined place groups event marks b.sent [] before tt issued) follow k;
  replies = tt;
}

nobodys_issued : (groups : List Group) (h : ℕ) (r : BlockRequest) → Nobodys h r → IsIssued groups h r
nobodys_issued groups h r none = absurd none

still_sends : (place : ℕ) (groups : List Group) (event : Event) (marks : List Mark) (b : Disks) → Before place groups marks b.sent → AllSlots (SlotWorks groups b.sent) b
    → Sends groups event marks b b
still_sends place groups event marks b before k =
    quiet_sends Nobodys place groups event marks b b before refl
    (follow_none (Goes Nobodys place []) b (λ h s. Stays s refl refl (λ alive. alive) (λ alive. refl))) (nobodys_issued groups) k

repeats_sends : (place : ℕ) (groups : List Group) (event : Event) (marks : List Mark) (p : Option Post) (b a : Disks) → Before place groups marks b.sent
    → length b.older + 1 ≡ b.media.generation → ((q : Post) → p ≡ Some q → IsIssued groups q.to.generation q.request) → Repeats p b a
    → AllSlots (SlotWorks groups b.sent) b → Sends groups event marks b a
repeats_sends place groups event marks None b a before number issued is k =
    subst (λ (d : Disks). Sends groups event marks b d) (sym is) (still_sends place groups event marks b before k)
repeats_sends place groups event marks (Some p) b a before number issued again k =
    quiet_sends (OnlyTo p.to.generation p.request) place groups event marks b a before (repeats_sent (Some p) b a again)
    (again_goes place p.to.generation p.request b a number again)
    (λ h r only. subst (λ (n : ℕ). IsIssued groups n r) (sym only.0)
    (subst (λ (q : BlockRequest). IsIssued groups p.to.generation q) (sym only.1) (issued p refl))) k

post_there : (groups : List Group) (posts : List Post) (n : ℕ) (q : Post) → Each (λ p. IsIssued groups p.to.generation p.request) posts → slice_get posts n ≡ Some q
    → IsIssued groups q.to.generation q.request
post_there groups [] n q each there = cc
post_there groups (p ∷ posts) zero q each there = subst (λ (x : Post). IsIssued groups x.to.generation x.request) (same p q there) each.0 where
  same : (x y : Post) → Some x ≡ Some y → x ≡ y
  same x y is = ap (λ (o : Option Post). post_or x o) is where
    post_or : Post → Option Post → Post
    post_or z None = z
    post_or z (Some w) = w
post_there groups (p ∷ posts) (suc n) q each there = post_there groups posts n q each.1 there

-- a driver that lives was started and hasn't ended
lives_at : (drivers place g : ℕ) (groups : List Group) (c : Core) (s : Slot) → SlotsSoFar drivers place groups c → IsSlot c.disks g s → s.live ≡ true
    → is_live g groups ≡ true
lives_at drivers place g groups c s h slot alive =
    ap (λ (b : Bool). b && not (has_ended g groups)) (some slot)
    ∙ ap (λ (b : Bool). true && not b) ((slot_is (SlotStands groups) c.disks g s slot h.slots).live alive) where
      within : 0 < g → g ≤ c.watch.generation → has_started g groups ≡ true
      within low high =
          let first : nat_lt 0 g ≡ true = grind (arith, nat_tests, low) in
          let last : nat_le g (generation (marks_of groups)) ≡ true = grind (arith, nat_tests, h.follows.started_is, high) in
          ap (λ (b : Bool). b && nat_le g (generation (marks_of groups))) first ∙ last

      some : IsSlot c.disks g s → has_started g groups ≡ true
      some (TheCurrent number is) = within (omega (arith, number, h.follows.latest, h.follows.some)) (omega (arith, number, h.follows.latest))
      some (AnOlder at is) = within (omega (arith, is.number)) (omega (arith, is.older, h.follows.latest))

steps_later : (place g : ℕ) (groups : List Group) (step : Step) → length groups ≡ place → Each (λ (s : Sent). length groups ≤ s.place) (replies_at place g step)
steps_later place g groups Working at = tt
steps_later place g groups Idle at = tt
steps_later place g groups Failed at = tt
steps_later place g groups (Done answer) at = (omega (arith, at), tt)

-- a step
step_sends : (drivers place g : ℕ) (groups : List Group) (marks : List Mark) (c : Core) (result : Option Step) (d : Disks) → Before place groups marks c.disks.sent
    → SlotsSoFar drivers place groups c → Steps place g c.disks result d → AllSlots (SlotWorks groups c.disks.sent) c.disks
    → Sends groups (event.Step g) marks c.disks d
step_sends drivers place g groups marks c result d before h steps k = by d result (step_done place g c.disks d result h.numbered steps) where
  now : List Group
  now = (event.Step g, marks) ∷ groups

  stepped : (step : Step) (a : Disks) → LiveStep place g c.disks step a → Sends groups (event.Step g) marks c.disks a
  stepped step a l = record {
    more = replies_at place g step;
    sent = l.sent;
    later = steps_later place g groups step before.at;
    works = follow_all (SlotWorks groups c.disks.sent) (SlotWorks now (c.disks.sent ++ replies_at place g step))
        (OwnOr g l.was l.new (Goes Nobodys place (replies_at place g step))) c.disks a on l.others k;
    replies = made.replies;
  } where
    silent : has_sent_at g (length groups) (c.disks.sent ++ []) ≡ false
    silent = ap (λ (n : ℕ). has_sent_at g n (c.disks.sent ++ [])) before.at ∙ sent_there g place c.disks.sent [] before.low

    made : StepMade groups c.disks.sent g place marks step l.new
    made = step_made groups c.disks.sent g place marks step l.was l.new c.disks.media l.media before.at
        (lives_at drivers place g groups c l.was h l.slot l.live) (λ id. before.none g id) (stays_issued groups (event.Step g) marks g) silent l.live l.steps
        (slot_is (SlotWorks groups c.disks.sent) c.disks g l.was l.slot k)

    on : (x : ℕ) (s t : Slot) → OwnOr g l.was l.new (Goes Nobodys place (replies_at place g step)) x s t → SlotWorks groups c.disks.sent x s
        → SlotWorks now (c.disks.sent ++ replies_at place g step) x t
    on x s t (inl own) w = subst (λ (n : ℕ). SlotWorks now (c.disks.sent ++ replies_at place g step) n t) (sym own.0)
        (subst (λ (y : Slot). SlotWorks now (c.disks.sent ++ replies_at place g step) g y) (sym own.2) made.slot)
    on x s t (inr goes) w =
        goes_works Nobodys place groups (event.Step g) marks c.disks.sent (replies_at place g step) before (steps_later place g groups step before.at)
        (nobodys_issued groups) x s t goes w

  by : (a : Disks) (result : Option Step) → StepDone place g c.disks result a → Sends groups (event.Step g) marks c.disks a
  by _ _ DidNothing = still_sends place groups (event.Step g) marks c.disks before k
  by _ _ (DidStep step a l) = stepped step a l

-- a start
start_sends : (place g : ℕ) (groups : List Group) (marks : List Mark) (d : DriverState) (b : Disks) → Before place groups marks b.sent
    → length b.older + 1 ≡ b.media.generation → g ≡ b.media.generation + 1 → d.last ≡ 0 → AllSlots (SlotWorks groups b.sent) b
    → Sends groups event.Tick marks b (started g d b)
start_sends place g groups marks d b before number next new k = record {
  more = [];
  sent = sym (append-nil b.sent);
  later = tt;
  works = started_all (SlotWorks groups b.sent) (SlotWorks now (b.sent ++ [])) g d b number next
      (λ h s w. slot_stays groups now b.sent (b.sent ++ []) h s s (stays_issued groups event.Tick marks h)
      (λ alive. no_fewer place groups event.Tick marks b.sent [] h before tt refl) refl refl (λ alive. alive) w)
      (λ s state line. record {
        line = subst (λ (l : List BlockRequest). Each (IsIssued now g) l) (sym line) tt;
        works = λ alive took. absurd (none s.state.last (ap (λ (x : DriverState). x.last) state ∙ new) took);
      }) k;
  replies = tt;
} where
  now : List Group
  now = (event.Tick, marks) ∷ groups

  none : (n : ℕ) → n ≡ 0 → 0 < n → ⊥
  none n is low = omega (arith, is, low)

tick_sends : (drivers place : ℕ) (groups : List Group) (c a : Core) (marks : List Mark) → Before place groups marks c.disks.sent → SlotsSoFar drivers place groups c
    → TicksTo (beaten_core c) marks a → Each (λ d. d.last ≡ 0) c.supply → AllSlots (SlotWorks groups c.disks.sent) c.disks → Sends groups event.Tick marks c.disks a.disks
tick_sends drivers place groups c _ _ before h (Beats last count is same) fresh k = still_sends place groups event.Tick [] c.disks before k
tick_sends drivers place groups c _ _ before h (MissesOne last count is same few) fresh k = still_sends place groups event.Tick [] c.disks before k
tick_sends drivers place groups c _ marks before h (FoundHung last count ends after is same enough fault) fresh k = still_sends place groups event.Tick marks c.disks before k
tick_sends drivers place groups c _ _ before h (WaitsOn until is early) fresh k = still_sends place groups event.Tick [] c.disks before k
tick_sends drivers place groups c _ marks before h (StartsNext until d rest is come spare) fresh k =
    start_sends place (c.watch.generation + 1) groups marks d c.disks before h.numbered (ap (λ (n : ℕ). n + 1) (sym h.follows.latest))
    (subst (λ (l : List DriverState). Each (λ x. x.last ≡ 0) l) spare fresh).0 k
tick_sends drivers place groups c _ _ before h (IsOver is) fresh k = still_sends place groups event.Tick [] c.disks before k

begins_sends : (drivers place : ℕ) (groups : List Group) (c a : Core) (event : Event) (marks : List Mark) → Before place groups marks c.disks.sent
    → Begins place groups c event marks a → SendsSoFar drivers place groups c → Sends groups event marks c.disks a.disks
begins_sends drivers place groups c _ _ _ before (Arrives who now call) h = still_sends place groups _ _ c.disks before h.works
begins_sends drivers place groups c _ _ _ before Flushes h = still_sends place groups _ _ c.disks before h.works
begins_sends drivers place groups c _ _ _ before (Answers n s there counts) h = still_sends place groups _ _ c.disks before h.works
begins_sends drivers place groups c _ _ _ before (Drops n s there counts) h = still_sends place groups _ _ c.disks before h.works
begins_sends drivers place groups c _ _ _ before (Delivers n there) h = still_sends place groups _ _ c.disks before h.works
begins_sends drivers place groups c _ _ _ before (LinesAgain n p d same again) h =
    repeats_sends place groups _ _ p c.disks d before h.slots.numbered (λ q is. post_there groups c.posts n q h.posts (sym same ∙ is)) again h.works
begins_sends drivers place groups c _ _ _ before (HangsOne g d hangs) h =
    quiet_sends Nobodys place groups _ _ c.disks d before (hangs_sent g c.disks d hangs) (hangs_goes place g c.disks d h.slots.numbered hangs) (nobodys_issued groups) h.works
begins_sends drivers place groups c _ _ _ before (StepsOne g step d steps well) h = step_sends drivers place g groups _ c step d before h.slots steps h.works
begins_sends drivers place groups c _ _ _ before (FailsOne g d ends after steps report) h = step_sends drivers place g groups _ c (Some Failed) d before h.slots steps h.works
begins_sends drivers place groups c _ _ _ before (DiesNone g bytes d dies) h =
    quiet_sends Nobodys place groups _ _ c.disks d before (dies_sent g bytes c.disks d false dies) (dies_goes place g bytes c.disks d false h.slots.numbered dies)
    (nobodys_issued groups) h.works
begins_sends drivers place groups c _ _ _ before (DiesOne g bytes d ends after dies report) h =
    quiet_sends Nobodys place groups _ _ c.disks d before (dies_sent g bytes c.disks d true dies) (dies_goes place g bytes c.disks d true h.slots.numbered dies)
    (nobodys_issued groups) h.works
begins_sends drivers place groups c a _ marks before (Ticks _ _ ticks) h = tick_sends drivers place groups c a marks before h.slots ticks h.fresh h.works

tick_posts : (c a : Core) (marks : List Mark) → TicksTo c marks a → a.posts ≡ c.posts
tick_posts c _ _ (Beats last count is same) = refl
tick_posts c _ _ (MissesOne last count is same few) = refl
tick_posts c _ _ (FoundHung last count ends after is same enough fault) = refl
tick_posts c _ _ (WaitsOn until is early) = refl
tick_posts c _ _ (StartsNext until d rest is come spare) = refl
tick_posts c _ _ (IsOver is) = refl

-- no event adds a post
begins_posts : (place : ℕ) (groups : List Group) (c a : Core) (event : Event) (marks : List Mark) → Begins place groups c event marks a → a.posts ≡ c.posts
begins_posts place groups c _ _ _ (Arrives who now call) = refl
begins_posts place groups c _ _ _ Flushes = refl
begins_posts place groups c _ _ _ (Answers n s there counts) = refl
begins_posts place groups c _ _ _ (Drops n s there counts) = refl
begins_posts place groups c _ _ _ (Delivers n there) = refl
begins_posts place groups c _ _ _ (LinesAgain n p d same again) = refl
begins_posts place groups c _ _ _ (HangsOne g d hangs) = refl
begins_posts place groups c _ _ _ (StepsOne g step d steps well) = refl
begins_posts place groups c _ _ _ (FailsOne g d ends after steps report) = refl
begins_posts place groups c _ _ _ (DiesNone g bytes d dies) = refl
begins_posts place groups c _ _ _ (DiesOne g bytes d ends after dies report) = refl
begins_posts place groups c a _ marks (Ticks _ _ ticks) = tick_posts (beaten_core c) a marks ticks

abbrev AllNew : List DriverState → Type 0
AllNew supply = Each (λ d. d.last ≡ 0) supply

tick_fresh : (c a : Core) (marks : List Mark) → TicksTo c marks a → AllNew c.supply → AllNew a.supply
tick_fresh c _ _ (Beats last count is same) h = h
tick_fresh c _ _ (MissesOne last count is same few) h = h
tick_fresh c _ _ (FoundHung last count ends after is same enough fault) h = h
tick_fresh c _ _ (WaitsOn until is early) h = h
tick_fresh c _ _ (StartsNext until d rest is come spare) h = (subst (λ (l : List DriverState). AllNew l) spare h).1
tick_fresh c _ _ (IsOver is) h = h

-- the drivers that are left stay new
begins_fresh : (place : ℕ) (groups : List Group) (c a : Core) (event : Event) (marks : List Mark) → Begins place groups c event marks a → AllNew c.supply → AllNew a.supply
begins_fresh place groups c _ _ _ (Arrives who now call) h = h
begins_fresh place groups c _ _ _ Flushes h = h
begins_fresh place groups c _ _ _ (Answers n s there counts) h = h
begins_fresh place groups c _ _ _ (Drops n s there counts) h = h
begins_fresh place groups c _ _ _ (Delivers n there) h = h
begins_fresh place groups c _ _ _ (LinesAgain n p d same again) h = h
begins_fresh place groups c _ _ _ (HangsOne g d hangs) h = h
begins_fresh place groups c _ _ _ (StepsOne g step d steps well) h = h
begins_fresh place groups c _ _ _ (FailsOne g d ends after steps report) h = h
begins_fresh place groups c _ _ _ (DiesNone g bytes d dies) h = h
begins_fresh place groups c _ _ _ (DiesOne g bytes d ends after dies report) h = h
begins_fresh place groups c a _ marks (Ticks _ _ ticks) h = tick_fresh (beaten_core c) a marks ticks h

adds_fresh : (c a : Core) (marks : List Mark) → Adds c marks a → AllNew c.supply → AllNew a.supply
adds_fresh c _ _ AddsNothing h = h
adds_fresh c _ _ (Posts r to d lines) h = h
adds_fresh c _ _ (Replies who now call answer) h = h
adds_fresh c _ _ (Complains about ends after report) h = h
adds_fresh c _ _ (Pays owed) h = h

posts_stay : (was now : List Group) (posts : List Post) → ((g : ℕ) → StaysIssued was now g) → Each (λ p. IsIssued was p.to.generation p.request) posts
    → Each (λ p. IsIssued now p.to.generation p.request) posts
posts_stay was now [] stays each = tt
posts_stay was now (p ∷ posts) stays each = (stays p.to.generation p.request.id each.0, posts_stay was now posts stays each.1)

one_post_more : (now : List Group) (posts : List Post) (p : Post) → Each (λ q. IsIssued now q.to.generation q.request) posts → IsIssued now p.to.generation p.request
    → Each (λ q. IsIssued now q.to.generation q.request) (posts ++ p ∷ [])
one_post_more now [] p each new = (new, tt)
one_post_more now (q ∷ posts) p each new = (each.0, one_post_more now posts p each.1 new)

-- the replies so far stay at their steps, with those that were sent now
steps_stay : (group : Group) (groups : List Group) (sent more replies : List Sent) → Each (λ s. length groups ≤ s.place) more
    → Each (IsSentAtItsStep (group ∷ groups) (sent ++ more)) more → Each (IsSentAtItsStep groups sent) replies
    → Each (IsSentAtItsStep (group ∷ groups) (sent ++ more)) (replies ++ more)
steps_stay group groups sent more [] later new each = new
steps_stay group groups sent more (s ∷ replies) later new each =
    (replies_stay group groups sent more s later each.0, steps_stay group groups sent more replies later new each.1)

sends_begin : (drivers place : ℕ) (groups : List Group) (c a : Core) (event : Event) (marks : List Mark) → c.owed ≡ false → Begins place groups c event marks a
    → SendsSoFar drivers place groups c → SendsSoFar drivers (place + 1) ((event, marks) ∷ groups) a
sends_begin drivers place groups c a event marks paid begins h = record {
  slots = (slots_kept drivers).begins place groups c a event marks paid begins h.slots;
  answered = answered_kept.begins place groups c a event marks paid begins h.answered;
  issues = begins_stands place groups c a event marks (marks_of groups) begins h.issues;
  posts = subst (λ (l : List Post). Each (λ p. IsIssued ((event, marks) ∷ groups) p.to.generation p.request) l)
      (sym (begins_posts place groups c a event marks begins))
      (posts_stay groups ((event, marks) ∷ groups) c.posts (stays_issued groups event marks) h.posts);
  fresh = begins_fresh place groups c a event marks begins h.fresh;
  works = subst (λ (l : List Sent). AllSlots (SlotWorks ((event, marks) ∷ groups) l) a.disks) (sym s.sent) s.works;
  steps = subst (λ (l : List Sent). Each (IsSentAtItsStep ((event, marks) ∷ groups) l) l) (sym s.sent)
      (steps_stay (event, marks) groups c.disks.sent s.more c.disks.sent s.later s.replies h.steps);
} where
  before : Before place groups marks c.disks.sent
  before = record { none = begins_issues place groups c a event marks begins; at = h.answered.places; low = h.answered.sent }

  s : Sends groups event marks c.disks a.disks
  s = begins_sends drivers place groups c a event marks before begins h

-- what is done within an event: the groups before and after it
module _ (event : Event) (group marks : List Mark) (earlier : List Group) where
  abbrev was : List Group
  was = (event, group) ∷ earlier

  abbrev now : List Group
  now = (event, marks ++ group) ∷ earlier

  same_marks : marks_of now ≡ marks ++ marks_of was
  same_marks = append_assoc marks group (marks_of earlier)

  stays_within : (h : ℕ) → StaysIssued was now h
  stays_within h id is = subst (λ (l : List Mark). is_issued_to h id l ≡ true) (sym same_marks) (still_issued h id marks (marks_of was) is)

  -- nothing is issued again
  abbrev NotAgain : Type 0
  NotAgain = (h id : ℕ) → is_issued_to h id (marks_of was) ≡ true → is_issued_to h id marks ≡ false

  fewer_within : (sent : List Sent) (h : ℕ) → NotAgain → NoFewer was sent now sent h
  fewer_within sent h none id is =
      let same : steps_for h id sent now ≡ steps_for h id sent was =
      steps_within h id sent event group (marks ++ group) earlier (none_more_issued h id marks group (none h id is)) in
      omega (arith, same)

  slot_within : (sent : List Sent) (h : ℕ) (s : Slot) → NotAgain → SlotWorks was sent h s → SlotWorks now sent h s
  slot_within sent h s none k = slot_stays was now sent sent h s s (stays_within h) (λ alive. fewer_within sent h none) refl refl (λ alive. alive) k

  same_within : (sent : List Sent) (d : Disks) → NotAgain → AllSlots (SlotWorks was sent) d → AllSlots (SlotWorks now sent) d
  same_within sent d none k = record {
    older = λ at s there. slot_within sent (at + 1) s none (k.older at s there);
    current = slot_within sent d.media.generation d.current none k.current;
  }

  lined_within : (place : ℕ) (sent : List Sent) (g : ℕ) (r : BlockRequest) (b a : Disks) → NotAgain → IsIssued now g r → Follow (Goes (OnlyTo g r) place []) b a
      → AllSlots (SlotWorks was sent) b → AllSlots (SlotWorks now sent) a
  lined_within place sent g r b a none new follow k =
      follow_all (SlotWorks was sent) (SlotWorks now sent) (Goes (OnlyTo g r) place []) b a on follow k where
        on : (h : ℕ) (s t : Slot) → Goes (OnlyTo g r) place [] h s t → SlotWorks was sent h s → SlotWorks now sent h t
        on h s _ (Stays t state line live silent) w = slot_stays was now sent sent h s t (stays_within h) (λ alive. fewer_within sent h none) state line live w
        on h s _ (Lines q only silent) w = slot_lined was now sent sent h q s (stays_within h) (fewer_within sent h none)
            (subst (λ (n : ℕ). IsIssued now n q) (sym only.0) (subst (λ (x : BlockRequest). IsIssued now g x) (sym only.1) new)) w

  -- the replies so far stay at their steps
  step_within : (place : ℕ) (sent : List Sent) (s : Sent) → length was ≡ place → s.place < place → IsSentAtItsStep was sent s → IsSentAtItsStep now sent s
  step_within place sent s at low k = record {
    from = k.from;
    step = k.step;
    live = ap (λ (l : List Group). is_live s.reply.from.generation l) same ∙ k.live;
    asked = ap (λ (l : List Group). is_issued_to s.reply.from.generation s.reply.id (marks_of l)) same ∙ k.asked;
    moved = subst (λ (l : List Group). bytes_of s.reply.outcome ≤ 512 * (steps_for s.reply.from.generation s.reply.id sent l + 1)) (sym same) k.moved;
  } where
    before : s.place ≤ length earlier
    before = omega (arith, at, low)

    same : first_groups s.place now ≡ first_groups s.place was
    same = first_before s.place (event, marks ++ group) earlier before ∙ sym (first_before s.place (event, group) earlier before)

  steps_within_all : (place : ℕ) (sent replies : List Sent) → length was ≡ place → Each (λ s. s.place < place) replies → Each (IsSentAtItsStep was sent) replies
      → Each (IsSentAtItsStep now sent) replies
  steps_within_all place sent [] at low each = tt
  steps_within_all place sent (s ∷ replies) at low each =
      (step_within place sent s at low.0 each.0, steps_within_all place sent replies at low.1 each.1)

adds_sent : (c a : Core) (marks : List Mark) → Adds c marks a → a.disks.sent ≡ c.disks.sent
adds_sent c _ _ AddsNothing = refl
adds_sent c _ _ (Posts r to d lines) = lines_sent to r c.disks d (Ok tt) lines
adds_sent c _ _ (Replies who now_is call answer) = refl
adds_sent c _ _ (Complains about ends after report) = refl
adds_sent c _ _ (Pays owed) = refl

-- a post was issued to its driver
post_issued : (event : Event) (group : List Mark) (earlier : List Group) (r : BlockRequest) (to : Endpoint) (g : ℕ) → to.slot ≡ 1 → to.generation ≡ g
    → IsIssued ((event, Issued r to ∷ group) ∷ earlier) g r
post_issued event group earlier r to g slot number =
    ap (λ (n : ℕ). ((n == 1) && (to.generation == g) && (r.id == r.id)) || is_issued_to g r.id (group ++ marks_of earlier)) slot
    ∙ ap (λ (n : ℕ). ((1 == 1) && (n == g) && (r.id == r.id)) || is_issued_to g r.id (group ++ marks_of earlier)) number
    ∙ ap (λ (b : Bool). ((1 == 1) && b && (r.id == r.id)) || is_issued_to g r.id (group ++ marks_of earlier)) (same_number g)
    ∙ ap (λ (b : Bool). ((1 == 1) && true && b) || is_issued_to g r.id (group ++ marks_of earlier)) (same_number r.id)

adds_works : (place : ℕ) (event : Event) (group : List Mark) (earlier : List Group) (c a : Core) (marks : List Mark) → Adds c marks a
    → length c.disks.older + 1 ≡ c.disks.media.generation → NotAgain event group marks earlier
    → AllSlots (SlotWorks ((event, group) ∷ earlier) c.disks.sent) c.disks → AllSlots (SlotWorks ((event, marks ++ group) ∷ earlier) c.disks.sent) a.disks
adds_works place event group earlier c _ _ AddsNothing number none k = k
adds_works place event group earlier c _ _ (Posts r to d lines) number none k =
    let there : (to.slot ≡ 1) × (to.generation ≡ c.disks.media.generation) = posted_there to r c.disks d (Ok tt) lines refl in
    lined_within event group (Issued r to ∷ []) earlier place c.disks.sent c.disks.media.generation r c.disks d none
    (post_issued event group earlier r to c.disks.media.generation there.0 there.1) (lines_goes place to r c.disks d (Ok tt) number lines) k
adds_works place event group earlier c _ marks (Replies who now_is call answer) number none k = same_within event group marks earlier c.disks.sent c.disks none k
adds_works place event group earlier c _ marks (Complains about ends after report) number none k = same_within event group marks earlier c.disks.sent c.disks none k
adds_works place event group earlier c _ marks (Pays owed) number none k = same_within event group marks earlier c.disks.sent c.disks none k

adds_posts : (event : Event) (group : List Mark) (earlier : List Group) (c a : Core) (marks : List Mark) → Adds c marks a
    → Each (λ p. IsIssued ((event, group) ∷ earlier) p.to.generation p.request) c.posts
    → Each (λ p. IsIssued ((event, marks ++ group) ∷ earlier) p.to.generation p.request) a.posts
adds_posts event group earlier c _ _ AddsNothing h = h
adds_posts event group earlier c _ _ (Posts r to d lines) h =
    one_post_more ((event, Issued r to ∷ group) ∷ earlier) c.posts (record { to = to; request = r })
    (posts_stay ((event, group) ∷ earlier) ((event, Issued r to ∷ group) ∷ earlier) c.posts (stays_within event group (Issued r to ∷ []) earlier) h)
    (post_issued event group earlier r to to.generation (posted_there to r c.disks d (Ok tt) lines refl).0 refl)
adds_posts event group earlier c _ marks (Replies who now_is call answer) h =
    posts_stay ((event, group) ∷ earlier) ((event, marks ++ group) ∷ earlier) c.posts (stays_within event group marks earlier) h
adds_posts event group earlier c _ marks (Complains about ends after report) h =
    posts_stay ((event, group) ∷ earlier) ((event, marks ++ group) ∷ earlier) c.posts (stays_within event group marks earlier) h
adds_posts event group earlier c _ marks (Pays owed) h =
    posts_stay ((event, group) ∷ earlier) ((event, marks ++ group) ∷ earlier) c.posts (stays_within event group marks earlier) h

sends_add : (drivers place : ℕ) (event : Event) (group : List Mark) (earlier : List Group) (c a : Core) (marks : List Mark) → Adds c marks a
    → AllNewOrFirst ((event, marks ++ group) ∷ earlier) → SendsSoFar drivers place ((event, group) ∷ earlier) c
    → SendsSoFar drivers place ((event, marks ++ group) ∷ earlier) a
sends_add drivers place event group earlier c a marks adds ok h = record {
  slots = (slots_kept drivers).adds place event group earlier c a marks adds h.slots;
  answered = answered_kept.adds place event group earlier c a marks adds h.answered;
  issues = subst (λ (l : List Mark). IssuesStand a.watch.generation l) (sym (same_marks event group marks earlier))
      (adds_stands c a marks (group ++ marks_of earlier) adds h.slots.follows.latest h.issues);
  posts = adds_posts event group earlier c a marks adds h.posts;
  fresh = adds_fresh c a marks adds h.fresh;
  works = subst (λ (l : List Sent). AllSlots (SlotWorks ((event, marks ++ group) ∷ earlier) l) a.disks) (sym (adds_sent c a marks adds))
      (adds_works place event group earlier c a marks adds h.slots.numbered none h.works);
  steps = subst (λ (l : List Sent). Each (IsSentAtItsStep ((event, marks ++ group) ∷ earlier) l) l) (sym (adds_sent c a marks adds))
      (steps_within_all event group marks earlier place c.disks.sent c.disks.sent h.answered.places h.answered.sent h.steps);
} where
  none : NotAgain event group marks earlier
  none = adds_issues c a marks group (marks_of earlier) adds h.slots.follows.latest h.issues.new ok.0

pub sends_kept : (drivers : ℕ) → IsKept (SendsWell drivers)
sends_kept drivers = record {
  begins = λ place groups c a event marks paid begins h ok. sends_begin drivers place groups c a event marks paid begins (h ok.1);
  adds = λ place event group earlier c a marks adds h ok.
      sends_add drivers place event group earlier c a marks adds ok (h (fewer_new marks group (marks_of earlier) ok.0, ok.1));
}
