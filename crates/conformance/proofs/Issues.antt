-- What a run keeps of the requests that it issues: each in its place, and all open ones after a start.
use Rattle.std.proofs.Common.{◌≡◌, ℕ, suc, ◌+◌, ◌<◌, ◌≤◌, List, [], ◌∷◌, ◌++◌, length, map, max, Bool, true, false, cond, refl, sym, ◌∙◌, ap, subst, arith, append_assoc}
use Rattle.std.proofs.lemmas.Bool.Decides.{nat_tests}
use Rattle.std.specs.Prelude.{Option, Some, None, Ok, Err, ◌&&◌, ◌||◌, not, ◌==◌, nat_lt, nat_le, is_some}
use Rattle.lemmas.proofs.Numbers.{less_holds}
use Rattle.lemmas.proofs.Bools.{and_left, or_left, or_right}
use Rattle.message.specs.declared.endpoint.Endpoint.{Endpoint}
use Rattle.message.specs.declared.BlockRequest.{BlockRequest}
use Rattle.reincarnate.specs.Watch.{driver}
use Rattle.records.specs.Area.{Area}
use Rattle.records.specs.Marks.{Mark, Issued, gave_up, last_started}
use Rattle.records.specs.Open.{greatest, open_requests, has_none, without_id, IsIn}
use Rattle.records.specs.Laws.{IsRising}
use Rattle.records.specs.Acts.{Outbox, MayBegin, MayPost, IsAtRest, target, is_post_due, first_of}
use Rattle.records.proofs.OpenRequests.{open_below, open_new, open_again}
use Rattle.schedule.proofs.FaultlessLaws.{faults_change_nothing}
use Rattle.schedule.specs.declared.Event.{Event}
use Rattle.schedule.specs.Groups.{Group, marks_of, generation, EachGroup}
use Rattle.schedule.specs.Drivers.{has_ended}
use Rattle.schedule.specs.Starts.{IssuesFollow, is_among_first, may_issue}
use Rattle.reissue.specs.declared.link.LinkRefusal.{LinkRefusal}
use Rattle.simulated_link.specs.Disks.{Disks, LinesUp, NoneIsThere, LineIsFull, IsLinedUp, is_at, lined_up}
use Rattle.conformance.specs.Core.{Core}
use Rattle.conformance.specs.Happens.{Adds, Posts}
use Rattle.conformance.specs.Steady.{SlotsSoFar}
use Rattle.conformance.proofs.SlotLaws.{slots_kept}
use Rattle.conformance.specs.Said.{PlacedAsDue}
use Rattle.conformance.specs.Issuing.{FollowedAsDue}
use Rattle.conformance.proofs.OwingLaws.{served, IsCalm, is_quiet, with_began, with_posted, core_posted}
use Rattle.conformance.proofs.NumberLaws.{IsFrom, from_push, from_same, without_lower, without_first, length_push, one_first, FirstOut, first_out}
use Rattle.conformance.proofs.Starting.{follows_on, none_follow, quiet_placed, Within, adds_within, Numbers, adds_numbers, stays_placed, one_placed}

-- the requests that were never issued have the next ids, and at most 16 are pending
pub record Numbered (marks : List Mark) (never : List BlockRequest) : Type 0 where
  pub ids : IsFrom (suc (greatest marks)) never
  pub few : length (open_requests marks) + length never ≤ 16

-- each of these is open
abbrev pub AllOpen : List Mark → List BlockRequest → Type 0
AllOpen marks [] = Unit {0}
AllOpen marks (r ∷ rs) = IsIn r (open_requests marks) × AllOpen marks rs

-- after a start these open requests are still to be issued, this one first: nothing but that goes on
pub record Following (groups : List Group) (d : Disks) (complaint : Option Endpoint) (stopped t : Bool) (to : Endpoint) (r : BlockRequest) (rest : List BlockRequest) : Type 0 where
  pub among : is_among_first r.id (marks_of groups) ≡ true
  pub rising : IsRising (r ∷ rest)
  pub opened : AllOpen (served groups) (r ∷ rest)
  pub uncomplained : complaint ≡ None
  pub going : stopped ≡ false
  pub goes_on : gave_up (served groups) ≡ false
  pub last_is : last_started (served groups) ≡ Some to
  pub there : is_at to d ≡ true
  pub room : length d.current.line + suc (length rest) ≤ 16
  pub working : t ≡ true

abbrev pub AgainNow : List Group → Disks → Option Endpoint → Bool → Bool → Endpoint → List BlockRequest → Type 0
AgainNow groups d complaint stopped t to [] = Unit {0}
AgainNow groups d complaint stopped t to (r ∷ rest) = Following groups d complaint stopped t to r rest

-- each start was followed by all open requests, the last one once these are issued
abbrev pub FollowsBut : Endpoint → List BlockRequest → List Group → Type 0
FollowsBut to left [] = Unit {0}
FollowsBut to left ((event, group) ∷ earlier) = IssuesFollow (map (λ r. Issued r to) left) group (marks_of earlier) × EachGroup FollowedAsDue earlier

-- the requests so far were issued in their places; the pending ones are numbered; those unposted are open ones that follow a start, and then
-- those that were never issued
pub record Issues (drivers : ℕ) (place : ℕ) (groups : List Group) (c : Core) (o : Outbox) (t : Bool) : Type 0 where
  pub slots : SlotsSoFar drivers place groups c
  pub placed : EachGroup PlacedAsDue groups
  pub numbered : Numbered (served groups) o.never_issued
  pub to : Endpoint
  pub left : List BlockRequest
  pub unposted : o.unposted ≡ left ++ o.never_issued
  pub follow : FollowsBut to left groups
  pub again : AgainNow groups c.disks o.complaint o.stopped t to left

-- none is left
pub none_again : (groups : List Group) (d : Disks) (complaint : Option Endpoint) (stopped t : Bool) (to : Endpoint) (left : List BlockRequest) → left ≡ []
    → AgainNow groups d complaint stopped t to left
none_again groups d complaint stopped t to [] none = tt
none_again groups d complaint stopped t to (r ∷ rest) none = absurd (clash none) where
  clash : ◌≡◌ {A = List BlockRequest} (r ∷ rest) [] → ⊥
  clash is = cc

-- while some are left a post is due
pub none_left : (groups : List Group) (d : Disks) (o : Outbox) (t : Bool) (to : Endpoint) (left : List BlockRequest) → o.unposted ≡ left ++ o.never_issued
    → AgainNow groups d o.complaint o.stopped t to left → IsCalm (served groups) o → left ≡ []
none_left groups d o t to [] is again calm = refl
none_left groups d o t to (r ∷ rest) is again calm = absurd (clash (sym due ∙ calm again.uncomplained)) where
  marks : List Mark
  marks = served groups

  due : is_post_due marks o ≡ true
  due = ap (λ (u : List BlockRequest). is_some (target marks) && not o.stopped && not (has_none u)) is
      ∙ ap (λ (s : Bool). is_some (target marks) && not s && not (has_none (r ∷ (rest ++ o.never_issued)))) again.going
      ∙ ap (λ (b : Bool). is_some (cond b None (last_started marks)) && not false && not (has_none (r ∷ (rest ++ o.never_issued)))) again.goes_on
      ∙ ap (λ (e : Option Endpoint). is_some e && not false && not (has_none (r ∷ (rest ++ o.never_issued)))) again.last_is

  clash : ◌≡◌ {A = Bool} true false → ⊥
  clash e = cc

pub followed : (to : Endpoint) (left : List BlockRequest) (groups : List Group) → left ≡ [] → FollowsBut to left groups → EachGroup FollowedAsDue groups
followed to left [] none h = tt
followed to [] ((event, group) ∷ earlier) none h = h
followed to (r ∷ rest) ((event, group) ∷ earlier) none h = absurd (clash none) where
  clash : ◌≡◌ {A = List BlockRequest} (r ∷ rest) [] → ⊥
  clash is = cc

followed_by_none : (to : Endpoint) (groups : List Group) → EachGroup FollowedAsDue groups → FollowsBut to [] groups
followed_by_none to [] h = tt
followed_by_none to (g ∷ groups) h = h

-- where no request is left to follow a start
pub level : (drivers place : ℕ) (groups : List Group) (c : Core) (o : Outbox) (t : Bool) → SlotsSoFar drivers place groups c → EachGroup PlacedAsDue groups
    → Numbered (served groups) o.never_issued → o.unposted ≡ o.never_issued → EachGroup FollowedAsDue groups → Issues drivers place groups c o t
level drivers place groups c o t slots placed numbered unposted follow = record {
  slots = slots;
  placed = placed;
  numbered = numbered;
  to = driver 0;
  left = [];
  unposted = unposted;
  follow = followed_by_none (driver 0) groups follow;
  again = tt;
}

pub levelled : (o : Outbox) (left : List BlockRequest) → left ≡ [] → o.unposted ≡ left ++ o.never_issued → o.unposted ≡ o.never_issued
levelled o left none is = is ∙ ap (λ (l : List BlockRequest). l ++ o.never_issued) none

-- a request becomes pending
pub begins_one : (drivers place : ℕ) (groups : List Group) (c : Core) (o : Outbox) (t : Bool) (r : BlockRequest) → MayBegin (served groups) o r
    → Issues drivers place groups c o t → Issues drivers place groups c (with_began r o) t
begins_one drivers place groups c o t r may h =
    let more : length (o.never_issued ++ r ∷ []) ≡ suc (length o.never_issued) = length_push o.never_issued r in
    let room : length (open_requests (served groups)) + length o.never_issued < 16 = may.room in
    record {
      slots = h.slots;
      placed = h.placed;
      numbered = record {
        ids = from_push (suc (greatest (served groups))) o.never_issued r h.numbered.ids (omega (arith, may.next));
        few = omega (arith, more, room);
      };
      to = h.to;
      left = h.left;
      unposted = ap (λ (l : List BlockRequest). l ++ r ∷ []) h.unposted ∙ append_assoc h.left o.never_issued (r ∷ []);
      follow = h.follow;
      again = h.again;
    }

pub rests : (drivers place : ℕ) (groups : List Group) (c : Core) (o : Outbox) (t t' : Bool) → IsAtRest (served groups) o
    → Issues drivers place groups c o t → Issues drivers place groups c o t'
rests drivers place groups c o t t' rest h =
    let none : h.left ≡ [] = none_left groups c.disks o t h.to h.left h.unposted h.again (λ is. rest.post) in
    record {
      slots = h.slots;
      placed = h.placed;
      numbered = h.numbered;
      to = h.to;
      left = h.left;
      unposted = h.unposted;
      follow = h.follow;
      again = none_again groups c.disks o.complaint o.stopped t' h.to h.left none;
    }

-- what is done within an event, but for posts
pub adds : (drivers place : ℕ) (event : Event) (group : List Mark) (earlier : List Group) (c a : Core) (marks : List Mark) (o o' : Outbox) (t : Bool)
    → Adds c marks a → is_quiet marks ≡ true → IsCalm (served ((event, group) ∷ earlier)) o → o'.unposted ≡ o.unposted → o'.never_issued ≡ o.never_issued
    → Issues drivers place ((event, group) ∷ earlier) c o t → Issues drivers place ((event, marks ++ group) ∷ earlier) a o' t
adds drivers place event group earlier c a marks o o' t does quiet calm same_unposted same_never h =
    let none : h.left ≡ [] = none_left ((event, group) ∷ earlier) c.disks o t h.to h.left h.unposted h.again calm in
    let w : Within marks group (marks_of earlier) = adds_within c a marks group (marks_of earlier) does in
    let n : Numbers (served ((event, group) ∷ earlier)) (served ((event, marks ++ group) ∷ earlier)) = adds_numbers c a marks group (marks_of earlier) does quiet in
    let was : EachGroup FollowedAsDue ((event, group) ∷ earlier) = followed h.to h.left ((event, group) ∷ earlier) none h.follow in
    level drivers place ((event, marks ++ group) ∷ earlier) a o' t
    ((slots_kept drivers).adds place event group earlier c a marks does h.slots)
    (quiet_placed ((event, marks ++ group) ∷ earlier) marks group (marks_of earlier) quiet ∙ stays_placed event marks group earlier w h.placed.0, h.placed.1)
    (numbered_as n (subst (λ (l : List BlockRequest). Numbered (served ((event, group) ∷ earlier)) l) (sym same_never) h.numbered))
    (same_unposted ∙ levelled o h.left none h.unposted ∙ sym same_never)
    (none_follow [] marks group (marks_of earlier) w.no_starts was.0, was.1) where
      numbered_as : {x y : List Mark} → Numbers x y → Numbered x o'.never_issued → Numbered y o'.never_issued
      numbered_as n k = record {
        ids = from_same _ _ o'.never_issued (ap suc (sym n.greatest_is)) k.ids;
        few = subst (λ (l : List BlockRequest). length l + length o'.never_issued ≤ 16) (sym n.open_is) k.few;
      }

-- two that are there are one
one_endpoint : (e f : Endpoint) → Some e ≡ Some f → e ≡ f
one_endpoint e f is = ap (λ (x : Option Endpoint). endpoint_or e x) is where
  endpoint_or : Endpoint → Option Endpoint → Endpoint
  endpoint_or d None = d
  endpoint_or d (Some x) = x

-- where posts go
pub not_given_up : (marks : List Mark) (to : Endpoint) → target marks ≡ Some to → gave_up marks ≡ false
not_given_up marks to is = by (gave_up marks) is where
  by : (b : Bool) → cond b None (last_started marks) ≡ Some to → b ≡ false
  by true e = cc
  by false e = refl

pub target_is : (marks : List Mark) (to : Endpoint) → gave_up marks ≡ false → target marks ≡ Some to → last_started marks ≡ Some to
target_is marks to goes_on is = sym (ap (λ (b : Bool). cond b None (last_started marks)) goes_on) ∙ is

equal_of : (n m : ℕ) → (n == m) ≡ true → n ≡ m
equal_of n m h = grind (arith, nat_tests, h)

-- the driver at an endpoint is the current one, and lives
pub at_generation : (to : Endpoint) (d : Disks) → is_at to d ≡ true → to.generation ≡ d.media.generation
at_generation to d h = equal_of to.generation d.media.generation (and_left (to.generation == d.media.generation) d.current.live (split_right h)) where
  split_right : is_at to d ≡ true → ((to.generation == d.media.generation) && d.current.live) ≡ true
  split_right k = by (to.slot == 1) (to.generation == d.media.generation) d.current.live k where
    by : (x y z : Bool) → (x && y && z) ≡ true → (y && z) ≡ true
    by true true true e = refl
    by true true false e = cc
    by true false z e = cc
    by false y z e = cc

pub at_lives : (to : Endpoint) (d : Disks) → is_at to d ≡ true → d.current.live ≡ true
at_lives to d h = by (to.slot == 1) (to.generation == d.media.generation) d.current.live h where
  by : (x y z : Bool) → (x && y && z) ≡ true → z ≡ true
  by true true true e = refl
  by true true false e = cc
  by true false z e = cc
  by false y z e = cc

-- a request to that driver is issued in its place, by its id
may_issue_it : (drivers place : ℕ) (event : Event) (group : List Mark) (earlier : List Group) (c : Core) (to : Endpoint) (r : BlockRequest)
    → SlotsSoFar drivers place ((event, group) ∷ earlier) c → is_at to c.disks ≡ true → gave_up (served ((event, group) ∷ earlier)) ≡ false
    → (nat_lt (greatest (group ++ marks_of earlier)) r.id || is_among_first r.id (group ++ marks_of earlier)) ≡ true
    → may_issue ((event, group) ∷ earlier) r to (group ++ marks_of earlier) ≡ true
may_issue_it drivers place event group earlier c to r s there goes_on by_id =
    let marks : List Mark = group ++ marks_of earlier in
    let g : ℕ = to.generation in
    let is : g ≡ c.disks.media.generation = at_generation to c.disks there in
    let current : has_ended g ((event, group) ∷ earlier) ≡ false =
    subst (λ (n : ℕ). has_ended n ((event, group) ∷ earlier) ≡ false) (sym is) (s.slots.current.live (at_lives to c.disks there)) in
    let begun : nat_lt 0 g ≡ true = less 0 g (omega (arith, is, s.follows.latest, s.follows.some)) in
    let so_many : nat_le g (generation marks) ≡ true = at_most g (generation marks) (omega (arith, is, s.follows.latest, s.follows.started_is)) in
    ap (λ (b : Bool). ((b && nat_le g (generation marks)) && not (has_ended g ((event, group) ∷ earlier))) && not (gave_up marks)
    && (nat_lt (greatest marks) r.id || is_among_first r.id marks)) begun
    ∙ ap (λ (b : Bool). ((true && b) && not (has_ended g ((event, group) ∷ earlier))) && not (gave_up marks)
    && (nat_lt (greatest marks) r.id || is_among_first r.id marks)) so_many
    ∙ ap (λ (b : Bool). ((true && true) && not b) && not (gave_up marks) && (nat_lt (greatest marks) r.id || is_among_first r.id marks)) current
    ∙ ap (λ (b : Bool). ((true && true) && not false) && not b && (nat_lt (greatest marks) r.id || is_among_first r.id marks))
    (sym (faults_change_nothing marks).given_up ∙ goes_on)
    ∙ by_id where
      less : (n m : ℕ) → n < m → nat_lt n m ≡ true
      less n m h = grind (arith, nat_tests)

      at_most : (n m : ℕ) → n ≤ m → nat_le n m ≡ true
      at_most n m h = grind (arith, nat_tests)

-- open requests stay open where the same are
pub all_open_as : (marks marks' : List Mark) (rs : List BlockRequest) → open_requests marks' ≡ open_requests marks → AllOpen marks rs → AllOpen marks' rs
all_open_as marks marks' [] same h = tt
all_open_as marks marks' (r ∷ rs) same h = (subst (λ (l : List BlockRequest). IsIn r l) (sym same) h.0, all_open_as marks marks' rs same h.1)

module _ (drivers place : ℕ) (event : Event) (group : List Mark) (earlier : List Group) (c : Core) (to : Endpoint) (r : BlockRequest) (o : Outbox) (t : Bool) (area : Area)
    (may : MayPost area (served ((event, group) ∷ earlier)) o to r) (there : is_at to c.disks ≡ true) (few : length c.disks.current.line < 32)
    (h : Issues drivers place ((event, group) ∷ earlier) c o t) where
  abbrev was : List Group
  was = (event, group) ∷ earlier

  abbrev now : List Group
  now = (event, Issued r to ∷ group) ∷ earlier

  abbrev after : Core
  after = core_posted to r (lined_up r c.disks) c

  abbrev marks : List Mark
  marks = group ++ marks_of earlier

  post : Adds c (Issued r to ∷ []) after
  post = Posts r to (lined_up r c.disks) (IsLinedUp there few)

  slots_after : SlotsSoFar drivers place now after
  slots_after = (slots_kept drivers).adds place event group earlier c after (Issued r to ∷ []) post h.slots

  goes_on : gave_up (served was) ≡ false
  goes_on = not_given_up (served was) to may.endpoint

  placed_after : (nat_lt (greatest marks) r.id || is_among_first r.id marks) ≡ true → EachGroup PlacedAsDue now
  placed_after by_id = (
    one_placed event r to group earlier (adds_within c after (Issued r to ∷ []) group (marks_of earlier) post)
        (may_issue_it drivers place event group earlier c to r h.slots there goes_on by_id) h.placed.0,
    h.placed.1,
  )

  same_greatest : greatest (served was) ≡ greatest marks
  same_greatest = (faults_change_nothing marks).greatest_is

  -- one that was never issued
  post_next : h.left ≡ [] → Issues drivers place now after (with_posted r o) t
  post_next none =
      let s : List Mark = served was in
      let flat : o.unposted ≡ o.never_issued = levelled o h.left none h.unposted in
      let first : first_of o.never_issued ≡ Some r = ap first_of (sym flat) ∙ may.first in
      let out : FirstOut (suc (greatest s)) r o.never_issued = first_out (suc (greatest s)) r o.never_issued h.numbered.ids first in
      let new : greatest s < r.id = omega (arith, out.id) in
      let opened : open_requests (served now) ≡ open_requests s ++ r ∷ [] = open_new s r to new in
      let more : length (open_requests (served now)) ≡ suc (length (open_requests s)) =
      ap (λ (l : List BlockRequest). length l) opened ∙ length_push (open_requests s) r in
      let above : greatest marks < r.id = omega (arith, new, same_greatest) in
      let follow : EachGroup FollowedAsDue was = followed h.to h.left was none h.follow in
      level drivers place now after (with_posted r o) t slots_after (placed_after (or_left _ _ (less_holds (greatest marks) r.id above)))
      (record {
        ids = from_same (suc (suc (greatest s))) (suc (max (greatest s) r.id)) (without_id r.id o.never_issued) (omega (arith, out.id)) out.rest;
        few = omega (arith, more, out.fewer, h.numbered.few);
      })
      (ap (λ (l : List BlockRequest). without_id r.id l) flat)
      ((tt, follows_on [] (Issued r to ∷ []) group (marks_of earlier) follow.0), follow.1)

  -- the first of those that follow a start
  post_again : (rest : List BlockRequest) → o.unposted ≡ (r ∷ rest) ++ o.never_issued → FollowsBut h.to (r ∷ rest) was
      → Following was c.disks o.complaint o.stopped t h.to r rest → Issues drivers place now after (with_posted r o) t
  post_again rest unposted follow again =
      let s : List Mark = served was in
      let same : h.to ≡ to = one_endpoint h.to to (sym again.last_is ∙ target_is s to goes_on may.endpoint) in
      let old : r.id ≤ greatest s = open_below s r again.opened.0 in
      let opened : open_requests (served now) ≡ open_requests s = open_again s r to old in
      let never : without_id r.id o.never_issued ≡ o.never_issued = without_lower (suc (greatest s)) r.id o.never_issued h.numbered.ids (omega (arith, old)) in
      let k : FollowsBut to (r ∷ rest) was = subst (λ (e : Endpoint). FollowsBut e (r ∷ rest) was) same follow in
      let with_line : length (c.disks.current.line ++ r ∷ []) ≡ suc (length c.disks.current.line) = length_push c.disks.current.line r in
      record {
        slots = slots_after;
        placed = placed_after (or_right (nat_lt (greatest marks) r.id) _ again.among);
        numbered = record {
          ids = subst (λ (l : List BlockRequest). IsFrom (suc (max (greatest s) r.id)) l) (sym never)
              (from_same (suc (greatest s)) (suc (max (greatest s) r.id)) o.never_issued (omega (arith, old)) h.numbered.ids);
          few = subst (λ (l : List BlockRequest). length (open_requests (served now)) + length l ≤ 16) (sym never)
              (subst (λ (l : List BlockRequest). length l + length o.never_issued ≤ 16) (sym opened) h.numbered.few);
        };
        to = to;
        left = rest;
        unposted = ap (λ (l : List BlockRequest). without_id r.id l) unposted ∙ without_first r (rest ++ o.never_issued)
            ∙ ap (λ (l : List BlockRequest). rest ++ l) (sym never);
        follow = ((tt, k.0), k.1);
        again = by rest again;
      } where
        by : (ys : List BlockRequest) → Following was c.disks o.complaint o.stopped t h.to r ys → AgainNow now after.disks o.complaint o.stopped t to ys
        by [] a = tt
        by (y ∷ ys) a =
            let s : List Mark = served was in
            let with_line : length (c.disks.current.line ++ r ∷ []) ≡ suc (length c.disks.current.line) = length_push c.disks.current.line r in
            record {
              among = ap (λ (b : Bool). b && is_among_first r.id marks) (less_holds r.id y.id a.rising.0.0) ∙ a.among;
              rising = a.rising.1;
              opened = all_open_as s (served now) (y ∷ ys) (open_again s r to (open_below s r a.opened.0)) a.opened.1;
              uncomplained = a.uncomplained;
              going = a.going;
              goes_on = a.goes_on;
              last_is = target_is s to goes_on may.endpoint;
              there = there;
              room = omega (arith, with_line, a.room);
              working = a.working;
            }

  post_any : (left : List BlockRequest) → h.left ≡ left → Issues drivers place now after (with_posted r o) t
  post_any [] is = post_next is
  post_any (x ∷ rest) is =
      let unposted : o.unposted ≡ (x ∷ rest) ++ o.never_issued = h.unposted ∙ ap (λ (l : List BlockRequest). l ++ o.never_issued) is in
      let same : x ≡ r = one_first r x (rest ++ o.never_issued) (ap first_of (sym unposted) ∙ may.first) in
      post_again rest (unposted ∙ ap (λ (y : BlockRequest). (y ∷ rest) ++ o.never_issued) same)
      (subst (λ (y : BlockRequest). FollowsBut h.to (y ∷ rest) was) same (subst (λ (l : List BlockRequest). FollowsBut h.to l was) is h.follow))
      (subst (λ (y : BlockRequest). AgainNow was c.disks o.complaint o.stopped t h.to (y ∷ rest)) same
      (subst (λ (l : List BlockRequest). AgainNow was c.disks o.complaint o.stopped t h.to l) is h.again))

-- a post is accepted
pub posts : (drivers place : ℕ) (event : Event) (group : List Mark) (earlier : List Group) (c : Core) (d : Disks) (to : Endpoint) (r : BlockRequest)
    (o : Outbox) (t : Bool) (area : Area) → MayPost area (served ((event, group) ∷ earlier)) o to r → LinesUp to r c.disks (Ok tt) d
    → Issues drivers place ((event, group) ∷ earlier) c o t
    → Issues drivers place ((event, Issued r to ∷ group) ∷ earlier) (core_posted to r d c) (with_posted r o) t
posts drivers place event group earlier c _ to r o t area may (IsLinedUp there few) h =
    post_any drivers place event group earlier c to r o t area may there few h h.left refl

-- a post is refused: no open request was left to follow a start
pub refused : (drivers place : ℕ) (groups : List Group) (c : Core) (d : Disks) (why : LinkRefusal) (to : Endpoint) (r : BlockRequest) (o : Outbox)
    (t : Bool) (area : Area) → MayPost area (served groups) o to r → LinesUp to r c.disks (Err why) d → Issues drivers place groups c o t
    → Issues drivers place groups (record c { disks = d }) (record o { stopped = true }) t
refused drivers place groups c d why to r o t area may lines h =
    subst (λ (x : Disks). Issues drivers place groups (record c { disks = x }) (record o { stopped = true }) t) (sym (same d why lines))
    (level drivers place groups c (record o { stopped = true }) t h.slots h.placed h.numbered (levelled o h.left none h.unposted) (followed h.to h.left groups none h.follow)) where
      same : (x : Disks) (y : LinkRefusal) → LinesUp to r c.disks (Err y) x → x ≡ c.disks
      same _ _ (NoneIsThere not_there) = refl
      same _ _ (LineIsFull there full) = refl

      by : (left : List BlockRequest) → AgainNow groups c.disks o.complaint o.stopped t h.to left → (y : LinkRefusal) → LinesUp to r c.disks (Err y) d → left ≡ []
      by [] again y l = refl
      by (x ∷ rest) again y l =
          let here : is_at to c.disks ≡ true = subst (λ (e : Endpoint). is_at e c.disks ≡ true)
          (one_endpoint h.to to (sym again.last_is ∙ target_is (served groups) to again.goes_on may.endpoint)) again.there in
          absurd (clash d y l here again.room) where
            clash : (z : Disks) (y : LinkRefusal) → LinesUp to r c.disks (Err y) z → is_at to c.disks ≡ true
                → length c.disks.current.line + suc (length rest) ≤ 16 → ⊥
            clash _ _ (NoneIsThere not_there) here room = differ (sym not_there ∙ here) where
              differ : ◌≡◌ {A = Bool} false true → ⊥
              differ e = cc
            clash _ _ (LineIsFull there full) here room = omega (arith, full, room)

      none : h.left ≡ []
      none = by h.left h.again why lines
