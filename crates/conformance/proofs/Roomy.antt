-- What events leave of the current driver's line, of the posts and of what is owed.
use Rattle.std.proofs.Common.{◌≡◌, ℕ, suc, ◌+◌, ◌<◌, ◌≤◌, List, [], ◌∷◌, ◌++◌, length, max, Bool, true, false, cond, refl, sym, ◌∙◌, ap, subst, arith}
use Rattle.std.proofs.lemmas.Bool.Decides.{nat_tests}
use Rattle.std.specs.Prelude.{Option, Some, None, Err, ◌&&◌, not, ◌==◌, is_some}
use Rattle.lemmas.proofs.Bools.{and_right}
use Rattle.message.specs.declared.endpoint.Endpoint.{Endpoint}
use Rattle.message.specs.declared.BlockRequest.{BlockRequest}
use Rattle.message.specs.declared.BlockReply.{BlockReply}
use Rattle.message.specs.declared.Incoming.{Incoming}
use Rattle.message.specs.declared.Incoming.TheVariants as incoming
use Rattle.reincarnate.specs.Watch.{driver}
use Rattle.records.specs.Marks.{Mark, Answered, Flush, GaveUp, Issued, gave_up, last_started, is_endpoint}
use Rattle.records.specs.declared.marks.Cause.{Cause}
use Rattle.records.specs.declared.marks.Cause.TheVariants.{Exit, Hung}
use Rattle.records.specs.Open.{greatest, open_requests, counts, asked_by, moved_by, without_id, IsIn}
use Rattle.records.specs.Acts.{Outbox, first_of}
use Rattle.records.proofs.OpenRequests.{cond_has, open_below, open_new, open_again, in_push_new}
use Rattle.schedule.specs.declared.Event.{Event}
use Rattle.schedule.specs.Groups.{Group, marks_of, started_in, Each}
use Rattle.reissue.specs.declared.link.LinkRefusal.{LinkRefusal}
use Rattle.schedule.specs.declared.log.Post.{Post}
use Rattle.simulated_link.specs.Disks.{Disks, LinesUp, NoneIsThere, LineIsFull}
use Rattle.simulated_link.specs.Kept.{with_next}
use Rattle.conformance.specs.Core.{Core}
use Rattle.conformance.specs.Happens.{fault_marks, exit_marks, beaten_core, TicksTo, Beats, MissesOne, FoundHung, WaitsOn, StartsNext, IsOver, Begins, Arrives, Flushes, Answers, Drops, Delivers, LinesAgain, HangsOne, StepsOne, FailsOne, DiesNone, DiesOne, Ticks}
use Rattle.conformance.proofs.DiskMoves.{steps_generation, dies_generation, hangs_generation, repeats_same}
use Rattle.conformance.proofs.OwingLaws.{owed_with, served}
use Rattle.conformance.proofs.NumberLaws.{without_first, without_lower, one_first, FirstOut, first_out}
use Rattle.conformance.proofs.Issues.{AllOpen, all_open_as, Following, AgainNow, Issues, levelled}
use Rattle.conformance.proofs.Lines.{Between, OnLine, SentLow, PostLow, between_without, sent_found, stay_open, steps_on, dies_on, hangs_on, repeats_on}

-- with marks after which the same requests are open
pub on_line_as : (marks marks' : List Mark) (d : Disks) (bound : ℕ) → ((rs : List BlockRequest) → AllOpen marks rs → AllOpen marks' rs)
    → OnLine marks d bound → OnLine marks' d bound
on_line_as marks marks' d bound leaves h = record {
  old = h.old;
  new = h.new;
  low = h.low;
  line_is = h.line_is;
  short = h.short;
  old_low = h.old_low;
  work_low = h.work_low;
  sent_low = h.sent_low;
  new_is = h.new_is;
  new_open = leaves h.new h.new_open;
}

-- an event that starts no driver leaves the posts, the drivers that are left and the generation, and the line as it must be
pub record EventLine (groups : List Group) (event : Event) (marks : List Mark) (c a : Core) (bound : ℕ) : Type 0 where
  pub posts_are : a.posts ≡ c.posts
  pub supply_is : a.supply ≡ c.supply
  pub generation : a.disks.media.generation ≡ c.disks.media.generation
  pub on_line : OnLine (served ((event, marks) ∷ groups)) a.disks bound

open_after_fault : (groups : List Group) (event : Event) (ends : Bool) (e : Endpoint) (cause : Cause) (rs : List BlockRequest) → AllOpen (served groups) rs
    → AllOpen (served ((event, fault_marks ends e cause) ∷ groups)) rs
open_after_fault groups event true e cause rs h = all_open_as (served groups) (GaveUp ∷ served groups) rs refl h
open_after_fault groups event false e cause rs h = h

open_after_exit : (groups : List Group) (event : Event) (ends : Option Bool) (e : Endpoint) (rs : List BlockRequest) → AllOpen (served groups) rs
    → AllOpen (served ((event, exit_marks ends e) ∷ groups)) rs
open_after_exit groups event None e rs h = h
open_after_exit groups event (Some ends) e rs h = open_after_fault groups event ends e Exit rs h

-- a reply that counts is from the current driver
from_current : (marks : List Mark) (g : ℕ) (a : BlockReply) → last_started marks ≡ Some (driver g) → counts marks a ≡ true → a.from.generation ≡ g
from_current marks g a last counted =
    let from : is_endpoint a.from (Some (driver g)) ≡ true = sym (ap (λ (e : Option Endpoint). is_endpoint a.from e) last) ∙ middle (not (gave_up marks))
    (is_endpoint a.from (last_started marks)) (is_some (asked_by a marks)) counted in
    sym (equal_of g a.from.generation (and_right (1 == a.from.slot) (g == a.from.generation) from)) where
      equal_of : (n m : ℕ) → (n == m) ≡ true → n ≡ m
      equal_of n m h = grind (arith, nat_tests, h)

      middle : (x y z : Bool) → (x && y && z) ≡ true → y ≡ true
      middle true true z h = refl
      middle true false z h = cc
      middle false y z h = cc

tick_line : (groups : List Group) (event : Event) (c a : Core) (marks : List Mark) (bound : ℕ) → TicksTo (beaten_core c) marks a → started_in marks ≡ []
    → OnLine (served groups) c.disks bound → EventLine groups event marks c a bound
tick_line groups event c _ _ bound (Beats last count is same) none h = record { posts_are = refl; supply_is = refl; generation = refl; on_line = h }
tick_line groups event c _ _ bound (MissesOne last count is same few) none h = record { posts_are = refl; supply_is = refl; generation = refl; on_line = h }
tick_line groups event c _ _ bound (FoundHung last count ends after is same enough fault) none h = record {
  posts_are = refl;
  supply_is = refl;
  generation = refl;
  on_line = on_line_as (served groups) (served ((event, fault_marks ends (driver c.disks.media.generation) Hung) ∷ groups)) c.disks bound
      (open_after_fault groups event ends (driver c.disks.media.generation) Hung) h;
}
tick_line groups event c _ _ bound (WaitsOn until is early) none h = record { posts_are = refl; supply_is = refl; generation = refl; on_line = h }
tick_line groups event c _ _ bound (StartsNext until d rest is come spare) none h = absurd (clash none) where
  clash : ◌≡◌ {A = List Endpoint} (driver (c.watch.generation + 1) ∷ []) [] → ⊥
  clash e = cc
tick_line groups event c _ _ bound (IsOver is) none h = record { posts_are = refl; supply_is = refl; generation = refl; on_line = h }

pub event_line : (place : ℕ) (groups : List Group) (c a : Core) (event : Event) (marks : List Mark) (bound : ℕ) → Begins place groups c event marks a
    → started_in marks ≡ [] → last_started (marks_of groups) ≡ Some (driver c.disks.media.generation)
    → Each (PostLow c.disks.media.generation bound) c.posts → OnLine (served groups) c.disks bound → EventLine groups event marks c a bound
event_line place groups c _ _ _ bound (Arrives who now call) none last posts h = record { posts_are = refl; supply_is = refl; generation = refl; on_line = h }
event_line place groups c _ _ _ bound Flushes none last posts h = record {
  posts_are = refl;
  supply_is = refl;
  generation = refl;
  on_line = on_line_as (served groups) (Flush ∷ served groups) c.disks bound (λ rs k. all_open_as (served groups) (Flush ∷ served groups) rs refl k) h;
}
event_line place groups c _ _ _ bound (Answers n s there counted) none last posts h =
    let low : SentLow c.disks.media.generation h.low s = sent_found (SentLow c.disks.media.generation h.low) c.disks.sent n s h.sent_low there in
    let own : s.reply.from.generation ≡ c.disks.media.generation = from_current (marks_of groups) c.disks.media.generation s.reply last counted in
    record {
      posts_are = refl;
      supply_is = refl;
      generation = refl;
      on_line = record {
        old = h.old;
        new = h.new;
        low = h.low;
        line_is = h.line_is;
        short = h.short;
        old_low = h.old_low;
        work_low = h.work_low;
        sent_low = h.sent_low;
        new_is = h.new_is;
        new_open = stay_open (served groups) s.reply h.low bound h.new (low.1 own) h.new_is h.new_open;
      };
    }
event_line place groups c _ _ _ bound (Drops n s there counts) none last posts h = record { posts_are = refl; supply_is = refl; generation = refl; on_line = h }
event_line place groups c _ _ _ bound (Delivers n there) none last posts h = record { posts_are = refl; supply_is = refl; generation = refl; on_line = h }
event_line place groups c _ _ _ bound (LinesAgain n p d same again) none last posts h = record {
  posts_are = refl;
  supply_is = refl;
  generation = (repeats_same p c.disks d again).generation;
  on_line = repeats_on (served groups) bound p c.posts n c.disks d same posts again h;
}
event_line place groups c _ _ _ bound (HangsOne g d hangs) none last posts h = record {
  posts_are = refl;
  supply_is = refl;
  generation = hangs_generation g c.disks d hangs;
  on_line = hangs_on (served groups) bound g c.disks d hangs h;
}
event_line place groups c _ _ _ bound (StepsOne g step d steps well) none last posts h = record {
  posts_are = refl;
  supply_is = refl;
  generation = steps_generation place g c.disks d step steps;
  on_line = steps_on (served groups) bound place g c.disks d step steps h;
}
event_line place groups c _ event _ bound (FailsOne g d ends after steps report) none last posts h = record {
  posts_are = refl;
  supply_is = refl;
  generation = steps_generation place g c.disks d _ steps;
  on_line = on_line_as (served groups) (served ((event, exit_marks ends (driver g)) ∷ groups)) d bound (open_after_exit groups event ends (driver g))
      (steps_on (served groups) bound place g c.disks d _ steps h);
}
event_line place groups c _ _ _ bound (DiesNone g bytes d dies) none last posts h = record {
  posts_are = refl;
  supply_is = refl;
  generation = dies_generation g bytes c.disks d false dies;
  on_line = dies_on (served groups) bound g bytes c.disks d false dies h;
}
event_line place groups c _ event _ bound (DiesOne g bytes d ends after dies report) none last posts h = record {
  posts_are = refl;
  supply_is = refl;
  generation = dies_generation g bytes c.disks d true dies;
  on_line = on_line_as (served groups) (served ((event, exit_marks ends (driver g)) ∷ groups)) d bound (open_after_exit groups event ends (driver g))
      (dies_on (served groups) bound g bytes c.disks d true dies h);
}
event_line place groups c a event marks bound (Ticks _ _ ticks) none last posts h = tick_line groups event c a marks bound ticks none h

-- the requests that are unposted after a message that is no start
pub message_unposted : (result : Option Incoming) (marks : List Mark) (o : Outbox) (bound : ℕ) → ((e : Endpoint) → result ≡ Some (incoming.Started e) → ⊥)
    → Between bound (suc (greatest marks + length o.never_issued)) o.unposted
    → Between bound (suc (greatest (with_next result marks) + length (owed_with result marks o).never_issued)) (owed_with result marks o).unposted
message_unposted None marks o bound other h = h
message_unposted (Some (incoming.Reply a)) marks o bound other h = by (counts marks a) where
  top : ℕ
  top = suc (greatest marks + length o.never_issued)

  by : (b : Bool) → Between bound (suc (greatest (cond b (Answered a ∷ marks) marks) + length o.never_issued))
      (cond (b && is_some (moved_by a marks)) (without_id a.id o.unposted) o.unposted)
  by true = cond_has (λ (l : List BlockRequest). Between bound (suc (greatest marks + length o.never_issued)) l) (is_some (moved_by a marks))
      (without_id a.id o.unposted) o.unposted (between_without bound (suc (greatest marks + length o.never_issued)) a.id o.unposted h) h
  by false = h
message_unposted (Some (incoming.Started e)) marks o bound other h = absurd (other e refl)
message_unposted (Some incoming.GaveUp) marks o bound other h = h
message_unposted (Some incoming.Flush) marks o bound other h = h
message_unposted (Some incoming.End) marks o bound other h = h

-- the first of those that are unposted is posted
pub record PostFacts (marks : List Mark) (o : Outbox) (to : Endpoint) (r : BlockRequest) : Type 0 where
  pub same_top : greatest (Issued r to ∷ marks) + length (without_id r.id o.never_issued) ≡ greatest marks + length o.never_issued
  pub opened : IsIn r (open_requests (Issued r to ∷ marks))

pub post_facts : (drivers place : ℕ) (groups : List Group) (c : Core) (o : Outbox) (t : Bool) (to : Endpoint) (r : BlockRequest) → Issues drivers place groups c o t
    → first_of o.unposted ≡ Some r → PostFacts (served groups) o to r
post_facts drivers place groups c o t to r h first = by h.left refl where
  old_one : (rest : List BlockRequest) → Following groups c.disks o.complaint o.stopped t h.to r rest → PostFacts (served groups) o to r
  old_one rest again =
      let s : List Mark = served groups in
      let old : r.id ≤ greatest s = open_below s r again.opened.0 in
      let never : without_id r.id o.never_issued ≡ o.never_issued = without_lower (suc (greatest s)) r.id o.never_issued h.numbered.ids (omega (arith, old)) in
      record {
        same_top = ap (λ (l : List BlockRequest). max (greatest s) r.id + length l) never ∙ ap (λ (n : ℕ). n + length o.never_issued) (omega (arith, old));
        opened = subst (λ (l : List BlockRequest). IsIn r l) (sym (open_again s r to old)) again.opened.0;
      }

  by : (left : List BlockRequest) → h.left ≡ left → PostFacts (served groups) o to r
  by [] none =
      let s : List Mark = served groups in
      let first_is : first_of o.never_issued ≡ Some r = ap first_of (sym (levelled o h.left none h.unposted)) ∙ first in
      let out : FirstOut (suc (greatest s)) r o.never_issued = first_out (suc (greatest s)) r o.never_issued h.numbered.ids first_is in
      record {
        same_top = omega (arith, out.id, out.fewer);
        opened = subst (λ (l : List BlockRequest). IsIn r l) (sym (open_new s r to (omega (arith, out.id)))) (in_push_new (open_requests s) r);
      }
  by (x ∷ rest) is =
      let unposted : o.unposted ≡ (x ∷ rest) ++ o.never_issued = h.unposted ∙ ap (λ (l : List BlockRequest). l ++ o.never_issued) is in
      let same : x ≡ r = one_first r x (rest ++ o.never_issued) (ap first_of (sym unposted) ∙ first) in
      old_one rest (subst (λ (y : BlockRequest). AgainNow groups c.disks o.complaint o.stopped t h.to (y ∷ rest)) same
      (subst (λ (l : List BlockRequest). AgainNow groups c.disks o.complaint o.stopped t h.to l) is h.again))

pub record FirstPosted (bound top : ℕ) (r : BlockRequest) (rs : List BlockRequest) : Type 0 where
  pub from : bound ≤ r.id
  pub rest : Between (suc r.id) top (without_id r.id rs)

pub first_posted : (bound top : ℕ) (r : BlockRequest) (rs : List BlockRequest) → Between bound top rs → first_of rs ≡ Some r → FirstPosted bound top r rs
first_posted bound top r [] h is = absurd (clash is) where
  clash : ◌≡◌ {A = Option BlockRequest} None (Some r) → ⊥
  clash e = cc
first_posted bound top r (x ∷ rs) h is =
    let same : x ≡ r = one_first r x rs is in
    let k : Between bound top (r ∷ rs) = subst (λ (y : BlockRequest). Between bound top (y ∷ rs)) same h in
    record {
      from = k.0;
      rest = subst (λ (y : BlockRequest). Between (suc r.id) top (without_id r.id (y ∷ rs))) (sym same)
          (subst (λ (l : List BlockRequest). Between (suc r.id) top l) (sym (without_first r rs)) k.1);
    }

pub posts_more : (g n m : ℕ) (posts : List Post) → n ≤ m → Each (PostLow g n) posts → Each (PostLow g m) posts
posts_more g n m [] le h = tt
posts_more g n m (p ∷ posts) le h =
    ((h.0.0, λ own. let low : p.request.id < n = h.0.1 own in omega (arith, le, low)), posts_more g n m posts le h.1)

-- all posts were to earlier drivers
pub posts_older : (g n later : ℕ) (posts : List Post) → g < later → Each (PostLow g n) posts → Each (PostLow later 0) posts
posts_older g n later [] more h = tt
posts_older g n later (p ∷ posts) more h =
    ((omega (arith, more, h.0.0), λ own. absurd (none p.to.generation h.0.0 own)), posts_older g n later posts more h.1) where
      none : (k : ℕ) → k ≤ g → k ≡ later → ⊥
      none k le is = omega (arith, le, is, more)

pub refused_same : (to : Endpoint) (r : BlockRequest) (b d : Disks) (why : LinkRefusal) → LinesUp to r b (Err why) d → d ≡ b
refused_same to r b _ _ (NoneIsThere none) = refl
refused_same to r b _ _ (LineIsFull there full) = refl
