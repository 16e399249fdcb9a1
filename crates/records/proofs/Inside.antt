-- Where each write lies in the volume behind its first two blocks, those blocks and what lies behind the last zone stay.
use Rattle.std.proofs.Common.{◌≡◌, ℕ, ◌+◌, ◌<◌, ◌≤◌, List, [], ◌∷◌, ◌++◌, Bool, true, false, cond, refl, sym, ◌∙◌, ap, subst, inl, inr, arith, Option, Some, None}
use Rattle.std.proofs.lemmas.Bool.Decides.{nat_tests}
use Rattle.std.proofs.lemmas.Bool.{and_parts}
use Rattle.std.specs.Prelude.{nat_lt, nat_le, ◌==◌, ◌&&◌, ◌||◌, not, is_some}
use Rattle.lemmas.proofs.Bools.{is_false, false_not_true}
use Rattle.layout.specs.declared.Geometry.{Geometry}
use Rattle.message.specs.Good.{is_write}
use Rattle.message.specs.declared.Kind.{Kind}
use Rattle.message.specs.declared.Kind.TheVariants.{Read, Write}
use Rattle.message.specs.declared.BlockRequest.{BlockRequest}
use Rattle.message.specs.declared.BlockReply.{BlockReply}
use Rattle.message.specs.declared.Incoming.{Incoming}
use Rattle.message.specs.declared.Incoming.TheVariants as incoming
use Rattle.records.specs.Marks.{Mark, Issued, Started, Answered, Flush, GaveUp, Took, Fault}
use Rattle.records.specs.Open.{greatest, open_requests, counts, asked_by, moved_by, moved_of, with_id, without_id}
use Rattle.records.specs.Disk.{disk_after, unsure, covers, settles, byte_for}
use Rattle.records.specs.Told.{Posted, Complained, Received, received}
use Rattle.records.specs.Acts.{Began, Absorbed, AtLink, marks_after}
use Rattle.records.specs.Area.{Area, LiesIn, FitsArea, area_of, no_area, WritesInside, IsHeadOrTail}
use Rattle.records.specs.Laws.{ActsWriteInside, WiderRulesAreKept, HeadAndTailStay}
use Rattle.records.proofs.OpenRequests.{cond_has}
use Rattle.records.proofs.Unsure.{moved_le, covers_bounds}

-- ---- acts

-- a message adds no issue
inside_received : (g : Geometry) (m : Incoming) (marks : List Mark) → WritesInside g marks → WritesInside g (received m marks)
inside_received g (incoming.Reply a) marks h = by (counts marks a) where
  by : (b : Bool) → WritesInside g (cond b (Answered a ∷ marks) marks)
  by true = h
  by false = h
inside_received g (incoming.Started e) marks h = h
inside_received g incoming.GaveUp marks h = h
inside_received g incoming.Flush marks h = h
inside_received g incoming.End marks h = h

-- what fits a volume lies in it, whatever its minor is
lies_in_own : (g : Geometry) (minor : ℕ) (r : BlockRequest) → FitsArea (area_of g minor) r → LiesIn (area_of g r.minor) r.kind r.position r.count
lies_in_own g minor r h = subst (λ (m : ℕ). LiesIn (area_of g m) r.kind r.position r.count) (sym h.fits.minor_is) h.lies

pub acts_write_inside : ActsWriteInside
acts_write_inside g minor [] marks o keep h = h
acts_write_inside g minor (Began r ∷ acts) marks o keep h = acts_write_inside g minor acts marks o keep.0 h
acts_write_inside g minor (Absorbed m ∷ acts) marks o keep h =
    inside_received g m (marks_after acts marks) (acts_write_inside g minor acts marks o keep.0 h)
acts_write_inside g minor (AtLink (Posted to r true) ∷ acts) marks o keep h =
    (lies_in_own g minor r keep.1.fits, acts_write_inside g minor acts marks o keep.0 h)
acts_write_inside g minor (AtLink (Posted to r false) ∷ acts) marks o keep h = acts_write_inside g minor acts marks o keep.0 h
acts_write_inside g minor (AtLink (Complained e) ∷ acts) marks o keep h = acts_write_inside g minor acts marks o keep.0 h
acts_write_inside g minor (AtLink (Received m) ∷ acts) marks o keep h =
    inside_received g m (marks_after acts marks) (acts_write_inside g minor acts marks o keep.0 h)

-- where nothing may be written, a request that fits is a read
wider : (area : Area) (r : BlockRequest) → FitsArea (no_area area.minor) r → FitsArea area r
wider area r h = record { fits = h.fits; lies = by r.kind h.lies } where
  by : (k : Kind) → LiesIn (no_area area.minor) k r.position r.count → LiesIn area k r.position r.count
  by Read lies = tt
  by Write lies = absurd (omega (arith, lies.0, lies.1))

pub wider_rules : WiderRulesAreKept
wider_rules area [] marks o keep = tt
wider_rules area (Began r ∷ acts) marks o keep = (wider_rules area acts marks o keep.0, keep.1)
wider_rules area (Absorbed m ∷ acts) marks o keep = (wider_rules area acts marks o keep.0, keep.1)
wider_rules area (AtLink (Posted to r accepted) ∷ acts) marks o keep = (
  wider_rules area acts marks o keep.0,
  record {
    complained = keep.1.complained;
    endpoint = keep.1.endpoint;
    not_stopped = keep.1.not_stopped;
    first = keep.1.first;
    fits = wider area r keep.1.fits;
  },
)
wider_rules area (AtLink (Complained e) ∷ acts) marks o keep = (wider_rules area acts marks o keep.0, keep.1)
wider_rules area (AtLink (Received m) ∷ acts) marks o keep = (wider_rules area acts marks o keep.0, keep.1)

-- ---- open requests

-- each of these lies in the volume
abbrev AllLie : Geometry → List BlockRequest → Type 0
AllLie g [] = Unit {0}
AllLie g (r ∷ rs) = LiesIn (area_of g r.minor) r.kind r.position r.count × AllLie g rs

lie_push : (g : Geometry) (rs : List BlockRequest) (r : BlockRequest) → AllLie g rs → LiesIn (area_of g r.minor) r.kind r.position r.count
    → AllLie g (rs ++ r ∷ [])
lie_push g [] r h l = (l, tt)
lie_push g (s ∷ rs) r h l = (h.0, lie_push g rs r h.1 l)

lie_without : (g : Geometry) (id : ℕ) (rs : List BlockRequest) → AllLie g rs → AllLie g (without_id id rs)
lie_without g id [] h = tt
lie_without g id (r ∷ rs) h = cond_has (AllLie g) (r.id == id) rs (r ∷ without_id id rs) h.1 (h.0, lie_without g id rs h.1)

-- the open requests were issued
open_lie : (g : Geometry) (marks : List Mark) → WritesInside g marks → AllLie g (open_requests marks)
open_lie g [] h = tt
open_lie g (Issued r e ∷ marks) h = cond_has (AllLie g) (nat_lt (greatest marks) r.id) (open_requests marks ++ r ∷ []) (open_requests marks)
    (lie_push g (open_requests marks) r (open_lie g marks h.1) h.0) (open_lie g marks h.1)
open_lie g (Answered a ∷ marks) h = cond_has (AllLie g) (is_some (moved_of (with_id a.id (open_requests marks)) a))
    (without_id a.id (open_requests marks)) (open_requests marks)
    (lie_without g a.id (open_requests marks) (open_lie g marks h)) (open_lie g marks h)
open_lie g (Started e ∷ marks) h = open_lie g marks h
open_lie g (Flush ∷ marks) h = open_lie g marks h
open_lie g (GaveUp ∷ marks) h = open_lie g marks h
open_lie g (Took who now call said ∷ marks) h = open_lie g marks h
open_lie g (Fault e cause ∷ marks) h = open_lie g marks h

-- so does the one with an id
lies_by_id : (g : Geometry) (id : ℕ) (rs : List BlockRequest) (r : BlockRequest) → AllLie g rs → with_id id rs ≡ Some r
    → LiesIn (area_of g r.minor) r.kind r.position r.count
lies_by_id g id [] r h e = cc
lies_by_id g id (s ∷ rs) r h e = by (lies_by_id g id rs r h.1) (s.id == id) e where
  by : (with_id id rs ≡ Some r → LiesIn (area_of g r.minor) r.kind r.position r.count) → (b : Bool) → cond b (Some s) (with_id id rs) ≡ Some r
      → LiesIn (area_of g r.minor) r.kind r.position r.count
  by rest true is = let same : s ≡ r = cc in subst (λ (x : BlockRequest). LiesIn (area_of g x.minor) x.kind x.position x.count) same h.0
  by rest false is = rest is

-- ---- places

-- a write in the area has its first byte in it, and its last
write_lies : (area : Area) (k : Kind) (position count : ℕ) → LiesIn area k position count → is_write k ≡ true
    → (area.from ≤ position) × (position + count ≤ area.to)
write_lies area Read position count lies write = absurd (false_not_true write)
write_lies area Write position count lies write = lies

-- a place of a write that lies inside is neither in the first two blocks nor behind the last zone
not_there : (g : Geometry) (r : BlockRequest) (place : ℕ) → LiesIn (area_of g r.minor) r.kind r.position r.count → is_write r.kind ≡ true
    → r.position ≤ place → place < r.position + r.count → IsHeadOrTail g place → ⊥
not_there g r place lies write from to there =
    let l = write_lies (area_of g r.minor) r.kind r.position r.count lies write in
    elim there [ inl head ↦ omega (arith, l.0, from, head) | inr tail ↦ omega (arith, l.1, to, tail) ]

-- no answer changes such a place
none_settles : (g : Geometry) (marks : List Mark) (a : BlockReply) (place : ℕ) → WritesInside g marks → IsHeadOrTail g place
    → settles (asked_by a marks) (moved_by a marks) place ≡ false
none_settles g marks a place inside there = is_false _ (λ h. at (asked_by a marks) refl (moved_by a marks) refl h) where
  at : (o : Option BlockRequest) → asked_by a marks ≡ o → (m : Option ℕ) → moved_by a marks ≡ m → settles o m place ≡ true → ⊥
  at None is m good h = false_not_true h
  at (Some r) is None good h = false_not_true h
  at (Some r) is (Some n) good h =
      let both = and_parts (is_write r.kind && nat_le r.position place) (nat_lt place (r.position + n)) h in
      let parts = and_parts (is_write r.kind) (nat_le r.position place) both.0 in
      let few : n ≤ r.count = (moved_le r.count n a.outcome (ap (λ (x : Option BlockRequest). moved_of x a) (sym is) ∙ good)).0 in
      let from : r.position ≤ place = grind (arith, nat_tests) in
      let to : place < r.position + n = grind (arith, nat_tests) in
      not_there g r place (lies_by_id g a.id (open_requests marks) r (open_lie g marks inside) is) parts.0 from (omega (arith, few, to)) there

-- and no write to it is pending
none_covers : (g : Geometry) (r : BlockRequest) (place : ℕ) → LiesIn (area_of g r.minor) r.kind r.position r.count → IsHeadOrTail g place
    → (is_write r.kind && covers r place) ≡ false
none_covers g r place lies there = is_false _ (λ h.
    let both = and_parts (is_write r.kind) (covers r place) h in
    let bounds = covers_bounds r place both.1 in
    not_there g r place lies both.0 bounds.0 bounds.1 there)

pub head_and_tail_stay : HeadAndTailStay
head_and_tail_stay g image [] place inside there = record { same = refl; sure = refl }
head_and_tail_stay g image (Answered a ∷ marks) place inside there =
    let h = head_and_tail_stay g image marks place inside there in
    let none = none_settles g marks a place inside there in
    record {
      same = ap (λ (b : Bool). cond b (byte_for (asked_by a marks) place) (disk_after image marks place)) none ∙ h.same;
      sure = ap (λ (b : Bool). not b && unsure marks place) none ∙ h.sure;
    }
head_and_tail_stay g image (Issued r e ∷ marks) place inside there =
    let h = head_and_tail_stay g image marks place inside.1 there in
    record { same = h.same; sure = ap (λ (b : Bool). b || unsure marks place) (none_covers g r place inside.0 there) ∙ h.sure }
head_and_tail_stay g image (Started e ∷ marks) place inside there =
    let h = head_and_tail_stay g image marks place inside there in record { same = h.same; sure = h.sure }
head_and_tail_stay g image (Flush ∷ marks) place inside there =
    let h = head_and_tail_stay g image marks place inside there in record { same = h.same; sure = h.sure }
head_and_tail_stay g image (GaveUp ∷ marks) place inside there =
    let h = head_and_tail_stay g image marks place inside there in record { same = h.same; sure = h.sure }
head_and_tail_stay g image (Took who now call said ∷ marks) place inside there =
    let h = head_and_tail_stay g image marks place inside there in record { same = h.same; sure = h.sure }
head_and_tail_stay g image (Fault e cause ∷ marks) place inside there =
    let h = head_and_tail_stay g image marks place inside there in record { same = h.same; sure = h.sure }
