-- Blocks that may be changed.
use Rattle.std.proofs.Common.{◌≡◌, ℕ, zero, suc, ◌+◌, ◌*◌, ◌<◌, ◌≤◌, List, true, false, refl, sym, ap, subst, ◌∙◌, arith, Bool, Option, Some, None}
use mathlib.Core.Logic.{inl, inr}
use Rattle.std.specs.Prelude.{if◌then◌else◌}
use Rattle.std.proofs.Math.Nat.{mul-le-mul_right, suc-mul}
use Rattle.layout.specs.declared.Geometry.{Geometry}
use Rattle.message.specs.declared.Incoming.{Incoming}
use Rattle.message.specs.declared.Kind.{Kind}
use Rattle.message.specs.declared.Kind.TheVariants as kind
use Rattle.records.specs.Area.{Area, LiesIn, area_of}
use Rattle.reissue.specs.declared.ask.Ask.{Ask}
use Rattle.reissue.specs.Moves.{DiskState, put}
use Rattle.reissue.specs.Settlements.{Settlement}
use Rattle.reissue.specs.Settlements as settled
use Rattle.reissue.specs.Calls.{AsksIn}
use Rattle.reissue.proofs.Maps.{put_cases}
use Rattle.cache.specs.declared.slot.Slot.{Slot}
use Rattle.cache.specs.declared.state.State.{State}
use Rattle.cache.specs.declared.state.State.TheVariants.{Clean, Dirty, Writing, Changed}
use Rattle.cache.specs.Slots.{held, written, is_clean, is_under}
use Rattle.cache.specs.Edits.{AreBegun, held_after_write, after_write}
use Rattle.cache.specs.Settling.{Settles}
use Rattle.cache.specs.Frames.{IsWritable, AllInside}
use Rattle.cache.specs.Calls.{AbstractCache, IsMade, AreWritable, Runs}
use Rattle.cache.proofs.Tied.{within_or, place_past}

-- each block of a volume behind the first two
pub writable_of : (g : Geometry) (minor block : ℕ) → 2 ≤ block → block < g.zones → IsWritable (area_of g minor) g.block_size block
writable_of g minor block from to =
    let low : 2 * g.block_size ≤ block * g.block_size = mul-le-mul_right g.block_size from in
    let high : suc block * g.block_size ≤ g.zones * g.block_size = mul-le-mul_right g.block_size to in
    let one : suc block * g.block_size ≡ block * g.block_size + g.block_size = suc-mul block g.block_size in
    (low, omega (arith, high, one))

-- the same area and the same size
pub writable_still : (area area' : Area) (size size' block : ℕ) → area' ≡ area → size' ≡ size → IsWritable area size block
    → IsWritable area' size' block
writable_still area area' size size' block same whole h =
    subst (λ (r : Area). IsWritable r size' block) (sym same) (subst (λ (n : ℕ). IsWritable area n block) (sym whole) h)

-- so it is of a cache just made
pub writable_made : (g : Geometry) (minor : ℕ) (c : AbstractCache) → IsMade (area_of g minor) g.block_size c → AreWritable g.zones c
writable_made g minor c made = λ block from to.
    writable_still (area_of g minor) c.area g.block_size c.size block made.area_is made.size_is (writable_of g minor block from to)

-- and after a call
pub writable_runs : (m : Option Incoming) (count : ℕ) (old new : AbstractCache) (R : DiskState → DiskState → Type 0) → Runs m old new R
    → AreWritable count old → AreWritable count new
writable_runs m count old new R x inside = λ block from to.
    writable_still old.area new.area old.size new.size block x.area x.size (inside block from to)

-- ---- slots

-- so it is of all slots
pub inside_still : (area area' : Area) (size size' : ℕ) (h h' : ℕ → Option Slot) → area' ≡ area → size' ≡ size → h' ≡ h
    → AllInside area size h → AllInside area' size' h'
inside_still area area' size size' h h' same whole slots inside = λ b s is unclean.
    writable_still area area' size size' b same whole (inside b s (ap (λ (f : ℕ → Option Slot). f b) (sym slots) ∙ is) unclean)

-- one slot is put in or taken out
pub inside_put : (area : Area) (size : ℕ) (h : ℕ → Option Slot) (b : ℕ) (o : Option Slot)
    → ((s : Slot) → o ≡ Some s → is_clean s.state ≡ false → IsWritable area size b) → AllInside area size h → AllInside area size (put h b o)
inside_put area size h b o one inside = λ c s is unclean. elim (put_cases h b o c) [
  | inl p ↦ subst (λ (n : ℕ). IsWritable area size n) (sym p.0) (one s (sym p.1 ∙ is) unclean)
  | inr p ↦ inside c s (sym p.1 ∙ is) unclean
]

-- what is clean doesn't become unclean by an answer
was_unclean : (t : ℕ) (s : Slot) → is_clean (after_write t s).state ≡ false → is_clean s.state ≡ false
was_unclean t s = by (is_under t s)
  where
    before : (x : State) → is_clean (written x) ≡ false → is_clean x ≡ false
    before Clean e = e
    before Dirty e = refl
    before (Writing u) e = refl
    before (Changed u) e = refl

    by : (b : Bool) → is_clean (if b then record s { state = written s.state } else s).state ≡ false → is_clean s.state ≡ false
    by true e = before s.state e
    by false e = e

-- a message settles something
pub inside_settled : (area : Area) (size : ℕ) (res : Settlement) (old new : List Slot) → Settles res old new
    → AllInside area size (held old) → AllInside area size (held new)
inside_settled area size (settled.Written t) old new w inside = λ b s is unclean. by b s (held old b) refl (sym (w.slots b) ∙ is) unclean
  where
    by : (b : ℕ) (s : Slot) (o : Option Slot) → held old b ≡ o → held_after_write t (held old b) ≡ Some s → is_clean s.state ≡ false
        → IsWritable area size b
    by b s None e is unclean = absurd (let z : None ≡ Some s = sym (ap (held_after_write t) e) ∙ is in cc)
    by b s (Some u) e is unclean =
        let same : Some (after_write t u) ≡ Some s = sym (ap (held_after_write t) e) ∙ is in
        let one : after_write t u ≡ s = cc in
        inside b u e (was_unclean t u (ap (λ (x : Slot). is_clean x.state) one ∙ unclean))
inside_settled area size (settled.Read t bytes) old new h inside = subst (λ (l : List Slot). AllInside area size (held l)) (sym h) inside
inside_settled area size settled.Nothing old new h inside = subst (λ (l : List Slot). AllInside area size (held l)) (sym h) inside
inside_settled area size settled.Flush old new h inside = subst (λ (l : List Slot). AllInside area size (held l)) (sym h) inside
inside_settled area size settled.GaveUp old new h inside = subst (λ (l : List Slot). AllInside area size (held l)) (sym h) inside
inside_settled area size settled.End old new h inside = subst (λ (l : List Slot). AllInside area size (held l)) (sym h) inside

-- the writes of a run are begun
pub inside_begun : (area : Area) (size : ℕ) (old new : ℕ → Option Slot) (b count n : ℕ) → AreBegun b count n old new
    → AllInside area size old → AllInside area size new
inside_begun area size old new b count n begun inside = λ c s is unclean. elim (within_or b count c) [
  | inl w ↦ let x = begun.each w.index w.below in inside c x.slot (ap old w.is ∙ x.is) (ap is_clean x.dirty)
  | inr out ↦ inside c s (sym (begun.others c out) ∙ is) unclean
]

-- ---- requests

-- such a run lies in the area
pub run_inside : (area : Area) (size : ℕ) (old new : ℕ → Option Slot) (b count n : ℕ) → 0 < count → AreBegun b count n old new
    → AllInside area size old → (area.from ≤ b * size) × (b * size + count * size ≤ area.to)
run_inside area size old new b zero n some begun inside = absurd (omega (arith, some))
run_inside area size old new b (suc k) n some begun inside =
    let x = begun.each 0 some in
    let y = begun.each k (omega arith) in
    let first = (inside (b + 0) x.slot x.is (ap is_clean x.dirty)).0 in
    let last = (inside (b + k) y.slot y.is (ap is_clean y.dirty)).1 in
    let here : (b + 0) * size ≡ b * size = ap (λ m. m * size) (let e : b + 0 ≡ b = omega arith in e) in
    let there : (b + k) * size ≡ b * size + k * size = place_past b k size in
    let all : suc k * size ≡ k * size + size = suc-mul k size in
    (omega (arith, first, here), omega (arith, last, there, all))

-- a write of these bytes is asked for
pub asks_write : (area : Area) (ask : Ask) (at many : ℕ) → ask.kind ≡ kind.Write → ask.minor ≡ area.minor → ask.position ≡ at → ask.count ≡ many
    → (area.from ≤ at) × (at + many ≤ area.to) → AsksIn area ask
asks_write area ask at many write minor position count lies = (
  minor,
  subst (λ (k : Kind). LiesIn area k ask.position ask.count) (sym write)
      (subst (λ (p : ℕ). LiesIn area kind.Write p ask.count) (sym position) (subst (λ (c : ℕ). LiesIn area kind.Write at c) (sym count) lies)),
)

-- a read
pub asks_read : (area : Area) (ask : Ask) → ask.kind ≡ kind.Read → ask.minor ≡ area.minor → AsksIn area ask
asks_read area ask read minor = (minor, subst (λ (k : Kind). LiesIn area k ask.position ask.count) (sym read) tt)
