-- What a request that is begun does, as a call.
use Rattle.std.proofs.Common.{◌≡◌, ℕ, ◌+◌, ◌-◌, ◌*◌, ◌/◌, ◌%◌, ◌<◌, ◌≤◌, List, [], ◌∷◌, length, set, refl, sym, ap, subst, ◌∙◌, arith, true, false, Option, Some, None, Result, Ok, Err, IsErr, Bool}
use Rattle.std.proofs.lemmas.List.{length-append}
use mathlib.Core.Logic.{inl, inr}
use Rattle.std.specs.Prelude.{◌||◌, ◌↔◌, IsTrue, IsErrOf, nat_lt, slice_get, slice_index}
use Rattle.std.specs.List.{list_any}
use Rattle.std.proofs.lemmas.Bool.{cases_lt, lt-ltb}
use Rattle.std.proofs.lemmas.Bool.Decides.{nat_tests}
use Rattle.std.proofs.Math.Nat.{mul-le-mul_right, add-mul, mul_comm, div-add-mod, mod-lt}
use Rattle.lemmas.proofs.Bools.{and_left, and_right}
use Rattle.message.specs.declared.Kind.{Kind}
use Rattle.message.specs.declared.Kind.TheVariants as kind
use Rattle.records.specs.Area.{Area}
use Rattle.reissue.specs.declared.ask.Ask.{Ask}
use Rattle.reissue.specs.declared.ask.BeginRefusal.{BeginRefusal}
use Rattle.reissue.specs.declared.ask.BeginRefusal.TheVariants.{TableFull, BlockPending}
use Rattle.reissue.specs.declared.pending.Pending.{Pending}
use Rattle.reissue.specs.Moves.{Begun, put, Opens, IsBusy, begun_by, written_by}
use Rattle.reissue.specs.Entries.{pending_of, meets, AllIn}
use Rattle.reissue.specs.Posts.{HasRoom}
use Rattle.reissue.specs.Calls.{AsksIn, Begins, Adds}
use Rattle.reissue.proofs.Maps.{put-same}
use Rattle.cache.specs.declared.slot.Slot.{Slot}
use Rattle.cache.specs.declared.state.State.TheVariants.{Dirty, Writing}
use Rattle.cache.specs.Slots.{held, ticket_of, IsDistinct}
use Rattle.cache.specs.Edits.{IsSetAt, AreBegun, AreDirty}
use Rattle.cache.specs.Frames.{Tied, AllInside, CacheAgrees, view}
use Rattle.cache.specs.Runs.{AreGathered}
use Rattle.cache.specs.Calls.{AbstractCache, IsReady, IsRefusing, Serves, Keeps}
use Rattle.cache.specs.Takes.{IsReadAt}
use Rattle.cache.proofs.Held.{held_at, held_set}
use Rattle.cache.proofs.Tied.{tied_run, tied_read}
use Rattle.cache.proofs.Inside.{asks_read, asks_write, inside_begun, inside_still, run_inside}
use Rattle.cache.proofs.Agreeing.{agrees_moved, view_moved, agrees_begun, view_begun}
use Rattle.cache.proofs.Begun.{begun_one, dirty_held}
use Rattle.cache.proofs.Overtaking.{overtakes_begun, overtakes_same}
use Rattle.cache.proofs.Edits.{one_slot}
use Rattle.cache.proofs.Runs.{begin_runs}

-- a slot with a write under way has a pending request
pub busy_under : (size : ℕ) (items : List Slot) (pending : ℕ → Option Begun) (at b t : ℕ) (s : Slot) → IsDistinct items → slice_get items at ≡ Some s
    → s.block ≡ Some b → ticket_of s.state ≡ Some t → Tied size (held items) pending → IsBusy pending
busy_under size items pending at b t s d is block ticket k =
    let x = k.issued b t s (held_at items at b s d is block) ticket in
    record { ticket = t; request = x.request; is = x.is }

-- one more is pending
pub longer : (ask : Ask) (old new : AbstractCache) → Adds ask old.table new.table old.told new.told → length new.table.pending ≡ length old.table.pending + 1
longer ask old new x = ap (λ (l : List Pending). length l) x.pending ∙ length-append old.table.pending (x.entry ∷ [])

-- and one more id was given
pub ids_added : (ask : Ask) (old new : AbstractCache) → Adds ask old.table new.table old.told new.told
    → new.table.ids + length old.table.pending ≡ old.table.ids + length new.table.pending
ids_added ask old new x = let l = longer ask old new x in omega (arith, l, x.ids)

-- a block of a run that this request meets
record Met (p : Pending) (size b count : ℕ) : Type 0 where
  index : ℕ
  below : index < count
  is : meets ((b + index) * size) size p ≡ true

-- a request that meets a run meets one of its blocks
meets_block : (p : Pending) (size b count : ℕ) → 0 < size → 0 < count → meets (b * size) (count * size) p ≡ true → Met p size b count
meets_block p size b count some more h = elim (cases_lt p.start (b * size)) [
  | inl lower ↦ record {
    index = 0;
    below = more;
    is =
        let here : (b + 0) * size ≡ b * size = ap (λ n. n * size) (let e : b + 0 ≡ b = omega arith in e) in
        let f = lt-ltb ((b + 0) * size) (p.start + p.size) (omega (arith, here, first)) in
        let g = lt-ltb p.start ((b + 0) * size + size) (omega (arith, here, lower)) in
        rw (f, g) refl;
  }
  | inr le ↦
      let far = p.start - b * size in
      let q = far / size in
      let rest = mod-lt far some in
      let split : q * size + far % size ≡ far = ap (λ n. n + far % size) (mul_comm q size) ∙ div-add-mod far size in
      let place : (b + q) * size ≡ b * size + q * size = add-mul b q size in
      record {
        index = q;
        below = elim (cases_lt q count) [
          | inl lt ↦ lt
          | inr past ↦
              let over : count * size ≤ q * size = mul-le-mul_right size past in
              absurd (omega (arith, over, split, last, le))
        ];
        is =
            let f = lt-ltb ((b + q) * size) (p.start + p.size) (omega (arith, place, split, le, p.some)) in
            let g = lt-ltb p.start ((b + q) * size + size) (omega (arith, place, split, le, rest)) in
            rw (f, g) refl;
      }
]
  where
    first : b * size < p.start + p.size
    first = let e : nat_lt (b * size) (p.start + p.size) ≡ true = and_left (nat_lt (b * size) (p.start + p.size)) _ h in grind (arith, nat_tests)

    last : p.start < b * size + count * size
    last = let e : nat_lt p.start (b * size + count * size) ≡ true = and_right (nat_lt (b * size) (p.start + p.size)) _ h in grind (arith, nat_tests)

-- so it is where one of these does
record MetAny (ps : List Pending) (size b count : ℕ) : Type 0 where
  index : ℕ
  below : index < count
  is : list_any (meets ((b + index) * size) size) ps ≡ true

meets_any : (ps : List Pending) (size b count : ℕ) → 0 < size → 0 < count → list_any (meets (b * size) (count * size)) ps ≡ true → MetAny ps size b count
meets_any [] size b count some more h = cc
meets_any (p ∷ ps) size b count some more h = by (meets (b * size) (count * size) p) refl (λ k. meets_any ps size b count some more k)
  where
    first : (x : Bool) (y : Bool) → x ≡ true → (x || y) ≡ true
    first x y e = rw e refl

    second : (x : Bool) (y : Bool) → y ≡ true → (x || y) ≡ true
    second true y e = refl
    second false y e = e

    by : (v : Bool) → meets (b * size) (count * size) p ≡ v → (list_any (meets (b * size) (count * size)) ps ≡ true → MetAny ps size b count)
        → MetAny (p ∷ ps) size b count
    by true e later =
        let x = meets_block p size b count some more e in
        record { index = x.index; below = x.below; is = first (meets ((b + x.index) * size) size p) (list_any (meets ((b + x.index) * size) size) ps) x.is }
    by false e later =
        let rest : list_any (meets (b * size) (count * size)) ps ≡ true = ap (λ (v : Bool). v || list_any (meets (b * size) (count * size)) ps) (sym e) ∙ h in
        let x = later rest in
        record { index = x.index; below = x.below; is = second (meets ((b + x.index) * size) size p) (list_any (meets ((b + x.index) * size) size) ps) x.is }

-- where the write of dirty blocks is refused
pub refusing : (c : AbstractCache) (r : Result ℕ BeginRefusal) (position size b count : ℕ)
    → IsErr r → (IsErrOf r TableFull ↔ (length c.table.pending ≡ 16))
    → (IsErrOf r BlockPending ↔ ((length c.table.pending < 16) × IsTrue (list_any (meets position size) c.table.pending)))
    → position ≡ b * c.size → size ≡ count * c.size → 0 < c.size → 0 < count → AreDirty c.held b count → IsRefusing c
refusing c (Ok t) position size b count h full same at whole some more dirty = cc
refusing c (Err TableFull) position size b count h full same at whole some more dirty = inl (full.0 refl)
refusing c (Err BlockPending) position size b count h full same at whole some more dirty =
    let of : ℕ → ℕ → Type 0 = λ p n. IsTrue (list_any (meets p n) c.table.pending) in
    let there : of (b * c.size) (count * c.size) =
    subst (λ (n : ℕ). of (b * c.size) n) whole (subst (λ (p : ℕ). of p size) at (same.0 refl).1) in
    let x = meets_any c.table.pending c.size b count some more there in
    let d = dirty_held (c.held (b + x.index)) (dirty x.index x.below) in
    inr (b + x.index, d.0, d.1, d.2, x.is)

-- a cache over whose requests one more was begun is ready
ready_begun : (ask : Ask) (old new : AbstractCache) → Begins ask old.table new.table old.told new.told old.truth new.truth
    → Adds ask old.table new.table old.told new.told → IsReady old → AsksIn old.area ask → new.area ≡ old.area → new.ended ≡ old.ended
    → new.budget ≤ old.budget → HasRoom new.table new.room
    → Tied new.size new.held (pending_of new.table.pending) → AllInside new.area new.size new.held → IsReady new
ready_begun ask old new x adds ready asks same ended budget room tied inside = record {
  minors = subst (λ (r : Area). AllIn r new.table.pending) (sym same) (x.minors old.area asks ready.minors);
  tied = tied;
  inside = inside;
  room = λ e. room;
  ids = λ e. let was = ready.ids (sym ended ∙ e) in let more = ids_added ask old new adds in omega (arith, was, more, budget);
}

-- some request is pending after one was begun
pub busy_begun : (t : ℕ) (r : Begun) (pending pending' : ℕ → Option Begun) → pending' ≡ put pending t (Some r) → IsBusy pending'
busy_begun t r pending pending' e = record { ticket = t; request = r; is = ap (λ (f : ℕ → Option Begun). f t) e ∙ put-same pending t (Some r) }

-- the writes of a run of dirty slots are begun
pub write_many : (ask : Ask) (old new : AbstractCache) (b count n : ℕ)
    → 0 < count → AreBegun b count n old.held new.held → AreGathered old.held b count old.size ask.bytes.now
    → Begins ask old.table new.table old.told new.told old.truth new.truth → Adds ask old.table new.table old.told new.told
    → Opens (Ok n) (begun_by ask) (pending_of old.table.pending) (pending_of new.table.pending)
    → ask.kind ≡ kind.Write → ask.minor ≡ old.area.minor → ask.position ≡ b * old.size → ask.count ≡ count * old.size
    → IsReady old → new.area ≡ old.area → new.size ≡ old.size → new.ended ≡ old.ended → new.budget ≤ old.budget → HasRoom new.table new.room
    → Keeps old new
write_many ask old new b count n some begun from x adds opens write minor position many ready same size ended budget room =
    begin_runs ask old new (λ w v. Serves old new w v) x (ready_begun ask old new x adds ready asks same ended budget room tied' inside)
    ready.minors asks same size ended budget (ids_added ask old new adds) (λ w v sp. record {
      agrees = λ a. subst (λ (k : ℕ). CacheAgrees k new.held v) (sym size)
          (agrees_moved old.size new.held (pending_of new.table.pending) w v sp tied (agrees_begun old.size old.held new.held w b count n begun a));
      same = λ a. ap (λ (k : ℕ). view k new.held v) size
          ∙ view_moved old.size new.held (pending_of new.table.pending) w v sp tied
          ∙ view_begun old.size old.held new.held w b count n begun;
      none_overtaken = overtakes_begun old.held new.held b count n begun;
    })
  where
    asks : AsksIn old.area ask
    asks = asks_write old.area ask (b * old.size) (count * old.size) write minor position many
        (run_inside old.area old.size old.held new.held b count n some begun ready.inside)

    inside : AllInside new.area new.size new.held
    inside = inside_still old.area new.area old.size new.size new.held new.held same size refl
        (inside_begun old.area old.size old.held new.held b count n begun ready.inside)

    wr : written_by ask.kind ask.bytes.now ≡ Some ask.bytes.now
    wr = ap (λ (y : Kind). written_by y ask.bytes.now) write

    tied : Tied old.size new.held (pending_of new.table.pending)
    tied = subst (λ (o : ℕ → Option Begun). Tied old.size new.held o) (sym opens.1)
        (tied_run old.size old.held new.held (pending_of old.table.pending) b count n (begun_by ask) ask.bytes.now some begun from opens.0 position many wr ready.tied)

    tied' : Tied new.size new.held (pending_of new.table.pending)
    tied' = subst (λ (k : ℕ). Tied k new.held (pending_of new.table.pending)) (sym size) tied

-- the write of a dirty slot is begun
pub write_one : (ask : Ask) (old new : AbstractCache) (items items' : List Slot) (b n at : ℕ) (s : Slot)
    → IsDistinct items → slice_get items at ≡ Some s → s.block ≡ Some b → s.state ≡ Dirty
    → IsSetAt items items' at (λ t. record t { state = Writing n }) → old.held ≡ held items → new.held ≡ held items'
    → Begins ask old.table new.table old.told new.told old.truth new.truth → Adds ask old.table new.table old.told new.told
    → Opens (Ok n) (begun_by ask) (pending_of old.table.pending) (pending_of new.table.pending)
    → ask.kind ≡ kind.Write → ask.minor ≡ old.area.minor → ask.position ≡ b * old.size → ask.count ≡ old.size → ask.bytes.now ≡ s.bytes.value
    → IsReady old → new.area ≡ old.area → new.size ≡ old.size → new.ended ≡ old.ended → new.budget ≤ old.budget → HasRoom new.table new.room
    → Keeps old new
write_one ask old new items items' b n at s d is block st e here there x adds opens write minor position count bytes ready same size ended budget room =
    write_many ask old new b 1 n (omega arith) begun from x adds opens write minor position (count ∙ one_is old.size) ready same size ended budget room
  where
    one_is : (k : ℕ) → k ≡ 1 * k
    one_is k = omega arith

    one : e.slot ≡ s
    one = one_slot items at e.slot s e.is is

    t : Slot
    t = record s { state = Writing n }

    set_is : items' ≡ set items at t
    set_is = e.all ∙ ap (λ (y : Slot). set items at (record y { state = Writing n })) one

    slot : old.held b ≡ Some s
    slot = ap (λ (h : ℕ → Option Slot). h b) here ∙ held_at items at b s d is block

    all : new.held ≡ put old.held b (Some t)
    all = there ∙ ap held set_is ∙ held_set items at b s t d is block refl ∙ ap (λ (h : ℕ → Option Slot). put h b (Some t)) (sym here)

    begun : AreBegun b 1 n old.held new.held
    begun = subst (λ (h : ℕ → Option Slot). AreBegun b 1 n old.held h) (sym all) (begun_one old.held b n s slot st)

    from : AreGathered old.held b 1 old.size ask.bytes.now
    from = record {
      each = λ i o u lt lo is'.
          let at_b : b + i ≡ b = omega (arith, lt) in
          let none : i * old.size + o ≡ o = ap (λ k. k * old.size + o) (let z : i ≡ 0 = omega (arith, lt) in z) ∙ (let y : 0 * old.size + o ≡ o = omega arith in y) in
          let same_one : Some s ≡ Some u = sym slot ∙ ap old.held (sym at_b) ∙ is' in
          let it : s ≡ u = cc in
          ap (slice_index ask.bytes.now) none ∙ ap (λ (l : List ℕ). slice_index l o) bytes ∙ ap (λ (y : Slot). slice_index y.bytes.value o) it;
    }

-- the read of a block is begun
pub read_one : (ask : Ask) (old new : AbstractCache) (b n : ℕ)
    → new.held ≡ old.held
    → Begins ask old.table new.table old.told new.told old.truth new.truth → Adds ask old.table new.table old.told new.told
    → Opens (Ok n) (begun_by ask) (pending_of old.table.pending) (pending_of new.table.pending)
    → ask.kind ≡ kind.Read → ask.minor ≡ old.area.minor → ask.position ≡ b * old.size → ask.count ≡ old.size
    → IsReady old → new.area ≡ old.area → new.size ≡ old.size → new.ended ≡ old.ended → new.budget ≤ old.budget → HasRoom new.table new.room
    → Keeps old new
read_one ask old new b n all x adds opens read minor position count ready same size ended budget room =
    begin_runs ask old new (λ w v. Serves old new w v) x (ready_begun ask old new x adds ready asks same ended budget room tied' inside)
    ready.minors asks same size ended budget (ids_added ask old new adds) (λ w v sp. record {
      agrees = λ a. subst (λ (k : ℕ). CacheAgrees k new.held v) (sym size)
          (agrees_moved old.size new.held (pending_of new.table.pending) w v sp tied (subst (λ (h : ℕ → Option Slot). CacheAgrees old.size h w) (sym all) a));
      same = λ a. ap (λ (k : ℕ). view k new.held v) size
          ∙ view_moved old.size new.held (pending_of new.table.pending) w v sp tied
          ∙ ap (λ (h : ℕ → Option Slot). view old.size h w) all;
      none_overtaken = overtakes_same old.held new.held all;
    })
  where
    asks : AsksIn old.area ask
    asks = asks_read old.area ask read minor

    inside : AllInside new.area new.size new.held
    inside = inside_still old.area new.area old.size new.size old.held new.held same size all ready.inside

    none : written_by ask.kind ask.bytes.now ≡ None
    none = ap (λ (y : Kind). written_by y ask.bytes.now) read

    tied : Tied old.size new.held (pending_of new.table.pending)
    tied = subst (λ (h : ℕ → Option Slot). Tied old.size h (pending_of new.table.pending)) (sym all)
        (subst (λ (o : ℕ → Option Begun). Tied old.size old.held o) (sym opens.1)
        (tied_read old.size old.held (pending_of old.table.pending) n (begun_by ask) opens.0 none ready.tied))

    tied' : Tied new.size new.held (pending_of new.table.pending)
    tied' = subst (λ (k : ℕ). Tied k new.held (pending_of new.table.pending)) (sym size) tied

-- it is pending then
pub read_is_at : (n start size : ℕ) (pending pending' : ℕ → Option Begun) (ask : Ask)
    → Opens (Ok n) (begun_by ask) pending pending' → ask.kind ≡ kind.Read → ask.position ≡ start → ask.count ≡ size → IsReadAt pending' n start size
read_is_at n start size pending pending' ask opens read position count = record {
  request = begun_by ask;
  is = ap (λ (f : ℕ → Option Begun). f n) opens.1 ∙ put-same pending n (Some (begun_by ask));
  read = ap (λ (y : Kind). written_by y ask.bytes.now) read;
  start_is = position;
  size_is = count;
}
