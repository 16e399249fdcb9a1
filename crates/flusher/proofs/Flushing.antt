-- Flushes and syncs.
use Rattle.std.proofs.Common.{◌≡◌, ◌≢◌, ℕ, zero, suc, ◌+◌, ◌*◌, ◌/◌, ◌%◌, ◌<◌, ◌≤◌, List, [], ◌∷◌, ◌++◌, append_assoc, refl, sym, ap, subst, ◌∙◌, arith, true, false, Option, Some, None, Result, Ok, Err, IsErr}
use Rattle.std.proofs.Math.Nat.{div-add-mod, mod-lt, mul_comm, mul-le-mul_left}
use mathlib.Core.Logic.{inl, inr}
use Rattle.std.specs.Prelude.{◌-◌, sum}
use Rattle.std.proofs.lemmas.Bool.{cases_eq, cases_lt}
use Rattle.std.proofs.lemmas.List.Sums.{sum_by-cons}
use Rattle.message.specs.declared.BlockRequest.{BlockRequest}
use Rattle.reissue.specs.Moves.{DiskState, put, IsBusy}
use Rattle.reissue.proofs.Maps.{put-same, put-other, put_cases}
use Rattle.reissue.specs.Entries.{pending_of}
use Rattle.cache.specs.declared.slot.Slot.{Slot}
use Rattle.cache.specs.declared.state.State.{State}
use Rattle.cache.specs.declared.state.State.TheVariants.{Clean, Dirty, Writing, Changed}
use Rattle.block_store.specs.declared.Cut.{Cut}
use Rattle.cache.specs.Slots.{ticket_of, is_clean, is_dirty, is_changed, is_changed_held}
use Rattle.cache.specs.Edits.{AllClean, SomeUnclean, IssuesLowest, IsBegun, IsOutside, AreBegun}
use Rattle.cache.specs.Runs.{IssuesRun, BeginsRun}
use Rattle.cache.specs.Looking.{IsSettled}
use Rattle.cache.specs.Frames.{CacheAgrees}
use Rattle.cache.specs.Calls.{AbstractCache, IsReady, IsStuck, PostsAlone, Runs, Keeps, Serves}
use Rattle.records.specs.Told.{Told, Posted, Complained, Received}
use Rattle.reissue.specs.Posts.{OnlyPosts}
use Rattle.cache.proofs.Tied.{way_ticket, no_ticket, within_or}
use Rattle.cache.proofs.Agreeing.{same_view, byte_or}
use Rattle.cache.proofs.Runs.{runs_as}
use Rattle.cache.proofs.Begun.{fits_in}
use Rattle.flusher.specs.Flushing.{WritesLowest, WritesJust, WritesRuns, IsSynced, Syncs}

-- where a frame isn't clean and no write can be begun, a request is pending
pub busy_unclean : (c : AbstractCache) → IsReady c → IsStuck c → SomeUnclean c.held → IsBusy (pending_of c.table.pending)
busy_unclean c ready stuck some = elim stuck.why [
  | inl none ↦ by some.slot.state refl (none some.block some.slot some.is)
  | inr busy ↦ busy.0
]
  where
    under : (t : ℕ) → ticket_of some.slot.state ≡ Some t → IsBusy (pending_of c.table.pending)
    under t e = let x = ready.tied.issued some.block t some.slot some.is e in record { ticket = t; request = x.request; is = x.is }

    by : (x : State) → some.slot.state ≡ x → is_dirty some.slot.state ≡ false → IsBusy (pending_of c.table.pending)
    by Clean e h = let z : is_clean some.slot.state ≡ true = ap is_clean e in let y = some.unclean in absurd (let q : ⊥ = cc in q)
    by Dirty e h = let z : is_dirty some.slot.state ≡ true = ap is_dirty e in absurd (let q : ⊥ = cc in q)
    by (Writing t) e h = under t (ap ticket_of e)
    by (Changed t) e h = under t (ap ticket_of e)

-- where each frame is clean no write is open
pub idle : (c : AbstractCache) → IsReady c → AllClean c.held → IsSettled c
idle c ready clean = record {
  clean = clean;
  no_write = λ t r bytes is wr.
      let x = ready.tied.writes t r bytes is wr in
      let y = x.each 0 x.some in
      no_ticket y.slot.state t (clean (x.block + 0) y.slot y.holds) (way_ticket c.size y.slot t (0 * c.size) bytes y.way);
}

-- and the disk is what would be read back
pub synced : (c : AbstractCache) (v : DiskState) → 0 < c.size → AllClean c.held → CacheAgrees c.size c.held v → IsSynced c v
synced c v some clean k = record {
  sure = λ place.
      let b = place / c.size in
      let o = place % c.size in
      let whole : place ≡ b * c.size + o = sym (ap (λ n. n + o) (mul_comm b c.size) ∙ div-add-mod place c.size) in
      ap v.unsure whole ∙ by_block b o (mod-lt place some) (c.held b) refl;
  on_disk = same_view c.size (λ b. None) c.held v v (λ b o lt. by_slot b o lt (c.held b) refl);
}
  where
    by_block : (b o : ℕ) → o < c.size → (x : Option Slot) → c.held b ≡ x → v.unsure (b * c.size + o) ≡ false
    by_block b o lt None e = k.covered b e o lt
    by_block b o lt (Some s) e = (k.clean b s e (clean b s e) o lt).sure

    by_slot : (b o : ℕ) → o < c.size → (x : Option Slot) → c.held b ≡ x → byte_or (c.held b) o (v.disk (b * c.size + o)) ≡ v.disk (b * c.size + o)
    by_slot b o lt None e = rw e refl
    by_slot b o lt (Some s) e = rw e (k.clean b s e (clean b s e) o lt).byte_is

-- a sync that answered ok
pub syncs_ok : (old new : AbstractCache) → 0 < new.size → AllClean new.held → Keeps old new → Runs None old new (λ w v. Syncs (Ok tt) old new w v)
syncs_ok old new some clean x =
    runs_as None old new (λ w v. Serves old new w v) (λ w v. Syncs (Ok tt) old new w v)
    (λ w v p. record { serves = p; synced = λ k. synced new v some clean (p.agrees k) }) x

-- a sync that was cut
pub syncs_cut : (r : Result (Unit {0}) Cut) (old new : AbstractCache) → IsErr r → Keeps old new → Runs None old new (λ w v. Syncs r old new w v)
syncs_cut (Err cut) old new h x =
    runs_as None old new (λ w v. Serves old new w v) (λ w v. Syncs (Err cut) old new w v) (λ w v p. record { serves = p; synced = λ k. tt }) x
syncs_cut (Ok u) old new h x = cc

-- posts, and then posts
pub posts_then : (a b c : AbstractCache) → PostsAlone a b → PostsAlone b c → PostsAlone a c
posts_then a b c x y = record {
  posts = y.posts ++ x.posts;
  history = y.history ∙ ap (λ (l : List Told). y.posts ++ l) x.history ∙ sym (append_assoc y.posts x.posts a.told);
  only_posts = both y.posts x.posts y.only_posts x.only_posts;
}
  where
    both : (p q : List Told) → OnlyPosts p → OnlyPosts q → OnlyPosts (p ++ q)
    both [] q h k = k
    both (Posted to r accepted ∷ p) q h k = both p q h k
    both (Complained about ∷ p) q h k = absurd h
    both (Received message ∷ p) q h k = absurd h

-- nothing was told
pub posts_none : (c : AbstractCache) → PostsAlone c c
posts_none c = record { posts = []; history = refl; only_posts = tt }

-- ---- runs

-- the writes of a run are those of the lowest blocks, one after the other
pub run_chain : (n b t : ℕ) (old new : ℕ → Option Slot) → AreBegun b n t old new
    → ((c : ℕ) (s : Slot) → old c ≡ Some s → s.state ≡ Dirty → b ≤ c) → WritesJust n old new
run_chain zero b t old new begun lowest = λ i c. begun.others c (all c) i
  where
    all : (c : ℕ) → IsOutside b zero c
    all c = elim (cases_lt c b) [
      | inl lt ↦ inl lt
      | inr le ↦ inr (omega (arith, le))
    ]
run_chain (suc n) b t old new begun lowest = (mid, first, run_chain n (b + 1) t mid new rest above)
  where
    x : IsBegun t (old (b + 0)) (new (b + 0))
    x = begun.each 0 (omega arith)

    at : b + 0 ≡ b
    at = omega arith

    after : Slot
    after = record x.slot { state = Writing t }

    mid : ℕ → Option Slot
    mid = put old b (Some after)

    first : IssuesLowest old mid
    first = record { slot = x.slot; block = b; ticket = t; is = sym (ap old at) ∙ x.is; dirty = x.dirty; lowest = lowest; all = refl }

    other : (c : ℕ) → c ≢ b → mid c ≡ old c
    other c ne = put-other old b (Some after) c ne

    rest : AreBegun (b + 1) n t mid new
    rest = record {
      each = λ i lt.
          let y = begun.each (suc i) (omega (arith, lt)) in
          let here : b + suc i ≡ b + 1 + i = omega arith in
          let ne : b + 1 + i ≢ b = λ e. absurd (omega (arith, e)) in
          record {
            slot = y.slot;
            is = other (b + 1 + i) ne ∙ ap old (sym here) ∙ y.is;
            dirty = y.dirty;
            after = ap new (sym here) ∙ y.after;
          };
      others = λ c out. elim (cases_eq c b) [
        | inl same ↦ ap new (same ∙ sym at) ∙ x.after ∙ sym (ap mid same ∙ put-same old b (Some after))
        | inr ne ↦ begun.others c (outside c ne out) ∙ sym (other c ne)
      ];
    }
      where
        outside : (c : ℕ) → c ≢ b → IsOutside (b + 1) n c → IsOutside b (suc n) c
        outside c ne (inl lower) = inl (elim (cases_lt c b) [
          | inl lt ↦ lt
          | inr le ↦ absurd (ne (omega (arith, lower, le)))
        ])
        outside c ne (inr past) = inr (omega (arith, past))

    above : (c : ℕ) (s : Slot) → mid c ≡ Some s → s.state ≡ Dirty → b + 1 ≤ c
    above c s is dirty = elim (put_cases old b (Some after) c) [
      | inl p ↦
          let z : Some after ≡ Some s = sym p.1 ∙ is in
          let same : after ≡ s = cc in
          absurd (let y : Writing t ≡ Dirty = ap (λ (v : Slot). v.state) same ∙ dirty in cc)
      | inr p ↦
          let le = lowest c s (sym p.1 ∙ is) dirty in
          elim (cases_lt b c) [
            | inl lt ↦ omega (arith, lt)
            | inr more ↦ absurd (p.0 (omega (arith, le, more)))
          ]
    ]

-- so many writes, and then so many
pub just_then : (k n : ℕ) (old mid new : ℕ → Option Slot) → WritesJust k old mid → WritesJust n mid new → WritesJust (k + n) old new
just_then zero n old mid new h x =
    let none : n ≡ zero + n = omega arith in
    subst (λ (m : ℕ). WritesJust m old new) none (subst (λ (f : ℕ → Option Slot). WritesJust n f new) h x)
just_then (suc k) n old mid new h x =
    let next : suc (k + n) ≡ suc k + n = omega arith in
    subst (λ (m : ℕ). WritesJust m old new) next (h.0, h.1, just_then k n h.0 mid new h.2 x)

-- they are so many at most
pub just_most : (k n : ℕ) (old new : ℕ → Option Slot) → k ≤ n → WritesJust k old new → WritesLowest n old new
just_most zero zero old new le h = h
just_most zero (suc n) old new le h = inl h
just_most (suc k) zero old new le h = absurd (omega (arith, le))
just_most (suc k) (suc n) old new le h = inr (h.0, h.1, just_most k n h.0 new (omega (arith, le)) h.2)

-- runs that were begun while so many more frames may be
pub record Flushing (most size left : ℕ) (old new : ℕ → Option Slot) (pending pending' : List BlockRequest) : Type 0 where
  pub counts : List ℕ
  pub runs : WritesRuns counts most size old new pending pending'
  pub left_is : sum counts + left ≡ most
  pub just : WritesJust (sum counts) old new

-- none yet
pub flushing_none : (most size : ℕ) (old : ℕ → Option Slot) (pending : List BlockRequest) → Flushing most size most old old pending pending
flushing_none most size old pending = record { counts = []; runs = (refl, refl); left_is = omega arith; just = refl }

-- one more
pub flushing_more : (most size left n : ℕ) (old mid new : ℕ → Option Slot) (pending between pending' : List BlockRequest)
    → Flushing most size left old mid pending between → n ≢ 0 → n ≤ left → BeginsRun left size n mid new between pending'
    → Flushing most size (left - n) old new pending pending'
flushing_more most size left zero old mid new pending between pending' h some le x = absurd (some refl)
flushing_more most size left (suc n) old mid new pending between pending' h some le x =
    let is = h.left_is in
    let total : sum (suc n ∷ h.counts) ≡ suc n + sum h.counts = sum_by-cons (λ k. k) (suc n) h.counts in
    let left_over : left ≡ most - sum h.counts = omega (arith, is) in
    record {
      counts = suc n ∷ h.counts;
      runs = (mid, between, h.runs, subst (λ (k : ℕ). IssuesRun k size (suc n) mid new between pending') left_over x);
      left_is = omega (arith, is, le, total);
      just =
          let both = just_then (sum h.counts) (suc n) old mid new h.just (run_chain (suc n) x.block x.run.ticket mid new x.run.begun x.lowest) in
          let order : sum h.counts + suc n ≡ sum (suc n ∷ h.counts) = omega (arith, total) in
          subst (λ (k : ℕ). WritesJust k old new) order both;
    }

-- where none is begun they stay
pub flushing_same : (most size left : ℕ) (old mid new : ℕ → Option Slot) (pending between pending' : List BlockRequest)
    → Flushing most size left old mid pending between → new ≡ mid → pending' ≡ between → Flushing most size left old new pending pending'
flushing_same most size left old mid new pending between pending' h same kept =
    subst (λ (f : ℕ → Option Slot). Flushing most size left old f pending pending') (sym same)
    (subst (λ (f : List BlockRequest). Flushing most size left old mid pending f) (sym kept) h)

-- a run that is begun, by the size of a block that stays
pub begins_of : (most n size size' : ℕ) (mid new : ℕ → Option Slot) (between pending' : List BlockRequest)
    → size' ≡ size → BeginsRun most size' n mid new between pending' → BeginsRun most size n mid new between pending'
begins_of most n size size' mid new between pending' same x = subst (λ (k : ℕ). BeginsRun most k n mid new between pending') same x

-- none is begun
pub begins_none : (most n size : ℕ) (mid new : ℕ → Option Slot) (between pending' : List BlockRequest)
    → n ≡ 0 → BeginsRun most size n mid new between pending' → (new ≡ mid) × (pending' ≡ between)
begins_none most n size mid new between pending' none x = subst (λ (k : ℕ). BeginsRun most size k mid new between pending') none x

-- a run is of dirty frames
pub run_dirty : (most n size : ℕ) (mid new : ℕ → Option Slot) (between pending' : List BlockRequest)
    → n ≢ 0 → BeginsRun most size n mid new between pending' → AllClean mid → ⊥
run_dirty most zero size mid new between pending' some x clean = some refl
run_dirty most (suc n) size mid new between pending' some x clean =
    let y = x.run.begun.each 0 (omega arith) in
    let e : Clean ≡ Dirty = sym (clean (x.block + 0) y.slot y.is) ∙ y.dirty in
    cc

-- a run has eight frames at most, since a block has a sector at least
pub run_few : (most n size : ℕ) (mid new : ℕ → Option Slot) (between pending' : List BlockRequest)
    → 512 ≤ size → BeginsRun most size n mid new between pending' → n ≤ 8
run_few most zero size mid new between pending' least x = omega arith
run_few most (suc n) size mid new between pending' least x =
    let few = x.few in
    let whole : suc n * size ≤ 4096 = fits_in (suc n) size (omega (arith, few)) in
    let sectors : suc n * 512 ≤ suc n * size = mul-le-mul_left (suc n) least in
    omega (arith, whole, sectors)

-- then they stay
pub flushing_end : (most size left : ℕ) (old mid new : ℕ → Option Slot) (pending between pending' : List BlockRequest)
    → Flushing most size left old mid pending between → (new ≡ mid) × (pending' ≡ between) → Flushing most size left old new pending pending'
flushing_end most size left old mid new pending between pending' h x = flushing_same most size left old mid new pending between pending' h x.0 x.1

-- those that were begun are so many at most
pub lowest_of : (most size left : ℕ) (old new : ℕ → Option Slot) (pending pending' : List BlockRequest)
    → Flushing most size left old new pending pending' → WritesLowest most old new
lowest_of most size left old new pending pending' h = let is = h.left_is in just_most (sum h.counts) most old new (omega (arith, is)) h.just

-- and just so many where no further one may be
pub all_of : (most size left : ℕ) (old new : ℕ → Option Slot) (pending pending' : List BlockRequest)
    → left ≤ 0 → Flushing most size left old new pending pending' → WritesJust most old new
all_of most size left old new pending pending' none h =
    let is = h.left_is in
    let whole : sum h.counts ≡ most = omega (arith, is, none) in
    subst (λ (k : ℕ). WritesJust k old new) whole h.just

-- ---- overtaken blocks

-- none is overtaken that wasn't, nor the other way round
run_overtakes : (most size n : ℕ) (old new : ℕ → Option Slot) (ps qs : List BlockRequest) → IssuesRun most size n old new ps qs
    → (b : ℕ) → is_changed_held (new b) ≡ is_changed_held (old b)
run_overtakes most size n old new ps qs x b = elim (within_or x.block n b) [
  | inl here ↦
      let y = x.run.begun.each here.index here.below in
      let was : is_changed_held (old b) ≡ false = ap (λ k. is_changed_held (old k)) here.is ∙ ap is_changed_held y.is ∙ ap is_changed y.dirty in
      ap (λ k. is_changed_held (new k)) here.is ∙ ap is_changed_held y.after ∙ sym was
  | inr out ↦ ap is_changed_held (x.run.begun.others b out)
]

pub flush_overtakes : (counts : List ℕ) (most size : ℕ) (old new : ℕ → Option Slot) (ps qs : List BlockRequest)
    → WritesRuns counts most size old new ps qs → (b : ℕ) → is_changed_held (new b) ≡ is_changed_held (old b)
flush_overtakes [] most size old new ps qs x b = ap (λ (f : ℕ → Option Slot). is_changed_held (f b)) x.0
flush_overtakes (n ∷ counts) most size old new ps qs x b =
    run_overtakes (most - sum counts) size n x.0 new x.1 qs x.3 b ∙ flush_overtakes counts most size old x.0 ps x.1 x.2 b
