-- Calls that find nothing to write.
use Rattle.std.proofs.Common.{◌≡◌, ℕ, zero, suc, ◌<◌, List, [], ◌∷◌, ◌++◌, append_assoc, length, Bool, true, false, refl, sym, ap, subst, ◌∙◌, arith, Option, Some, None, Ok}
use mathlib.Core.Logic.{inl, inr}
use Rattle.std.specs.Prelude.{not, slice_get, if◌then◌else◌}
use Rattle.records.specs.Told.{Told}
use Rattle.reissue.specs.declared.ask.Ask.{Ask}
use Rattle.message.specs.declared.Kind.TheVariants as kind
use Rattle.message.specs.declared.Incoming.{Incoming}
use Rattle.reissue.specs.Settlements.{Settlement}
use Rattle.reissue.specs.Settlements as settled
use Rattle.reissue.specs.Moves.{Opens, put, begun_by}
use Rattle.reissue.specs.Entries.{pending_of}
use Rattle.reissue.specs.Calls.{Steps, Absorbs, Adds}
use Rattle.reissue.proofs.Maps.{put_cases}
use Rattle.reissue.proofs.Reading.{NoWrite, TellsReads, both_read, tells_none, step_reads, absorb_reads, begin_reads, begin_none, closes_none}
use Rattle.cache.specs.declared.slot.Slot.{Slot}
use Rattle.cache.specs.declared.state.State.TheVariants.{Clean}
use Rattle.cache.specs.Slots.{held, written, is_clean, is_under, is_unclean_slot, IsDistinct}
use Rattle.cache.specs.Edits.{AllClean, IsSlotAt, IsFreeAt, IsSetAt, IsFilledAt, held_after_write, after_write}
use Rattle.cache.specs.Settling.{Settles}
use Rattle.cache.specs.Calls.{AbstractCache}
use Rattle.cache.specs.Looking.{LooksOn, Looks}
use Rattle.cache.proofs.Held.{held_at}
use Rattle.cache.proofs.Filling.{filled_held, vacated_held}
use Rattle.cache.proofs.Placing.{clean_passes}

-- nothing happened
pub looks_none : (a : AbstractCache) → Looks a a
looks_none a = λ s. record { settled = s; told = []; history = refl; reads = tt }

-- one after the other
pub looks_then : (a b c : AbstractCache) → Looks a b → Looks b c → Looks a c
looks_then a b c x y = λ s.
    let p = x s in
    let q = y p.settled in
    record {
      settled = q.settled;
      told = q.told ++ p.told;
      history = q.history ∙ ap (λ (l : List Told). q.told ++ l) p.history ∙ sym (append_assoc q.told p.told a.told);
      reads = both_read q.told p.told q.reads p.reads;
    }

-- where slots stay clean, no write becomes pending, and reads alone are asked for
pub looks_by : (a b : AbstractCache) → (AllClean a.held → AllClean b.held)
    → (NoWrite (pending_of a.table.pending) → NoWrite (pending_of b.table.pending))
    → (NoWrite (pending_of a.table.pending) → TellsReads a.told b.told) → Looks a b
looks_by a b clean none tells = λ s.
    let t = tells s.no_write in
    record { settled = record { clean = clean s.clean; no_write = none s.no_write }; told = t.told; history = t.history; reads = t.reads }

-- where slots alone are changed, and stay clean
pub looks_slots : (a b : AbstractCache) → b.table ≡ a.table → b.told ≡ a.told → (AllClean a.held → AllClean b.held) → Looks a b
looks_slots a b table told clean =
    looks_by a b clean (λ none. subst (λ t. NoWrite (pending_of t.pending)) (sym table) none) (λ none. tells_none a.told b.told told)

-- where all is clean nothing is changed
pub looks_same : (a b : AbstractCache) → (AllClean a.held → b ≡ a) → Looks a b
looks_same a b same = λ s. subst (λ (c : AbstractCache). LooksOn a c) (sym (same s.clean)) (looks_none a s)

-- ---- slots

-- a clean slot stays clean
after_clean : (t : ℕ) (s : Slot) → s.state ≡ Clean → (after_write t s).state ≡ Clean
after_clean t s e = by (is_under t s) where
  by : (b : Bool) → (if b then record s { state = written s.state } else s).state ≡ Clean
  by true = ap written e
  by false = e

-- whatever a message settles
pub settled_clean : (res : Settlement) (old new : List Slot) → Settles res old new → AllClean (held old) → AllClean (held new)
settled_clean (settled.Written t) old new h clean = λ b s is. by b s (held old b) refl (sym (h.slots b) ∙ is) where
  by : (b : ℕ) (s : Slot) (o : Option Slot) → held old b ≡ o → held_after_write t (held old b) ≡ Some s → s.state ≡ Clean
  by b s None e is = absurd (let z : None ≡ Some s = sym (ap (held_after_write t) e) ∙ is in cc)
  by b s (Some u) e is =
      let same : Some (after_write t u) ≡ Some s = sym (ap (held_after_write t) e) ∙ is in
      let one : after_write t u ≡ s = cc in
      sym (ap (λ (x : Slot). x.state) one) ∙ after_clean t u (clean b u e)
settled_clean (settled.Read t bytes) old new h clean = subst (λ (l : List Slot). AllClean (held l)) (sym h) clean
settled_clean settled.Nothing old new h clean = subst (λ (l : List Slot). AllClean (held l)) (sym h) clean
settled_clean settled.Flush old new h clean = subst (λ (l : List Slot). AllClean (held l)) (sym h) clean
settled_clean settled.GaveUp old new h clean = subst (λ (l : List Slot). AllClean (held l)) (sym h) clean
settled_clean settled.End old new h clean = subst (λ (l : List Slot). AllClean (held l)) (sym h) clean

-- one slot is put in or taken out
put_clean : (old : ℕ → Option Slot) (b : ℕ) (o : Option Slot) → ((s : Slot) → o ≡ Some s → s.state ≡ Clean) → AllClean old → AllClean (put old b o)
put_clean old b o is clean = λ c s h. elim (put_cases old b o c) [
  | inl p ↦ is s (sym p.1 ∙ h)
  | inr p ↦ clean c s (sym p.1 ∙ h)
]

-- a slot is made free
pub vacated_clean : (old new : List Slot) (at : ℕ) (s : Slot) → IsDistinct old → slice_get old at ≡ Some s
    → IsSetAt old new at (λ t. record t { block = None }) → AllClean (held old) → AllClean (held new)
vacated_clean old new at s d is e clean = elim (vacated_held old new at s d is e) [
  | inl p ↦ subst AllClean (sym p.1) clean
  | inr p ↦ subst AllClean (sym p.2) (put_clean (held old) p.0 None (λ s none. absurd (let z : ⊥ = cc in z)) clean)
]

-- a block is put into a free one
pub filled_clean : (old new : List Slot) (at b : ℕ) (bytes : List ℕ) → IsDistinct old → IsFreeAt old at → held old b ≡ None
    → IsFilledAt old new at b bytes Clean → AllClean (held old) → AllClean (held new)
filled_clean old new at b bytes d free none e clean =
    subst AllClean (sym (filled_held old new at b bytes Clean d free none e)) (put_clean (held old) b (Some e.after) (λ s h.
    let one : e.after ≡ s = cc in
    sym (ap (λ (x : Slot). x.state) one) ∙ e.state_is) clean)

slot_at : (items : List Slot) (i : ℕ) → i < length items → (s : Slot) × (slice_get items i ≡ Some s)
slot_at [] i h = absurd (omega (arith, h))
slot_at (x ∷ xs) zero h = (x, refl)
slot_at (x ∷ xs) (suc i) h = slot_at xs i (omega (arith, h))

-- where each slot with a block is clean none is unclean
pub none_unclean : (items : List Slot) (at : ℕ) → IsDistinct items → at < length items → AllClean (held items) → IsSlotAt items at (λ s. not (is_unclean_slot s))
none_unclean items at d lt clean =
    let x = slot_at items at lt in
    record { slot = x.0; is = x.1; passes = by x.0 x.1 x.0.block refl }
  where
    by : (s : Slot) → slice_get items at ≡ Some s → (o : Option ℕ) → s.block ≡ o → not (is_unclean_slot s) ≡ true
    by s is None e = rw e refl
    by s is (Some b) e = clean_passes s (ap is_clean (clean b s (held_at items at b s d is e)))

-- ---- calls

-- a message that is taken
pub take_looks : (res : Settlement) (a b : AbstractCache) (items items' : List Slot) → Steps res a.table b.table a.told b.told a.truth b.truth
    → Settles res items items' → a.held ≡ held items → b.held ≡ held items' → Looks a b
take_looks res a b items items' x settles here there =
    looks_by a b (λ clean. subst AllClean (sym there) (settled_clean res items items' settles (subst AllClean here clean)))
    (λ none. closes_none res (pending_of a.table.pending) (pending_of b.table.pending) x.closes none)
    (λ none. step_reads res a.table b.table a.told b.told a.truth b.truth x none)

-- one that is handed over
pub absorb_looks : (m : Incoming) (res : Settlement) (a b : AbstractCache) (items items' : List Slot)
    → Absorbs m res a.table b.table a.told b.told a.truth b.truth
    → Settles res items items' → a.held ≡ held items → b.held ≡ held items' → Looks a b
absorb_looks m res a b items items' x settles here there =
    looks_by a b (λ clean. subst AllClean (sym there) (settled_clean res items items' settles (subst AllClean here clean)))
    (λ none. closes_none res (pending_of a.table.pending) (pending_of b.table.pending) x.closes none)
    (λ none. absorb_reads m res a.table b.table a.told b.told a.truth b.truth x none)

-- a read that is begun
pub begin_looks : (ask : Ask) (a b : AbstractCache) (t : ℕ) → b.held ≡ a.held → ask.kind ≡ kind.Read
    → Adds ask a.table b.table a.told b.told → Opens (Ok t) (begun_by ask) (pending_of a.table.pending) (pending_of b.table.pending) → Looks a b
begin_looks ask a b t same read adds opens =
    looks_by a b (λ clean. subst AllClean (sym same) clean)
    (λ none. begin_none ask t (pending_of a.table.pending) (pending_of b.table.pending) read opens none)
    (λ none. begin_reads ask a.table b.table a.told b.told read adds)
