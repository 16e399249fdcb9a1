-- Slots of a run whose writes are begun.
use Rattle.std.proofs.Common.{◌≡◌, ◌≢◌, ℕ, zero, suc, ◌+◌, ◌-◌, ◌*◌, ◌/◌, ◌<◌, ◌≤◌, List, set, refl, sym, ap, subst, ◌∙◌, arith, Bool, true, false, Option, Some, None}
use mathlib.Core.Logic.{inl, inr}
use Rattle.std.specs.Prelude.{◌&&◌, nat_le, nat_lt, slice_get, slice_index}
use Rattle.std.specs.Bool.{OnTrue, OnFalse}
use Rattle.std.proofs.lemmas.Bool.{cond-true, cond-false, cases_eq, cases_lt, lt-ltb}
use Rattle.std.proofs.lemmas.Bool.Decides.{nat_tests}
use Rattle.std.proofs.Math.Nat.{mul-le-mul_right, add-mul, mul_comm, div-add-mod, mod-lt}
use Rattle.message.specs.declared.BlockRequest.{BlockRequest}
use Rattle.reissue.specs.Moves.{put}
use Rattle.reissue.proofs.Maps.{put-same, put-other}
use Rattle.cache.specs.declared.slot.Slot.{Slot}
use Rattle.cache.specs.declared.state.State.{State}
use Rattle.cache.specs.declared.state.State.TheVariants.{Clean, Dirty, Writing, Changed}
use Rattle.cache.specs.Slots.{held, is_dirty, is_dirty_held, IsDistinct}
use Rattle.cache.specs.Edits.{IsSetAt, IsAt, IsIssued, IsNextDirty, BeginsNext, IsLowestDirty, IsLowestBlock, IsOutside, IsRunEnd, AreBegun, AreDirty, Leaves}
use Rattle.cache.proofs.Edits.{one_slot}
use Rattle.cache.specs.Runs.{IsCopied, AreGathered, IssuesRun, BeginsRun}
use Rattle.cache.proofs.Held.{held_at, held_set}
use Rattle.cache.proofs.Issuing.{write_leaves}
use Rattle.cache.proofs.Tied.{fits_past}

-- a dirty block has a slot in this state
pub dirty_held : (o : Option Slot) → is_dirty_held o ≡ true → (s : Slot) × (o ≡ Some s) × (s.state ≡ Dirty)
dirty_held None h = cc
dirty_held (Some s) h = (s, refl, is_one s.state h)
  where
    is_one : (x : State) → is_dirty x ≡ true → x ≡ Dirty
    is_one Clean e = cc
    is_one Dirty e = refl
    is_one (Writing t) e = cc
    is_one (Changed t) e = cc

-- and one in this state is dirty
pub is_dirty_slot_held : (o : Option Slot) (s : Slot) → o ≡ Some s → s.state ≡ Dirty → is_dirty_held o ≡ true
is_dirty_slot_held o s is st = ap is_dirty_held is ∙ ap is_dirty st

-- none yet
pub begun_none : (held : ℕ → Option Slot) (b n : ℕ) → AreBegun b 0 n held held
begun_none held b n = record { each = λ i lt. absurd (omega (arith, lt)); others = λ c out. refl }

-- one more
pub begun_more : (held mid : ℕ → Option Slot) (b i n : ℕ) (s : Slot) → AreBegun b i n held mid → mid (b + i) ≡ Some s → s.state ≡ Dirty
    → AreBegun b (i + 1) n held (put mid (b + i) (Some (record s { state = Writing n })))
begun_more held mid b i n s h is st = record {
  each = λ j lt. elim (cases_eq j i) [
    | inl same ↦
        let at : b + j ≡ b + i = ap (λ k. b + k) same in
        record {
          slot = s;
          is = ap held at ∙ sym (h.others (b + i) (inr (omega arith))) ∙ is;
          dirty = st;
          after = ap (put mid (b + i) (Some (record s { state = Writing n }))) at ∙ put-same mid (b + i) (Some (record s { state = Writing n }));
        }
    | inr ne ↦
        let x = h.each j (below j ne lt) in
        let other : b + j ≢ b + i = λ e. ne (omega (arith, e)) in
        record { slot = x.slot; is = x.is; dirty = x.dirty; after = put-other mid (b + i) (Some (record s { state = Writing n })) (b + j) other ∙ x.after }
  ];
  others = λ c out.
      let other : c ≢ b + i = λ e. elim out [
        | inl lower ↦ absurd (omega (arith, e, lower))
        | inr past ↦ absurd (omega (arith, e, past))
      ] in
      put-other mid (b + i) (Some (record s { state = Writing n })) c other ∙ h.others c (outside c out);
}
  where
    below : (j : ℕ) → j ≢ i → j < i + 1 → j < i
    below j ne lt = elim (cases_lt j i) [
      | inl less ↦ less
      | inr le ↦ absurd (ne (omega (arith, lt, le)))
    ]

    outside : (c : ℕ) → IsOutside b (i + 1) c → IsOutside b i c
    outside c (inl lower) = inl lower
    outside c (inr past) = inr (omega (arith, past))

-- of one block
pub begun_one : (held : ℕ → Option Slot) (b n : ℕ) (s : Slot) → held b ≡ Some s → s.state ≡ Dirty
    → AreBegun b 1 n held (put held b (Some (record s { state = Writing n })))
begun_one held b n s is st =
    let at : b + 0 ≡ b = omega arith in
    subst (λ (c : ℕ). AreBegun b 1 n held (put held c (Some (record s { state = Writing n })))) at
    (begun_more held held b 0 n s (begun_none held b n) (ap held at ∙ is) st)

-- one dirty block
pub dirty_one : (held : ℕ → Option Slot) (b : ℕ) (s : Slot) → held b ≡ Some s → s.state ≡ Dirty → AreDirty held b 1
dirty_one held b s is st = λ i lt.
    let at : b + i ≡ b = omega (arith, lt) in
    is_dirty_slot_held (held (b + i)) s (ap held at ∙ is) st

-- one more dirty block
pub dirty_more : (held : ℕ → Option Slot) (b n : ℕ) → AreDirty held b n → is_dirty_held (held (b + n)) ≡ true → AreDirty held b (n + 1)
dirty_more held b n all one = λ i lt. elim (cases_eq i n) [
  | inl same ↦ ap (λ (k : ℕ). is_dirty_held (held (b + k))) same ∙ one
  | inr ne ↦ all i (elim (cases_lt i n) [
    | inl less ↦ less
    | inr le ↦ absurd (ne (omega (arith, lt, le)))
  ])
]

-- the first
pub dirty_first : (held : ℕ → Option Slot) (b : ℕ) → is_dirty_held (held b) ≡ true → AreDirty held b 1
dirty_first held b one = λ i lt. let at : b + i ≡ b = omega (arith, lt) in ap (λ (k : ℕ). is_dirty_held (held k)) at ∙ one

-- the next one of those whose writes aren't begun yet is dirty
pub still_dirty : (held mid : ℕ → Option Slot) (b i n : ℕ) → AreBegun b i n held mid → is_dirty_held (held (b + i)) ≡ true
    → is_dirty_held (mid (b + i)) ≡ true
still_dirty held mid b i n h one = ap is_dirty_held (h.others (b + i) (inr (omega arith))) ∙ one

-- the slot of the next one is set
pub begun_set : (held' : ℕ → Option Slot) (items items' : List Slot) (b i n at : ℕ) → IsDistinct items → AreBegun b i n held' (held items)
    → is_dirty_held (held' (b + i)) ≡ true → IsAt items at (b + i) → IsSetAt items items' at (λ t. record t { state = Writing n })
    → AreBegun b (i + 1) n held' (held items')
begun_set held' items items' b i n at d h one x e =
    let s = x.slot in
    let here : held items (b + i) ≡ Some s = held_at items at (b + i) s d x.is x.block_is in
    let its = dirty_held (held items (b + i)) (still_dirty held' (held items) b i n h one) in
    let z : Some its.0 ≡ Some s = sym its.1 ∙ here in
    let same : its.0 ≡ s = cc in
    let dirty : s.state ≡ Dirty = ap (λ (y : Slot). y.state) (sym same) ∙ its.2 in
    let y : Some e.slot ≡ Some s = sym e.is ∙ x.is in
    let it : e.slot ≡ s = cc in
    let all : items' ≡ set items at (record s { state = Writing n }) = e.all ∙ ap (λ (v : Slot). set items at (record v { state = Writing n })) it in
    let after : held items' ≡ put (held items) (b + i) (Some (record s { state = Writing n })) =
    ap held all ∙ held_set items at (b + i) s (record s { state = Writing n }) d x.is x.block_is refl in
    subst (λ (f : ℕ → Option Slot). AreBegun b (i + 1) n held' f) (sym after) (begun_more held' (held items) b i n s h here dirty)

-- what the slots leave
pub set_leaves : (items items' : List Slot) (b n at : ℕ) → IsDistinct items → IsAt items at b
    → IsSetAt items items' at (λ t. record t { state = Writing n }) → Leaves items items'
set_leaves items items' b n at d x e = write_leaves items items' b at x.slot (Writing n) d x.is x.block_is e

-- ---- bytes

-- none yet
pub gathered_none : (held : ℕ → Option Slot) (b size : ℕ) (bytes : List ℕ) → AreGathered held b 0 size bytes
gathered_none held b size bytes = record { each = λ i o s lt lo is. absurd (omega (arith, lt)) }

-- one more block's
pub gathered_more : (held : ℕ → Option Slot) (b i size from : ℕ) (old new : List ℕ) → AreGathered held b i size old → from ≡ i * size
    → IsCopied (held (b + i)) size from old new → from + size ≤ 4096 → AreGathered held b (i + 1) size new
gathered_more held b i size from old new h at c fits = record {
  each = λ j o s lt lo is. elim (cases_eq j i) [
    | inl same ↦
        let here : j * size ≡ from = ap (λ k. k * size) same ∙ sym at in
        let z : Some c.slot ≡ Some s = sym c.is ∙ ap (λ k. held (b + k)) (sym same) ∙ is in
        let one : c.slot ≡ s = cc in
        let place : j * size + o ≡ from + o = omega (arith, here) in
        let f : nat_le from (from + o) ≡ true = grind (arith, nat_tests) in
        let g : nat_lt (from + o) (from + size) ≡ true = lt-ltb (from + o) (from + size) (omega (arith, lo)) in
        let back : from + o - from ≡ o = omega arith in
        ap (slice_index new) place ∙ c.each (from + o) (omega (arith, lo, fits))
        ∙ cond-true (nat_le from (from + o) && nat_lt (from + o) (from + size)) (slice_index c.slot.bytes.value (from + o - from)) (slice_index old (from + o)) (rw (f, g) refl)
        ∙ ap (slice_index c.slot.bytes.value) back ∙ ap (λ (y : Slot). slice_index y.bytes.value o) one
    | inr ne ↦
        let less : j < i = below j ne lt in
        let before = fits_past j i size less in
        let f : nat_le from (j * size + o) ≡ false = let lower : j * size + o < from = omega (arith, at, before, lo) in grind (arith, nat_tests) in
        c.each (j * size + o) (omega (arith, at, before, lo, fits))
        ∙ cond-false (nat_le from (j * size + o) && nat_lt (j * size + o) (from + size)) (slice_index c.slot.bytes.value (j * size + o - from)) (slice_index old (j * size + o)) (rw f refl)
        ∙ h.each j o s less lo is
  ];
}
  where
    below : (j : ℕ) → j ≢ i → j < i + 1 → j < i
    below j ne lt = elim (cases_lt j i) [
      | inl less ↦ less
      | inr le ↦ absurd (ne (omega (arith, lt, le)))
    ]

-- ---- how many blocks one request takes

-- at least one
pub some_fit : (size : ℕ) → 0 < size → size ≤ 4096 → 0 < 4096 / size
some_fit size some most = elim (cases_lt 0 (4096 / size)) [
  | inl lt ↦ lt
  | inr none ↦
      let split = div-add-mod 4096 size in
      let rest = mod-lt 4096 some in
      let zero_is : 4096 / size ≡ 0 = omega (arith, none) in
      let nothing : size * (4096 / size) ≡ 0 = ap (λ n. size * n) zero_is ∙ (let e : size * 0 ≡ 0 = omega arith in e) in
      absurd (omega (arith, split, rest, nothing, most))
]

-- and just as many as are no more bytes than it may have
pub fits_in : (n size : ℕ) → n ≤ 4096 / size → n * size ≤ 4096
fits_in n size le =
    let more : n * size ≤ 4096 / size * size = mul-le-mul_right size le in
    let split = div-add-mod 4096 size in
    let order : 4096 / size * size ≡ size * (4096 / size) = mul_comm (4096 / size) size in
    omega (arith, more, split, order)

-- where some were begun
pub begins_run : (most size n : ℕ) (old new : ℕ → Option Slot) (pending pending' : List BlockRequest) → 0 < n
    → IssuesRun most size n old new pending pending' → BeginsRun most size n old new pending pending'
begins_run most size zero old new pending pending' some x = absurd (omega (arith, some))
begins_run most size (suc n) old new pending pending' some x = x

-- where the next block's bytes begin
pub next_from : (i size from : ℕ) → from ≡ i * size → from + size ≡ (i + 1) * size
next_from i size from at = let e = add-mul i 1 size in omega (arith, e, at)

-- ---- where blocks stand

-- the slot there is the block's
pub at_held : (items : List Slot) (at b : ℕ) (s : Slot) → IsDistinct items → IsAt items at b → slice_get items at ≡ Some s → held items b ≡ Some s
at_held items at b s d x is =
    let same : x.slot ≡ s = one_slot items at x.slot s x.is is in
    held_at items at b s d is (ap (λ (y : Slot). y.block) (sym same) ∙ x.block_is)

-- whether it is dirty
pub dirty_if : (o : Option Slot) (s : Slot) (r : Bool) → o ≡ Some s → r ≡ is_dirty s.state → OnTrue r (is_dirty_held o ≡ true)
dirty_if o s true is e = ap is_dirty_held is ∙ sym e
dirty_if o s false is e = tt

pub end_if : (held : ℕ → Option Slot) (b : ℕ) (s : Slot) (r : Bool) → held b ≡ Some s → r ≡ is_dirty s.state → OnFalse r (IsRunEnd held b)
end_if held b s true is e = tt
end_if held b s false is e = inr (ap is_dirty_held is ∙ sym e)

-- the lowest dirty one, by its block
pub lowest_block_is : (items : List Slot) (at : ℕ) (s : Slot) → IsDistinct items → IsLowestDirty items at → slice_get items at ≡ Some s
    → IsLowestBlock s.block (held items)
lowest_block_is items at s d h is =
    let same : h.slot ≡ s = one_slot items at h.slot s h.is is in
    let block : s.block ≡ Some h.block = ap (λ (y : Slot). y.block) (sym same) ∙ h.block_is in
    let here : held items h.block ≡ Some s = held_at items at h.block s d is block in
    let dirty : is_dirty_held (held items h.block) ≡ true = is_dirty_slot_held (held items h.block) s here (ap (λ (y : Slot). y.state) (sym same) ∙ h.dirty) in
    subst (λ (o : Option ℕ). IsLowestBlock o (held items)) (sym block) (dirty, h.lowest)

-- the next dirty slot, whose write is begun
pub begins_next : (items : List Slot) (from at : ℕ) (s : Slot) (held' : ℕ → Option Slot) → IsDistinct items → IsNextDirty items from at
    → slice_get items at ≡ Some s → IsIssued items at held' → BeginsNext from s.block (held items) held'
begins_next items from at s held' distinct next is issued =
    subst (λ (o : Option ℕ). BeginsNext from o (held items) held') (sym (ap (λ (y : Slot). y.block) (sym same) ∙ next.block_is)) (record {
      slot = issued.slot;
      ticket = issued.ticket;
      is = held_at items at next.block issued.slot distinct issued.is (ap (λ (y : Slot). y.block) (sym other) ∙ next.block_is);
      dirty = issued.dirty;
      reach = next.reach;
      lowest = next.lowest;
      all = issued.all ∙ ap (λ (b : ℕ). put (held items) b (Some (record issued.slot { state = Writing issued.ticket }))) block;
    })
  where
    same : next.slot ≡ s
    same = one_slot items at next.slot s next.is is

    other : next.slot ≡ issued.slot
    other = one_slot items at next.slot issued.slot next.is issued.is

    block : issued.block ≡ next.block
    block = let z : Some issued.block ≡ Some next.block = sym issued.block_is ∙ ap (λ (y : Slot). y.block) (sym other) ∙ next.block_is in cc
