-- Slots whose write was answered good.
use Rattle.std.proofs.Common.{◌≡◌, ◌≢◌, ℕ, zero, suc, ◌+◌, ◌<◌, ◌≤◌, List, [], ◌∷◌, length, refl, sym, ap, subst, ◌∙◌, arith, Bool, true, false, Some, None}
use Rattle.std.proofs.lemmas.List.{length-set}
use mathlib.Core.Logic.{inl, inr}
use Rattle.std.specs.Prelude.{cond, slice_get, slice_set}
use Rattle.std.proofs.lemmas.Bool.{cond-true, cond-false, cases_eq, cases_lt}
use Rattle.cache.specs.declared.slot.Slot.{Slot}
use Rattle.cache.specs.declared.table.Slots.{Slots}
use Rattle.cache.specs.declared.state.State.{State}
use Rattle.cache.specs.Slots.{held, is_under, written, IsDistinct}
use Rattle.cache.specs.Edits.{IsSetAt, IsKept, AllStay, IsWritten, after_write, held_after_write}
use Rattle.cache.proofs.Held.{option_cases, get_set_same, get_set_other, place_of, some_holds, held_at, in_range}

-- the slots below this place are written, and the others stay
pub record Settling (ticket : ℕ) (old new : List Slot) (at : ℕ) : Type 0 where
  pub count : length new ≡ length old
  pub done : (i : ℕ) (s : Slot) → i < at → slice_get old i ≡ Some s → slice_get new i ≡ Some (after_write ticket s)
  pub rest : (i : ℕ) → at ≤ i → slice_get new i ≡ slice_get old i

-- one more
pub settling_more : (ticket : ℕ) (old mid new : List Slot) (at : ℕ) → Settling ticket old mid at
    → IsSetAt mid new at (after_write ticket) → Settling ticket old new (at + 1)
settling_more ticket old mid new at h e = record {
  count = ap (λ (l : List Slot). length l) e.all ∙ length-set mid at (after_write ticket e.slot) ∙ h.count;
  done = λ i s lt is. elim (cases_eq i at) [
    | inl same ↦
        let there : slice_get mid at ≡ Some s = h.rest at (omega arith) ∙ ap (slice_get old) (sym same) ∙ is in
        let z : Some e.slot ≡ Some s = sym e.is ∙ there in
        let one : e.slot ≡ s = cc in
        ap (λ (l : List Slot). slice_get l i) e.all
        ∙ ap (slice_get (slice_set mid at (after_write ticket e.slot))) same
        ∙ get_set_same mid at e.slot (after_write ticket e.slot) e.is ∙ ap (λ (x : Slot). Some (after_write ticket x)) one
    | inr ne ↦
        ap (λ (l : List Slot). slice_get l i) e.all ∙ get_set_other mid at i (after_write ticket e.slot) ne
        ∙ h.done i s (below i ne lt) is
  ];
  rest = λ i le.
      let ne : i ≢ at = λ same. absurd (omega (arith, same, le)) in
      ap (λ (l : List Slot). slice_get l i) e.all ∙ get_set_other mid at i (after_write ticket e.slot) ne ∙ h.rest i (omega (arith, le));
}
  where
    below : (i : ℕ) → i ≢ at → i < at + 1 → i < at
    below i ne lt = elim (cases_lt i at) [
      | inl less ↦ less
      | inr le ↦ absurd (ne (omega (arith, lt, le)))
    ]

-- what stands below the length
pub get_some : (items : List Slot) (i : ℕ) → i < length items → (s : Slot) × (slice_get items i ≡ Some s)
get_some [] i lt = absurd (omega (arith, lt))
get_some (x ∷ xs) zero lt = (x, refl)
get_some (x ∷ xs) (suc i) lt = get_some xs i (omega (arith, lt))

-- a slot that was written, and what stays of it
block_stays : (ticket : ℕ) (s : Slot) → (after_write ticket s).block ≡ s.block
block_stays ticket s = by (is_under ticket s)
  where
    by : (b : Bool) → (cond b (record s { state = written s.state }) s).block ≡ s.block
    by true = refl
    by false = refl

kept : (ticket : ℕ) (s : Slot) → IsKept s (after_write ticket s)
kept ticket s = by (is_under ticket s)
  where
    by : (b : Bool) → IsKept s (cond b (record s { state = written s.state }) s)
    by true = record { block = refl; bytes = refl; state = inr refl }
    by false = record { block = refl; bytes = refl; state = inl refl }

-- all slots are written
pub record AllSettled (ticket : ℕ) (old new : List Slot) : Type 0 where
  pub count : length new ≡ length old
  pub done : (i : ℕ) (s : Slot) → slice_get old i ≡ Some s → slice_get new i ≡ Some (after_write ticket s)

-- the slots of blocks
pub settled_written : (ticket : ℕ) (old new : List Slot) → IsDistinct new → AllSettled ticket old new → IsWritten ticket old new
settled_written ticket old new distinct h = record {
  slots = by_block;
  leaves = record {
    count = h.count;
    at = λ i b x. record {
      slot = after_write ticket x.slot;
      is = h.done i x.slot x.is;
      block_is = block_stays ticket x.slot ∙ x.block_is;
    };
    free = λ i x. record {
      slot = after_write ticket x.slot;
      is = h.done i x.slot x.is;
      none = block_stays ticket x.slot ∙ x.none;
    };
    none = λ b none. by_block b ∙ ap (held_after_write ticket) none;
  };
}
  where
    has_none : (b : ℕ) → held old b ≡ None → held new b ≡ None
    has_none b none = elim (option_cases (held new b)) [
      | inl n ↦ n
      | inr p ↦
          let place = place_of new b p.0 p.1 in
          let lt : place.index < length old = subst (λ (n : ℕ). place.index < n) h.count (in_range new place.index p.0 place.is) in
          let was = get_some old place.index lt in
          let z : Some (after_write ticket was.0) ≡ Some p.0 = sym (h.done place.index was.0 was.1) ∙ place.is in
          let same : after_write ticket was.0 ≡ p.0 = cc in
          absurd (some_holds old place.index b was.0 was.1
          (sym (block_stays ticket was.0) ∙ ap (λ (x : Slot). x.block) same ∙ place.block) none)
    ]

    by_block : (b : ℕ) → held new b ≡ held_after_write ticket (held old b)
    by_block b = elim (option_cases (held old b)) [
      | inl n ↦ has_none b n ∙ ap (held_after_write ticket) (sym n)
      | inr p ↦
          let place = place_of old b p.0 p.1 in
          held_at new place.index b (after_write ticket p.0) distinct (h.done place.index p.0 place.is)
          (block_stays ticket p.0 ∙ place.block) ∙ ap (held_after_write ticket) (sym p.1)
    ]

-- and each slot stays otherwise
pub settled_stays : (ticket : ℕ) (old new : Slots) → new.uses ≡ old.uses
    → AllSettled ticket old.items.items new.items.items → AllStay old new
settled_stays ticket old new uses h = record {
  uses = uses;
  each = λ i s is. record {
    slot = after_write ticket s;
    is = h.done i s is;
    kept = kept ticket s;
  };
}

-- a slot under the ticket is written
pub set_under : (ticket : ℕ) (old new : List Slot) (at : ℕ) (x : State) (s : Slot) → slice_get old at ≡ Some s → is_under ticket s ≡ true
    → x ≡ written s.state → IsSetAt old new at (λ t. record t { state = x }) → IsSetAt old new at (after_write ticket)
set_under ticket old new at x s is under st e =
    let z : Some e.slot ≡ Some s = sym e.is ∙ is in
    let one : e.slot ≡ s = cc in
    record {
      slot = s;
      is = is;
      all = e.all ∙ ap (λ (y : Slot). slice_set old at (record y { state = x })) one
          ∙ ap (λ (y : State). slice_set old at (record s { state = y })) st
          ∙ ap (slice_set old at) (sym (cond-true (is_under ticket s) (record s { state = written s.state }) s under));
    }

-- what stands there, put there again
set_same : (items : List Slot) (i : ℕ) (s : Slot) → slice_get items i ≡ Some s → slice_set items i s ≡ items
set_same [] i s h = refl
set_same (x ∷ xs) zero s h = let same : x ≡ s = cc in ap (λ (y : Slot). y ∷ xs) (sym same)
set_same (x ∷ xs) (suc i) s h = ap (λ (l : List Slot). x ∷ l) (set_same xs i s h)

-- another slot stays
pub set_not : (ticket : ℕ) (items : List Slot) (at : ℕ) (s : Slot) → slice_get items at ≡ Some s → is_under ticket s ≡ false
    → IsSetAt items items at (after_write ticket)
set_not ticket items at s is under = record {
  slot = s;
  is = is;
  all = sym (ap (slice_set items at) (cond-false (is_under ticket s) (record s { state = written s.state }) s under) ∙ set_same items at s is);
}
