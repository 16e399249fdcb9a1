-- Which slots stay.
use Rattle.std.proofs.Common.{◌≡◌, ◌≢◌, ℕ, List, refl, sym, ap, subst, ◌∙◌, Some}
use mathlib.Core.Logic.{inl, inr}
use Rattle.std.specs.Prelude.{slice_get, slice_set}
use Rattle.cache.specs.declared.slot.Slot.{Slot}
use Rattle.cache.specs.declared.table.Slots.{Slots}
use Rattle.cache.specs.declared.state.State.{State}
use Rattle.cache.specs.declared.state.State.TheVariants.{Clean, Dirty, Writing, Changed}
use Rattle.cache.specs.Slots.{written}
use Rattle.cache.specs.Edits.{IsSetAt, IsAt, IsKept, AllStay, OthersStay, StayBut}
use Rattle.cache.proofs.Held.{get_set_other}
use Rattle.cache.proofs.Edits.{one_slot}

-- a write is answered good once
written_once : (s : State) → written (written s) ≡ written s
written_once Clean = refl
written_once Dirty = refl
written_once (Writing t) = refl
written_once (Changed t) = refl

-- a slot stays as it is
pub kept_same : (s : Slot) → IsKept s s
kept_same s = record { block = refl; bytes = refl; state = inl refl }

kept_then : (a b c : Slot) → IsKept a b → IsKept b c → IsKept a c
kept_then a b c x y = record {
  block = y.block ∙ x.block;
  bytes = y.bytes ∙ x.bytes;
  state = elim x.state [
    | inl p ↦ elim y.state [
      | inl q ↦ inl (q ∙ p)
      | inr q ↦ inr (q ∙ ap written p)
    ]
    | inr p ↦ elim y.state [
      | inl q ↦ inr (q ∙ p)
      | inr q ↦ inr (q ∙ ap written p ∙ written_once a.state)
    ]
  ];
}

-- nothing is changed
pub all_none : (s : Slots) → AllStay s s
all_none s = record { uses = refl; each = λ i t h. record { slot = t; is = h; kept = kept_same t } }

-- one after the other
pub all_then : (a b c : Slots) → AllStay a b → AllStay b c → AllStay a c
all_then a b c x y = record {
  uses = y.uses ∙ x.uses;
  each = λ i s h.
      let p = x.each i s h in
      let q = y.each i p.slot p.is in
      record { slot = q.slot; is = q.is; kept = kept_then s p.slot q.slot p.kept q.kept };
}

-- where all stay, so do all but one
pub all_but : (at : ℕ) (a b : Slots) → AllStay a b → StayBut at a b
all_but at a b x = record { uses = x.uses; each = λ i s ne h. x.each i s h }

pub but_none : (at : ℕ) (s : Slots) → StayBut at s s
but_none at s = all_but at s s (all_none s)

pub others_then : (at : ℕ) (a b c : List Slot) → OthersStay at a b → OthersStay at b c → OthersStay at a c
others_then at a b c x y = λ i s ne h.
    let p = x i s ne h in
    let q = y i p.slot ne p.is in
    record { slot = q.slot; is = q.is; kept = kept_then s p.slot q.slot p.kept q.kept }

pub but_then : (at : ℕ) (a b c : Slots) → StayBut at a b → StayBut at b c → StayBut at a c
but_then at a b c x y = record {
  uses = y.uses ∙ x.uses;
  each = others_then at a.items.items b.items.items c.items.items x.each y.each;
}

-- one slot is changed
pub put_others : (old new : List Slot) (at : ℕ) (after : Slot) → new ≡ slice_set old at after → OthersStay at old new
put_others old new at after all = λ i s ne h. record {
  slot = s;
  is = ap (λ (l : List Slot). slice_get l i) all ∙ get_set_other old at i after ne ∙ h;
  kept = kept_same s;
}

pub set_others : (old new : List Slot) (at : ℕ) (change : Slot → Slot) → IsSetAt old new at change → OthersStay at old new
set_others old new at change e = put_others old new at (change e.slot) e.all

-- the frame of another block stays where one slot is changed
pub frame_stays : (old new : List Slot) (at b i c : ℕ) (change : Slot → Slot) → IsAt old at b → c ≢ b → IsSetAt old new at change → IsAt old i c → IsAt new i c
frame_stays old new at b i c change here ne e x =
    let no : i ≢ at = λ same.
    let two : x.slot ≡ here.slot = one_slot old at x.slot here.slot (subst (λ (k : ℕ). slice_get old k ≡ Some x.slot) same x.is) here.is in
    let z : Some c ≡ Some b = sym x.block_is ∙ ap (λ (s : Slot). s.block) two ∙ here.block_is in
    ne cc in
    let k = set_others old new at change e i x.slot no x.is in
    record { slot = k.slot; is = k.is; block_is = k.kept.block ∙ x.block_is }
