-- A block comes into a slot or out of one.
use Rattle.std.proofs.Common.{◌≡◌, ℕ, List, set, refl, ap, ◌∙◌, Option, Some, None}
use mathlib.Core.Logic.{inl, inr, ◌⊎◌}
use Rattle.std.specs.Prelude.{slice_get}
use Rattle.reissue.specs.Moves.{put}
use Rattle.reissue.proofs.Maps.{put_cases}
use Rattle.cache.specs.declared.slot.Slot.{Slot}
use Rattle.cache.specs.declared.state.State.{State}
use Rattle.cache.specs.Slots.{held, IsDistinct}
use Rattle.cache.specs.Edits.{IsSetAt, IsFilledAt, IsFreeAt, IsAt}
use Rattle.cache.proofs.Held.{get_set_same, held_at, held_other, held_vacated, held_filled}
use Rattle.cache.proofs.Edits.{one_slot}

-- which block has which slot, where one is made free
pub vacated_held : (old new : List Slot) (at : ℕ) (s : Slot) → IsDistinct old → slice_get old at ≡ Some s
    → IsSetAt old new at (λ t. record t { block = None })
    → ((s.block ≡ None) × (held new ≡ held old)) ⊎ ((b : ℕ) × (held old b ≡ Some s) × (held new ≡ put (held old) b None))
vacated_held old new at s d is e = by s.block refl
  where
    one : e.slot ≡ s
    one = one_slot old at e.slot s e.is is

    t : Slot
    t = record s { block = None }

    set_is : new ≡ set old at t
    set_is = e.all ∙ ap (λ (y : Slot). set old at (record y { block = None })) one

    by : (x : Option ℕ) → s.block ≡ x
        → ((s.block ≡ None) × (held new ≡ held old)) ⊎ ((b : ℕ) × (held old b ≡ Some s) × (held new ≡ put (held old) b None))
    by None k = inl (k, λ i b. (ap (λ (l : List Slot). held l b) set_is ∙ held_other old at b s t is (rw k refl) refl) i)
    by (Some b) k = inr (b, held_at old at b s d is k, ap held set_is ∙ held_vacated old at b s t d is k refl)

-- it is free then
pub free_at : (old new : List Slot) (at : ℕ) → IsSetAt old new at (λ t. record t { block = None }) → IsFreeAt new at
free_at old new at e = record {
  slot = record e.slot { block = None };
  is = ap (λ (l : List Slot). slice_get l at) e.all ∙ get_set_same old at e.slot (record e.slot { block = None }) e.is;
  none = refl;
}

-- and no block gets a slot
pub vacated_none : (old new : List Slot) (at : ℕ) (s : Slot) → IsDistinct old → slice_get old at ≡ Some s
    → IsSetAt old new at (λ t. record t { block = None }) → (c : ℕ) → held old c ≡ None → held new c ≡ None
vacated_none old new at s d is e c h = elim (vacated_held old new at s d is e) [
  | inl p ↦ ap (λ (f : ℕ → Option Slot). f c) p.1 ∙ h
  | inr p ↦ elim (put_cases (held old) p.0 None c) [
    | inl q ↦ ap (λ (f : ℕ → Option Slot). f c) p.2 ∙ q.1
    | inr q ↦ ap (λ (f : ℕ → Option Slot). f c) p.2 ∙ q.1 ∙ h
  ]
]

-- which block has which slot, where one comes into a free slot
pub filled_held : (old new : List Slot) (at b : ℕ) (bytes : List ℕ) (x : State) → IsDistinct old → IsFreeAt old at → held old b ≡ None
    → (e : IsFilledAt old new at b bytes x) → held new ≡ put (held old) b (Some e.after)
filled_held old new at b bytes x d free none e =
    ap held e.all ∙ held_filled old at b free.slot e.after d free.is free.none e.block_is none

-- where it stands then
pub filled_slot : (old new : List Slot) (at b : ℕ) (bytes : List ℕ) (x : State) → (e : IsFilledAt old new at b bytes x) → slice_get new at ≡ Some e.after
filled_slot old new at b bytes x e = ap (λ (l : List Slot). slice_get l at) e.all ∙ get_set_same old at e.slot e.after e.is

pub filled_at : (old new : List Slot) (at b : ℕ) (bytes : List ℕ) (x : State) → IsFilledAt old new at b bytes x → IsAt new at b
filled_at old new at b bytes x e = record { slot = e.after; is = filled_slot old new at b bytes x e; block_is = e.block_is }
