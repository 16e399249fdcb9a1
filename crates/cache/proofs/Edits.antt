-- What one changed slot leaves.
use Rattle.std.proofs.Common.{◌≡◌, ℕ, List, set, refl, sym, ap, subst, ◌∙◌, Option, Some, None}
use Rattle.std.proofs.lemmas.List.{length-set}
use mathlib.Core.Logic.{inl, inr}
use Rattle.std.specs.Prelude.{slice_get}
use Rattle.std.proofs.lemmas.Bool.{cases_eq}
use Rattle.reissue.specs.Moves.{put}
use Rattle.reissue.proofs.Maps.{put_cases}
use Rattle.cache.specs.declared.slot.Slot.{Slot}
use Rattle.cache.specs.Slots.{held, IsDistinct}
use Rattle.cache.specs.Edits.{Leaves}
use Rattle.cache.proofs.Held.{get_set_same, get_set_other, held_at, held_set}

-- what stands there is one slot
pub one_slot : (items : List Slot) (i : ℕ) (s t : Slot) → slice_get items i ≡ Some s → slice_get items i ≡ Some t → s ≡ t
one_slot items i s t h k = cc

-- no block gets a slot where one that has a slot keeps it
pub none_stays : (old new : List Slot) (b : ℕ) (s t : Slot) → held old b ≡ Some s → held new ≡ put (held old) b (Some t)
    → (c : ℕ) → held old c ≡ None → held new c ≡ None
none_stays old new b s t is all c h = elim (put_cases (held old) b (Some t) c) [
  | inl p ↦ let q = ap (held old) p.0 ∙ is in cc
  | inr p ↦ ap (λ (f : ℕ → Option Slot). f c) all ∙ p.1 ∙ h
]

-- nothing is changed
pub leaves_none : (items : List Slot) → Leaves items items
leaves_none items = record { count = refl; at = λ i b h. h; free = λ i h. h; none = λ b h. h }

-- one after the other
pub leaves_then : (a b c : List Slot) → Leaves a b → Leaves b c → Leaves a c
leaves_then a b c x y = record {
  count = y.count ∙ x.count;
  at = λ i n h. y.at i n (x.at i n h);
  free = λ i h. y.free i (x.free i h);
  none = λ n h. y.none n (x.none n h);
}

-- a slot that holds a block goes on holding it
pub leaves_set : (old new : List Slot) (i b : ℕ) (s t : Slot) → IsDistinct old → slice_get old i ≡ Some s → s.block ≡ Some b → t.block ≡ s.block
    → new ≡ set old i t → Leaves old new
leaves_set old new i b s t d is block same all = subst (λ (l : List Slot). Leaves old l) (sym all) (record {
  count = length-set old i t;
  at = λ j c h. elim (cases_eq j i) [
    | inl e ↦
        let one : h.slot ≡ s = one_slot old i h.slot s (sym (ap (slice_get old) e) ∙ h.is) is in
        record {
          slot = t;
          is = ap (slice_get (set old i t)) e ∙ get_set_same old i s t is;
          block_is = same ∙ ap (λ (x : Slot). x.block) (sym one) ∙ h.block_is;
        }
    | inr ne ↦ record { slot = h.slot; is = get_set_other old i j t ne ∙ h.is; block_is = h.block_is }
  ];
  free = λ j h. elim (cases_eq j i) [
    | inl e ↦
        let one : h.slot ≡ s = one_slot old i h.slot s (sym (ap (slice_get old) e) ∙ h.is) is in
        let z : None ≡ Some b = sym h.none ∙ ap (λ (x : Slot). x.block) one ∙ block in
        absurd (let y : ⊥ = cc in y)
    | inr ne ↦ record { slot = h.slot; is = get_set_other old i j t ne ∙ h.is; none = h.none }
  ];
  none = none_stays old (set old i t) b s t (held_at old i b s d is block) (held_set old i b s t d is block same);
})
