-- The write of a dirty slot is begun.
use Rattle.std.proofs.Common.{◌≡◌, ℕ, List, set, refl, ap, ◌∙◌, true, false, Option, Some, None}
use Rattle.std.specs.Prelude.{◌&&◌, is_some, not, slice_get}
use Rattle.cache.specs.declared.slot.Slot.{Slot}
use Rattle.cache.specs.declared.state.State.{State}
use Rattle.cache.specs.declared.state.State.TheVariants.{Clean, Dirty, Writing, Changed}
use Rattle.cache.specs.Slots.{held, ticket_of, is_clean, is_dirty, is_dirty_slot, is_unclean_slot, IsDistinct}
use Rattle.cache.specs.Edits.{IsSetAt, IsIssued, Leaves}
use Rattle.cache.proofs.Held.{held_set}
use Rattle.cache.proofs.Edits.{one_slot, leaves_set}

-- a dirty slot has a block, and this state
pub dirty_parts : (s : Slot) → is_dirty_slot s ≡ true → (b : ℕ) × (s.block ≡ Some b) × (s.state ≡ Dirty)
dirty_parts s h = by s.block s.state refl refl h
  where
    by : (o : Option ℕ) (x : State) → s.block ≡ o → s.state ≡ x → (is_some o && is_dirty x) ≡ true → (b : ℕ) × (s.block ≡ Some b) × (s.state ≡ Dirty)
    by None x p q h = cc
    by (Some b) Clean p q h = cc
    by (Some b) Dirty p q h = (b, p, q)
    by (Some b) (Writing t) p q h = cc
    by (Some b) (Changed t) p q h = cc

-- an unclean slot that isn't dirty has a block and a write under way
pub under_way : (s : Slot) → is_unclean_slot s ≡ true → is_dirty_slot s ≡ false → (b t : ℕ) × (s.block ≡ Some b) × (ticket_of s.state ≡ Some t)
under_way s h k = by s.block s.state refl refl h k
  where
    by : (o : Option ℕ) (x : State) → s.block ≡ o → s.state ≡ x → (is_some o && not (is_clean x)) ≡ true → (is_some o && is_dirty x) ≡ false
        → (b t : ℕ) × (s.block ≡ Some b) × (ticket_of s.state ≡ Some t)
    by None x p q h k = cc
    by (Some b) Clean p q h k = cc
    by (Some b) Dirty p q h k = cc
    by (Some b) (Writing t) p q h k = (b, t, p, ap ticket_of q)
    by (Some b) (Changed t) p q h k = (b, t, p, ap ticket_of q)

-- what the slots leave then
pub write_leaves : (items items' : List Slot) (b at : ℕ) (s : Slot) (x : State)
    → IsDistinct items → slice_get items at ≡ Some s → s.block ≡ Some b
    → IsSetAt items items' at (λ t. record t { state = x }) → Leaves items items'
write_leaves items items' b at s x d is block e =
    let one : e.slot ≡ s = one_slot items at e.slot s e.is is in
    leaves_set items items' at b s (record s { state = x }) d is block refl
    (e.all ∙ ap (λ (y : Slot). set items at (record y { state = x })) one)

-- the write of the slot there is begun
pub issued_at : (items items' : List Slot) (b n at : ℕ) (s : Slot) → IsDistinct items → slice_get items at ≡ Some s → s.block ≡ Some b → s.state ≡ Dirty
    → IsSetAt items items' at (λ t. record t { state = Writing n }) → IsIssued items at (held items')
issued_at items items' b n at s d is block st e =
    let one : e.slot ≡ s = one_slot items at e.slot s e.is is in
    record {
      slot = s;
      block = b;
      ticket = n;
      is = is;
      block_is = block;
      dirty = st;
      all = ap held (e.all ∙ ap (λ (y : Slot). set items at (record y { state = Writing n })) one) ∙ held_set items at b s (record s { state = Writing n }) d is block refl;
    }
