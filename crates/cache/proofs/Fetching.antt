-- Which frame goes for a block that is fetched.
use Rattle.std.proofs.Common.{◌≡◌, ℕ, List, refl, sym, ap, subst, ◌∙◌, Option, Some, None, Result, Ok, Err, IsErr, IfOk}
use mathlib.Core.Logic.{inl, inr}
use Rattle.reissue.proofs.Maps.{put_cases}
use Rattle.cache.specs.declared.slot.Slot.{Slot}
use Rattle.cache.specs.declared.table.Slots.{Slots}
use Rattle.cache.specs.declared.frame.Frame.{Frame}
use Rattle.cache.specs.declared.state.State.{State}
use Rattle.cache.specs.declared.cache.Cache.{Cache}
use Rattle.block_store.specs.declared.Cut.{Cut}
use Rattle.cache.specs.Slots.{held}
use Rattle.cache.specs.Uses.{IsUsedLast}
use Rattle.cache.specs.Order.{IsVictim}
use Rattle.cache.specs.Growing.{IsGrown}
use Rattle.cache.specs.Edits.{IsAt, IsFilledAt, IsFreeAt, StayBut}
use Rattle.cache.specs.Calls.{IsFrameOf}
use Rattle.cache.specs.Fetches.{Misses}
use Rattle.cache.proofs.Filling.{filled_held, filled_slot}
use Rattle.cache.proofs.Staying.{put_others, others_then}
use Rattle.cache.proofs.Growing.{grown_held, grown_others}

-- the block of a frame that was found stands there
pub found_there : {L : Type 0} (cache : Cache L) (frame : Frame) (b : ℕ) → IsFrameOf cache (Some frame) b → IsAt cache.slots.items.items frame.at b
found_there cache frame b x = subst (λ (n : ℕ). IsAt cache.slots.items.items frame.at n) x.0 x.1

-- a cut gives no place
pub no_place : {X : Type 0} (r : Result X Cut) (P : X → Type 0) → IsErr r → IfOk r P
no_place (Err cut) P h = tt
no_place (Ok x) P h = cc

-- a call that was cut
pub misses_cut : {L : Type 0} (x : State) (r : Result Frame Cut) (old new : Cache L) (at : ℕ) → IsErr r
    → IsVictim old.slots.items.items old.slots.uses.numbers.items at → StayBut at old.slots new.slots
    → ((b : ℕ) → held old.slots.items.items b ≡ None → held new.slots.items.items b ≡ None) → Misses x r old new
misses_cut x (Err cut) old new at h goes stay none =
    record { at = at; goes = goes; filled = new.slots; stands = ap (λ u. u.numbers.items) stay.uses; grows = refl; others = stay.each; none = λ b not n. none b n }
misses_cut x (Ok frame) old new at h goes stay none = cc

-- a block that came into the slot that was made free, before more were made
pub misses_filled : {L : Type 0} (old new : Cache L) (mid filled : Slots) (frame : Frame) (at b : ℕ) (bytes : List ℕ) (x : State)
    → frame.at ≡ at → frame.block ≡ b
    → IsVictim old.slots.items.items old.slots.uses.numbers.items at → StayBut at old.slots mid
    → ((c : ℕ) → held old.slots.items.items c ≡ None → held mid.items.items c ≡ None)
    → IsFreeAt mid.items.items at → held mid.items.items b ≡ None
    → IsFilledAt mid.items.items filled.items.items at b bytes x
    → IsUsedLast mid.uses.numbers.items filled.uses.numbers.items at → IsGrown filled new.slots
    → Misses x (Ok frame) old new
misses_filled old new mid filled frame at b bytes x its block goes stay none free here e used grown = record {
  at = at;
  goes = goes;
  filled = filled;
  stands = (
    its,
    (λ s h. ap state_of (sym h ∙ filled_slot mid.items.items filled.items.items at b bytes x e) ∙ e.state_is),
    subst (λ (u : List ℕ). IsUsedLast u filled.uses.numbers.items at) (ap (λ u. u.numbers.items) stay.uses) used,
  );
  grows = grown;
  others = grown_others at old.slots.items.items filled new.slots grown (others_then at old.slots.items.items mid.items.items filled.items.items stay.each
      (put_others mid.items.items filled.items.items at e.after e.all));
  none = λ c not n. ap (λ (f : ℕ → Option Slot). f c) (grown_held filled new.slots grown
      ∙ filled_held mid.items.items filled.items.items at b bytes x mid.distinct free here e)
      ∙ elim (put_cases (held mid.items.items) b (Some e.after) c) [
        | inl p ↦ absurd (not (block ∙ sym p.0))
        | inr p ↦ p.1 ∙ none c n
      ];
}
  where
    state_of : Option Slot → State
    state_of None = x
    state_of (Some s) = s.state
