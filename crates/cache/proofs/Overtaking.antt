-- What overtakes no block.
use Rattle.std.proofs.Common.{◌≡◌, ℕ, List, Bool, true, false, refl, sym, ap, ◌∙◌, Option, Some, None}
use mathlib.Core.Logic.{inl, inr}
use Rattle.std.specs.Prelude.{if◌then◌else◌}
use Rattle.lemmas.proofs.Bools.{from_clash}
use Rattle.reissue.specs.Settlements.{Settlement}
use Rattle.reissue.specs.Settlements as settled
use Rattle.reissue.specs.Moves.{put}
use Rattle.reissue.proofs.Maps.{put_cases}
use Rattle.cache.specs.declared.slot.Slot.{Slot}
use Rattle.cache.specs.declared.state.State.{State}
use Rattle.cache.specs.declared.state.State.TheVariants.{Clean, Dirty, Writing, Changed}
use Rattle.cache.specs.Slots.{held, is_changed, is_changed_held, is_under, written, OvertakesNone}
use Rattle.cache.specs.Edits.{AreBegun, held_after_write}
use Rattle.cache.specs.Settling.{Settles}
use Rattle.cache.proofs.Tied.{within_or}

-- the slots stay
pub overtakes_same : (old new : ℕ → Option Slot) → new ≡ old → OvertakesNone old new
overtakes_same old new same = λ block is. ap (λ (h : ℕ → Option Slot). is_changed_held (h block)) (sym same) ∙ is

-- one is put in or taken out that isn't overtaken
pub overtakes_put : (old new : ℕ → Option Slot) (b : ℕ) (o : Option Slot) → new ≡ put old b o → is_changed_held o ≡ false
    → OvertakesNone old new
overtakes_put old new b o to clear = λ block is.
    let here : is_changed_held (put old b o block) ≡ true = ap (λ (h : ℕ → Option Slot). is_changed_held (h block)) (sym to) ∙ is in
    elim (put_cases old b o block) [
      | inl p ↦ from_clash (sym here ∙ ap is_changed_held p.1 ∙ clear)
      | inr p ↦ ap is_changed_held (sym p.1) ∙ here
    ]

-- writes of a run are begun
pub overtakes_begun : (old new : ℕ → Option Slot) (b count t : ℕ) → AreBegun b count t old new → OvertakesNone old new
overtakes_begun old new b count t begun = λ block is. elim (within_or b count block) [
  | inl here ↦
      let x = begun.each here.index here.below in
      from_clash (sym is ∙ ap (λ k. is_changed_held (new k)) here.is ∙ ap is_changed_held x.after)
  | inr out ↦ ap is_changed_held (sym (begun.others block out)) ∙ is
]

-- a write is answered good
written_state : (s : State) → is_changed (written s) ≡ true → is_changed s ≡ true
written_state Clean e = e
written_state Dirty e = e
written_state (Writing t) e = e
written_state (Changed t) e = refl

after_one : (t : ℕ) (o : Option Slot) → is_changed_held (held_after_write t o) ≡ true → is_changed_held o ≡ true
after_one t None e = e
after_one t (Some s) e = by (is_under t s) e
  where
    by : (b : Bool) → is_changed (if b then record s { state = written s.state } else s).state ≡ true → is_changed s.state ≡ true
    by true e = written_state s.state e
    by false e = e

-- whatever a message settles
pub overtakes_settled : (res : Settlement) (old new : List Slot) → Settles res old new → OvertakesNone (held old) (held new)
overtakes_settled (settled.Written t) old new h = λ block is. after_one t (held old block) (ap is_changed_held (sym (h.slots block)) ∙ is)
overtakes_settled (settled.Read t bytes) old new h = overtakes_same (held old) (held new) (ap held h)
overtakes_settled settled.Nothing old new h = overtakes_same (held old) (held new) (ap held h)
overtakes_settled settled.Flush old new h = overtakes_same (held old) (held new) (ap held h)
overtakes_settled settled.GaveUp old new h = overtakes_same (held old) (held new) (ap held h)
overtakes_settled settled.End old new h = overtakes_same (held old) (held new) (ap held h)

-- as said of a cache
pub overtakes_after : (res : Settlement) (items items' : List Slot) (old new : ℕ → Option Slot) → Settles res items items'
    → old ≡ held items → new ≡ held items' → OvertakesNone old new
overtakes_after res items items' old new settles here there = λ block is.
    ap (λ (h : ℕ → Option Slot). is_changed_held (h block)) here
    ∙ overtakes_settled res items items' settles block (ap (λ (h : ℕ → Option Slot). is_changed_held (h block)) (sym there) ∙ is)
