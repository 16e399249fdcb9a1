-- Writes that are begun from a block on.
use Rattle.std.proofs.Common.{◌≡◌, ℕ, suc, ◌+◌, ◌<◌, ◌≤◌, List, [], ◌∷◌, length, refl, sym, ap, subst, ◌∙◌, arith, Option, Some, None}
use mathlib.Core.Logic.{inl, inr}
use Rattle.std.specs.Prelude.{◌⊎◌}
use Rattle.cache.specs.declared.slot.Slot.{Slot}
use Rattle.cache.specs.declared.state.State.TheVariants.{Clean, Dirty}
use Rattle.cache.specs.Edits.{IsAt, AllClean, IssuesNext, BeginsNext, NoneDirtyFrom}
use Rattle.cache.specs.Calls.{AbstractCache, held_by, IsFrameOf, IsLive, IsRefusing}
use Rattle.cache.specs.declared.frame.Frame.{Frame}
use Rattle.cache.proofs.Held.{has_one}
use Rattle.cache.specs.declared.cache.Cache.{Cache}
use Rattle.cache.specs.Order.{IsDue}
use Rattle.flusher.specs.Flushing.{WritesFrom, WritesNext, MakesWay}

-- so many are begun so far
pub record Begins (count from : ℕ) (old new : ℕ → Option Slot) : Type 0 where
  pub blocks : List ℕ
  pub count_is : length blocks ≡ count
  pub writes : WritesFrom from blocks old new

pub begins_none : (from : ℕ) (old : ℕ → Option Slot) → Begins 0 from old old
begins_none from old = record { blocks = []; count_is = refl; writes = refl }

pub begins_more : (count from b : ℕ) (o : Option ℕ) (old mid new : ℕ → Option Slot) → Begins count from old mid → o ≡ Some b → BeginsNext from o mid new
    → Begins (count + 1) from old new
begins_more count from b o old mid new h is next = record {
  blocks = b ∷ h.blocks;
  count_is = omega (arith, h.count_is);
  writes = (mid, h.writes, subst (λ (y : Option ℕ). BeginsNext from y mid new) is next);
}

-- it is of a dirty frame
pub next_dirty : (from b : ℕ) (o : Option ℕ) (mid new : ℕ → Option Slot) → o ≡ Some b → BeginsNext from o mid new → AllClean mid → ⊥
next_dirty from b o mid new is next clean =
    let x : IssuesNext from b mid new = subst (λ (y : Option ℕ). BeginsNext from y mid new) is next in
    let e : Clean ≡ Dirty = sym (clean b x.slot x.is) ∙ x.dirty in
    cc

-- no further one is
pub begins_stopped : (most count from : ℕ) (o : Option ℕ) (old mid : ℕ → Option Slot) (new : AbstractCache) → count < most → Begins count from old mid → o ≡ None
    → BeginsNext from o mid new.held → (IsLive new → NoneDirtyFrom from new.held ⊎ IsRefusing new) → WritesNext most from old new
begins_stopped most count from o old mid new lt h is next why = record {
  blocks = h.blocks;
  few = omega (arith, h.count_is, lt);
  writes = subst (λ (y : ℕ → Option Slot). WritesFrom from h.blocks old y) (sym same) h.writes;
  stopped = λ fewer live. why live;
}
  where
    same : new.held ≡ mid
    same = subst (λ (y : Option ℕ). BeginsNext from y mid new.held) is next

-- as many as may be
pub begins_all : (most count from : ℕ) (old : ℕ → Option Slot) (new : AbstractCache) → count ≡ most → Begins count from old new.held → WritesNext most from old new
begins_all most count from old new all h = record {
  blocks = h.blocks;
  few = omega (arith, h.count_is, all);
  writes = h.writes;
  stopped = λ fewer live. absurd (omega (arith, h.count_is, all, fewer));
}

-- way is made
pub way_begun : {L : Type 0} (block from : ℕ) (o : Option ℕ) (old new : Cache L) (after : AbstractCache)
    → IsDue o old.slots.items.items old.slots.uses.numbers.items → o ≡ Some from → held_by old block ≡ None → WritesNext 16 from (held_by old) after
    → MakesWay block old new after
way_begun block from o old new after due is free w = record {
  due = o;
  is = due;
  begins = λ f same none.
      let e : Some from ≡ Some f = sym is ∙ same in
      let one : from ≡ f = cc in
      subst (λ (y : ℕ). WritesNext 16 y (held_by old) after) one w;
  none = λ e. let z : None ≡ Some from = sym e ∙ is in absurd (let q : ⊥ = cc in q);
  there = λ s e. let z : None ≡ Some s = sym free ∙ e in absurd (let q : ⊥ = cc in q);
}

-- no frame has to be written
pub way_free : {L : Type 0} (block : ℕ) (o : Option ℕ) (c : Cache L) (after : AbstractCache) → IsDue o c.slots.items.items c.slots.uses.numbers.items → o ≡ None
    → MakesWay block c c after
way_free block o c after due is = record {
  due = o;
  is = due;
  begins = λ f same none. let z : None ≡ Some f = sym is ∙ same in absurd (let q : ⊥ = cc in q);
  none = λ e. refl;
  there = λ s e. refl;
}

-- a block that is found has a frame
pub frame_held : {L : Type 0} (c : Cache L) (f : Frame) (block : ℕ) → IsFrameOf c (Some f) block → held_by c block ≡ None → ⊥
frame_held c f block found none =
    has_one c.slots.items.items f.at block (subst (λ (n : ℕ). IsAt c.slots.items.items f.at n) found.0 found.1) none

-- the block has a frame
pub way_there : {L : Type 0} (block : ℕ) (o : Option ℕ) (c : Cache L) (after : AbstractCache) → IsDue o c.slots.items.items c.slots.uses.numbers.items
    → (held_by c block ≡ None → ⊥) → MakesWay block c c after
way_there block o c after due held = record {
  due = o;
  is = due;
  begins = λ f same none. absurd (held none);
  none = λ e. refl;
  there = λ s e. refl;
}
