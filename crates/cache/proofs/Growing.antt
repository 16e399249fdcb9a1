-- More slots stand behind those that there were.
use Rattle.std.proofs.Common.{◌≡◌, ℕ, zero, suc, ◌+◌, ◌<◌, ◌++◌, List, [], ◌∷◌, length, refl, sym, ap, subst, ◌∙◌, arith, Bool, cond, Option, Some, None, Result, Ok, Err}
use mathlib.Core.Logic.{inl, inr, ◌⊎◌}
use Rattle.std.specs.Prelude.{slice_get, is_some, is_ok, OnOk}
use Rattle.std.specs.Bool.{OnTrue}
use Rattle.std.specs.declared.alloc.AllocError.{AllocError}
use Rattle.cache.specs.declared.slot.Slot.{Slot}
use Rattle.cache.specs.declared.table.Slots.{Slots}
use Rattle.cache.specs.declared.state.State.TheVariants.{Clean}
use Rattle.cache.specs.Slots.{is_number, held, AllFree, IsDistinct}
use Rattle.cache.specs.declared.uses.Uses.{Uses}
use Rattle.cache.specs.Uses.{IsLonger}
use Rattle.cache.specs.Index.{held_count}
use Rattle.cache.specs.Order.{Free, IsNone, slot_key}
use Rattle.cache.specs.Edits.{IsAt, OthersStay}
use Rattle.cache.specs.Growing.{IsGrown}
use Rattle.cache.specs.Calls.{AbstractCache, caching_of}
use Rattle.cache.specs.declared.shape.Shape.{Shape}
use Rattle.reissue.specs.declared.link.Link.{Ghosts as LinkWords}
use Rattle.reissue.specs.declared.transfers.Transfers.{Transfers}
use Rattle.cache.proofs.Making.{free_none, free_held}

-- a slot stays where it stands
pub stays_grown : (xs ys : List Slot) (i : ℕ) (s : Slot) → slice_get xs i ≡ Some s → slice_get (xs ++ ys) i ≡ Some s
stays_grown [] ys i s e = absurd (let q : ⊥ = cc in q)
stays_grown (x ∷ xs) ys zero s e = e
stays_grown (x ∷ xs) ys (suc i) s e = stays_grown xs ys i s e

-- each slot is one that there was, or a free one
pub grown_cases : (xs ys : List Slot) (i : ℕ) (s : Slot) → AllFree ys → slice_get (xs ++ ys) i ≡ Some s
    → (slice_get xs i ≡ Some s) ⊎ ((s.block ≡ None) × (s.state ≡ Clean))
grown_cases [] ys i s f e = inr (f.each i s e, f.clean i s e)
grown_cases (x ∷ xs) ys zero s f e = inl e
grown_cases (x ∷ xs) ys (suc i) s f e = grown_cases xs ys i s f e

-- a slot that holds a block is one that there was
pub grown_holds : (xs ys : List Slot) (i b : ℕ) (s : Slot) → AllFree ys → slice_get (xs ++ ys) i ≡ Some s → s.block ≡ Some b → slice_get xs i ≡ Some s
grown_holds xs ys i b s f e block = elim (grown_cases xs ys i s f e) [
  | inl p ↦ p
  | inr p ↦ let z : None ≡ Some b = sym p.0 ∙ block in absurd (let q : ⊥ = cc in q)
]

-- each block has the slot that it had
held_behind : (xs ys : List Slot) (b : ℕ) → AllFree ys → held (xs ++ ys) b ≡ held xs b
held_behind [] ys b f = free_held ys b f
held_behind (x ∷ xs) ys b f = ap (λ (o : Option Slot). cond (is_number x.block b) (Some x) o) (held_behind xs ys b f)

pub held_more : (xs ys : List Slot) → AllFree ys → held (xs ++ ys) ≡ held xs
held_more xs ys f = λ i b. held_behind xs ys b f i

-- no block has two slots
pub distinct_more : (xs ys : List Slot) → AllFree ys → IsDistinct xs → IsDistinct (xs ++ ys)
distinct_more xs ys f d = record {
  same = λ i j b s t hs ht bs bt. d.same i j b s t (grown_holds xs ys i b s f hs bs) (grown_holds xs ys j b t f ht bt) bs bt;
}

-- as many slots hold a block
pub count_more : (xs ys : List Slot) → AllFree ys → held_count (xs ++ ys) ≡ held_count xs
count_more [] ys f = none ys f.each
  where
    none : (zs : List Slot) → ((i : ℕ) (s : Slot) → slice_get zs i ≡ Some s → s.block ≡ None) → held_count zs ≡ 0
    none [] g = refl
    none (z ∷ zs) g =
        ap (λ (o : Option ℕ). cond (is_some o) (held_count zs + 1) (held_count zs)) (g 0 z refl) ∙ none zs (λ i s h. g (suc i) s h)
count_more (x ∷ xs) ys f = ap (λ (n : ℕ). cond (is_some x.block) (n + 1) n) (count_more xs ys f)

-- the first of them is free, if there is one
first_more : (xs ys : List Slot) → length xs < length (xs ++ ys) → AllFree ys
    → (s : Slot) × (slice_get (xs ++ ys) (length xs) ≡ Some s) × (s.block ≡ None)
first_more [] [] lt f = absurd (omega (arith, lt))
first_more [] (y ∷ ys) lt f = (y, refl, f.each 0 y refl)
first_more (x ∷ xs) ys lt f = first_more xs ys (omega (arith, lt)) f

-- a free slot is among those
free_among : (o : Option Slot) (s : Slot) (n : ℕ) → o ≡ Some s → s.block ≡ None → slot_key Free o n ≡ None → ⊥
free_among o s n is free none =
    let k : cond (is_some s.block) None (Some n) ≡ None = ap (λ (x : Option Slot). slot_key Free x n) (sym is) ∙ none in
    let z : Some n ≡ None = sym (ap (λ (b : Option ℕ). cond (is_some b) None (Some n)) free) ∙ k in
    cc

-- ---- after more were made

nothing_behind : (xs : List Slot) → xs ++ [] ≡ xs
nothing_behind [] = refl
nothing_behind (x ∷ xs) = ap (λ (l : List Slot). x ∷ l) (nothing_behind xs)

-- none were
pub grown_same : (old new : Slots) → new.items.items ≡ old.items.items → new.uses ≡ old.uses → IsGrown old new
grown_same old new items uses = record {
  added = [];
  items = items ∙ sym (nothing_behind old.items.items);
  free = free_none;
  uses = subst (λ (u : Uses). IsLonger u.numbers.items new.uses.numbers.items (length new.items.items)) uses (record {
    count_is = new.paired;
    kept = λ i lt. refl;
    unused = λ i ge lt. absurd (let n = new.paired in let q : ⊥ = omega (arith, ge, lt, n) in q);
  });
  limit = ap (λ (u : Uses). u.limit) uses;
  wanted = λ some. absurd (some refl);
}

-- where some were, one is free
pub more_free : (b : Bool) (r : Result (Unit {0}) AllocError) (old new : Slots) → b ≡ is_ok r → IsGrown old new
    → OnOk r (length old.items.items < length new.items.items)
    → OnTrue b (IsNone Free new.items.items new.uses.numbers.items → length new.items.items ≡ new.uses.limit)
more_free b r old new is g longer = subst (λ (x : Bool). OnTrue x Full) (sym is) (by r longer)
  where
    Full : Type 0
    Full = IsNone Free new.items.items new.uses.numbers.items → length new.items.items ≡ new.uses.limit

    by : (x : Result (Unit {0}) AllocError) → OnOk x (length old.items.items < length new.items.items) → OnTrue (is_ok x) Full
    by (Err e) h = tt
    by (Ok u) h = λ none.
        let n = length old.items.items in
        let one = first_more old.items.items g.added (subst (λ (l : List Slot). n < length l) g.items h) g.free in
        absurd (free_among (slice_get new.items.items n) one.0 _ (ap (λ (l : List Slot). slice_get l n) g.items ∙ one.1) one.2 (none n h))

pub grown_held : (old new : Slots) → IsGrown old new → held new.items.items ≡ held old.items.items
grown_held old new g = ap held g.items ∙ held_more old.items.items g.added g.free

pub grown_at : (old new : Slots) (i b : ℕ) → IsGrown old new → IsAt old.items.items i b → IsAt new.items.items i b
grown_at old new i b g h = record {
  slot = h.slot;
  is = ap (λ (l : List Slot). slice_get l i) g.items ∙ stays_grown old.items.items g.added i h.slot h.is;
  block_is = h.block_is;
}

pub grown_others : (at : ℕ) (before : List Slot) (old new : Slots) → IsGrown old new → OthersStay at before old.items.items
    → OthersStay at before new.items.items
grown_others at before old new g h = λ i s ne is.
    let k = h i s ne is in
    record {
      slot = k.slot;
      is = ap (λ (l : List Slot). slice_get l i) g.items ∙ stays_grown old.items.items g.added i k.slot k.is;
      kept = k.kept;
    }

-- what is said of a cache stays so
pub grown_so : {L : Type 0} (words : LinkWords L) (transfers : Transfers L) (shape : Shape) (ended : Bool) (old new : Slots) → IsGrown old new
    → (P : AbstractCache → Type 0) → P (caching_of words transfers shape old.items.items ended) → P (caching_of words transfers shape new.items.items ended)
grown_so words transfers shape ended old new g P h = subst P (sym same) h
  where
    same : caching_of words transfers shape new.items.items ended ≡ caching_of words transfers shape old.items.items ended
    same = ap (λ (f : ℕ → Option Slot). record (caching_of words transfers shape old.items.items ended) { held = f }) (grown_held old new g)
