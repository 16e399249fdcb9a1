-- Which dirty slot has the lowest block.
use Rattle.std.proofs.Common.{◌≡◌, ℕ, ◌+◌, ◌<◌, ◌≤◌, ◌++◌, List, length, set, refl, sym, ap, ◌∙◌, arith, true, false, cond, Option, Some, None}
use mathlib.Core.Logic.{inl, inr}
use Rattle.std.specs.Prelude.{slice_get, min}
use Rattle.std.specs.Option.{unwrap_or}
use Rattle.std.proofs.lemmas.Bool.{cases_eq, cases_lt}
use Rattle.std.proofs.lemmas.Option.{slice_get_within}
use Rattle.cache.specs.declared.slot.Slot.{Slot}
use Rattle.cache.specs.declared.index.Entry.{Entry}
use Rattle.cache.specs.declared.state.State.{State}
use Rattle.cache.specs.declared.state.State.TheVariants.{Clean, Dirty, Writing, Changed}
use Rattle.cache.specs.Slots.{held, is_clean, is_dirty, dirtied, IsDistinct}
use Rattle.cache.specs.Slots.{dirty_block, clean_block, lower_of, AllFree, NoneDirtyBelow}
use Rattle.cache.specs.Index.{place_there, IsRising, IsIndexOf, IsStartOf}
use Rattle.cache.specs.Edits.{IsLowestDirty, IsLowestOf, IsLowestBlock, NoneDirty, NoneDirtyFrom, IsNextDirty, IsNextOf}
use Rattle.cache.proofs.Edits.{one_slot}
use Rattle.cache.proofs.Held.{place_of, held_at, in_range, get_set_same, get_set_other}
use Rattle.cache.proofs.Entries.{entry_of, entry_there}
use Rattle.cache.proofs.Indexed.{at_of, slot_by}
use Rattle.cache.proofs.Growing.{grown_holds}

-- ---- the dirty slots

-- a dirty slot, by its state and its block
dirty_parts : (s : Slot) (b : ℕ) → dirty_block s ≡ Some b → (s.state ≡ Dirty) × (s.block ≡ Some b)
dirty_parts s b h = by s.state refl h
  where
    by : (x : State) → s.state ≡ x → cond (is_dirty x) s.block None ≡ Some b → (s.state ≡ Dirty) × (s.block ≡ Some b)
    by Clean e h = cc
    by Dirty e h = (e, h)
    by (Writing t) e h = cc
    by (Changed t) e h = cc

has_dirty_block : (s : Slot) (b : ℕ) → s.state ≡ Dirty → s.block ≡ Some b → dirty_block s ≡ Some b
has_dirty_block s b st block = ap (λ (x : State). cond (is_dirty x) s.block None) st ∙ block

-- ---- no dirty slot has a block below this one

-- the slots as they are made
pub none_below_free : (items : List Slot) (from : ℕ) → AllFree items → NoneDirtyBelow items from
none_below_free items from f = record {
  each = λ i s b is dirty. let z : None ≡ Some b = sym (f.each i s is) ∙ (dirty_parts s b dirty).1 in absurd (let q : ⊥ = cc in q);
}

-- more slots stand behind those that there were
pub none_below_more : (xs ys : List Slot) (from : ℕ) → AllFree ys → NoneDirtyBelow xs from → NoneDirtyBelow (xs ++ ys) from
none_below_more xs ys from f h = record {
  each = λ i s b is dirty. h.each i s b (grown_holds xs ys i b s f is (dirty_parts s b dirty).1) dirty;
}

-- one slot is changed, and the search begins at its block at most
none_below_set : (items : List Slot) (i from from' : ℕ) (s t : Slot) → slice_get items i ≡ Some s → from' ≤ from
    → ((b : ℕ) → dirty_block t ≡ Some b → from' ≤ b) → NoneDirtyBelow items from → NoneDirtyBelow (set items i t) from'
none_below_set items i from from' s t is less this h = record {
  each = λ j u b ju dirty. elim (cases_eq j i) [
    | inl same ↦
        let z : Some t ≡ Some u = sym (get_set_same items i s t is) ∙ ap (slice_get (set items i t)) (sym same) ∙ ju in
        let one : t ≡ u = cc in
        this b (ap dirty_block one ∙ dirty)
    | inr ne ↦ let le = h.each j u b (sym (get_set_other items i j t ne) ∙ ju) dirty in omega (arith, le, less)
  ];
}

lower_less : (from from' : ℕ) (o : Option ℕ) → from' ≡ lower_of from o → from' ≤ from
lower_less from from' None e = omega (arith, e)
lower_less from from' (Some b) e = omega (arith, e)

-- it may be dirty now
pub none_below_lowered : (items : List Slot) (i from from' : ℕ) (s t : Slot) → slice_get items i ≡ Some s
    → from' ≡ lower_of from (dirty_block t) → NoneDirtyBelow items from → NoneDirtyBelow (set items i t) from'
none_below_lowered items i from from' s t is e h =
    none_below_set items i from from' s t is (lower_less from from' (dirty_block t) e) (λ b dirty. this b (e ∙ ap (lower_of from) dirty)) h
  where
    this : (b : ℕ) → from' ≡ min from b → from' ≤ b
    this b e = omega (arith, e)

-- its bytes are changed
pub none_below_changed : (items : List Slot) (i from from' : ℕ) (s t : Slot) → slice_get items i ≡ Some s
    → from' ≡ lower_of from (clean_block s) → t.block ≡ s.block → t.state ≡ dirtied s.state → NoneDirtyBelow items from
    → NoneDirtyBelow (set items i t) from'
none_below_changed items i from from' s t is e block st h =
    none_below_set items i from from' s t is (lower_less from from' (clean_block s) e)
    (λ b dirty. let p = dirty_parts t b dirty in this b s.state refl (sym st ∙ p.0) (sym block ∙ p.1)) h
  where
    this : (b : ℕ) (x : State) → s.state ≡ x → dirtied s.state ≡ Dirty → s.block ≡ Some b → from' ≤ b
    this b Clean k d held =
        let low : from' ≡ min from b = e ∙ ap (λ (x : State). lower_of from (cond (is_clean x) s.block None)) k ∙ ap (lower_of from) held in
        omega (arith, low)
    this b Dirty k d held =
        let same : from' ≡ from = e ∙ ap (λ (x : State). lower_of from (cond (is_clean x) s.block None)) k in
        let le = h.each i s b is (has_dirty_block s b k held) in
        omega (arith, same, le)
    this b (Writing t) k d held = let z : Changed t ≡ Dirty = ap dirtied (sym k) ∙ d in cc
    this b (Changed t) k d held = let z : Changed t ≡ Dirty = ap dirtied (sym k) ∙ d in cc

-- it holds no block any more
pub none_below_vacated : (items : List Slot) (i from : ℕ) (s t : Slot) → slice_get items i ≡ Some s → t.block ≡ None
    → NoneDirtyBelow items from → NoneDirtyBelow (set items i t) from
none_below_vacated items i from s t is none h =
    none_below_set items i from from s t is (omega arith)
    (λ b dirty. let z : None ≡ Some b = sym none ∙ (dirty_parts t b dirty).1 in absurd (let q : ⊥ = cc in q)) h

-- the search begins at the lowest block with a dirty slot, or anywhere where there is none
pub none_below_lowest : (items : List Slot) (o : Option ℕ) (from other : ℕ) → IsDistinct items → IsLowestBlock o (held items)
    → from ≡ unwrap_or o other → NoneDirtyBelow items from
none_below_lowest items None from other d h e = record {
  each = λ i s b is dirty.
      let p = dirty_parts s b dirty in
      let no = h b s (held_at items i b s d is p.1) in
      let yes = ap is_dirty p.0 in
      absurd (let q : ⊥ = cc in q);
}
none_below_lowest items (Some block) from other d h e = record {
  each = λ i s b is dirty.
      let p = dirty_parts s b dirty in
      let le = h.1 b s (held_at items i b s d is p.1) p.0 in
      omega (arith, e, le);
}

-- ---- the search for a dirty slot

-- no slot of the entries below n is dirty, of those whose blocks aren't below this one, and no block of the others is
pub record Searched (entries : List Entry) (items : List Slot) (from n : ℕ) : Type 0 where
  pub each : (j b : ℕ) (e : Entry) (s : Slot) → j < n → from ≤ b → slice_get entries j ≡ Some e → slice_get items e.place ≡ Some s
      → dirty_block s ≡ Some b → ⊥
  pub reach : (j : ℕ) (e : Entry) → n ≤ j → slice_get entries j ≡ Some e → from ≤ e.block

-- where the search begins
pub searched_start : (entries : List Entry) (items : List Slot) (at from : ℕ) → IsIndexOf entries items → IsRising entries
    → IsStartOf entries at from → Searched entries items from at
searched_start entries items at from x rising start = record {
  each = λ j b e s lt high is here dirty.
      let it = slot_by entries items j e x rising is in
      let same = one_slot items e.place it.slot s it.is here in
      let block : Some b ≡ Some e.block = sym (dirty_parts s b dirty).1 ∙ ap (λ (y : Slot). y.block) (sym same) ∙ it.block_is in
      let its : b ≡ e.block = cc in
      let low = start.below j e lt is in
      omega (arith, its, low, high);
  reach = start.above;
}

-- one more entry, whose slot isn't dirty
pub searched_more : (entries : List Entry) (items : List Slot) (from n at : ℕ) (s : Slot) → place_there (slice_get entries n) ≡ Some at
    → slice_get items at ≡ Some s → is_dirty s.state ≡ false → Searched entries items from n → Searched entries items from (n + 1)
searched_more entries items from n at s place is not_so h = record {
  reach = λ j e le is. h.reach j e (omega (arith, le)) is;
  each = λ j b f t lt high jf there dirty. elim (cases_lt j n) [
    | inl less ↦ h.each j b f t less high jf there dirty
    | inr ge ↦
        let e = entry_there (slice_get entries n) at place in
        let last : n ≡ j = omega (arith, lt, ge) in
        let z : Some e.0 ≡ Some f = sym e.1 ∙ ap (slice_get entries) last ∙ jf in
        let one : e.0 ≡ f = cc in
        let here : at ≡ f.place = sym e.2 ∙ ap (λ (y : Entry). y.place) one in
        let same = one_slot items at s t is (ap (slice_get items) here ∙ there) in
        let no : is_dirty t.state ≡ false = ap (λ (y : Slot). is_dirty y.state) (sym same) ∙ not_so in
        let yes : is_dirty t.state ≡ true = ap is_dirty (dirty_parts t b dirty).0 in
        (let q : ⊥ = cc in q)
  ];
}

-- a dirty slot of an entry behind those that were searched has no lower block
not_below : (entries : List Entry) (items : List Slot) (from n : ℕ) (e : Entry) → IsIndexOf entries items → IsRising entries
    → slice_get entries n ≡ Some e → Searched entries items from n → (b : ℕ) (t : Slot) → from ≤ b → held items b ≡ Some t → t.state ≡ Dirty
    → e.block ≤ b
not_below entries items from n e x rising is h b t high holds st =
    let p = place_of items b t holds in
    let f = entry_of entries b p.index (at_of entries items x p.index b t p.is p.block) in
    let there : slice_get items f.1.place ≡ Some t = ap (slice_get items) f.4 ∙ p.is in
    elim (cases_lt f.0 n) [
      | inl less ↦ absurd (h.each f.0 b f.1 t less high f.2 there (has_dirty_block t b st p.block))
      | inr ge ↦ elim (cases_lt n f.0) [
        | inl behind ↦ let z = rising.apart n f.0 e f.1 behind is f.2 in omega (arith, z, f.3)
        | inr le ↦
            let same : n ≡ f.0 = omega (arith, ge, le) in
            let z : Some e ≡ Some f.1 = sym is ∙ ap (slice_get entries) same ∙ f.2 in
            let one : e ≡ f.1 = cc in
            let block : e.block ≡ b = ap (λ (y : Entry). y.block) one ∙ f.3 in
            omega (arith, block)
      ]
    ]

-- the slot of the entry that comes next
pub slot_there : (entries : List Entry) (items : List Slot) (n at : ℕ) → IsIndexOf entries items → IsRising entries
    → place_there (slice_get entries n) ≡ Some at → at < length items
slot_there entries items n at x rising place =
    let e = entry_there (slice_get entries n) at place in
    let it = slot_by entries items n e.0 x rising e.1 in
    in_range items at it.slot (ap (slice_get items) (sym e.2) ∙ it.is)

-- the first dirty slot that is found
pub next_found : (entries : List Entry) (items : List Slot) (from n at : ℕ) (s : Slot) → IsIndexOf entries items → IsRising entries
    → place_there (slice_get entries n) ≡ Some at → slice_get items at ≡ Some s → is_dirty s.state ≡ true → Searched entries items from n
    → IsNextDirty items from at
next_found entries items from n at s x rising place is dirty h =
    let e = entry_there (slice_get entries n) at place in
    let it = slot_by entries items n e.0 x rising e.1 in
    let same = one_slot items at it.slot s (ap (slice_get items) (sym e.2) ∙ it.is) is in
    record {
      slot = s;
      block = e.0.block;
      is = is;
      block_is = ap (λ (y : Slot). y.block) (sym same) ∙ it.block_is;
      dirty = is_one s.state dirty;
      reach = h.reach n e.0 (omega arith) e.1;
      lowest = not_below entries items from n e.0 x rising e.1 h;
    }
  where
    is_one : (x : State) → is_dirty x ≡ true → x ≡ Dirty
    is_one Clean e = cc
    is_one Dirty e = refl
    is_one (Writing t) e = cc
    is_one (Changed t) e = cc

-- none is found
pub none_found : (entries : List Entry) (items : List Slot) (from n : ℕ) → IsIndexOf entries items → length entries ≤ n
    → Searched entries items from n → NoneDirtyFrom from (held items)
none_found entries items from n x all h b s high holds = by s.state refl
  where
    by : (y : State) → s.state ≡ y → is_dirty s.state ≡ false
    by Clean e = ap is_dirty e
    by Dirty e =
        let p = place_of items b s holds in
        let f = entry_of entries b p.index (at_of entries items x p.index b s p.is p.block) in
        let lt = slice_get_within entries f.0 f.1 f.2 in
        absurd (h.each f.0 b f.1 s (omega (arith, lt, all)) high f.2 (ap (slice_get items) f.4 ∙ p.is) (has_dirty_block s b e p.block))
    by (Writing t) e = ap is_dirty e
    by (Changed t) e = ap is_dirty e

-- where none below is dirty, the next one is the lowest
pub lowest_of_next : (items : List Slot) (o : Option ℕ) (from : ℕ) → NoneDirtyBelow items from → IsNextOf o items from → IsLowestOf o items
lowest_of_next items o from none h = by o h
  where
    high : (b : ℕ) (s : Slot) → held items b ≡ Some s → s.state ≡ Dirty → from ≤ b
    high b s holds st = let p = place_of items b s holds in none.each p.index s b p.is (has_dirty_block s b st p.block)

    no : (b : ℕ) (s : Slot) → held items b ≡ Some s → NoneDirtyFrom from (held items) → (y : State) → s.state ≡ y → is_dirty s.state ≡ false
    no b s holds h Clean e = ap is_dirty e
    no b s holds h Dirty e = h b s (high b s holds e) holds
    no b s holds h (Writing t) e = ap is_dirty e
    no b s holds h (Changed t) e = ap is_dirty e

    by : (o : Option ℕ) → IsNextOf o items from → IsLowestOf o items
    by None h = λ b s holds. no b s holds h s.state refl
    by (Some at) h = record {
      slot = h.slot;
      block = h.block;
      is = h.is;
      block_is = h.block_is;
      dirty = h.dirty;
      lowest = λ b s holds st. h.lowest b s (high b s holds st) holds st;
    }
