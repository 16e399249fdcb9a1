-- Which slot goes: the one whose eviction rank is lowest; and the keys of places after one slot is changed.
use Rattle.std.proofs.Common.{◌≡◌, ℕ, ◌+◌, ◌^◌, ◌<◌, ◌≤◌, List, length, set, get_or, length-set, refl, sym, ap, subst, ◌∙◌, arith}
use Rattle.std.proofs.Common.{Bool, true, false, Option, Some, None}
use mathlib.Core.Logic.{inl, inr, ◌⊎◌}
use Rattle.std.specs.Prelude.{slice_get, slice_index, is_some, not, ◌&&◌, if◌then◌else◌}
use Rattle.std.proofs.lemmas.Bool.{cases_eq, cond-true, cond-false}
use Rattle.cache.specs.declared.slot.Slot.{Slot}
use Rattle.cache.specs.declared.state.State.{State}
use Rattle.cache.specs.declared.state.State.TheVariants.{Clean, Dirty, Writing, Changed}
use Rattle.cache.specs.Slots.{held, is_clean, is_unclean_slot, IsDistinct}
use Rattle.cache.specs.Edits.{AllClean, SomeUnclean}
use Rattle.cache.specs.Uses.{AllBelow, OthersKeep}
use Rattle.cache.specs.Order.{Among, slot_key, key_of, IsNone, IsFirstOf, IsVictim, eviction_rank, IsRanked, IsRankedBut}
use Rattle.cache.specs.Order as among
use Rattle.cache.specs.Winners.{IsLowest, IsNoneLate, IsSomeLate}
use Rattle.cache.proofs.Held.{place_of, held_at, in_range, get_set_same, get_set_other}
use Rattle.cache.proofs.Settled.{get_some}
use Rattle.cache.proofs.Order.{set_same, set_other}

-- ---- what a slot holds

bool_cases : (b : Bool) → (b ≡ true) ⊎ (b ≡ false)
bool_cases true = inl refl
bool_cases false = inr refl

turn_free : (s : Slot) (n : ℕ) → is_some s.block ≡ false → eviction_rank s n ≡ n
turn_free s n h = cond-false (is_some s.block) (if is_clean s.state then 2 ^ 62 + n else 2 ^ 63 + n) n h

turn_held : (s : Slot) (n : ℕ) → is_some s.block ≡ true → eviction_rank s n ≡ (if is_clean s.state then 2 ^ 62 + n else 2 ^ 63 + n)
turn_held s n h = cond-true (is_some s.block) (if is_clean s.state then 2 ^ 62 + n else 2 ^ 63 + n) n h

turn_clean : (s : Slot) (n : ℕ) → is_some s.block ≡ true → is_clean s.state ≡ true → eviction_rank s n ≡ 2 ^ 62 + n
turn_clean s n h k = turn_held s n h ∙ cond-true (is_clean s.state) (2 ^ 62 + n) (2 ^ 63 + n) k

turn_unclean : (s : Slot) (n : ℕ) → is_some s.block ≡ true → is_clean s.state ≡ false → eviction_rank s n ≡ 2 ^ 63 + n
turn_unclean s n h k = turn_held s n h ∙ cond-false (is_clean s.state) (2 ^ 62 + n) (2 ^ 63 + n) k

-- a slot with a block has a later eviction rank than each without one
turn_late : (s : Slot) (n : ℕ) → is_some s.block ≡ true → 2 ^ 62 + n ≤ eviction_rank s n
turn_late s n h = elim (bool_cases (is_clean s.state)) [
  | inl k ↦ let e = turn_clean s n h k in omega (arith, e)
  | inr k ↦ let e = turn_unclean s n h k in omega (arith, e)
]

key_free : (s : Slot) (n : ℕ) → is_some s.block ≡ false → slot_key among.Free (Some s) n ≡ Some n
key_free s n h = cond-false (is_some s.block) None (Some n) h

key_held : (s : Slot) (n : ℕ) → is_some s.block ≡ true → slot_key among.Free (Some s) n ≡ None
key_held s n h = cond-true (is_some s.block) None (Some n) h

unclean_is : (s : Slot) → is_some s.block ≡ true → is_unclean_slot s ≡ not (is_clean s.state)
unclean_is s h = ap (λ (b : Bool). b && not (is_clean s.state)) h

key_clean : (s : Slot) (n : ℕ) → is_some s.block ≡ true → is_clean s.state ≡ true → slot_key among.Clean (Some s) n ≡ Some n
key_clean s n h k = cond-false (is_unclean_slot s) None (Some n) (unclean_is s h ∙ ap not k)

key_unclean : (s : Slot) (n : ℕ) → is_some s.block ≡ true → is_clean s.state ≡ false → slot_key among.Clean (Some s) n ≡ None
key_unclean s n h k = cond-true (is_unclean_slot s) None (Some n) (unclean_is s h ∙ ap not k)

-- a key is the number
same_key : (n m : ℕ) (o : Option ℕ) → o ≡ Some n → o ≡ Some m → n ≡ m
same_key n m o e f = let z : Some n ≡ Some m = sym e ∙ f in cc

no_key : {X : Type 0} (m : ℕ) (o : Option ℕ) → o ≡ None → o ≡ Some m → X
no_key m o e f = let z : None ≡ Some m = sym e ∙ f in absurd (let q : ⊥ = cc in q)

-- ---- the slot that goes

pub victim_goes : (items : List Slot) (numbers keys : List ℕ) (at : ℕ) → IsRanked items numbers keys → AllBelow numbers (2 ^ 62)
    → length numbers ≡ length items → IsLowest keys at → IsVictim items numbers at
victim_goes items numbers keys at r below all low = elim (bool_cases (is_some here.0.block)) [
  | inr free ↦ record {
    chosen = inl (least among.Free (key_free here.0 (num at) free) (λ i t lt is other e. elim (bool_cases (is_some t.block)) [
      | inl held ↦ no_key other _ (key_held t (num i) held) e
      | inr none ↦
          let same = same_key (num i) other _ (key_free t (num i) none) e in
          let x = turn_free here.0 (num at) free in
          let y = turn_free t (num i) none in
          let z = before i t lt is in
          omega (arith, same, x, y, z)
    ]));
  }
  | inl held ↦ elim (bool_cases (is_clean here.0.state)) [
    | inl clean ↦ record {
      chosen = inr (
        none_free held,
        inl (least among.Clean (key_clean here.0 (num at) held clean)
            (λ i t lt is other e. elim (bool_cases (is_clean t.state)) [
              | inl k ↦
                  let same = same_key (num i) other _ (key_clean t (num i) (all_held held i t lt is) k) e in
                  let x = turn_clean here.0 (num at) held clean in
                  let y = turn_clean t (num i) (all_held held i t lt is) k in
                  let z = before i t lt is in
                  omega (arith, same, x, y, z)
              | inr k ↦ no_key other _ (key_unclean t (num i) (all_held held i t lt is) k) e
            ])),
      );
    }
    | inr unclean ↦ record {
      chosen = inr (
        none_free held,
        inr (
          none among.Clean (λ i t lt is. key_unclean t (num i) (all_held held i t lt is) (all_unclean held unclean i t lt is)),
          least among.All refl (λ i t lt is other e.
              let same = same_key (num i) other (Some (num i)) refl e in
              let x = turn_unclean here.0 (num at) held unclean in
              let y = turn_unclean t (num i) (all_held held i t lt is) (all_unclean held unclean i t lt is) in
              let z = before i t lt is in
              omega (arith, same, x, y, z)),
        ),
      );
    }
  ]
]
  where
    num : ℕ → ℕ
    num i = get_or numbers i 0

    at_in : at < length items
    at_in = let c = r.count in let h = low.in_range in omega arith

    here : (s : Slot) × (slice_get items at ≡ Some s)
    here = get_some items at at_in

    -- its eviction rank isn't after that of any other
    before : (i : ℕ) (t : Slot) → i < length items → slice_get items i ≡ Some t → eviction_rank here.0 (num at) ≤ eviction_rank t (num i)
    before i t lt is =
        let h = low.least i (let c = r.count in omega arith) in
        let x = r.each at here.0 here.1 in
        let y = r.each i t is in
        omega (arith, h, x, y)

    all_held : is_some here.0.block ≡ true → (i : ℕ) (t : Slot) → i < length items → slice_get items i ≡ Some t → is_some t.block ≡ true
    all_held held i t lt is = elim (bool_cases (is_some t.block)) [
      | inl h ↦ h
      | inr free ↦
          let x = turn_late here.0 (num at) held in
          let y = turn_free t (num i) free in
          let z = before i t lt is in
          let b : num i < 2 ^ 62 = below.each i (let a = all in omega arith) in
          absurd (let q : ⊥ = omega (arith, x, y, z, b) in q)
    ]

    all_unclean : is_some here.0.block ≡ true → is_clean here.0.state ≡ false → (i : ℕ) (t : Slot) → i < length items
        → slice_get items i ≡ Some t → is_clean t.state ≡ false
    all_unclean held unclean i t lt is = elim (bool_cases (is_clean t.state)) [
      | inr k ↦ k
      | inl k ↦
          let x = turn_unclean here.0 (num at) held unclean in
          let y = turn_clean t (num i) (all_held held i t lt is) k in
          let z = before i t lt is in
          let b : num i < 2 ^ 62 = below.each i (let a = all in omega arith) in
          absurd (let q : ⊥ = omega (arith, x, y, z, b) in q)
    ]

    none : (a : Among) → ((i : ℕ) (t : Slot) → i < length items → slice_get items i ≡ Some t → slot_key a (Some t) (num i) ≡ None)
        → IsNone a items numbers
    none a h = λ i lt.
        let t = get_some items i lt in
        ap (λ (o : Option Slot). slot_key a o (num i)) t.1 ∙ h i t.0 lt t.1

    none_free : is_some here.0.block ≡ true → IsNone among.Free items numbers
    none_free held = none among.Free (λ i t lt is. key_held t (num i) (all_held held i t lt is))

    least : (a : Among) → slot_key a (Some here.0) (num at) ≡ Some (num at)
        → ((i : ℕ) (t : Slot) → i < length items → slice_get items i ≡ Some t → (other : ℕ) → slot_key a (Some t) (num i) ≡ Some other
        → num at ≤ other)
        → IsFirstOf a items numbers at
    least a key h = record {
      key = num at;
      in_range = at_in;
      is = ap (λ (o : Option Slot). slot_key a o (num at)) here.1 ∙ key;
      least = λ i other lt e.
          let t = get_some items i lt in
          h i t.0 lt t.1 other (sym (ap (λ (o : Option Slot). slot_key a o (num i)) t.1) ∙ e);
    }

-- ---- unclean slots

-- where no key is late each slot with a block is clean
pub all_clean : (items : List Slot) (numbers keys : List ℕ) → IsRanked items numbers keys → IsNoneLate keys → AllClean (held items)
all_clean items numbers keys r none b s holds =
    let p = place_of items b s holds in
    let lt : p.index < length keys = (let c = r.count in let h = in_range items p.index s p.is in omega arith) in
    let early = none.early p.index lt in
    let is = r.each p.index s p.is in
    let some : is_some s.block ≡ true = ap (λ (o : Option ℕ). is_some o) p.block in
    elim (bool_cases (is_clean s.state)) [
      | inl clean ↦ state_clean s.state clean
      | inr unclean ↦
          let late = turn_unclean s (get_or numbers p.index 0) some unclean in
          absurd (let q : ⊥ = omega (arith, early, is, late) in q)
    ]
  where
    state_clean : (x : State) → is_clean x ≡ true → x ≡ Clean
    state_clean Clean e = refl
    state_clean Dirty e = cc
    state_clean (Writing t) e = cc
    state_clean (Changed t) e = cc

-- where one is, some slot with a block isn't
pub some_unclean : (items : List Slot) (numbers keys : List ℕ) → IsDistinct items → IsRanked items numbers keys → AllBelow numbers (2 ^ 62)
    → length numbers ≡ length items → IsSomeLate keys → SomeUnclean (held items)
some_unclean items numbers keys d r below all l =
    let at_in : l.at < length items = (let c = r.count in let h = l.in_range in omega arith) in
    let s = get_some items l.at at_in in
    let n : ℕ = get_or numbers l.at 0 in
    let low : get_or numbers l.at 0 < 2 ^ 62 = below.each l.at (omega arith) in
    let is = r.each l.at s.0 s.1 in
    let late = l.late in
    elim (bool_cases (is_some s.0.block)) [
      | inr free ↦
          let e = turn_free s.0 (get_or numbers l.at 0) free in
          absurd (let q : ⊥ = omega (arith, low, is, late, e) in q)
      | inl some ↦ elim (bool_cases (is_clean s.0.state)) [
        | inl clean ↦
            let e = turn_clean s.0 (get_or numbers l.at 0) some clean in
            absurd (let q : ⊥ = omega (arith, low, is, late, e) in q)
        | inr unclean ↦ found s.0 s.0.block refl some s.1 unclean
      ]
    ]
  where
    found : (s : Slot) (o : Option ℕ) → s.block ≡ o → is_some o ≡ true → slice_get items l.at ≡ Some s → is_clean s.state ≡ false
        → SomeUnclean (held items)
    found s None e some is unclean = cc
    found s (Some b) e some is unclean = record { block = b; slot = s; is = held_at items l.at b s d is e; unclean = unclean }

-- ---- the keys

-- one slot is changed: the other keys stay their turns
pub but_set : (items : List Slot) (numbers keys : List ℕ) (at : ℕ) (t : Slot) → IsRanked items numbers keys
    → IsRankedBut at (set items at t) numbers keys
but_set items numbers keys at t r = record {
  count = r.count ∙ sym (length-set items at t);
  each = λ i s ne is. r.each i s (sym (get_set_other items at i t ne) ∙ is);
}

-- one slot is used
pub but_used : (items : List Slot) (old new keys : List ℕ) (at : ℕ) → OthersKeep old new at → IsRankedBut at items old keys
    → IsRankedBut at items new keys
but_used items old new keys at o r = record {
  count = r.count;
  each = λ i s ne is. r.each i s ne is ∙ ap (eviction_rank s) (sym (o.each i ne));
}

-- its key becomes its eviction rank
pub rank_set : (items : List Slot) (numbers keys new : List ℕ) (at key n : ℕ) (s : Slot) → IsRankedBut at items numbers keys
    → slice_get items at ≡ Some s → get_or numbers at 0 ≡ n → key ≡ eviction_rank s n → new ≡ set keys at key → IsRanked items numbers new
rank_set items numbers keys new at key n s r is number turn_is all = subst (λ (l : List ℕ). IsRanked items numbers l) (sym all) (record {
  count = length-set keys at key ∙ r.count;
  each = λ i t it. elim (cases_eq i at) [
    | inl e ↦
        let two : Some s ≡ Some t = sym is ∙ ap (slice_get items) (sym e) ∙ it in
        let one : s ≡ t = cc in
        let lt : at < length keys = (let c = r.count in let h = in_range items at s is in omega arith) in
        ap (λ (k : ℕ). get_or (set keys at key) k 0) e ∙ set_same keys at key lt ∙ turn_is ∙ ap (eviction_rank s) (sym number)
        ∙ ap (λ (k : ℕ). eviction_rank s (get_or numbers k 0)) (sym e) ∙ ap (λ (y : Slot). eviction_rank y (get_or numbers i 0)) one
    | inr ne ↦ set_other keys at i key ne ∙ r.each i t ne it
  ];
})

-- the changed slot's key becomes its eviction rank
pub rank_changed : (items : List Slot) (numbers keys new : List ℕ) (at key n : ℕ) (s t : Slot) → IsRanked items numbers keys
    → slice_get items at ≡ Some s → get_or numbers at 0 ≡ n → key ≡ eviction_rank t n → new ≡ set keys at key → IsRanked (set items at t) numbers new
rank_changed items numbers keys new at key n s t r is number turn_is all =
    rank_set (set items at t) numbers keys new at key n t (but_set items numbers keys at t r) (get_set_same items at s t is) number turn_is all

-- ---- all keys

-- those below n are the turns of their slots
pub record IsRankedTo (n : ℕ) (items : List Slot) (numbers keys : List ℕ) : Type 0 where
  pub count : length keys ≡ length items
  pub each : (i : ℕ) (s : Slot) → i < n → slice_get items i ≡ Some s → slice_index keys i ≡ eviction_rank s (slice_index numbers i)

-- ---- the number of a place

pub numbers_in : (numbers : List ℕ) (next : ℕ) → AllBelow numbers next → next ≤ 2 ^ 62 → AllBelow numbers (2 ^ 62)
numbers_in numbers next below le = record { each = λ i lt. let h = below.each i lt in omega (arith, h, le) }
