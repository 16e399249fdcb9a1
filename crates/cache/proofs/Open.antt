-- Where the slots stand that have a write under way.
use Rattle.std.proofs.Common.{◌≡◌, ◌≢◌, ℕ, ◌+◌, ◌<◌, ◌≤◌, ◌++◌, List, length, set, refl, sym, ap, ◌∙◌, arith, cond, Option, Some, None}
use Rattle.std.proofs.lemmas.List.{length-append, length-set}
use mathlib.Core.Logic.{inl, inr}
use Rattle.std.specs.Prelude.{slice_get, min, max, is_some}
use Rattle.std.proofs.lemmas.Bool.{cond-false, cases_eq, cases_lt}
use Rattle.cache.specs.declared.slot.Slot.{Slot}
use Rattle.cache.specs.declared.state.State.{State}
use Rattle.cache.specs.declared.state.State.TheVariants.{Clean, Dirty, Writing, Changed}
use Rattle.cache.specs.Slots.{ticket_of, is_under, written, is_number, dirtied, AllFree, AreOpenWithin}
use Rattle.cache.specs.Edits.{IsSetAt, after_write}
use Rattle.cache.proofs.Edits.{one_slot}
use Rattle.cache.proofs.Held.{in_range, get_set_same, get_set_other}
use Rattle.cache.proofs.Settled.{Settling, AllSettled}
use Rattle.cache.proofs.Growing.{grown_cases}

-- ---- more slots stand behind those that there were

pub open_more : (xs ys : List Slot) (from to : ℕ) → AllFree ys → AreOpenWithin xs from to → AreOpenWithin (xs ++ ys) from to
open_more xs ys from to f h = record {
  bound = let n = length-append xs ys in let le = h.bound in omega (arith, n, le);
  each = λ i t s is open_is. elim (grown_cases xs ys i s f is) [
    | inl p ↦ h.each i t s p open_is
    | inr p ↦ let z : None ≡ Some t = sym (ap ticket_of p.1) ∙ open_is in absurd (let q : ⊥ = cc in q)
  ];
}

-- ---- one slot is changed

-- this place is within the range, if a write is under way there
abbrev InRange : ℕ → ℕ → ℕ → Option ℕ → Type 0
InRange i from to o = (k : ℕ) → o ≡ Some k → (from ≤ i) × (i < to)

-- a range that was widened
record IsWider (from to from' to' : ℕ) : Type 0 where
  pub low : from' ≤ from
  pub high : to ≤ to'

open_one : (items : List Slot) (i from to from' to' : ℕ) (s t : Slot) → slice_get items i ≡ Some s → IsWider from to from' to'
    → to' ≤ length items → InRange i from' to' (ticket_of t.state) → AreOpenWithin items from to → AreOpenWithin (set items i t) from' to'
open_one items i from to from' to' s t is wide bound this h = record {
  bound = let n = length-set items i t in omega (arith, n, bound);
  each = λ j k u ju within. elim (cases_eq j i) [
    | inl same ↦
        let one = one_slot (set items i t) i t u (get_set_same items i s t is) (sym (ap (slice_get (set items i t)) same) ∙ ju) in
        let z = this k (ap (λ (x : Slot). ticket_of x.state) one ∙ within) in
        (let low = z.0 in omega (arith, low, same), let high = z.1 in omega (arith, high, same))
    | inr ne ↦
        let z = h.each j k u (sym (get_set_other items i j t ne) ∙ ju) within in
        (let a = z.0 in let b = wide.low in omega (arith, a, b), let a = z.1 in let b = wide.high in omega (arith, a, b))
  ];
}

-- a range widened to this place, if a write is under way there
widened : (i from to from' to' : ℕ) (o : Option ℕ) → from' ≡ cond (is_some o) (min from i) from → to' ≡ cond (is_some o) (max to (i + 1)) to
    → IsWider from to from' to' × InRange i from' to' o × ((n : ℕ) → i < n → to ≤ n → to' ≤ n)
widened i from to from' to' None e f =
    (record { low = omega (arith, e); high = omega (arith, f) }, (λ k is. (let q : ⊥ = cc in absurd q)), (λ n lt le. omega (arith, f, le)))
widened i from to from' to' (Some t) e f = (
  record { low = omega (arith, e); high = omega (arith, f) },
  (λ k is. (omega (arith, e), omega (arith, f))),
  (λ n lt le. omega (arith, f, lt, le)),
)

-- the range is widened to it
pub open_widened : (items : List Slot) (i from to from' to' : ℕ) (s t : Slot) → slice_get items i ≡ Some s
    → from' ≡ cond (is_some (ticket_of t.state)) (min from i) from → to' ≡ cond (is_some (ticket_of t.state)) (max to (i + 1)) to
    → AreOpenWithin items from to → AreOpenWithin (set items i t) from' to'
open_widened items i from to from' to' s t is e f h =
    let w = widened i from to from' to' (ticket_of t.state) e f in
    open_one items i from to from' to' s t is w.0 (w.2 (length items) (in_range items i s is) h.bound) w.1 h

-- its write stays under way, or none is
pub open_kept : (items : List Slot) (i from to : ℕ) (s t : Slot) → slice_get items i ≡ Some s → ticket_of t.state ≡ ticket_of s.state
    → AreOpenWithin items from to → AreOpenWithin (set items i t) from to
open_kept items i from to s t is same h =
    open_one items i from to from to s t is (record { low = omega arith; high = omega arith }) h.bound
    (λ k within. h.each i k s is (sym same ∙ within)) h

-- its bytes are changed
pub ticket_stays : (x : State) → ticket_of (dirtied x) ≡ ticket_of x
ticket_stays Clean = refl
ticket_stays Dirty = refl
ticket_stays (Writing t) = refl
ticket_stays (Changed t) = refl

pub open_changed : (items : List Slot) (i from to : ℕ) (s t : Slot) → slice_get items i ≡ Some s → t.state ≡ dirtied s.state
    → AreOpenWithin items from to → AreOpenWithin (set items i t) from to
open_changed items i from to s t is st h = open_kept items i from to s t is (ap ticket_of st ∙ ticket_stays s.state) h

-- ---- the slots as they are made

pub open_free : (items : List Slot) (from : ℕ) → AllFree items → AreOpenWithin items from 0
open_free items from f = record {
  bound = omega arith;
  each = λ i t s is within. let z : None ≡ Some t = sym (ap ticket_of (f.clean i s is)) ∙ within in absurd (let q : ⊥ = cc in q);
}

-- ---- the slots that were settled

-- a slot with no write under way is under no ticket
not_under : (ticket : ℕ) (s : Slot) (o : Option ℕ) → ticket_of s.state ≡ o → ((t : ℕ) → o ≡ Some t → ⊥) → after_write ticket s ≡ s
not_under ticket s None e none =
    cond-false (is_under ticket s) (record s { state = written s.state }) s (ap (λ (o : Option ℕ). is_number o ticket) e)
not_under ticket s (Some t) e none = absurd (none t refl)

shut : (ticket : ℕ) (items : List Slot) (i from to : ℕ) (s : Slot) → AreOpenWithin items from to → slice_get items i ≡ Some s
    → (from ≤ i → i < to → ⊥) → after_write ticket s ≡ s
shut ticket items i from to s h is out =
    not_under ticket s (ticket_of s.state) refl (λ t within. let z = h.each i t s is within in out z.0 z.1)

-- those below the range stay
pub settling_begun : (ticket : ℕ) (items : List Slot) (from to : ℕ) → AreOpenWithin items from to → Settling ticket items items from
settling_begun ticket items from to h = record {
  count = refl;
  done = λ i s lt is. is ∙ ap Some (sym (shut ticket items i from to s h is (λ le less. absurd (let q : ⊥ = omega (arith, lt, le) in q))));
  rest = λ i le. refl;
}

-- and those behind it
pub settling_ended : (ticket : ℕ) (old new : List Slot) (from to at : ℕ) → AreOpenWithin old from to → to ≤ at → Settling ticket old new at
    → AllSettled ticket old new
settling_ended ticket old new from to at within end h = record {
  count = h.count;
  done = λ i s is. elim (cases_lt i at) [
    | inl less ↦ h.done i s less is
    | inr le ↦
        h.rest i le ∙ is
        ∙ ap Some (sym (shut ticket old i from to s within is (λ low high. absurd (let q : ⊥ = omega (arith, le, high, end) in q))))
  ];
}

-- of the slots below this place each with a write under way stands within the range
pub record OpenBelow (items : List Slot) (at from to : ℕ) : Type 0 where
  pub bound : to ≤ length items
  pub each : (i t : ℕ) (s : Slot) → i < at → slice_get items i ≡ Some s → ticket_of s.state ≡ Some t → (from ≤ i) × (i < to)

-- none does below the range
pub open_below_none : (items : List Slot) (at from to : ℕ) → AreOpenWithin items at to → OpenBelow items at from 0
open_below_none items at from to h = record {
  bound = omega arith;
  each = λ i t s lt is within. let low = (h.each i t s is within).0 in absurd (let q : ⊥ = omega (arith, lt, low) in q);
}

-- one more
pub open_below_more : (ticket : ℕ) (old new : List Slot) (at from to from' to' : ℕ) (s : Slot) → IsSetAt old new at (after_write ticket)
    → slice_get new at ≡ Some s → from' ≡ cond (is_some (ticket_of s.state)) (min from at) from
    → to' ≡ cond (is_some (ticket_of s.state)) (max to (at + 1)) to → OpenBelow old at from to → OpenBelow new (at + 1) from' to'
open_below_more ticket old new at from to from' to' s e is f g h = record {
  bound =
      let n = ap (λ (l : List Slot). length l) e.all ∙ length-set old at (after_write ticket e.slot) in
      w.2 (length new) (in_range new at s is) (let b = h.bound in omega (arith, n, b));
  each = λ i t u lt iu within. elim (cases_eq i at) [
    | inl same ↦
        let one = one_slot new at s u is (sym (ap (slice_get new) same) ∙ iu) in
        let z = w.1 t (ap (λ (x : Slot). ticket_of x.state) one ∙ within) in
        (let low = z.0 in omega (arith, low, same), let high = z.1 in omega (arith, high, same))
    | inr ne ↦
        let there = sym (ap (λ (l : List Slot). slice_get l i) e.all ∙ get_set_other old at i (after_write ticket e.slot) ne) ∙ iu in
        let z = h.each i t u (below i ne lt) there within in
        let wide = w.0 in
        (let a = z.0 in let b = wide.low in omega (arith, a, b), let a = z.1 in let b = wide.high in omega (arith, a, b))
  ];
}
  where
    w : IsWider from to from' to' × InRange at from' to' (ticket_of s.state) × ((n : ℕ) → at < n → to ≤ n → to' ≤ n)
    w = widened at from to from' to' (ticket_of s.state) f g

    below : (i : ℕ) → i ≢ at → i < at + 1 → i < at
    below i ne lt = elim (cases_lt i at) [
      | inl less ↦ less
      | inr le ↦ absurd (ne (omega (arith, lt, le)))
    ]

-- all that are left
pub open_left : (ticket : ℕ) (old new : List Slot) (from to at from' to' : ℕ) → AreOpenWithin old from to → to ≤ at
    → Settling ticket old new at → OpenBelow new at from' to' → AreOpenWithin new from' to'
open_left ticket old new from to at from' to' within end h left = record {
  bound = left.bound;
  each = λ i t s is under. elim (cases_lt i at) [
    | inl less ↦ left.each i t s less is under
    | inr le ↦ let high = (within.each i t s (sym (h.rest i le) ∙ is) under).1 in absurd (let q : ⊥ = omega (arith, le, high, end) in q)
  ];
}
