-- Slots by their blocks, after one slot is changed.
use Rattle.std.proofs.Common.{◌≡◌, ◌≢◌, ℕ, zero, suc, ◌<◌, List, [], ◌∷◌, length, set, refl, sym, ap, ◌∙◌, arith, Bool, true, false, Option, Some, None}
use mathlib.Core.Logic.{inl, inr, ◌⊎◌}
use Rattle.std.specs.Prelude.{cond, slice_get}
use Rattle.std.proofs.lemmas.Bool.{cond-true, cond-false, eq-eqb, ne_eqb, cases_eq}
use Rattle.reissue.specs.Moves.{put}
use Rattle.reissue.proofs.Maps.{is_put}
use Rattle.cache.specs.Slots.{is_number, held, IsDistinct}
use Rattle.cache.specs.Edits.{IsAt}
use Rattle.cache.specs.declared.slot.Slot.{Slot}

pub block_is : (o : Option ℕ) (b : ℕ) → is_number o b ≡ true → o ≡ Some b
block_is None b h = cc
block_is (Some c) b h = grind arith

pub is_its_number : (o : Option ℕ) (b : ℕ) → o ≡ Some b → is_number o b ≡ true
is_its_number o b h = rw h (eq-eqb b b refl)

pub no_block : (o : Option ℕ) (b : ℕ) → (o ≡ Some b → ⊥) → is_number o b ≡ false
no_block None b h = refl
no_block (Some c) b h = ne_eqb c b (λ e. h (ap Some e))

pub get_set_same : (items : List Slot) (i : ℕ) (s t : Slot) → slice_get items i ≡ Some s → slice_get (set items i t) i ≡ Some t
get_set_same [] i s t h = cc
get_set_same (x ∷ xs) zero s t h = refl
get_set_same (x ∷ xs) (suc i) s t h = get_set_same xs i s t h

pub get_set_other : (items : List Slot) (i j : ℕ) (t : Slot) → j ≢ i → slice_get (set items i t) j ≡ slice_get items j
get_set_other [] i j t h = refl
get_set_other (x ∷ xs) zero zero t h = absurd (h refl)
get_set_other (x ∷ xs) zero (suc j) t h = refl
get_set_other (x ∷ xs) (suc i) zero t h = refl
get_set_other (x ∷ xs) (suc i) (suc j) t h = get_set_other xs i j t (λ e. h (ap suc e))

pub record Place (items : List Slot) (b : ℕ) (s : Slot) : Type 0 where
  pub index : ℕ
  pub is : slice_get items index ≡ Some s
  pub block : s.block ≡ Some b

-- a slot that holds a block stands somewhere
pub place_of : (items : List Slot) (b : ℕ) (s : Slot) → held items b ≡ Some s → Place items b s
place_of [] b s h = cc
place_of (x ∷ xs) b s h = by_test (is_number x.block b) refl h (λ k. place_of xs b s k)
  where
    by_test : (v : Bool) → is_number x.block b ≡ v → cond v (Some x) (held xs b) ≡ Some s
        → (held xs b ≡ Some s → Place xs b s) → Place (x ∷ xs) b s
    by_test true e k r = let same : x ≡ s = cc in
        record { index = zero; is = k; block = rw (← same) (block_is x.block b e) }
    by_test false e k r = let p = r k in record { index = suc p.index; is = p.is; block = p.block }

-- a block that stands somewhere is held
pub some_holds : (items : List Slot) (i b : ℕ) (s : Slot) → slice_get items i ≡ Some s → s.block ≡ Some b → (held items b ≡ None → ⊥)
some_holds [] i b s h k n = cc
some_holds (x ∷ xs) zero b s h k n =
    let same : x ≡ s = cc in
    let is : is_number x.block b ≡ true = rw same (is_its_number s.block b k) in
    let all : held (x ∷ xs) b ≡ Some x = cond-true (is_number x.block b) (Some x) (held xs b) is in
    cc
some_holds (x ∷ xs) (suc i) b s h k n = by_test (is_number x.block b) n (λ m. some_holds xs i b s h k m)
  where
    by_test : (v : Bool) → cond v (Some x) (held xs b) ≡ None → (held xs b ≡ None → ⊥) → ⊥
    by_test true e f = cc
    by_test false e f = f e

-- a block that has a slot isn't one that has none
pub has_one : {X : Type 0} (items : List Slot) (at b : ℕ) → IsAt items at b → held items b ≡ None → X
has_one items at b x none = absurd (some_holds items at b x.slot x.is x.block_is none)

pub has_none : {X : Type 0} (items : List Slot) (b : ℕ) (s : Slot) → held items b ≡ None → held items b ≡ Some s → X
has_none items b s none some = let e : None ≡ Some s = sym none ∙ some in absurd (let z : ⊥ = cc in z)

pub option_cases : (o : Option Slot) → (o ≡ None) ⊎ ((s : Slot) × (o ≡ Some s))
option_cases None = inl refl
option_cases (Some s) = inr (s, refl)

pub held_at : (items : List Slot) (i b : ℕ) (s : Slot) → IsDistinct items → slice_get items i ≡ Some s → s.block ≡ Some b
    → held items b ≡ Some s
held_at items i b s d h k = elim (option_cases (held items b)) [
  | inl n ↦ absurd (some_holds items i b s h k n)
  | inr p ↦
      let place = place_of items b p.0 p.1 in
      let same : place.index ≡ i = d.same place.index i b p.0 s place.is h place.block k in
      let at : slice_get items i ≡ Some p.0 = rw (← same) place.is in
      cc
]

pub held_other : (items : List Slot) (i b : ℕ) (s t : Slot) → slice_get items i ≡ Some s → is_number s.block b ≡ false
    → is_number t.block b ≡ false → held (set items i t) b ≡ held items b
held_other [] i b s t h k l = refl
held_other (x ∷ xs) zero b s t h k l =
    let same : x ≡ s = cc in
    let is : is_number x.block b ≡ false = rw same k in
    cond-false (is_number t.block b) (Some t) (held xs b) l ∙ sym (cond-false (is_number x.block b) (Some x) (held xs b) is)
held_other (x ∷ xs) (suc i) b s t h k l = ap (λ (o : Option Slot). cond (is_number x.block b) (Some x) o) (held_other xs i b s t h k l)

-- ---- the slots stay distinct

pub distinct_kept : (items : List Slot) (i : ℕ) (s t : Slot) → IsDistinct items → slice_get items i ≡ Some s
    → t.block ≡ s.block → IsDistinct (set items i t)
distinct_kept items i s t d h e = record {
  same = λ j k b u v hu hv bu bv.
      elim (cases_eq j i) [
        | inl ji ↦ elim (cases_eq k i) [
          | inl ki ↦ ji ∙ sym ki
          | inr ki ↦
              let same : u ≡ t = at u j hu ji in
              d.same j k b s v (ap (slice_get items) ji ∙ h) (sym (get_set_other items i k t ki) ∙ hv) (sym e ∙ ap (λ (x : Slot). x.block) (sym same) ∙ bu) bv
        ]
        | inr ji ↦ elim (cases_eq k i) [
          | inl ki ↦
              let same : v ≡ t = at v k hv ki in
              d.same j k b u s (sym (get_set_other items i j t ji) ∙ hu) (ap (slice_get items) ki ∙ h) bu (sym e ∙ ap (λ (x : Slot). x.block) (sym same) ∙ bv)
          | inr ki ↦ d.same j k b u v (sym (get_set_other items i j t ji) ∙ hu) (sym (get_set_other items i k t ki) ∙ hv) bu bv
        ]
      ];
}
  where
    at : (u : Slot) (j : ℕ) → slice_get (set items i t) j ≡ Some u → j ≡ i → u ≡ t
    at u j hu ji = let a = get_set_same items i s t h in let b = sym (ap (slice_get (set items i t)) ji) ∙ hu in cc

pub distinct_vacated : (items : List Slot) (i : ℕ) (s t : Slot) → IsDistinct items → slice_get items i ≡ Some s
    → t.block ≡ None → IsDistinct (set items i t)
distinct_vacated items i s t d h e = record {
  same = λ j k b u v hu hv bu bv.
      elim (cases_eq j i) [
        | inl ji ↦ absurd (none u j b hu ji bu)
        | inr ji ↦ elim (cases_eq k i) [
          | inl ki ↦ absurd (none v k b hv ki bv)
          | inr ki ↦ d.same j k b u v (sym (get_set_other items i j t ji) ∙ hu) (sym (get_set_other items i k t ki) ∙ hv) bu bv
        ]
      ];
}
  where
    none : (u : Slot) (j b : ℕ) → slice_get (set items i t) j ≡ Some u → j ≡ i → u.block ≡ Some b → ⊥
    none u j b hu ji bu =
        let a = get_set_same items i s t h in
        let c = sym (ap (slice_get (set items i t)) ji) ∙ hu in
        let same : u ≡ t = cc in
        let f : t.block ≡ Some b = rw (← same) bu in
        cc

pub distinct_filled : (items : List Slot) (i n : ℕ) (s t : Slot) → IsDistinct items → slice_get items i ≡ Some s
    → t.block ≡ Some n → held items n ≡ None → IsDistinct (set items i t)
distinct_filled items i n s t d h e free = record {
  same = λ j k b u v hu hv bu bv.
      elim (cases_eq j i) [
        | inl ji ↦ elim (cases_eq k i) [
          | inl ki ↦ ji ∙ sym ki
          | inr ki ↦ absurd (some_holds items k n v (sym (get_set_other items i k t ki) ∙ hv) (bv ∙ ap Some (is_n u j b hu ji bu)) free)
        ]
        | inr ji ↦ elim (cases_eq k i) [
          | inl ki ↦ absurd (some_holds items j n u (sym (get_set_other items i j t ji) ∙ hu) (bu ∙ ap Some (is_n v k b hv ki bv)) free)
          | inr ki ↦ d.same j k b u v (sym (get_set_other items i j t ji) ∙ hu) (sym (get_set_other items i k t ki) ∙ hv) bu bv
        ]
      ];
}
  where
    is_n : (u : Slot) (j b : ℕ) → slice_get (set items i t) j ≡ Some u → j ≡ i → u.block ≡ Some b → b ≡ n
    is_n u j b hu ji bu =
        let a = get_set_same items i s t h in
        let c = sym (ap (slice_get (set items i t)) ji) ∙ hu in
        let same : u ≡ t = cc in
        let f : t.block ≡ Some b = rw (← same) bu in
        cc

-- ---- which slot holds each block

ne_block : (o : Option ℕ) (b m : ℕ) → o ≡ Some b → m ≢ b → is_number o m ≡ false
ne_block o b m h n = no_block o m (λ k. n (let e : Some m ≡ Some b = sym k ∙ h in cc))

pub held_set : (items : List Slot) (i b : ℕ) (s t : Slot) → IsDistinct items → slice_get items i ≡ Some s
    → s.block ≡ Some b → t.block ≡ s.block → held (set items i t) ≡ put (held items) b (Some t)
held_set items i b s t d h k e =
    is_put (held items) (held (set items i t)) b (Some t)
    (held_at (set items i t) i b t (distinct_kept items i s t d h e) (get_set_same items i s t h) (e ∙ k))
    (λ m n. held_other items i m s t h (ne_block s.block b m k n) (ne_block t.block b m (e ∙ k) n))

pub held_vacated : (items : List Slot) (i b : ℕ) (s t : Slot) → IsDistinct items → slice_get items i ≡ Some s
    → s.block ≡ Some b → t.block ≡ None → held (set items i t) ≡ put (held items) b None
held_vacated items i b s t d h k e =
    is_put (held items) (held (set items i t)) b None
    (elim (option_cases (held (set items i t) b)) [
      | inl n ↦ n
      | inr p ↦
          let place = place_of (set items i t) b p.0 p.1 in
          absurd (elim (cases_eq place.index i) [
            | inl ji ↦
                let a = get_set_same items i s t h in
                let c = sym (ap (slice_get (set items i t)) ji) ∙ place.is in
                let same : p.0 ≡ t = cc in
                let f : t.block ≡ Some b = rw (← same) place.block in
                cc
            | inr ji ↦ ji (d.same place.index i b p.0 s (sym (get_set_other items i place.index t ji) ∙ place.is) h place.block k)
          ])
    ])
    (λ m n. held_other items i m s t h (ne_block s.block b m k n) (rw e refl))

pub held_filled : (items : List Slot) (i b : ℕ) (s t : Slot) → IsDistinct items → slice_get items i ≡ Some s
    → s.block ≡ None → t.block ≡ Some b → held items b ≡ None → held (set items i t) ≡ put (held items) b (Some t)
held_filled items i b s t d h k e free =
    is_put (held items) (held (set items i t)) b (Some t)
    (held_at (set items i t) i b t (distinct_filled items i b s t d h e free) (get_set_same items i s t h) e)
    (λ m n. held_other items i m s t h (rw k refl) (ne_block t.block b m e n))

-- a slot stands below the length
pub in_range : (items : List Slot) (i : ℕ) (s : Slot) → slice_get items i ≡ Some s → i < length items
in_range [] i s h = cc
in_range (x ∷ xs) zero s h = omega arith
in_range (x ∷ xs) (suc i) s h = let less = in_range xs i s h in omega (arith, less)
