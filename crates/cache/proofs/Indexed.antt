-- An index of slots by their blocks, after one slot is changed.
use Rattle.std.proofs.Common.{◌≡◌, ◌≢◌, ℕ, zero, suc, ◌+◌, ◌<◌, ◌≤◌, ◌^◌, ◌++◌, List, [], ◌∷◌, length, set, refl, sym, ap, ◌∙◌, arith, Option, Some, None}
use mathlib.Core.Logic.{inl, inr}
use Rattle.std.specs.Prelude.{slice_get, cond, is_some}
use Rattle.std.proofs.lemmas.Bool.{cases_eq}
use Rattle.std.proofs.lemmas.List.{length-set}
use Rattle.cache.specs.declared.index.Entry.{Entry}
use Rattle.cache.specs.declared.slot.Slot.{Slot}
use Rattle.cache.specs.Slots.{held, AllFree}
use Rattle.cache.specs.Index.{place_in, held_count, block_of, IsIndexOf, IsRising}
use Rattle.cache.specs.Edits.{IsAt, IsPlaceOf}
use Rattle.cache.proofs.Entries.{rises, entry_place}
use Rattle.cache.proofs.Held.{place_of, get_set_same, get_set_other, some_holds}
use Rattle.cache.proofs.Growing.{stays_grown, grown_holds, count_more}

-- the slot there holds this block
block_there : (o : Option Slot) (b : ℕ) → block_of o ≡ Some b → (s : Slot) × (o ≡ Some s) × (s.block ≡ Some b)
block_there None b h = cc
block_there (Some s) b h = (s, refl, h)

pub at_of : (entries : List Entry) (items : List Slot) → IsIndexOf entries items
    → (i b : ℕ) (s : Slot) → slice_get items i ≡ Some s → s.block ≡ Some b → place_in entries b ≡ Some i
at_of entries items x i b s h k = x.at i b (ap block_of h ∙ k)

is_of : (entries : List Entry) (items : List Slot) → IsIndexOf entries items
    → (i b : ℕ) → place_in entries b ≡ Some i → (s : Slot) × (slice_get items i ≡ Some s) × (s.block ≡ Some b)
is_of entries items x i b p = block_there (slice_get items i) b (x.is i b p)

indexed_by : (entries : List Entry) (items : List Slot)
    → ((i b : ℕ) (s : Slot) → slice_get items i ≡ Some s → s.block ≡ Some b → place_in entries b ≡ Some i)
    → ((i b : ℕ) → place_in entries b ≡ Some i → (s : Slot) × (slice_get items i ≡ Some s) × (s.block ≡ Some b))
    → length entries ≡ held_count items → IsIndexOf entries items
indexed_by entries items at is count = record {
  at = λ i b h. let o = block_there (slice_get items i) b h in at i b o.0 o.1 o.2;
  is = λ i b p. let o = is i b p in ap block_of o.1 ∙ o.2;
  count = count;
}

-- where a block stands
pub placed_by : (entries : List Entry) (items : List Slot) (b : ℕ) (o : Option ℕ) → IsIndexOf entries items → o ≡ place_in entries b → IsPlaceOf o items b
placed_by entries items b (Some i) x h = let s = is_of entries items x i b (sym h) in record { slot = s.0; is = s.1; block_is = s.2 }
placed_by entries items b None x h = by_held (held items b) refl
  where
    by_held : (y : Option Slot) → held items b ≡ y → held items b ≡ None
    by_held None k = k
    by_held (Some s) k =
        let p = place_of items b s k in
        let z : None ≡ Some p.index = h ∙ at_of entries items x p.index b s p.is p.block in
        absurd (let q : ⊥ = cc in q)

-- the slot of an entry
pub slot_by : (entries : List Entry) (items : List Slot) (n : ℕ) (e : Entry) → IsIndexOf entries items → IsRising entries
    → slice_get entries n ≡ Some e → IsAt items e.place e.block
slot_by entries items n e x rising is =
    let s = is_of entries items x e.place e.block (entry_place 0 entries e.block (rises entries rising) n e is refl) in
    record { slot = s.0; is = s.1; block_is = s.2 }

-- a block that a slot holds has a place
pub has_place : (entries : List Entry) (items : List Slot) (i b : ℕ) (s : Slot) → IsIndexOf entries items
    → slice_get items i ≡ Some s → s.block ≡ Some b → place_in entries b ≢ None
has_place entries items i b s x h k none = let z : None ≡ Some i = sym none ∙ at_of entries items x i b s h k in cc

-- a block that none holds has none
pub has_no_place : (entries : List Entry) (items : List Slot) (b : ℕ) → IsIndexOf entries items → held items b ≡ None → place_in entries b ≡ None
has_no_place entries items b x h = by (place_in entries b) refl
  where
    by : (o : Option ℕ) → place_in entries b ≡ o → place_in entries b ≡ None
    by None p = p
    by (Some i) p = let s = is_of entries items x i b p in absurd (some_holds items i b s.0 s.1 s.2 h)

-- as many slots as before
pub few_set : (items : List Slot) (i : ℕ) (t : Slot) → length items ≤ 4096 → length (set items i t) ≤ 4096
few_set items i t few = let same = length-set items i t in omega (arith, same, few)

-- so many places are enough for as many slots
pub room_set : (items : List Slot) (i n : ℕ) (t : Slot) → length items ≤ n → length (set items i t) ≤ n
room_set items i n t le = let same = length-set items i t in omega (arith, same, le)

-- a slot is set twice
set_set : (items : List Slot) (i : ℕ) (s t : Slot) → set (set items i s) i t ≡ set items i t
set_set [] i s t = refl
set_set (x ∷ xs) zero s t = refl
set_set (x ∷ xs) (suc i) s t = ap (λ l. x ∷ l) (set_set xs i s t)

pub set_again : (items new : List Slot) (i : ℕ) (s t : Slot) → new ≡ set items i s → set new i t ≡ set items i t
set_again items new i s t h = ap (λ l. set l i t) h ∙ set_set items i s t

-- ---- how many slots hold a block

-- they are all at most
pub count_most : (items : List Slot) → held_count items ≤ length items
count_most [] = omega arith
count_most (x ∷ xs) = by x.block (count_most xs)
  where
    by : (o : Option ℕ) → held_count xs ≤ length xs → cond (is_some o) (held_count xs + 1) (held_count xs) ≤ suc (length xs)
    by None le = omega (arith, le)
    by (Some b) le = omega (arith, le)

-- 1 where there is one
abbrev one_if : Option ℕ → ℕ
one_if None = 0
one_if (Some b) = 1

-- the count after one slot is changed
count_set : (items : List Slot) (i : ℕ) (s t : Slot) → slice_get items i ≡ Some s
    → held_count (set items i t) + one_if s.block ≡ held_count items + one_if t.block
count_set [] i s t h = cc
count_set (x ∷ xs) zero s t h = ap (λ (y : Slot). cond (is_some t.block) (held_count xs + 1) (held_count xs) + one_if y.block) (sym same) ∙ by x.block t.block
  where
    same : x ≡ s
    same = cc

    by : (o p : Option ℕ) → cond (is_some p) (held_count xs + 1) (held_count xs) + one_if o
        ≡ cond (is_some o) (held_count xs + 1) (held_count xs) + one_if p
    by None None = refl
    by None (Some p) = omega arith
    by (Some o) None = omega arith
    by (Some o) (Some p) = refl
count_set (x ∷ xs) (suc i) s t h = by x.block (count_set xs i s t h)
  where
    by : (o : Option ℕ) → held_count (set xs i t) + one_if s.block ≡ held_count xs + one_if t.block
        → cond (is_some o) (held_count (set xs i t) + 1) (held_count (set xs i t)) + one_if s.block
        ≡ cond (is_some o) (held_count xs + 1) (held_count xs) + one_if t.block
    by None e = e
    by (Some o) e = omega (arith, e)

pub count_kept : (items : List Slot) (i : ℕ) (s t : Slot) → slice_get items i ≡ Some s → t.block ≡ s.block → held_count (set items i t) ≡ held_count items
count_kept items i s t h e =
    let z = count_set items i s t h in
    let y : one_if t.block ≡ one_if s.block = ap one_if e in
    omega (arith, z, y)

pub count_vacated : (items : List Slot) (i b : ℕ) (s t : Slot) → slice_get items i ≡ Some s → s.block ≡ Some b → t.block ≡ None
    → held_count (set items i t) + 1 ≡ held_count items
count_vacated items i b s t h k e =
    let z = count_set items i s t h in
    let y : one_if t.block ≡ 0 = ap one_if e in
    let x : one_if s.block ≡ 1 = ap one_if k in
    omega (arith, z, y, x)

pub count_filled : (items : List Slot) (i b : ℕ) (s t : Slot) → slice_get items i ≡ Some s → s.block ≡ None → t.block ≡ Some b
    → held_count (set items i t) ≡ held_count items + 1
count_filled items i b s t h k e =
    let z = count_set items i s t h in
    let y : one_if t.block ≡ 1 = ap one_if e in
    let x : one_if s.block ≡ 0 = ap one_if k in
    omega (arith, z, y, x)

-- where a slot is free they aren't all
pub count_free : (items : List Slot) (i : ℕ) (s : Slot) → slice_get items i ≡ Some s → s.block ≡ None → held_count items < length items
count_free [] i s h k = cc
count_free (x ∷ xs) zero s h k =
    let same : x ≡ s = cc in
    let none : held_count (x ∷ xs) ≡ held_count xs =
    ap (λ (o : Option ℕ). cond (is_some o) (held_count xs + 1) (held_count xs)) (ap (λ (y : Slot). y.block) same ∙ k) in
    let most = count_most xs in
    omega (arith, none, most)
count_free (x ∷ xs) (suc i) s h k = by x.block (count_free xs i s h k)
  where
    by : (o : Option ℕ) → held_count xs < length xs → cond (is_some o) (held_count xs + 1) (held_count xs) < suc (length xs)
    by None lt = omega (arith, lt)
    by (Some b) lt = omega (arith, lt)

-- a search of an index of 4096 slots takes 13 steps
pub few_steps : (entries : List Entry) (items : List Slot) (old new : ℕ) → IsIndexOf entries items → length items ≤ 4096
    → ((k : ℕ) → length entries < 2 ^ k → new ≤ old + k) → new ≤ old + 13
few_steps entries items old new x few cost =
    let n = x.count in
    let m = count_most items in
    let less : length entries < 2 ^ 13 = omega (arith, n, m, few) in
    cost 13 less

-- ---- the index after one slot is changed

-- the slot there is the one that was written
set_there : (items : List Slot) (i : ℕ) (s t : Slot) → slice_get items i ≡ Some s → (j : ℕ) (u : Slot) → j ≡ i → slice_get (set items i t) j ≡ Some u → u ≡ t
set_there items i s t h j u ji hu =
    let a = get_set_same items i s t h in
    let b = sym (ap (slice_get (set items i t)) ji) ∙ hu in
    cc

-- the slot keeps its block
pub index_kept : (entries : List Entry) (items : List Slot) (i : ℕ) (s t : Slot) → IsIndexOf entries items → slice_get items i ≡ Some s
    → t.block ≡ s.block → IsIndexOf entries (set items i t)
index_kept entries items i s t x h e = indexed_by entries (set items i t)
    (λ j b u hu bu. elim (cases_eq j i) [
      | inl ji ↦
          let same = set_there items i s t h j u ji hu in
          at_of entries items x j b s (ap (slice_get items) ji ∙ h) (sym e ∙ ap (λ (y : Slot). y.block) (sym same) ∙ bu)
      | inr ji ↦ at_of entries items x j b u (sym (get_set_other items i j t ji) ∙ hu) bu
    ])
    (λ j b p. let o = is_of entries items x j b p in elim (cases_eq j i) [
      | inl ji ↦
          let same : o.0 ≡ s = (let z = o.1 in let y = ap (slice_get items) ji ∙ h in cc) in
          (t, ap (slice_get (set items i t)) ji ∙ get_set_same items i s t h, e ∙ ap (λ (y : Slot). y.block) (sym same) ∙ o.2)
      | inr ji ↦ (o.0, get_set_other items i j t ji ∙ o.1, o.2)
    ])
    (x.count ∙ sym (count_kept items i s t h e))

-- the slot's block is taken out
pub index_vacated : (entries entries' : List Entry) (items : List Slot) (i b : ℕ) (s t : Slot) → IsIndexOf entries items → slice_get items i ≡ Some s
    → s.block ≡ Some b → t.block ≡ None → place_in entries' b ≡ None → ((c : ℕ) → c ≢ b → place_in entries' c ≡ place_in entries c)
    → length entries' + 1 ≡ length entries → IsIndexOf entries' (set items i t)
index_vacated entries entries' items i b s t x h k e this others less = indexed_by entries' (set items i t)
    (λ j c u hu bu. elim (cases_eq j i) [
      | inl ji ↦
          let same = set_there items i s t h j u ji hu in
          let z : None ≡ Some c = sym e ∙ ap (λ (y : Slot). y.block) (sym same) ∙ bu in
          absurd (let q : ⊥ = cc in q)
      | inr ji ↦
          let p = at_of entries items x j c u (sym (get_set_other items i j t ji) ∙ hu) bu in
          let q = at_of entries items x i b s h k in
          others c (λ cb. ji (let z : Some j ≡ Some i = sym p ∙ ap (place_in entries) cb ∙ q in cc)) ∙ p
    ])
    (λ j c p. elim (cases_eq c b) [
      | inl cb ↦ let z : None ≡ Some j = sym this ∙ ap (place_in entries') (sym cb) ∙ p in absurd (let q : ⊥ = cc in q)
      | inr cb ↦
          let o = is_of entries items x j c (sym (others c cb) ∙ p) in
          let ji : j ≢ i = λ same.
          let z = o.1 in
          let y = ap (slice_get items) same ∙ h in
          let w : o.0 ≡ s = cc in
          let v : Some c ≡ Some b = sym o.2 ∙ ap (λ (y : Slot). y.block) w ∙ k in
          cb (let u : c ≡ b = cc in u) in
          (o.0, get_set_other items i j t ji ∙ o.1, o.2)
    ])
    ((let n = x.count in let m = count_vacated items i b s t h k e in omega (arith, n, m, less)))

-- a block is put into a free slot
pub index_filled : (entries entries' : List Entry) (items : List Slot) (i b : ℕ) (s t : Slot) → IsIndexOf entries items → slice_get items i ≡ Some s
    → s.block ≡ None → t.block ≡ Some b → held items b ≡ None → place_in entries' b ≡ Some i
    → ((c : ℕ) → c ≢ b → place_in entries' c ≡ place_in entries c)
    → length entries' ≡ length entries + 1 → IsIndexOf entries' (set items i t)
index_filled entries entries' items i b s t x h k e free this others more = indexed_by entries' (set items i t)
    (λ j c u hu bu. elim (cases_eq j i) [
      | inl ji ↦
          let same = set_there items i s t h j u ji hu in
          let z : Some c ≡ Some b = sym bu ∙ ap (λ (y : Slot). y.block) same ∙ e in
          let cb : c ≡ b = cc in
          ap (place_in entries') cb ∙ this ∙ ap Some (sym ji)
      | inr ji ↦
          let hj = sym (get_set_other items i j t ji) ∙ hu in
          others c (λ cb. some_holds items j b u hj (bu ∙ ap Some cb) free) ∙ at_of entries items x j c u hj bu
    ])
    (λ j c p. elim (cases_eq c b) [
      | inl cb ↦
          let z : Some i ≡ Some j = sym this ∙ ap (place_in entries') (sym cb) ∙ p in
          let ij : j ≡ i = cc in
          (t, ap (slice_get (set items i t)) ij ∙ get_set_same items i s t h, e ∙ ap Some (sym cb))
      | inr cb ↦
          let o = is_of entries items x j c (sym (others c cb) ∙ p) in
          let ji : j ≢ i = λ same.
          let z = o.1 in
          let y = ap (slice_get items) same ∙ h in
          let w : o.0 ≡ s = cc in
          let v : None ≡ Some c = sym k ∙ ap (λ (y : Slot). y.block) (sym w) ∙ o.2 in
          (let u : ⊥ = cc in u) in
          (o.0, get_set_other items i j t ji ∙ o.1, o.2)
    ])
    ((let n = x.count in let m = count_filled items i b s t h k e in omega (arith, n, m, more)))

-- no slot holds a block at first, and there is no entry
pub index_none : (items : List Slot) → AllFree items → IsIndexOf [] items
index_none items f = indexed_by [] items
    (λ i b s h k. let z : None ≡ Some b = sym (f.each i s h) ∙ k in absurd (let q : ⊥ = cc in q))
    (λ i b p. cc)
    (none items f.each)
  where
    none : (xs : List Slot) → ((i : ℕ) (s : Slot) → slice_get xs i ≡ Some s → s.block ≡ None) → 0 ≡ held_count xs
    none [] g = refl
    none (x ∷ xs) g = none xs (λ i s h. g (suc i) s h) ∙ ap (λ (o : Option ℕ). cond (is_some o) (held_count xs + 1) (held_count xs)) (sym (g 0 x refl))

-- more slots stand behind those that there were
pub index_more : (entries : List Entry) (xs ys : List Slot) → AllFree ys → IsIndexOf entries xs → IsIndexOf entries (xs ++ ys)
index_more entries xs ys f x = indexed_by entries (xs ++ ys)
    (λ i b s h k. at_of entries xs x i b s (grown_holds xs ys i b s f h k) k)
    (λ i b p. let o = is_of entries xs x i b p in (o.0, stays_grown xs ys i o.0 o.1, o.2))
    (x.count ∙ sym (count_more xs ys f))
