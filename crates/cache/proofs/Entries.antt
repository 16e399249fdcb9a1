-- An index of slots by their blocks: its entries, and what an edit leaves of them.
use Rattle.std.proofs.Common.{◌≡◌, ◌≢◌, ℕ, zero, suc, ◌+◌, ◌<◌, ◌≤◌, List, [], ◌∷◌, refl, sym, ap, ◌∙◌, arith}
use Rattle.std.proofs.Common.{Bool, true, false, Option, Some, None}
use mathlib.Core.Logic.{inl, inr}
use Rattle.std.specs.Prelude.{slice_get, cond, insert, remove, ◌==◌, Result, Ok, Err, OnOk, OnErr, IsSome, OnSome, ◌↔◌}
use Rattle.std.proofs.lemmas.Option.{slice_get_within}
use Rattle.std.proofs.lemmas.Bool.{cond-true, cond-false, eq-eqb, eqb-true, ne_eqb, cases_lt}
use Rattle.cache.specs.declared.index.Entry.{Entry}
use Rattle.cache.specs.Index.{place_in, place_there, IsRising, IsEntryOf, IsGapFor, IsStartOf}

-- the first entry is the block's
place_first : (x : Entry) (xs : List Entry) (b : ℕ) → x.block ≡ b → place_in (x ∷ xs) b ≡ Some x.place
place_first x xs b h = cond-true (x.block == b) (Some x.place) (place_in xs b) (eq-eqb x.block b h)

-- it isn't
place_later : (x : Entry) (xs : List Entry) (b : ℕ) → x.block ≢ b → place_in (x ∷ xs) b ≡ place_in xs b
place_later x xs b h = cond-false (x.block == b) (Some x.place) (place_in xs b) (ne_eqb x.block b h)

-- the blocks of entries rise, and none is below n
abbrev pub RisesFrom : ℕ → List Entry → Type 0
RisesFrom n [] = Unit {0}
RisesFrom n (e ∷ entries) = (n ≤ e.block) × RisesFrom (e.block + 1) entries

rises_by : (n : ℕ) (es : List Entry) → ((i : ℕ) (e : Entry) → slice_get es i ≡ Some e → n ≤ e.block)
    → ((i j : ℕ) (e f : Entry) → i < j → slice_get es i ≡ Some e → slice_get es j ≡ Some f → e.block < f.block) → RisesFrom n es
rises_by n [] above apart = tt
rises_by n (x ∷ xs) above apart = (
  above 0 x refl,
  rises_by (x.block + 1) xs (λ i e is. let z = apart 0 (suc i) x e (omega arith) refl is in omega (arith, z))
      (λ i j e f lt is js. apart (suc i) (suc j) e f (omega (arith, lt)) is js),
)

pub rises : (es : List Entry) → IsRising es → RisesFrom 0 es
rises es h = rises_by 0 es (λ i e is. omega arith) h.apart

-- no block is below n
pub rises_above : (n : ℕ) (es : List Entry) → RisesFrom n es → (i : ℕ) (e : Entry) → slice_get es i ≡ Some e → n ≤ e.block
rises_above n [] h i e is = cc
rises_above n (x ∷ xs) h zero e is =
    let same : x ≡ e = cc in
    let block : x.block ≡ e.block = ap (λ (y : Entry). y.block) same in
    omega (arith, h.0, block)
rises_above n (x ∷ xs) h (suc i) e is = let r = rises_above (x.block + 1) xs h.1 i e is in omega (arith, h.0, r)

-- an entry has a lower block than those behind it
pub rises_apart : (n : ℕ) (es : List Entry) → RisesFrom n es → (i j : ℕ) (e f : Entry) → i < j
    → slice_get es i ≡ Some e → slice_get es j ≡ Some f → e.block < f.block
rises_apart n [] h i j e f lt is js = cc
rises_apart n (x ∷ xs) h i zero e f lt is js = absurd (omega (arith, lt))
rises_apart n (x ∷ xs) h zero (suc j) e f lt is js =
    let same : x ≡ e = cc in
    let block : x.block ≡ e.block = ap (λ (y : Entry). y.block) same in
    let r = rises_above (x.block + 1) xs h.1 j f js in
    omega (arith, block, r)
rises_apart n (x ∷ xs) h (suc i) (suc j) e f lt is js = rises_apart (x.block + 1) xs h.1 i j e f (omega (arith, lt)) is js

pub rising : (es : List Entry) → RisesFrom 0 es → IsRising es
rising es h = record { apart = rises_apart 0 es h }

-- a block without an entry has no place
pub none_in : (es : List Entry) (b : ℕ) → ((i : ℕ) (e : Entry) → slice_get es i ≡ Some e → e.block ≢ b) → place_in es b ≡ None
none_in [] b h = refl
none_in (x ∷ xs) b h = place_later x xs b (h 0 x refl) ∙ none_in xs b (λ i e is. h (suc i) e is)

-- a lower block has none
none_below : (n : ℕ) (es : List Entry) (b : ℕ) → RisesFrom n es → b < n → place_in es b ≡ None
none_below n es b h lt = none_in es b (λ i e is same. let r = rises_above n es h i e is in absurd (omega (arith, lt, r, same)))

-- nor has one for which there is a gap
pub none_at_gap : (es : List Entry) (at b : ℕ) → IsGapFor es at b → place_in es b ≡ None
none_at_gap es at b g = none_in es b (λ i e is same. elim (cases_lt i at) [
  | inl less ↦ let z = g.below i e less is in omega (arith, z, same)
  | inr le ↦ let z = g.above i e le is in omega (arith, z, same)
])

-- an entry says where its block stands
pub entry_place : (n : ℕ) (es : List Entry) (b : ℕ) → RisesFrom n es → (i : ℕ) (e : Entry) → slice_get es i ≡ Some e → e.block ≡ b → place_in es b ≡ Some e.place
entry_place n [] b h i e is k = cc
entry_place n (x ∷ xs) b h zero e is k =
    let same : x ≡ e = cc in
    place_first x xs b (ap (λ (y : Entry). y.block) same ∙ k) ∙ ap (λ (y : Entry). Some y.place) same
entry_place n (x ∷ xs) b h (suc i) e is k =
    let r = rises_above (x.block + 1) xs h.1 i e is in
    place_later x xs b (λ same. let z : x.block ≡ b = same in omega (arith, r, k, z)) ∙ entry_place (x.block + 1) xs b h.1 i e is k

pub place_at : (n : ℕ) (es : List Entry) (at b : ℕ) (e : Entry) → RisesFrom n es → IsEntryOf es at b → slice_get es at ≡ Some e → place_in es b ≡ Some e.place
place_at n es at b e h f is =
    let same : f.entry ≡ e = (let z = f.is in cc) in
    entry_place n es b h at e is (ap (λ (y : Entry). y.block) (sym same) ∙ f.block_is)

-- a block with a place has an entry
pub entry_of : (es : List Entry) (b p : ℕ) → place_in es b ≡ Some p
    → (i : ℕ) × (e : Entry) × (slice_get es i ≡ Some e) × (e.block ≡ b) × (e.place ≡ p)
entry_of [] b p h = cc
entry_of (x ∷ xs) b p h = by (x.block == b) refl h (λ k. entry_of xs b p k)
  where
    by : (v : Bool) → (x.block == b) ≡ v → cond v (Some x.place) (place_in xs b) ≡ Some p
        → (place_in xs b ≡ Some p → (i : ℕ) × (e : Entry) × (slice_get xs i ≡ Some e) × (e.block ≡ b) × (e.place ≡ p))
        → (i : ℕ) × (e : Entry) × (slice_get (x ∷ xs) i ≡ Some e) × (e.block ≡ b) × (e.place ≡ p)
    by true same k rest = (zero, x, refl, eqb-true x.block b same, (let e : x.place ≡ p = cc in e))
    by false same k rest = let r = rest k in (suc r.0, r.1, r.2, r.3, r.4)

-- what stands at a place of the entries
pub entry_there : (o : Option Entry) (p : ℕ) → place_there o ≡ Some p → (e : Entry) × (o ≡ Some e) × (e.place ≡ p)
entry_there None p h = cc
entry_there (Some e) p h = (e, refl, (let same : e.place ≡ p = cc in same))

-- the entries from a block on begin at its own
pub start_found : (es : List Entry) (at b : ℕ) → IsRising es → IsEntryOf es at b → IsStartOf es at b
start_found es at b h f = record {
  within = let lt = slice_get_within es at f.entry f.is in omega (arith, lt);
  below = λ i e lt is. let z = h.apart i at e f.entry lt is f.is in omega (arith, z, f.block_is);
  above = λ i e le is. elim (cases_lt at i) [
    | inl behind ↦ let z = h.apart at i f.entry e behind f.is is in omega (arith, z, f.block_is)
    | inr ge ↦
        let here : at ≡ i = omega (arith, le, ge) in
        let z : Some f.entry ≡ Some e = sym f.is ∙ ap (slice_get es) here ∙ is in
        let one : f.entry ≡ e = cc in
        let block = ap (λ (y : Entry). y.block) one in
        omega (arith, block, f.block_is)
  ];
}

-- or where it would stand
pub start_missing : (es : List Entry) (at b : ℕ) → IsGapFor es at b → IsStartOf es at b
start_missing es at b g = record {
  within = g.within;
  below = g.below;
  above = λ i e le is. let z = g.above i e le is in omega (arith, z);
}

-- ---- an entry more

-- a call that has room doesn't fail
pub where_room : {T E : Type 0} (r : Result T E) (P Q : Type 0) → (Q → ⊥) → OnErr r Q → OnOk r P → P
where_room (Ok x) P Q never full is = is
where_room (Err e) P Q never full is = absurd (never full)

pub insert_rises : (n : ℕ) (es : List Entry) (i : ℕ) (y : Entry) → RisesFrom n es → n ≤ y.block
    → ((j : ℕ) (e : Entry) → j < i → slice_get es j ≡ Some e → e.block < y.block)
    → ((j : ℕ) (e : Entry) → i ≤ j → slice_get es j ≡ Some e → y.block < e.block) → RisesFrom n (insert es i y)
insert_rises n [] zero y h le below above = (le, tt)
insert_rises n [] (suc i) y h le below above = (le, tt)
insert_rises n (x ∷ xs) zero y h le below above = let z = above 0 x (omega arith) refl in (le, (omega (arith, z), h.1))
insert_rises n (x ∷ xs) (suc i) y h le below above =
    let z = below 0 x (omega arith) refl in
    (h.0, insert_rises (x.block + 1) xs i y h.1 (omega (arith, z)) (λ j e lt. below (suc j) e (omega (arith, lt))) (λ j e ge. above (suc j) e (omega (arith, ge))))

pub insert_this : (es : List Entry) (i : ℕ) (y : Entry)
    → ((j : ℕ) (e : Entry) → j < i → slice_get es j ≡ Some e → e.block < y.block) → place_in (insert es i y) y.block ≡ Some y.place
insert_this [] zero y below = place_first y [] y.block refl
insert_this [] (suc i) y below = place_first y [] y.block refl
insert_this (x ∷ xs) zero y below = place_first y (x ∷ xs) y.block refl
insert_this (x ∷ xs) (suc i) y below =
    let z = below 0 x (omega arith) refl in
    place_later x (insert xs i y) y.block (λ same. let e : x.block ≡ y.block = same in omega (arith, z, e))
    ∙ insert_this xs i y (λ j e lt. below (suc j) e (omega (arith, lt)))

pub insert_others : (es : List Entry) (i : ℕ) (y : Entry) (b : ℕ) → b ≢ y.block → place_in (insert es i y) b ≡ place_in es b
insert_others [] zero y b ne = place_later y [] b (λ same. ne (sym same))
insert_others [] (suc i) y b ne = place_later y [] b (λ same. ne (sym same))
insert_others (x ∷ xs) zero y b ne = place_later y (x ∷ xs) b (λ same. ne (sym same))
insert_others (x ∷ xs) (suc i) y b ne = ap (λ (o : Option ℕ). cond (x.block == b) (Some x.place) o) (insert_others xs i y b ne)

-- ---- an entry less

-- what is there is removed
pub is_removed : {T : Type 0} (r : Option T) (P Q : Type 0) → (IsSome r ↔ Q) → Q → OnSome r P → P
is_removed None P Q there is items = let z : false ≡ true = there.1 is in absurd (let q : ⊥ = cc in q)
is_removed (Some x) P Q there is items = items

rises_from_less : (m n : ℕ) (es : List Entry) → m ≤ n → RisesFrom n es → RisesFrom m es
rises_from_less m n [] le h = tt
rises_from_less m n (x ∷ xs) le h = (omega (arith, le, h.0), h.1)

pub remove_rises : (n : ℕ) (es : List Entry) (i : ℕ) → RisesFrom n es → RisesFrom n (remove es i)
remove_rises n [] zero h = tt
remove_rises n [] (suc i) h = tt
remove_rises n (x ∷ xs) zero h = rises_from_less n (x.block + 1) xs (omega (arith, h.0)) h.1
remove_rises n (x ∷ xs) (suc i) h = (h.0, remove_rises (x.block + 1) xs i h.1)

pub remove_this : (n : ℕ) (es : List Entry) (i b : ℕ) (e : Entry) → RisesFrom n es → slice_get es i ≡ Some e → e.block ≡ b → place_in (remove es i) b ≡ None
remove_this n [] i b e h is k = cc
remove_this n (x ∷ xs) zero b e h is k =
    let same : x ≡ e = cc in
    let block : x.block ≡ e.block = ap (λ (y : Entry). y.block) same in
    none_below (x.block + 1) xs b h.1 (omega (arith, block, k))
remove_this n (x ∷ xs) (suc i) b e h is k =
    let r = rises_above (x.block + 1) xs h.1 i e is in
    place_later x (remove xs i) b (λ same. let z : x.block ≡ b = same in omega (arith, r, k, z)) ∙ remove_this (x.block + 1) xs i b e h.1 is k

pub remove_others : (es : List Entry) (i b : ℕ) (e : Entry) → slice_get es i ≡ Some e → b ≢ e.block → place_in (remove es i) b ≡ place_in es b
remove_others [] i b e is ne = cc
remove_others (x ∷ xs) zero b e is ne =
    let same : x ≡ e = cc in
    sym (place_later x xs b (λ k. ne (sym k ∙ ap (λ (y : Entry). y.block) same)))
remove_others (x ∷ xs) (suc i) b e is ne = ap (λ (o : Option ℕ). cond (x.block == b) (Some x.place) o) (remove_others xs i b e is ne)

-- ---- a search by halves

-- the one in the middle is lower: so are those before it
pub low_moved : (es : List Entry) (m b : ℕ) (x : Entry) → IsRising es → slice_get es m ≡ Some x → x.block < b
    → (i : ℕ) (e : Entry) → i < m + 1 → slice_get es i ≡ Some e → e.block < b
low_moved es m b x h xs lt i e le is = elim (cases_lt i m) [
  | inl less ↦ let z = h.apart i m e x less is xs in omega (arith, z, lt)
  | inr ge ↦
      let im : i ≡ m = omega (arith, le, ge) in
      let k = ap (slice_get es) (sym im) ∙ is in
      let same : x ≡ e = cc in
      let block : x.block ≡ e.block = ap (λ (y : Entry). y.block) same in
      omega (arith, block, lt)
]

-- it is higher: so are those behind it
pub high_moved : (es : List Entry) (m b : ℕ) (x : Entry) → IsRising es → slice_get es m ≡ Some x → b < x.block
    → (i : ℕ) (e : Entry) → m ≤ i → slice_get es i ≡ Some e → b < e.block
high_moved es m b x h xs lt i e le is = elim (cases_lt m i) [
  | inl less ↦ let z = h.apart m i x e less xs is in omega (arith, z, lt)
  | inr ge ↦
      let im : i ≡ m = omega (arith, le, ge) in
      let k = ap (slice_get es) (sym im) ∙ is in
      let same : x ≡ e = cc in
      let block : x.block ≡ e.block = ap (λ (y : Entry). y.block) same in
      omega (arith, block, lt)
]
