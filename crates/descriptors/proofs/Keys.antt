-- Open files under keys of a slab, seen as a list.
use Rattle.std.proofs.Common.{◌≡◌, ◌≢◌, ◌<◌, ◌+◌, ℕ, zero, suc, true, cond, List, [], ◌∷◌, length, map, set, get_or, Option, Some, None, refl, sym, ap, subst, ◌∙◌, arith, inl, inr, length-set, ◌⊎◌}
use Rattle.std.specs.Prelude.{IsSome, is_none, is_some, IsTrue, count_by, option_map}
use Rattle.std.specs.List.{position}
use Rattle.std.proofs.lemmas.Bool.{cases_eq, cases_lt}
use Rattle.std.proofs.lemmas.List.{get_or-set_same, get_or-set_other, length-map, get_or_past, set-set, set-get_or, map-set, get_or-map}
use Rattle.std.proofs.lemmas.List.Sums.{sum_by-set, count_by-le-length}
use Rattle.lemmas.proofs.Bools.{false_not_true}
use Rattle.lemmas.proofs.Options.{some_same}
use Rattle.slab.specs.Slab.{with_value, Slab, get, slab_len, HasRoomFor, Updates}
use Rattle.lemmas.proofs.Maps.{not_nothing}
use Rattle.descriptors.specs.declared.opened.Opened.{Opened}
use Rattle.tree.specs.Tree.{OpenFile}
use Rattle.descriptors.specs.Keys.{at_position, file_of, file_under, AreKeys}
use Rattle.descriptors.proofs.Searches.{same_first}

-- nothing stands at a key that isn't there
pub no_key : (slab : Slab Opened) (key : ℕ) → IsTrue (is_some (get slab key)) → get slab key ≡ None → ⊥
no_key slab key there none = false_not_true (sym (ap is_some none) ∙ there)

-- where there is a key there is an open file
pub some_under : (slab : Slab Opened) (keys : List (Option ℕ)) (o : Option ℕ) → ((key : ℕ) → o ≡ Some key → IsTrue (is_some (get slab key))) → is_some (file_under slab o) ≡ is_some o
some_under slab keys None h = refl
some_under slab keys (Some key) h = there (get slab key) (h key refl)
  where
    there : (p : Option Opened) → IsTrue (is_some p) → is_some (option_map file_of p) ≡ true
    there None t = absurd (false_not_true t)
    there (Some x) t = refl

-- the first number without a key is the first without an open file
pub first_is : (slab : Slab Opened) (keys : List (Option ℕ)) → AreKeys slab keys → position is_none keys ≡ position is_none (map (file_under slab) keys)
first_is slab keys a = sym (same_first (file_under slab) keys (λ k l. some_under slab keys (get_or keys k None) (λ key e. a.held k key e)))

-- what stands at a number
pub seen_at : (slab : Slab Opened) (keys : List (Option ℕ)) (k : ℕ) → k < length keys → get_or (map (file_under slab) keys) k None ≡ file_under slab (get_or keys k None)
seen_at slab keys k l = get_or-map (file_under slab) keys k None None l

-- lists of open files that agree at each number
pub same_seen : (s t : Slab Opened) (ks ls : List (Option ℕ)) → length ks ≡ length ls → ((k : ℕ) → k < length ks → file_under s (get_or ks k None) ≡ file_under t (get_or ls k None))
    → map (file_under s) ks ≡ map (file_under t) ls
same_seen s t [] [] e h = refl
same_seen s t [] (l ∷ ls) e h = absurd (omega (arith, e))
same_seen s t (k ∷ ks) [] e h = absurd (omega (arith, e))
same_seen s t (k ∷ ks) (l ∷ ls) e h =
    ap (λ o. o ∷ map (file_under s) ks) (h zero (omega arith))
    ∙ ap (λ os. file_under t l ∷ os) (same_seen s t ks ls (omega (arith, e)) (λ j low. h (suc j) (omega (arith, low))))

-- an option is none, or is some
pub none_or_some : {X : Type 0} (o : Option X) → (o ≡ None) ⊎ ((x : X) × (o ≡ Some x))
none_or_some None = inl refl
none_or_some (Some x) = inr (x, refl)

-- where another key changes, the open file under a key stays
pub other_under : (s t : Slab Opened) (key : ℕ) (slot : Option Opened) → Updates s t key slot → (o : Option ℕ) → (o ≢ Some key) → file_under t o ≡ file_under s o
other_under s t key slot u None d = refl
other_under s t key slot u (Some other) d = ap (option_map file_of) (u.others other (λ e. d (ap Some e)))

-- the keys and what is left of them after an open file comes at a free number
pub inserted : (s t : Slab Opened) (keys : List (Option ℕ)) (n key : ℕ) (file : Opened) → AreKeys s keys → n < length keys → get_or keys n None ≡ None
    → get s key ≡ None → Updates s t key (Some file) → map (file_under t) (set keys n (Some key)) ≡ set (map (file_under s) keys) n (Some (file_of file))
inserted s t keys n key file a low free was u =
    map-set (file_under t) keys n (Some key)
    ∙ ap (λ o. set (map (file_under t) keys) n (option_map file_of o)) u.changed
    ∙ ap (λ os. set os n (Some (file_of file))) (same_seen t s keys keys refl (λ k l. other_under s t key (Some file) u (get_or keys k None) (λ e. no_key s key (a.held k key e) was)))

-- 1 where there is a key
abbrev flag : Option ℕ → ℕ
flag o = cond (is_some o) 1 0

-- one key more, of a slab with room
one_more : (keys : List (Option ℕ)) (n : ℕ) (o : Option ℕ) → n < length keys → count_by is_some (set keys n o) + flag (get_or keys n None) ≡ count_by is_some keys + flag o
one_more keys n o low = sum_by-set flag keys n o None low

-- there is room for one more
pub room_for : (s : Slab Opened) (keys : List (Option ℕ)) (n : ℕ) → AreKeys s keys → n < length keys → get_or keys n None ≡ None → HasRoomFor s 1
room_for s keys n a low free =
    let counts = one_more keys n (Some 0) low in
    let none : flag (get_or keys n None) ≡ flag None = ap flag free in
    let most = count_by-le-length is_some (set keys n (Some 0)) in
    let len = length-set keys n (Some 0) in
    omega (arith, counts, none, most, len, a.counted, a.room, a.numbers)

-- the keys after one more
pub keys_inserted : (s t : Slab Opened) (keys : List (Option ℕ)) (n key : ℕ) (file : Opened) → AreKeys s keys → n < length keys → get_or keys n None ≡ None
    → get s key ≡ None → Updates s t key (Some file) → slab_len t ≡ slab_len s + 1 → t.capacity ≡ s.capacity → AreKeys t (set keys n (Some key))
keys_inserted s t keys n key file a low free was u len capacity = record {
  numbers = length-set keys n (Some key) ∙ a.numbers;
  held = λ k other e. elim (cases_eq k n) [
    | inl is ↦
        let same : other ≡ key = some_same other key (sym e ∙ ap (λ j. get_or (set keys n (Some key)) j None) is ∙ get_or-set_same keys n (Some key) None low) in
        subst (λ (x : ℕ). IsTrue (is_some (get t x))) (sym same) (subst (λ (o : Option Opened). IsTrue (is_some o)) (sym u.changed) refl)
    | inr d ↦
        let was_there = sym (get_or-set_other keys n k (Some key) None d) ∙ e in
        let differ : other ≢ key = λ x. no_key s key (a.held k key (was_there ∙ ap Some x)) was in
        subst (λ (o : Option Opened). IsTrue (is_some o)) (sym (u.others other differ)) (a.held k other was_there)
  ];
  apart = λ j k other e f. elim (cases_eq j n) [
    | inl is ↦ elim (cases_eq k n) [
      | inl too ↦ is ∙ sym too
      | inr d ↦
          let same : other ≡ key = some_same other key (sym e ∙ ap (λ i. get_or (set keys n (Some key)) i None) is ∙ get_or-set_same keys n (Some key) None low) in
          absurd (no_key s key (a.held k key (sym (get_or-set_other keys n k (Some key) None d) ∙ f ∙ ap Some same)) was)
    ]
    | inr d ↦ elim (cases_eq k n) [
      | inl is ↦
          let same : other ≡ key = some_same other key (sym f ∙ ap (λ i. get_or (set keys n (Some key)) i None) is ∙ get_or-set_same keys n (Some key) None low) in
          absurd (no_key s key (a.held j key (sym (get_or-set_other keys n j (Some key) None d) ∙ e ∙ ap Some same)) was)
      | inr c ↦ a.apart j k other (sym (get_or-set_other keys n j (Some key) None d) ∙ e) (sym (get_or-set_other keys n k (Some key) None c) ∙ f)
    ]
  ];
  counted =
      let counts = one_more keys n (Some key) low in
      let none : flag (get_or keys n None) ≡ flag None = ap flag free in
      omega (arith, counts, none, len, a.counted);
  room = omega (arith, capacity, a.room);
}

-- where the others stay, they are seen as before
others_seen : (s t : Slab Opened) (keys : List (Option ℕ)) (n key : ℕ) (slot : Option Opened) → AreKeys s keys → get_or keys n None ≡ Some key → Updates s t key slot
    → map (file_under t) (set keys n None) ≡ map (file_under s) (set keys n None)
others_seen s t keys n key slot a is u =
    same_seen t s (set keys n None) (set keys n None) refl (λ k l. other_under s t key slot u (get_or (set keys n None) k None) (λ e. elim (cases_eq k n) [
      | inl same ↦ elim (cases_lt n (length keys)) [
        | inl low ↦ not_nothing key (sym (ap (λ j. get_or (set keys n None) j None) same ∙ get_or-set_same keys n None None low) ∙ e)
        | inr past ↦ let len : length (set keys n None) ≡ length keys = length-set keys n None in omega (arith, past, l, same, len)
      ]
      | inr d ↦ d (a.apart k n key (sym (get_or-set_other keys n k None None d) ∙ e) is)
    ]))

-- the list after the key at a number goes
pub removed : (s t : Slab Opened) (keys : List (Option ℕ)) (n key : ℕ) → AreKeys s keys → get_or keys n None ≡ Some key → Updates s t key None
    → map (file_under t) (set keys n None) ≡ set (map (file_under s) keys) n None
removed s t keys n key a is u = others_seen s t keys n key None a is u ∙ map-set (file_under s) keys n None

-- the keys after one went
pub keys_removed : (s t : Slab Opened) (keys : List (Option ℕ)) (n key : ℕ) → AreKeys s keys → n < length keys → get_or keys n None ≡ Some key
    → Updates s t key None → slab_len t + 1 ≡ slab_len s → t.capacity ≡ s.capacity → AreKeys t (set keys n None)
keys_removed s t keys n key a low is u len capacity = record {
  numbers = length-set keys n None ∙ a.numbers;
  held = λ k other e. elim (cases_eq k n) [
    | inl same ↦ absurd (not_nothing other (sym (ap (λ j. get_or (set keys n None) j None) same ∙ get_or-set_same keys n None None low) ∙ e))
    | inr d ↦
        let was_there = sym (get_or-set_other keys n k None None d) ∙ e in
        subst (λ (o : Option Opened). IsTrue (is_some o)) (sym (u.others other (λ x. d (a.apart k n key (was_there ∙ ap Some x) is)))) (a.held k other was_there)
  ];
  apart = λ j k other e f. elim (cases_eq j n) [
    | inl same ↦ absurd (not_nothing other (sym (ap (λ i. get_or (set keys n None) i None) same ∙ get_or-set_same keys n None None low) ∙ e))
    | inr d ↦ elim (cases_eq k n) [
      | inl same ↦ absurd (not_nothing other (sym (ap (λ i. get_or (set keys n None) i None) same ∙ get_or-set_same keys n None None low) ∙ f))
      | inr c ↦ a.apart j k other (sym (get_or-set_other keys n j None None d) ∙ e) (sym (get_or-set_other keys n k None None c) ∙ f)
    ]
  ];
  counted =
      let counts = one_more keys n None low in
      let one : flag (get_or keys n None) ≡ flag (Some key) = ap flag is in
      omega (arith, counts, one, len, a.counted);
  room = omega (arith, capacity, a.room);
}

-- the list after the open file under a key changes
pub updated : (s t : Slab Opened) (keys : List (Option ℕ)) (n key : ℕ) (file : Opened) → AreKeys s keys → get_or keys n None ≡ Some key → Updates s t key (Some file)
    → map (file_under t) keys ≡ set (map (file_under s) keys) n (Some (file_of file))
updated s t keys n key file a is u =
    ap (map (file_under t)) (sym (set-set keys n None (Some key) ∙ ap (set keys n) (sym is) ∙ set-get_or keys n None))
    ∙ map-set (file_under t) (set keys n None) n (Some key)
    ∙ ap (λ (o : Option Opened). set (map (file_under t) (set keys n None)) n (option_map file_of o)) u.changed
    ∙ ap (λ (os : List (Option OpenFile)). set os n (Some (file_of file))) (others_seen s t keys n key (Some file) a is u ∙ map-set (file_under s) keys n None)
    ∙ set-set (map (file_under s) keys) n None (Some (file_of file))

-- a value that is written over another under its key
written : (s : Slab Opened) (key : ℕ) (old new : Opened) → get s key ≡ Some old → Updates s (with_value s key new) key (Some new)
written s key old new is = record {
  changed = get_or-set_same s.slots key (Some new) None (elim (cases_lt key (length s.slots)) [
    | inl low ↦ low
    | inr past ↦ absurd (not_nothing old (sym (get_or_past s.slots key None past) ∙ is))
  ]);
  others = λ other d. get_or-set_other s.slots key other (Some new) None d;
}

-- the list after the position of the open file under a key is set
pub moved_at : (s : Slab Opened) (keys : List (Option ℕ)) (n key place : ℕ) (old new : Opened) → AreKeys s keys → n < length keys → get_or keys n None ≡ Some key
    → get s key ≡ Some old → file_of new ≡ at_position place (file_of old)
    → map (file_under (with_value s key new)) keys ≡ set (map (file_under s) keys) n (option_map (at_position place) (get_or (map (file_under s) keys) n None))
moved_at s keys n key place old new a low is was file =
    updated s (with_value s key new) keys n key new a is (written s key old new was)
    ∙ ap (λ (o : Option OpenFile). set (map (file_under s) keys) n o)
    (ap Some file ∙ ap (option_map (at_position place)) (sym (seen_at s keys n low ∙ ap (file_under s) is ∙ ap (option_map file_of) was)))

-- a list as long as the keys
pub low_in : (s : Slab Opened) (keys : List (Option ℕ)) (now : List (Option OpenFile)) (n : ℕ) → map (file_under s) keys ≡ now → n < length now → n < length keys
low_in s keys now n e l = let is : length (map (file_under s) keys) ≡ length now = ap length e in let len : length (map (file_under s) keys) ≡ length keys = length-map keys (file_under s) in omega (arith, is, len, l)

-- what is nothing in the list has no key
pub free_in : (s : Slab Opened) (keys : List (Option ℕ)) (now : List (Option OpenFile)) (n : ℕ) → AreKeys s keys → map (file_under s) keys ≡ now → n < length now → get_or now n None ≡ None → get_or keys n None ≡ None
free_in s keys now n a e l none =
    let low = low_in s keys now n e l in elim (none_or_some (get_or keys n None)) [
      | inl is ↦ is
      | inr some ↦
          let seen : file_under s (get_or keys n None) ≡ None = sym (seen_at s keys n low) ∙ ap (λ (os : List (Option OpenFile)). get_or os n None) e ∙ none in
          absurd (false_not_true (sym (ap is_some seen) ∙ some_under s keys (get_or keys n None) (λ key is. a.held n key is) ∙ ap is_some some.1))
    ]

-- a number of what is open is within the list
pub open_in : (now : List (Option OpenFile)) (n : ℕ) → IsSome (get_or now n None) → n < length now
open_in now n some = elim (cases_lt n (length now)) [
  | inl low ↦ low
  | inr past ↦ absurd (false_not_true (sym (ap is_some (get_or_past now n None past)) ∙ some))
]
