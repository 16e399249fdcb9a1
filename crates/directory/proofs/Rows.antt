-- What a change of one entry does to a row.
use Rattle.std.proofs.Common.{◌≡◌, ◌≢◌, ◌⊎◌, ◌<◌, ◌≤◌, ◌+◌, ◌*◌, ◌-◌, ℕ, zero, suc, [], ◌∷◌, length, Bool, true, refl, sym, ap, ◌∙◌, cond, arith, subst}
use mathlib.Core.Logic.{inl, inr}
use Rattle.std.specs.Prelude.{◌==◌, None, Some, IsTrue, T}
use Rattle.std.proofs.lemmas.Bool.{cases_eq, cases_Bool, cases_lt}
use Rattle.tree.specs.Names.{Name, name_cmp, is_name, is_dots, dot, dot_dot, inode_of, with_name, without_name}
use Rattle.volume.specs.Nodes.{text_in, entry_name, entry_inode, names_in}
use Rattle.volume.proofs.Entries.{collected, found_entry, not_found, length_entries, sorted}
use Rattle.std.specs.FinMap.Entries.{is_sorted}
use Rattle.directory.specs.Rows.{IsRow, SameEntry, SetsEntry, DropsEntry, has_field, has_good_field, names_of_row, FoundEntry, NoEntry, NoneHasIt, EntryOfName, InsertedNames, InsertKeeps, RemovedNames, RemoveKeeps, ReplacedNames, ReplaceKeeps, RetargetedNames, ReparentedNames, ReparentKeeps, CountedNames, NextName, NewRow, NoneAtFirst, NoneSoFar, AllBytes, OtherByte, SortedNames, NamesCommute, RenamedOnto}
use Rattle.directory.proofs.Text.{bytes_of_field, field_of_bytes, name_of_bytes, bytes_of_good, name_of_good, name_plain, name_not_dots, dot_plain, dot_dot_plain, good_of_bytes, field_is_name, name_is_field}
use Rattle.directory.proofs.Maps.{Apart, apart_either, leads, removed_apart, removed_map, replaced_apart, replaced_map, with_over, sorted_T, put_then_drop}

-- the text of the same bytes elsewhere
text_moved : (f h : ℕ → ℕ) (k p q : ℕ) → ((a : ℕ) → a < k → h (q + a) ≡ f (p + a)) → text_in h k q ≡ text_in f k p
text_moved f h zero p q same = refl
text_moved f h (suc k) p q same =
    let i : q ≡ q + 0 = omega arith in
    let j : p + 0 ≡ p = omega arith in
    let here : h q ≡ f p = ap h i ∙ same 0 (omega arith) ∙ ap f j in
    let rest = text_moved f h k (suc p) (suc q) (λ a low. let x : suc q + a ≡ q + suc a = omega arith in let y : p + suc a ≡ suc p + a = omega arith in ap h x ∙ same (suc a) (omega arith) ∙ ap f y) in
    λ t. cond (here t == 0) [] (here t ∷ rest t)

module _ (f h : ℕ → ℕ) (e d : ℕ) (same : SameEntry f h e d) where
  same_bytes : (a : ℕ) → a < 60 → h (64 * d + 4 + a) ≡ f (64 * e + 4 + a)
  same_bytes a low =
      let i : 64 * d + 4 + a ≡ 64 * d + (4 + a) = omega arith in
      let j : 64 * e + (4 + a) ≡ 64 * e + 4 + a = omega arith in
      ap h i ∙ same (4 + a) (omega arith) ∙ ap f j

  pub same_target : entry_inode h d ≡ entry_inode f e
  same_target =
      let i : 64 * d ≡ 64 * d + 0 = omega arith in
      let j : 64 * e + 0 ≡ 64 * e = omega arith in
      let a : h (64 * d) ≡ f (64 * e) = ap h i ∙ same 0 (omega arith) ∙ ap f j in
      let b = same 1 (omega arith) in
      let c = same 2 (omega arith) in
      let k : 64 * d + 2 + 1 ≡ 64 * d + 3 = omega arith in
      let l : 64 * e + 3 ≡ 64 * e + 2 + 1 = omega arith in
      let m : h (64 * d + 2 + 1) ≡ f (64 * e + 2 + 1) = ap h k ∙ same 3 (omega arith) ∙ ap f l in
      omega arith

  pub same_name_there : entry_name h d ≡ entry_name f e
  same_name_there = text_moved f h 60 (64 * e + 4) (64 * d + 4) same_bytes

  same_field : (name : Name) → IsTrue (has_field f e name) → IsTrue (has_field h d name)
  same_field name is = field_of_bytes h d name (λ a low. same_bytes a low ∙ bytes_of_field f e name is a low)

  same_good : IsTrue (has_good_field f e) → IsTrue (has_good_field h d)
  same_good is = good_of_bytes h d (entry_name f e) (name_of_good f e is) (λ a low. same_bytes a low ∙ bytes_of_good f e is a low)

-- the names after the first two entries
abbrev pub after : (ℕ → ℕ) → ℕ → Name
after f e = entry_name f (e + 2)

abbrev pub leads_to : (ℕ → ℕ) → ℕ → ℕ
leads_to f e = entry_inode f (e + 2)

pub row_names : (f : ℕ → ℕ) (m : ℕ) → names_in f m ≡ collected (after f) (leads_to f) m
unfolding names_in collected
row_names f zero = refl
row_names f (suc m) = ap (λ es. with_name es (after f m) (leads_to f m)) (row_names f m)

step : (f : ℕ → ℕ) (m : ℕ) → names_in f (suc m) ≡ with_name (names_in f m) (after f m) (leads_to f m)
unfolding names_in
step f m = refl

-- 6
pub next_name : NextName
next_name f e two =
    let i : e + 1 - 2 ≡ suc (e - 2) = omega arith in
    let j : e - 2 + 2 ≡ e = omega arith in
    ap (names_in f) i ∙ step f (e - 2) ∙ (λ t. with_name (names_in f (e - 2)) (entry_name f (j t)) (entry_inode f (j t)))

-- the names of the same entries
same_front : (f h : ℕ → ℕ) (m : ℕ) → ((d : ℕ) → d < m → SameEntry f h (d + 2) (d + 2)) → names_in h m ≡ names_in f m
unfolding names_in
same_front f h zero same = refl
same_front f h (suc m) same =
    let here = same m (omega arith) in
    λ t. with_name (same_front f h m (λ d low. same d (omega arith)) t) (same_name_there f h (m + 2) (m + 2) here t) (same_target f h (m + 2) (m + 2) here t)

-- a place among the names
at_name : (f : ℕ → ℕ) (e : ℕ) → 2 ≤ e → after f (e - 2) ≡ entry_name f e
at_name f e two = let j : e - 2 + 2 ≡ e = omega arith in ap (entry_name f) j

at_target : (f : ℕ → ℕ) (e : ℕ) → 2 ≤ e → leads_to f (e - 2) ≡ entry_inode f e
at_target f e two = let j : e - 2 + 2 ≡ e = omega arith in ap (entry_inode f) j

-- neither . nor .. is a name
not_dot : (name : Name) → is_name name ≡ true → dot ≢ name
not_dot name is e = let out = name_not_dots name is in let other : true ≡ is_dots name = ap is_dots e in absurd (cc)

not_dot_dot : (name : Name) → is_name name ≡ true → dot_dot ≢ name
not_dot_dot name is e = let out = name_not_dots name is in let other : true ≡ is_dots name = ap is_dots e in absurd (cc)

one_is_two : (a b : ℕ) → a ≡ 1 → b ≡ 2 → a ≢ b
one_is_two a b one two e = absurd (omega arith)

apart_dots : dot ≢ dot_dot
apart_dots e = one_is_two (length dot) (length dot_dot) refl refl (ap length e)

-- a row by its rules but that names differ, where those after the first two do
row_from : (h : ℕ → ℕ) (n k : ℕ) → 2 ≤ k → IsTrue (has_field h 0 dot) → entry_inode h 0 ≡ n → IsTrue (has_field h 1 dot_dot) → ((e : ℕ) → e < k → entry_inode h e ≢ 0)
    → ((e : ℕ) → 2 ≤ e → e < k → IsTrue (has_good_field h e)) → Apart (after h) (k - 2) → IsRow h n k
row_from h n k two first target second used good apart = record {
  two = two;
  dot_entry = (first, target);
  dot_dot_entry = second;
  used = used;
  names = good;
  distinct = λ e d less under same. elim (cases_lt e 2) [
    | inr past ↦ apart (e - 2) (d - 2) (omega arith) (omega arith) (at_name h e past ∙ same ∙ sym (at_name h d (omega arith)))
    | inl front ↦ elim (cases_lt d 2) [
      | inl both ↦ let x : e ≡ 0 = omega arith in let y : d ≡ 1 = omega arith in apart_dots (sym name_0 ∙ ap (entry_name h) (sym x) ∙ same ∙ ap (entry_name h) y ∙ name_1)
      | inr past ↦
          let is = name_of_good h d (good d past under) in
          elim (cases_eq e 0) [
            | inl x ↦ not_dot (entry_name h d) is (sym name_0 ∙ ap (entry_name h) (sym x) ∙ same)
            | inr some ↦ let x : e ≡ 1 = omega arith in not_dot_dot (entry_name h d) is (sym name_1 ∙ ap (entry_name h) (sym x) ∙ same)
          ]
    ]
  ];
}
  where
    name_0 : entry_name h 0 ≡ dot
    name_0 = name_of_bytes h 0 dot dot_plain (bytes_of_field h 0 dot first)

    name_1 : entry_name h 1 ≡ dot_dot
    name_1 = name_of_bytes h 1 dot_dot dot_dot_plain (bytes_of_field h 1 dot_dot second)

module _ (f : ℕ → ℕ) (n k : ℕ) (row : IsRow f n k) where
  row_apart : Apart (after f) (k - 2)
  row_apart c d less under = row.distinct (c + 2) (d + 2) (omega arith) (omega arith)

  -- each entry is what its name leads to
  entry_there : (e : ℕ) (name : Name) → 2 ≤ e → e < k → entry_name f e ≡ name → inode_of (names_of_row f k) name ≡ Some (entry_inode f e)
  entry_there e name past low same =
      ap (λ es. inode_of es name) (row_names f (k - 2))
      ∙ leads (after f) (leads_to f) (k - 2) (e - 2) (entry_inode f e) name row_apart (omega arith) (at_name f e past ∙ same) (at_target f e past)

  -- a name that isn't there is no entry's
  fresh_name : (name : Name) → inode_of (names_of_row f k) name ≡ None → (e : ℕ) → 2 ≤ e → e < k → entry_name f e ≢ name
  fresh_name name none e past low same = let some = entry_there e name past low same in absurd (cc)

-- 5
pub found_at : FoundEntry
found_at f n k e name row is past low field = entry_there f n k row e name past low (field_is_name f n k e name row is past low field)

pub no_entry : NoEntry
no_entry f n k name row is none =
    ap (λ es. inode_of es name) (row_names f (k - 2))
    ∙ not_found (after f) (leads_to f) (k - 2) name (λ e low same.
    let out = none (e + 2) (omega arith) (omega arith) in
    let has = ap (has_field f (e + 2)) (sym same) ∙ name_is_field f n k (e + 2) row (omega arith) (omega arith) in
    absurd (cc))

pub none_has_it : NoneHasIt
none_has_it f n k name row is none e past low = elim (cases_Bool (has_field f e name)) [
  | inl has ↦ let some = found_at f n k e name row is past low has in absurd (cc)
  | inr out ↦ out
]

pub entry_of_name : EntryOfName
entry_of_name f n k x name row is =
    let r = found_entry (after f) (leads_to f) (k - 2) name x (ap (λ es. inode_of es name) (sym (row_names f (k - 2))) ∙ is) in
    let e : ℕ = r.0 in
    let low : e < k - 2 = r.1 in
    let named : entry_name f (e + 2) ≡ name = r.2 in
    record {
      entry = e + 2;
      past = omega arith;
      low = omega arith;
      field = ap (has_field f (e + 2)) (sym named) ∙ name_is_field f n k (e + 2) row (omega arith) (omega arith);
      target = r.3;
    }

pub counted_names : CountedNames
counted_names f n k row =
    let two = row.two in
    let l = ap length (row_names f (k - 2)) ∙ length_entries (after f) (leads_to f) (k - 2) (row_apart f n k row) in
    omega arith

-- an entry beside the one that changes
pub beside : (f h : ℕ → ℕ) (e x d : ℕ) (name : Name) → SetsEntry f h e x name → d ≢ e → SameEntry f h d d
beside f h e x d name s differ o low = s.others (64 * d + o) (elim (cases_lt d e) [ inl l ↦ inl (omega arith) | inr m ↦ inr (omega arith) ])

new_name : (f h : ℕ → ℕ) (e x : ℕ) (name : Name) → SetsEntry f h e x name → is_name name ≡ true → entry_name h e ≡ name
new_name f h e x name s is = name_of_bytes h e name (name_plain name is) s.here.bytes

-- 1
pub inserted_names : InsertedNames
inserted_names f h n k x name row is s =
    let two = row.two in
    next_name h k two
    ∙ (λ t. with_name (same_front f h (k - 2) (λ d low. beside f h k x (d + 2) name s (λ z. absurd (omega arith))) t) (new_name f h k x name s is t) (s.here.target t))

pub insert_keeps : InsertKeeps
insert_keeps f h n k x name row is some none s =
    let two = row.two in
    row_from h n (k + 1) (omega arith)
    (same_field f h 0 0 (same 0 (omega arith)) dot row.dot_entry.0)
    (same_target f h 0 0 (same 0 (omega arith)) ∙ row.dot_entry.1)
    (same_field f h 1 1 (same 1 (omega arith)) dot_dot row.dot_dot_entry)
    (λ e low zero_. elim (cases_eq e k) [
      | inl last ↦ some (sym s.here.target ∙ ap (entry_inode h) (sym last) ∙ zero_)
      | inr differ ↦ row.used e (omega arith) (sym (same_target f h e e (same e differ)) ∙ zero_)
    ])
    (λ e past low. elim (cases_eq e k) [
      | inl last ↦ ap (has_good_field h) last ∙ good_of_bytes h k name is s.here.bytes
      | inr differ ↦ same_good f h e e (same e differ) (row.names e past (omega arith))
    ])
    (λ c d less under e. elim (cases_eq (d + 2) k) [
      | inl last ↦
          let differ : c + 2 ≢ k = (λ z. absurd (omega arith)) in
          fresh_name f n k row name none (c + 2) (omega arith) (omega arith) (sym (same_name_there f h (c + 2) (c + 2) (same (c + 2) differ)) ∙ e ∙ ap (entry_name h) last ∙ new_name f h k x name s is)
      | inr differ ↦
          let other : c + 2 ≢ k = (λ z. absurd (omega arith)) in
          row.distinct (c + 2) (d + 2) (omega arith) (omega arith)
          (sym (same_name_there f h (c + 2) (c + 2) (same (c + 2) other)) ∙ e ∙ same_name_there f h (d + 2) (d + 2) (same (d + 2) differ))
    ])
  where
    same : (d : ℕ) → d ≢ k → SameEntry f h d d
    same d differ = beside f h k x d name s differ

-- 2
module _ (f h : ℕ → ℕ) (n k e : ℕ) (row : IsRow f n k) (past : 2 ≤ e) (low : e < k) (s : DropsEntry f h k e) where
  stays : (d : ℕ) → d < k - 1 → d ≢ e → SameEntry f h d d
  stays d under differ o bound = s.others (64 * d + o) (elim (cases_lt d e) [ inl l ↦ inl (omega arith) | inr m ↦ inr (omega arith) ]) (omega arith)

  -- where an entry comes from
  record Origin (d : ℕ) : Type 0 where
    place : ℕ
    below : place < k
    front : 2 ≤ d → 2 ≤ place
    same : SameEntry f h place d

  origin : (d : ℕ) → d < k - 1 → Origin d
  origin d under = elim (cases_eq d e) [
    | inl is ↦ record { place = k - 1; below = omega arith; front = λ z. omega arith; same = subst (SameEntry f h (k - 1)) (sym is) (s.here (omega arith)) }
    | inr differ ↦ record { place = d; below = omega arith; front = λ z. z; same = stays d under differ }
  ]

  filled : e - 2 < k - 2 - 1 → (after h (e - 2) ≡ after f (k - 2 - 1)) × (leads_to h (e - 2) ≡ leads_to f (k - 2 - 1))
  filled under =
      let j : k - 1 ≡ k - 2 - 1 + 2 = omega arith in
      let same = s.here (omega arith) in
      (at_name h e past ∙ same_name_there f h (k - 1) e same ∙ ap (entry_name f) j, at_target h e past ∙ same_target f h (k - 1) e same ∙ ap (entry_inode f) j)

  kept : (d : ℕ) → d < k - 2 - 1 → d ≢ e - 2 → (after h d ≡ after f d) × (leads_to h d ≡ leads_to f d)
  kept d under differ =
      let other : d + 2 ≢ e = (λ z. differ (omega arith)) in
      let same = stays (d + 2) (omega arith) other in
      (same_name_there f h (d + 2) (d + 2) same, same_target f h (d + 2) (d + 2) same)

  names_removed : names_of_row h (k - 1) ≡ without_name (names_of_row f k) (entry_name f e)
  names_removed =
      let j : k - 1 - 2 ≡ k - 2 - 1 = omega arith in
      row_names h (k - 1 - 2) ∙ ap (collected (after h) (leads_to h)) j
      ∙ removed_map (after f) (after h) (leads_to f) (leads_to h) (k - 2) (e - 2) (row_apart f n k row) (omega arith) filled kept
      ∙ (let back = sym (row_names f (k - 2)) in λ t. without_name (back t) (at_name f e past t))

  row_removed : IsRow h n (k - 1)
  row_removed =
      let first = origin 0 (omega arith) in
      row_from h n (k - 1) (omega arith)
      (same_field f h 0 0 (stays 0 (omega arith) (λ z. absurd (omega arith))) dot row.dot_entry.0)
      (same_target f h 0 0 (stays 0 (omega arith) (λ z. absurd (omega arith))) ∙ row.dot_entry.1)
      (same_field f h 1 1 (stays 1 (omega arith) (λ z. absurd (omega arith))) dot_dot row.dot_dot_entry)
      (λ d under none. let from = origin d under in row.used from.place from.below (sym (same_target f h from.place d from.same) ∙ none))
      (λ d two under. let from = origin d under in same_good f h from.place d from.same (row.names from.place (from.front two) from.below))
      (let j : k - 2 - 1 ≡ k - 1 - 2 = omega arith in
      subst (Apart (after h)) j (removed_apart (after f) (after h) (leads_to f) (leads_to h) (k - 2) (e - 2) (row_apart f n k row) (omega arith) filled kept))

pub removed_names : RemovedNames
removed_names f h n k e row past low s = names_removed f h n k e row past low s

pub remove_keeps : RemoveKeeps
remove_keeps f h n k e row past low s = row_removed f h n k e row past low s

-- 3 and 4
module _ (f h : ℕ → ℕ) (n k e x : ℕ) (name : Name) (row : IsRow f n k) (past : 2 ≤ e) (low : e < k) (is : is_name name ≡ true)
    (free : (inode_of (names_of_row f k) name ≡ None) ⊎ (name ≡ entry_name f e)) (s : SetsEntry f h e x name) where
  not_elsewhere : (d : ℕ) → d < k - 2 → d ≢ e - 2 → after f d ≢ name
  not_elsewhere d under differ same = elim free [
    | inl none ↦ fresh_name f n k row name none (d + 2) (omega arith) (omega arith) same
    | inr own ↦ apart_either (after f) (k - 2) d (e - 2) (row_apart f n k row) under (omega arith) differ (same ∙ own ∙ sym (at_name f e past))
  ]

  put_here : (after h (e - 2) ≡ name) × (leads_to h (e - 2) ≡ x)
  put_here = (at_name h e past ∙ new_name f h e x name s is, at_target h e past ∙ s.here.target)

  left_there : (d : ℕ) → d < k - 2 → d ≢ e - 2 → (after h d ≡ after f d) × (leads_to h d ≡ leads_to f d)
  left_there d under differ =
      let other : d + 2 ≢ e = (λ z. differ (omega arith)) in
      let same = beside f h e x (d + 2) name s other in
      (same_name_there f h (d + 2) (d + 2) same, same_target f h (d + 2) (d + 2) same)

  names_replaced : names_of_row h k ≡ with_name (without_name (names_of_row f k) (entry_name f e)) name x
  names_replaced =
      row_names h (k - 2)
      ∙ replaced_map (after f) (after h) (leads_to f) (leads_to h) (k - 2) (e - 2) (row_apart f n k row) (omega arith) name x not_elsewhere put_here left_there
      ∙ (let back = sym (row_names f (k - 2)) in λ t. with_name (without_name (back t) (at_name f e past t)) name x)

  row_replaced : x ≢ 0 → IsRow h n k
  row_replaced some =
      row_from h n k row.two
      (same_field f h 0 0 (beside f h e x 0 name s (λ z. absurd (omega arith))) dot row.dot_entry.0)
      (same_target f h 0 0 (beside f h e x 0 name s (λ z. absurd (omega arith))) ∙ row.dot_entry.1)
      (same_field f h 1 1 (beside f h e x 1 name s (λ z. absurd (omega arith))) dot_dot row.dot_dot_entry)
      (λ d under none. elim (cases_eq d e) [
        | inl same ↦ some (sym s.here.target ∙ ap (entry_inode h) (sym same) ∙ none)
        | inr differ ↦ row.used d under (sym (same_target f h d d (beside f h e x d name s differ)) ∙ none)
      ])
      (λ d two under. elim (cases_eq d e) [
        | inl same ↦ ap (has_good_field h) same ∙ good_of_bytes h e name is s.here.bytes
        | inr differ ↦ same_good f h d d (beside f h e x d name s differ) (row.names d two under)
      ])
      (replaced_apart (after f) (after h) (leads_to f) (leads_to h) (k - 2) (e - 2) (row_apart f n k row) (omega arith) name x not_elsewhere put_here left_there)

pub replaced_names : ReplacedNames
replaced_names f h n k e x name row past low is free s = names_replaced f h n k e x name row past low is free s

pub replace_keeps : ReplaceKeeps
replace_keeps f h n k e x name row past low is some free s = row_replaced f h n k e x name row past low is free s some

pub retargeted_names : RetargetedNames
retargeted_names f h n k e x row past low s =
    names_replaced f h n k e x (entry_name f e) row past low (name_of_good f e (row.names e past low)) (inr refl) s
    ∙ (let back = row_names f (k - 2) in λ t. with_name (without_name (back t) (entry_name f e)) (entry_name f e) x)
    ∙ with_over (collected (after f) (leads_to f) (k - 2)) (entry_name f e) x (sorted_T (after f) (leads_to f) (k - 2))
    ∙ (let back = sym (row_names f (k - 2)) in λ t. with_name (back t) (entry_name f e) x)

pub reparented_names : ReparentedNames
reparented_names f h n k x row s = same_front f h (k - 2) (λ d low. beside f h 1 x (d + 2) dot_dot s (λ z. absurd (omega arith)))

pub reparent_keeps : ReparentKeeps
reparent_keeps f h n k x row some s =
    row_from h n k row.two
    (same_field f h 0 0 (same 0 (λ z. absurd (omega arith))) dot row.dot_entry.0)
    (same_target f h 0 0 (same 0 (λ z. absurd (omega arith))) ∙ row.dot_entry.1)
    (field_of_bytes h 1 dot_dot s.here.bytes)
    (λ d under none. elim (cases_eq d 1) [
      | inl is ↦ some (sym s.here.target ∙ ap (entry_inode h) (sym is) ∙ none)
      | inr differ ↦ row.used d under (sym (same_target f h d d (same d differ)) ∙ none)
    ])
    (λ d two under. same_good f h d d (same d (λ z. absurd (omega arith))) (row.names d two under))
    (λ c d less under e. row.distinct (c + 2) (d + 2) (omega arith) (omega arith)
    (sym (same_name_there f h (c + 2) (c + 2) (same (c + 2) (λ z. absurd (omega arith)))) ∙ e ∙ same_name_there f h (d + 2) (d + 2) (same (d + 2) (λ z. absurd (omega arith)))))
  where
    same : (d : ℕ) → d ≢ 1 → SameEntry f h d d
    same d differ = beside f h 1 x d dot_dot s differ

-- 6
pub new_row : NewRow
new_row f n p some parent first second = row_from f n 2 (omega arith)
    (field_of_bytes f 0 dot first.bytes) first.target (field_of_bytes f 1 dot_dot second.bytes)
    (λ e low none. elim (cases_eq e 0) [
      | inl is ↦ some (sym first.target ∙ ap (entry_inode f) (sym is) ∙ none)
      | inr differ ↦ let one : e ≡ 1 = omega arith in parent (sym second.target ∙ ap (entry_inode f) (sym one) ∙ none)
    ])
    (λ e two low. absurd (omega arith))
    (λ c d less under. absurd (omega arith))

-- the scan
pub none_at_first : NoneAtFirst
none_at_first f name e past low = absurd (omega arith)

pub none_so_far : NoneSoFar
none_so_far f e name none out d past low = elim (cases_eq d e) [
  | inl same ↦ ap (λ z. has_field f z name) same ∙ out
  | inr differ ↦ none d past (omega arith)
]

pub all_bytes : AllBytes
all_bytes f e name bytes = field_of_bytes f e name bytes

pub other_byte : OtherByte
other_byte f e a name low differ = elim (cases_Bool (has_field f e name)) [
  | inl has ↦ absurd (differ (bytes_of_field f e name has a low))
  | inr out ↦ out
]

-- the names are in order
pub sorted_names : SortedNames
sorted_names f k = ap (is_sorted name_cmp) (row_names f (k - 2)) ∙ sorted (after f) (leads_to f) (k - 2)

pub names_commute : NamesCommute
names_commute es old new x sort differ = put_then_drop es old new x (sort_T sort) differ
  where
    sort_T : {b : Bool} → b ≡ true → T b
    sort_T {b} e = subst T (sym e) tt

pub renamed_onto : RenamedOnto
renamed_onto f h j n k e d x row past low two under differ some s drop =
    let between : IsRow h n k = replace_keeps f h n k d x (entry_name f d) row two under (name_of_good f d (row.names d two under)) some (inr refl) s in
    let same : entry_name h e ≡ entry_name f e = same_name_there f h e e (beside f h d x e (entry_name f d) s (λ z. differ (sym z))) in
    let apart : entry_name f d ≢ entry_name f e = (λ z. apart_either (after f) (k - 2) (d - 2) (e - 2) (row_apart f n k row) (omega arith) (omega arith) (λ i. differ (omega arith)) (at_name f d two ∙ z ∙ sym (at_name f e past))) in
    let names : names_of_row h k ≡ with_name (names_of_row f k) (entry_name f d) x = retargeted_names f h n k d x row two under s in (
      remove_keeps h j n k e between past low drop,
      removed_names h j n k e between past low drop ∙ (λ t. without_name (names t) (same t)) ∙ names_commute (names_of_row f k) (entry_name f e) (entry_name f d) x (sorted_names f k) apart,
    )
