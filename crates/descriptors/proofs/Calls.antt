-- What the calls answer and leave, as open files and descriptors.
use Rattle.std.proofs.Common.{◌≡◌, ◌≢◌, ◌<◌, ℕ, zero, suc, Bool, true, false, List, [], ◌∷◌, length, set, get_or, Option, Some, None, Result, Ok, Err, refl, sym, ap, ◌∙◌, arith, inl, inr}
use Rattle.std.specs.Prelude.{is_some, is_none, IsTrue, if◌then◌else◌}
use Rattle.std.specs.List.{position, list_any}
use Rattle.std.specs.Option.{ok_or}
use Rattle.std.proofs.lemmas.Bool.{cases_eq, cases_Bool, eq-eqb, eqb-true, or_cases, or_parts}
use Rattle.std.proofs.lemmas.List.{length-set, get_or_read, get_or-set_same}
use Rattle.std.proofs.lemmas.List.Quantifiers.{position-Some}
use Rattle.lemmas.proofs.Bools.{false_not_true}
use Rattle.lemmas.proofs.Options.{none_from}
use Rattle.errno.specs.declared.Errno.{Errno}
use Rattle.errno.specs.declared.Errno.TheVariants.{EBADF, EMFILE, ENFILE}
use Rattle.lemmas.specs.Sums.{some_below}
use Rattle.tree.specs.Tree.{OpenFile, Tree, leads_to, has_descriptor, with_descriptor, with_open_file, most_sessions, most_descriptors, most_open_files}
use Rattle.tree.specs.Refusals.{◌>>=◌, free_place, or_refuse}
use Rattle.tree.specs.Changes.{open_file_of, without_unused}
use Rattle.tree.specs.FileCalls.{with_open}
use Rattle.lemmas.proofs.Maps.{not_nothing}
use Rattle.descriptors.specs.Keys.{at_position}
use Rattle.descriptors.specs.Files.{Files, AreFiles, files_in, tree_with, put_file, room_for_file, dup_file, close_file, let_go, file_at, moved}
use Rattle.descriptors.specs.Table.{Table, IsTable, session_at, opened_at, number_at, files_of}
use Rattle.descriptors.proofs.Searches.{free_is, found_below, one_below, none_below}
use Rattle.descriptors.proofs.Tables.{with_number, with_file, same_files, number_after, number-here, number-beside, number-apart, opened_after}
use Rattle.descriptors.proofs.Kept.{within, below, close_keeps, last_close_keeps}

-- a new open file
abbrev pub new_file : ℕ → ℕ → OpenFile
new_file inode flags = record { inode = inode; position = 0; flags = flags }

-- the search for a free descriptor
free_fd : (t : Table) (s : ℕ) → IsTable t → s < most_sessions → free_place (number_at t s) most_descriptors EMFILE ≡ ok_or (position is_none (session_at t s)) EMFILE
free_fd t s i l = free_is (session_at t s) most_descriptors EMFILE (i.each s l)

-- and for a free number
free_number : (t : Table) → IsTable t → free_place (opened_at t) most_open_files ENFILE ≡ ok_or (position is_none t.opened) ENFILE
free_number t i = free_is t.opened most_open_files ENFILE i.files

-- put by what the searches answer
abbrev put_by : Table → ℕ → ℕ → ℕ → Result ℕ Errno → Result ℕ Errno → Result (ℕ × Files) Errno
put_by t s inode flags a b = a >>= λ fd. b >>= λ k. Ok (fd, files_in (with_open (tree_with (files_of t)) (record { session = s; fd = fd; number = k }) inode flags))

-- no descriptor is free
pub put_refused : (t : Table) (s inode flags : ℕ) → IsTable t → s < most_sessions → position is_none (session_at t s) ≡ None → Err EMFILE ≡ put_file (files_of t) s inode flags
put_refused t s inode flags i l h =
    ap (λ (a : Result ℕ Errno). put_by t s inode flags a (free_place (opened_at t) most_open_files ENFILE)) (sym (free_fd t s i l ∙ ap (λ (o : Option ℕ). ok_or o EMFILE) h))

-- a descriptor is free and no number
pub put_refused_later : (t : Table) (s inode flags fd : ℕ) → IsTable t → s < most_sessions → position is_none (session_at t s) ≡ Some fd → position is_none t.opened ≡ None
    → Err ENFILE ≡ put_file (files_of t) s inode flags
put_refused_later t s inode flags fd i l h g =
    ap (λ (b : Result ℕ Errno). put_by t s inode flags (Ok fd) b) (sym (free_number t i ∙ ap (λ (o : Option ℕ). ok_or o ENFILE) g))
    ∙ ap (λ (a : Result ℕ Errno). put_by t s inode flags a (free_place (opened_at t) most_open_files ENFILE)) (sym (free_fd t s i l ∙ ap (λ (o : Option ℕ). ok_or o EMFILE) h))

-- whether a file more may be open, by what the searches answer
abbrev pub room_by : Option ℕ → Option ℕ → Result (Unit {0}) Errno
room_by fd k = ok_or fd EMFILE >>= λ x. ok_or k ENFILE >>= λ y. Ok tt

pub room_is : (t : Table) (s : ℕ) → IsTable t → s < most_sessions → room_by (position is_none (session_at t s)) (position is_none t.opened) ≡ room_for_file (files_of t) s
room_is t s i l =
    ap (λ (a : Result ℕ Errno). a >>= λ x. ok_or (position is_none t.opened) ENFILE >>= λ y. Ok tt) (sym (free_fd t s i l))
    ∙ ap (λ (b : Result ℕ Errno). free_place (number_at t s) most_descriptors EMFILE >>= λ x. b >>= λ y. Ok tt) (sym (free_number t i))

-- a free place is within the list
first_there : {X : Type 0} (xs : List (Option X)) (n : ℕ) → position is_none xs ≡ Some n → (n < length xs) × (get_or xs n None ≡ None)
first_there xs n e = let p = position-Some is_none xs n None e in (p.0, none_from (get_or xs n None) p.1)

-- a free descriptor is within the session
pub fd_low : (t : Table) (s fd : ℕ) → IsTable t → s < most_sessions → position is_none (session_at t s) ≡ Some fd → (fd < most_descriptors) × (number_at t s fd ≡ None)
fd_low t s fd i l h = let p : (fd < length (session_at t s)) × (number_at t s fd ≡ None) = first_there (session_at t s) fd h in (omega (arith, p.0, i.each s l), p.1)

-- and a free number within the open files
pub number_low : (t : Table) (k : ℕ) → IsTable t → position is_none t.opened ≡ Some k → (k < most_open_files) × (opened_at t k ≡ None)
number_low t k i h = let p : (k < length t.opened) × (opened_at t k ≡ None) = first_there t.opened k h in (omega (arith, p.0, i.files), p.1)

-- the open files and descriptors after both changes
both_after : (t : Table) (s fd k : ℕ) (x : Option ℕ) (o : Option OpenFile) → IsTable t → s < most_sessions → fd < most_descriptors → k < most_open_files
    → files_of (with_number (with_file t k o) s fd x) ≡ files_in (with_descriptor (with_open_file (tree_with (files_of t)) k o) s fd x)
both_after t s fd k x o i l m n =
    same_files _ _ (opened_after t k o (omega (arith, n, i.files))) (number_after t s fd x (omega (arith, l, i.sessions)) (omega (arith, m, i.each s l)))

-- and after one of a descriptor
pub number_files : (t : Table) (s fd : ℕ) (x : Option ℕ) → IsTable t → s < most_sessions → fd < most_descriptors
    → files_of (with_number t s fd x) ≡ files_in (with_descriptor (tree_with (files_of t)) s fd x)
number_files t s fd x i l m = same_files _ _ (λ k. refl) (number_after t s fd x (omega (arith, l, i.sessions)) (omega (arith, m, i.each s l)))

-- put answers the descriptor
pub put_done : (t : Table) (s inode flags fd k : ℕ) → IsTable t → s < most_sessions → position is_none (session_at t s) ≡ Some fd → position is_none t.opened ≡ Some k
    → Ok (fd, files_of (with_number (with_file t k (Some (new_file inode flags))) s fd (Some k))) ≡ put_file (files_of t) s inode flags
put_done t s inode flags fd k i l h g =
    ap (λ (f : Files). Ok (fd, f)) (both_after t s fd k (Some k) (Some (new_file inode flags)) i l (fd_low t s fd i l h).0 (number_low t k i g).0)
    ∙ ap (λ (b : Result ℕ Errno). put_by t s inode flags (Ok fd) b) (sym (free_number t i ∙ ap (λ (o : Option ℕ). ok_or o ENFILE) g))
    ∙ ap (λ (a : Result ℕ Errno). put_by t s inode flags a (free_place (opened_at t) most_open_files ENFILE)) (sym (free_fd t s i l ∙ ap (λ (o : Option ℕ). ok_or o EMFILE) h))

-- a value is there
pub the_value : {X : Type 0} (o : Option X) → IsTrue (is_some o) → (x : X) × (o ≡ Some x)
the_value None h = absurd (false_not_true h)
the_value (Some x) h = (x, refl)

-- the open file of a number, by what is found
abbrev file_found : ℕ → Option OpenFile → Result (ℕ × OpenFile) Errno
file_found k o = or_refuse o EBADF >>= λ p. Ok (k, p)

-- the open file of a descriptor, by its number
abbrev found_by : Table → Option ℕ → Result (ℕ × OpenFile) Errno
found_by t n = or_refuse n EBADF >>= λ k. file_found k (opened_at t k)

-- a descriptor that leads to none
pub found_none : (t : Table) (s fd : ℕ) → number_at t s fd ≡ None → open_file_of (tree_with (files_of t)) s fd ≡ Err EBADF
found_none t s fd e = ap (found_by t) e

-- and one that leads to an open file
pub found_some : (t : Table) (s fd k : ℕ) (o : OpenFile) → number_at t s fd ≡ Some k → opened_at t k ≡ Some o → open_file_of (tree_with (files_of t)) s fd ≡ Ok (k, o)
found_some t s fd k o e f = ap (found_by t) e ∙ ap (file_found k) f

-- dup by what is found and what the search answers
abbrev dup_by : Table → ℕ → Result (ℕ × OpenFile) Errno → Result ℕ Errno → Result (ℕ × Files) Errno
dup_by t s a b = a >>= λ found. b >>= λ other. Ok (other, files_in (with_descriptor (tree_with (files_of t)) s other (Some found.0)))

-- the descriptor leads to none
pub dup_refused : (t : Table) (s fd : ℕ) → number_at t s fd ≡ None → Err EBADF ≡ dup_file (files_of t) s fd
dup_refused t s fd e = ap (λ (a : Result (ℕ × OpenFile) Errno). dup_by t s a (free_place (number_at t s) most_descriptors EMFILE)) (sym (found_none t s fd e))

-- it leads to an open file, and no descriptor is free
pub dup_refused_later : (t : Table) (s fd k : ℕ) → IsTable t → s < most_sessions → number_at t s fd ≡ Some k → position is_none (session_at t s) ≡ None → Err EMFILE ≡ dup_file (files_of t) s fd
dup_refused_later t s fd k i l e h = let o = the_value (opened_at t k) (i.leads s fd k e) in
    ap (dup_by t s (Ok (k, o.0))) (sym (free_fd t s i l ∙ ap (λ (p : Option ℕ). ok_or p EMFILE) h))
    ∙ ap (λ (a : Result (ℕ × OpenFile) Errno). dup_by t s a (free_place (number_at t s) most_descriptors EMFILE)) (sym (found_some t s fd k o.0 e o.1))

-- dup answers the other descriptor
pub dup_done : (t : Table) (s fd gd k : ℕ) → IsTable t → s < most_sessions → number_at t s fd ≡ Some k → position is_none (session_at t s) ≡ Some gd
    → Ok (gd, files_of (with_number t s gd (Some k))) ≡ dup_file (files_of t) s fd
dup_done t s fd gd k i l e h = let o = the_value (opened_at t k) (i.leads s fd k e) in
    ap (λ (f : Files). Ok (gd, f)) (number_files t s gd (Some k) i l (fd_low t s gd i l h).0)
    ∙ ap (dup_by t s (Ok (k, o.0))) (sym (free_fd t s i l ∙ ap (λ (p : Option ℕ). ok_or p EMFILE) h))
    ∙ ap (λ (a : Result (ℕ × OpenFile) Errno). dup_by t s a (free_place (number_at t s) most_descriptors EMFILE)) (sym (found_some t s fd k o.0 e o.1))

-- some descriptor of a session leads to the open file
abbrev pub session_has : Table → ℕ → ℕ → Bool
session_has t s k = some_below (λ gd. leads_to k (number_at t s gd)) most_descriptors

-- what leads to it is its number
leads_is : (k : ℕ) (o : Option ℕ) → leads_to k o ≡ true → o ≡ Some k
leads_is k None h = absurd (false_not_true h)
leads_is k (Some j) h = ap Some (eqb-true j k h)

-- and its number leads to it
is_leads : (k : ℕ) (o : Option ℕ) → o ≡ Some k → leads_to k o ≡ true
is_leads k o e = ap (leads_to k) e ∙ eq-eqb k k refl

-- After a descriptor is freed, an open file has one exactly where the session has.
pub held_is : (t : Table) (s fd k : ℕ) → IsTable t → s < most_sessions → fd < most_descriptors → number_at t s fd ≡ Some k
    → has_descriptor (with_descriptor (tree_with (files_of t)) s fd None) k ≡ session_has (with_number t s fd None) s k
held_is t s fd k i l m e =
    ap (λ (f : Files). has_descriptor (tree_with f) k) (sym (number_files t s fd None i l m))
    ∙ elim (cases_Bool (session_has (with_number t s fd None) s k)) [
      | inl h ↦ found_below (λ r. session_has (with_number t s fd None) r k) most_sessions s l h ∙ sym h
      | inr h ↦ none_below (λ r. session_has (with_number t s fd None) r k) most_sessions (λ r m. elim (cases_eq r s) [
        | inl p ↦ ap (λ (n : ℕ). session_has (with_number t s fd None) n k) p ∙ h
        | inr d ↦ none_below (λ gd. leads_to k (number_at (with_number t s fd None) r gd)) most_descriptors (λ gd low. elim (cases_Bool (leads_to k (number_at (with_number t s fd None) r gd))) [
          | inl y ↦ absurd (d (i.own r s gd fd k (sym (number-apart t s r fd gd None d) ∙ leads_is k _ y) e))
          | inr y ↦ y
        ])
      ]) ∙ sym h
    ]

-- close by what is found, and whether it is still held
abbrev close_by : Table → ℕ → ℕ → Result (ℕ × OpenFile) Errno → Result (Option ℕ × Files) Errno
close_by t s fd a = a >>= λ found. let after = with_descriptor (tree_with (files_of t)) s fd None in Ok (let_go after found.0 found.1, files_in (without_unused after found.0))

-- what is let go, by whether it is still held
abbrev closed_by : Tree → ℕ → OpenFile → Bool → Result (Option ℕ × Files) Errno
closed_by t k o b = Ok (if b then None else Some o.inode, files_in (if b then t else with_open_file t k None))

-- the descriptor leads to none
pub close_refused : (t : Table) (s fd : ℕ) → number_at t s fd ≡ None → Err EBADF ≡ close_file (files_of t) s fd
close_refused t s fd e = ap (close_by t s fd) (sym (found_none t s fd e))

-- another one is left
pub close_done : (t : Table) (s fd k : ℕ) → IsTable t → s < most_sessions → fd < most_descriptors → number_at t s fd ≡ Some k
    → session_has (with_number t s fd None) s k ≡ true → Ok (None, files_of (with_number t s fd None)) ≡ close_file (files_of t) s fd
close_done t s fd k i l m e h = let o = the_value (opened_at t k) (i.leads s fd k e) in
    ap (λ (f : Files). Ok (None, f)) (number_files t s fd None i l m)
    ∙ ap (closed_by (with_descriptor (tree_with (files_of t)) s fd None) k o.0) (sym (held_is t s fd k i l m e ∙ h))
    ∙ ap (close_by t s fd) (sym (found_some t s fd k o.0 e o.1))

-- none is left
pub last_close_done : (t : Table) (s fd k : ℕ) (o : OpenFile) → IsTable t → s < most_sessions → fd < most_descriptors → number_at t s fd ≡ Some k → opened_at t k ≡ Some o
    → session_has (with_number t s fd None) s k ≡ false → Ok (Some o.inode, files_of (with_number (with_file t k None) s fd None)) ≡ close_file (files_of t) s fd
last_close_done t s fd k o i l m e f h =
    ap (λ (g : Files). Ok (Some o.inode, g)) (both_after t s fd k None None i l m (below t k i (ap is_some f)))
    ∙ ap (closed_by (with_descriptor (tree_with (files_of t)) s fd None) k o) (sym (held_is t s fd k i l m e ∙ h))
    ∙ ap (close_by t s fd) (sym (found_some t s fd k o e f))

-- and the table is one again
pub close_is : (t : Table) (s fd k : ℕ) → IsTable t → s < most_sessions → fd < most_descriptors → number_at t s fd ≡ Some k
    → session_has (with_number t s fd None) s k ≡ true → IsTable (with_number t s fd None)
close_is t s fd k i l m e h =
    let found = one_below (λ gd. leads_to k (number_at (with_number t s fd None) s gd)) most_descriptors h in
    let there : number_at (with_number t s fd None) s found.0 ≡ Some k = leads_is k _ found.2 in
    let ls : s < length t.sessions = omega (arith, l, i.sessions) in
    let d : found.0 ≢ fd = λ p. not_nothing k (sym (ap (number_at (with_number t s fd None) s) p ∙ number-here t s fd None ls (omega (arith, m, i.each s l))) ∙ there) in
    close_keeps t s fd found.0 k i l m e d (sym (number-beside t s fd found.0 None ls d) ∙ there)

pub last_close_is : (t : Table) (s fd k : ℕ) → IsTable t → s < most_sessions → fd < most_descriptors → number_at t s fd ≡ Some k
    → session_has (with_number t s fd None) s k ≡ false → IsTable (with_number (with_file t k None) s fd None)
last_close_is t s fd k i l m e h = last_close_keeps t s fd k i l m e (λ gd d there.
    let ls : s < length t.sessions = omega (arith, l, i.sessions) in
    false_not_true (sym h ∙ found_below (λ gd. leads_to k (number_at (with_number t s fd None) s gd)) most_descriptors gd (within t s gd k i there).1
    (is_leads k _ (number-beside t s fd gd None ls d ∙ there))))

-- the open file of a descriptor, by its number
abbrev pub file_by : Table → Option ℕ → Option OpenFile
file_by t None = None
file_by t (Some k) = opened_at t k

-- the open file that is found
abbrev file_in : Result (ℕ × OpenFile) Errno → Option OpenFile
file_in (Ok found) = Some found.1
file_in (Err e) = None

-- get shows that open file
pub file_is : (t : Table) (s fd : ℕ) (n : Option ℕ) → n ≡ number_at t s fd → file_by t n ≡ file_at (files_of t) s fd
file_is t s fd None e = ap (λ (o : Option ℕ). file_in (found_by t o)) e
file_is t s fd (Some k) e = shown (opened_at t k) ∙ ap (λ (o : Option ℕ). file_in (found_by t o)) e
  where
    shown : (o : Option OpenFile) → o ≡ file_in (file_found k o)
    shown None = refl
    shown (Some p) = refl

-- the open files after a move
pub move_done : (t : Table) (s fd k place : ℕ) (o : OpenFile) → IsTable t → number_at t s fd ≡ Some k → opened_at t k ≡ Some o
    → files_of (with_file t k (Some (at_position place o))) ≡ moved (files_of t) s fd place
move_done t s fd k place o i e f =
    same_files _ _ (opened_after t k (Some (at_position place o)) (omega (arith, below t k i (ap is_some f), i.files))) (λ r gd. refl)
    ∙ ap (λ (a : Result (ℕ × OpenFile) Errno). moved_by t place a) (sym (found_some t s fd k o e f))
  where
    moved_by : Table → ℕ → Result (ℕ × OpenFile) Errno → Files
    moved_by u place (Ok found) = files_in (with_open_file (tree_with (files_of u)) found.0 (Some (at_position place found.1)))
    moved_by u place (Err e) = files_of u

-- some element of a list passes, or some place of it does
pub any_is : (p : Option OpenFile → Bool) (xs : List (Option OpenFile)) (n : ℕ) → length xs ≡ n → list_any p xs ≡ some_below (λ k. p (get_or xs k None)) n
any_is p xs n e = elim (cases_Bool (list_any p xs)) [
  | inl h ↦ let w = witness xs h in h ∙ sym (found_below (λ k. p (get_or xs k None)) n w.0 (omega (arith, w.1, e)) w.2)
  | inr h ↦ h ∙ sym (none_below (λ k. p (get_or xs k None)) n (λ k l. none xs h k (omega (arith, l, e))))
] where
  witness : (ys : List (Option OpenFile)) → list_any p ys ≡ true → (k : ℕ) × (k < length ys) × (p (get_or ys k None) ≡ true)
  witness [] h = absurd (false_not_true h)
  witness (y ∷ ys) h = elim (or_cases (p y) (list_any p ys) h) [
    | inl a ↦ (zero, omega arith, a)
    | inr a ↦ let w = witness ys a in (suc w.0, omega (arith, w.1), w.2)
  ]

  none : (ys : List (Option OpenFile)) → list_any p ys ≡ false → (k : ℕ) → k < length ys → p (get_or ys k None) ≡ false
  none [] h k l = absurd (omega arith)
  none (y ∷ ys) h zero l = (or_parts (p y) (list_any p ys) h).0
  none (y ∷ ys) h (suc k) l = none ys (or_parts (p y) (list_any p ys) h).1 k (omega (arith, l))

-- what holds of every table
pub limits : (t : Table) → IsTable t → AreFiles (files_of t)
limits t i = record {
  numbers = λ k h. below t k i h;
  positions = i.positions;
  descriptors = λ s fd k e. let w = within t s fd k i e in (w.0, w.1, i.leads s fd k e);
  in_use = λ k h.
      let u = i.in_use k h in
      let w = within t u.0 u.1 k i u.2 in
      found_below (λ r. session_has t r k) most_sessions u.0 w.0 (found_below (λ gd. leads_to k (number_at t u.0 gd)) most_descriptors u.1 w.1 (is_leads k _ u.2));
}

-- a table whose session was read and written
pub table_is : (t : Table) (s fd : ℕ) (x : Option ℕ) (row : List (Option ℕ)) (files opened : List (Option OpenFile)) → row ≡ get_or t.sessions s row → s < length t.sessions → files ≡ opened
    → (let u : Table = record { opened = files; sessions = set t.sessions s (set row fd x) } in u) ≡ with_number (record t { opened = opened }) s fd x
table_is t s fd x row files opened r l f =
    let is : row ≡ session_at t s = get_or_read t.sessions s row l r [] in
    λ i. record { opened = f i; sessions = set t.sessions s (set (is i) fd x) }

-- what is read of a session after one of its descriptors is freed
pub has_is : (t : Table) (s fd k : ℕ) (row new : List (Option ℕ)) (b : Bool) → IsTable t → s < most_sessions → row ≡ get_or t.sessions s row
    → new ≡ get_or (set t.sessions s (set row fd None)) s new → b ≡ some_below (λ gd. leads_to k (get_or new gd None)) (length new)
    → session_has (with_number t s fd None) s k ≡ b
has_is t s fd k row new b i l r n e =
    let ls : s < length t.sessions = omega (arith, l, i.sessions) in
    let is : row ≡ session_at t s = get_or_read t.sessions s row ls r [] in
    let len : length (set t.sessions s (set row fd None)) ≡ length t.sessions = length-set t.sessions s (set row fd None) in
    let new_is : new ≡ session_at (with_number t s fd None) s =
    get_or_read (set t.sessions s (set row fd None)) s new (omega (arith, ls, len)) n []
    ∙ ap (λ (x : List (Option ℕ)). get_or (set t.sessions s (set x fd None)) s []) is in
    let many : length new ≡ most_descriptors =
    ap length (new_is ∙ get_or-set_same t.sessions s (set (session_at t s) fd None) [] ls) ∙ length-set (session_at t s) fd None ∙ i.each s l in
    ap (λ (x : List (Option ℕ)). some_below (λ gd. leads_to k (get_or x gd None)) most_descriptors) (sym new_is)
    ∙ ap (λ (m : ℕ). some_below (λ gd. leads_to k (get_or new gd None)) m) (sym many) ∙ sym e
