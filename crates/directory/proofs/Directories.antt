-- The same of a directory of a volume.
use Rattle.std.proofs.Common.{◌≡◌, ◌≢◌, ◌<◌, ◌≤◌, ◌+◌, ◌*◌, ◌-◌, ◌/◌, ◌%◌, ℕ, refl, sym, ap, ◌∙◌, arith, subst}
use mathlib.Core.Logic.{inl, inr}
use Rattle.std.specs.Prelude.{IsTrue, ◌||◌, ◌==◌, []}
use Rattle.layout.specs.Places.{is_block_size}
use Rattle.std.proofs.lemmas.Bool.{cases_eq, or_cases, eqb-true}
use Rattle.layout.specs.declared.Geometry.{Geometry}
use Rattle.tree.specs.Names.{Names}
use Rattle.volume.specs.Pieces.{Pieces}
use Rattle.volume.specs.Nodes.{page_zone, names_in, entry_inode}
use Rattle.volume.specs.Entries.{entry_count, name_at, target_at}
use Rattle.directory.specs.Rows.{IsRow, SameEntry, names_of_row}
use Rattle.directory.specs.Directories.{row_of, IsWhole, DirectoryIsRow, RowIsDirectory, IsDirectoryOf, Inserted, Removed, Retargeted, Renamed, Reparented, EmptyIsTwo, WholeAgain, WholeStill, NewDirectory}
use Rattle.directory.proofs.Text.{name_of_good}
use Rattle.directory.proofs.Rows.{same_target, beside, inserted_names, insert_keeps, removed_names, remove_keeps, replaced_names, replace_keeps, retargeted_names, reparented_names, reparent_keeps, counted_names, new_row}

pub directory_is_row : DirectoryIsRow
directory_is_row g v n d = record { two = d.two; dot_entry = d.dot_entry; dot_dot_entry = d.dot_dot_entry; used = d.used; names = d.names; distinct = d.distinct }

pub row_is_directory : RowIsDirectory
row_is_directory g v n row sized whole = record { sized = sized; two = row.two; whole = whole; dot_entry = row.dot_entry; dot_dot_entry = row.dot_dot_entry; used = row.used; names = row.names; distinct = row.distinct }

-- a directory of so many entries, by its row
directory_from : (g : Geometry) (w : Pieces) (n k parent : ℕ) (names : Names) → entry_count w n ≡ k → (w.inodes n).size % 64 ≡ 0 → IsWhole g w n
    → IsRow (row_of g w n) n k → entry_inode (row_of g w n) 1 ≡ parent → names_of_row (row_of g w n) k ≡ names → IsDirectoryOf g w n parent names
directory_from g w n k parent names count sized whole row up same = record {
  sound = row_is_directory g w n (subst (IsRow (row_of g w n) n) (sym count) row) sized whole;
  parent_is = up;
  names_are = ap (names_of_row (row_of g w n)) count ∙ same;
}

pub inserted : Inserted
inserted g v w n x name d is some none size whole s =
    let row = directory_is_row g v n d in
    let two = d.two in
    let sized = d.sized in
    let at : entry_count w n ≡ entry_count v n + 1 = omega arith in
    let even : (w.inodes n).size % 64 ≡ 0 = omega arith in
    directory_from g w n (entry_count v n + 1) _ _ at even whole
    (insert_keeps (row_of g v n) (row_of g w n) n (entry_count v n) x name row is some none s)
    (same_target (row_of g v n) (row_of g w n) 1 1 (beside (row_of g v n) (row_of g w n) (entry_count v n) x 1 name s (λ z. absurd (omega arith))))
    (inserted_names (row_of g v n) (row_of g w n) n (entry_count v n) x name row is s)

pub removed : Removed
removed g v w n e d past low size whole s =
    let row = directory_is_row g v n d in
    let sized = d.sized in
    let at : entry_count w n ≡ entry_count v n - 1 = omega arith in
    let even : (w.inodes n).size % 64 ≡ 0 = omega arith in
    let stays : SameEntry (row_of g v n) (row_of g w n) 1 1 = (λ o bound. s.others (64 * 1 + o) (inl (omega arith)) (omega arith)) in
    directory_from g w n (entry_count v n - 1) _ _ at even whole
    (remove_keeps (row_of g v n) (row_of g w n) n (entry_count v n) e row past low s)
    (same_target (row_of g v n) (row_of g w n) 1 1 stays)
    (removed_names (row_of g v n) (row_of g w n) n (entry_count v n) e row past low s)

pub retargeted : Retargeted
retargeted g v w n e x d past low some same s =
    let row = directory_is_row g v n d in
    directory_from g w n (entry_count v n) _ _ (ap (λ z. z / 64) same.size) (ap (λ z. z % 64) same.size ∙ d.sized) same.whole
    (replace_keeps (row_of g v n) (row_of g w n) n (entry_count v n) e x (name_at g v n e) row past low (name_of_good (row_of g v n) e (row.names e past low)) some (inr refl) s)
    (same_target (row_of g v n) (row_of g w n) 1 1 (beside (row_of g v n) (row_of g w n) e x 1 (name_at g v n e) s (λ z. absurd (omega arith))))
    (retargeted_names (row_of g v n) (row_of g w n) n (entry_count v n) e x row past low s)

pub renamed : Renamed
renamed g v w n e name d past low is none same s =
    let row = directory_is_row g v n d in
    let x = target_at g v n e in
    directory_from g w n (entry_count v n) _ _ (ap (λ z. z / 64) same.size) (ap (λ z. z % 64) same.size ∙ d.sized) same.whole
    (replace_keeps (row_of g v n) (row_of g w n) n (entry_count v n) e x name row past low is (row.used e low) (inl none) s)
    (same_target (row_of g v n) (row_of g w n) 1 1 (beside (row_of g v n) (row_of g w n) e x 1 name s (λ z. absurd (omega arith))))
    (replaced_names (row_of g v n) (row_of g w n) n (entry_count v n) e x name row past low is (inl none) s)

pub reparented : Reparented
reparented g v w n x d some same s =
    let row = directory_is_row g v n d in
    directory_from g w n (entry_count v n) _ _ (ap (λ z. z / 64) same.size) (ap (λ z. z % 64) same.size ∙ d.sized) same.whole
    (reparent_keeps (row_of g v n) (row_of g w n) n (entry_count v n) x row some s)
    s.here.target
    (reparented_names (row_of g v n) (row_of g w n) n (entry_count v n) x row s)

pub empty_is_two : EmptyIsTwo
empty_is_two g v n d = counted_names (row_of g v n) n (entry_count v n) (directory_is_row g v n d)

-- the pages of a directory that grows by an entry, in blocks of one size
grown_pages : (b s t p : ℕ) → IsTrue (is_block_size b) → s % 64 ≡ 0 → t ≡ s + 64 → p < (t + b - 1) / b → p ≢ s / b → p < (s + b - 1) / b
grown_pages b s t p size even more = elim (or_cases ((b == 1024) || (b == 2048)) (b == 4096) size) [
  | inr c ↦ subst (λ w. p < (t + w - 1) / w → p ≢ s / w → p < (s + w - 1) / w) (sym (eqb-true b 4096 c)) (λ low differ. omega arith)
  | inl ab ↦ elim (or_cases (b == 1024) (b == 2048) ab) [
    | inl a ↦ subst (λ w. p < (t + w - 1) / w → p ≢ s / w → p < (s + w - 1) / w) (sym (eqb-true b 1024 a)) (λ low differ. omega arith)
    | inr c ↦ subst (λ w. p < (t + w - 1) / w → p ≢ s / w → p < (s + w - 1) / w) (sym (eqb-true b 2048 c)) (λ low differ. omega arith)
  ]
]

pub whole_again : WholeAgain
whole_again g v w n ok d size stays last p low = elim (cases_eq p ((v.inodes n).size / g.block_size)) [
  | inl is ↦ λ none. last (ap (page_zone g w (w.inodes n)) (sym is) ∙ none)
  | inr differ ↦ stays p (d.whole p (grown_pages g.block_size (v.inodes n).size (w.inodes n).size p ok.block_size d.sized size low differ))
]

-- fewer bytes take no more pages
fewer_pages : (b s t p : ℕ) → IsTrue (is_block_size b) → t ≤ s → p < (t + b - 1) / b → p < (s + b - 1) / b
fewer_pages b s t p size less = elim (or_cases ((b == 1024) || (b == 2048)) (b == 4096) size) [
  | inr c ↦ subst (λ w. p < (t + w - 1) / w → p < (s + w - 1) / w) (sym (eqb-true b 4096 c)) (λ low. omega arith)
  | inl ab ↦ elim (or_cases (b == 1024) (b == 2048) ab) [
    | inl a ↦ subst (λ w. p < (t + w - 1) / w → p < (s + w - 1) / w) (sym (eqb-true b 1024 a)) (λ low. omega arith)
    | inr c ↦ subst (λ w. p < (t + w - 1) / w → p < (s + w - 1) / w) (sym (eqb-true b 2048 c)) (λ low. omega arith)
  ]
]

pub whole_still : WholeStill
whole_still g v w n ok d less stays p low = stays p low (d.whole p (fewer_pages g.block_size (v.inodes n).size (w.inodes n).size p ok.block_size less low))

-- the names of two entries
no_names : (f : ℕ → ℕ) → names_of_row f 2 ≡ []
unfolding names_in
no_names f = refl

pub new_directory : NewDirectory
new_directory g w n p some parent size whole first second =
    directory_from g w n 2 p [] (ap (λ z. z / 64) size) (ap (λ z. z % 64) size) whole
    (new_row (row_of g w n) n p some parent first second) second.target (no_names (row_of g w n))
