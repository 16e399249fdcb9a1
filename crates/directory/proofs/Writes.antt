-- A directory whose file is written.
use Rattle.std.proofs.Common.{◌≡◌, ◌≢◌, ◌<◌, ◌≤◌, ◌+◌, ◌*◌, ◌-◌, ◌/◌, ℕ, true, sym, ap, ◌∙◌, arith, subst, List, length}
use mathlib.Core.Logic.{inl, inr}
use Rattle.std.specs.Prelude.{not, ◌&&◌, ◌||◌, ◌==◌, nat_lt, IsTrue}
use Rattle.std.proofs.lemmas.Bool.{or_cases, or_left, or_right, eqb-true, eqb-false, not-true, not_from_false, ne_eqb, cond-true, cond-false, lt-ltb, le-ltb, and_from}
use Rattle.lemmas.proofs.Numbers.{not_zero}
use Rattle.layout.specs.declared.Geometry.{Geometry}
use Rattle.layout.specs.Places.{IsGeometry, is_block_size}
use Rattle.tree.specs.Names.{Name, dot_dot}
use Rattle.tree.specs.Tree.{File}
use Rattle.tree.specs.Space.{pages_of}
use Rattle.tree.specs.Changes.{file_after_write, file_after_resize}
use Rattle.volume.specs.Pieces.{Pieces}
use Rattle.volume.specs.Nodes.{file_of, page_zone}
use Rattle.volume.specs.Entries.{entry_count, name_at, target_at}
use Rattle.volume.specs.Holds.{IsSoundDirectory}
use Rattle.directory.specs.Rows.{SetsEntry, DropsEntry}
use Rattle.directory.specs.Directories.{SameSize, row_of}
use Rattle.directory.specs.Writes.{FileInserted, FileRemoved, FileLastRemoved, FileRetargeted, FileRenamed, FileReparented}
use Rattle.directory.proofs.Text.{bytes_of_good, bytes_of_field}
use Rattle.directory.proofs.Files.{write_sets_entry, write_sets_number, write_drops_entry, resize_drops_last}
use Rattle.directory.proofs.Directories.{inserted, removed, retargeted, renamed, reparented, whole_again, whole_still}

-- what holds for each size of a block
each_size : (P : ℕ → Type 0) (b : ℕ) → IsTrue (is_block_size b) → P 1024 → P 2048 → P 4096 → P b
each_size P b size x y z = elim (or_cases ((b == 1024) || (b == 2048)) (b == 4096) size) [
  | inr c ↦ subst P (sym (eqb-true b 4096 c)) z
  | inl ab ↦ elim (or_cases (b == 1024) (b == 2048) ab) [
    | inl a ↦ subst P (sym (eqb-true b 1024 a)) x
    | inr c ↦ subst P (sym (eqb-true b 2048 c)) y
  ]
]

abbrev In : ℕ → ℕ → Type 0
In s b = (s / b * b ≤ s) × (s < (s / b + 1) * b)

-- a place lies in its page
in_page : (s b : ℕ) → IsTrue (is_block_size b) → In s b
in_page s b size = each_size (In s) b size (omega arith, omega arith) (omega arith, omega arith) (omega arith, omega arith)

-- a page that the size covers begins below it
begins : (t p b : ℕ) → IsTrue (is_block_size b) → p < (t + b - 1) / b → p * b < t
begins t p b size = each_size (λ w. p < (t + w - 1) / w → p * w < t) b size (λ low. omega arith) (λ low. omega arith) (λ low. omega arith)

zone_held : (z : ℕ) → z ≢ 0 → not (z == 0) ≡ true
zone_held z some = not_from_false _ (ne_eqb z 0 some)

module _ (g : Geometry) (v w : Pieces) (n : ℕ) (ok : IsGeometry g) (d : IsSoundDirectory g v n) where
  abbrev file : File
  file = file_of g v (v.inodes n)

  module _ (at : ℕ) (bytes : List ℕ) (e : file_of g w (w.inodes n) ≡ file_after_write g file at bytes) where
    -- a page that was held is
    still_held : (p : ℕ) → page_zone g v (v.inodes n) p ≢ 0 → page_zone g w (w.inodes n) p ≢ 0
    still_held p some = not_zero _ (ap (λ f. f.held p) e ∙ or_left (file.held p) _ (zone_held _ some))

    -- a write within the size
    same_size : at + length bytes ≤ (v.inodes n).size → SameSize g v w n
    same_size within =
        let size : (w.inodes n).size ≡ (v.inodes n).size = ap (λ f. f.size) e ∙ cond-false (nat_lt (v.inodes n).size (at + length bytes)) (at + length bytes) (v.inodes n).size (le-ltb (v.inodes n).size (at + length bytes) within) in
        record { size = size; whole = λ p low. still_held p (d.whole p (subst (λ s. p < pages_of g s) size low)) }

    -- a write at the end
    grown_size : 0 < length bytes → at ≡ (v.inodes n).size → (w.inodes n).size ≡ (v.inodes n).size + length bytes
    grown_size some end =
        ap (λ f. f.size) e ∙ cond-true (nat_lt (v.inodes n).size (at + length bytes)) (at + length bytes) (v.inodes n).size (lt-ltb (v.inodes n).size (at + length bytes) (omega arith))
        ∙ ap (λ z. z + length bytes) end

    last_held : 0 < length bytes → at ≡ (v.inodes n).size → page_zone g w (w.inodes n) ((v.inodes n).size / g.block_size) ≢ 0
    last_held some end =
        let b = g.block_size in
        let q : ℕ = (v.inodes n).size / b in
        let near = in_page (v.inodes n).size b ok.block_size in
        let n0 : q * b ≤ (v.inodes n).size = near.0 in
        let n1 : (v.inodes n).size < (q + 1) * b = near.1 in
        not_zero _ (ap (λ f. f.held q) e ∙ or_right (file.held q) (nat_lt (q * b) (at + length bytes) && nat_lt at ((q + 1) * b))
        (and_from (nat_lt (q * b) (at + length bytes)) (nat_lt at ((q + 1) * b))
        (lt-ltb (q * b) (at + length bytes) (omega (arith, n0, some, end))) (lt-ltb at ((q + 1) * b) (omega (arith, n1, end)))))

    -- bytes of the file now
    sets : (k x : ℕ) (name : Name) → SetsEntry (row_of g v n) (file_after_write g file at bytes).byte k x name → SetsEntry (row_of g v n) (row_of g w n) k x name
    sets k x name s = subst (λ h. SetsEntry (row_of g v n) h k x name) (sym (ap (λ f. f.byte) e)) s

  -- the size in entries
  sized : 64 * entry_count v n ≡ (v.inodes n).size
  sized = let even = d.sized in omega arith

pub file_inserted : FileInserted
file_inserted g v w n x name bytes ok d is some none right e =
    let end = sized g v w n ok d in
    let many = right.many in
    let size : (w.inodes n).size ≡ (v.inodes n).size + 64 = grown_size g v w n ok d (64 * entry_count v n) bytes e (omega arith) end ∙ ap (λ z. (v.inodes n).size + z) many in
    inserted g v w n x name d is some none size
    (whole_again g v w n ok d size (still_held g v w n ok d (64 * entry_count v n) bytes e) (last_held g v w n ok d (64 * entry_count v n) bytes e (omega arith) end))
    (sets g v w n ok d (64 * entry_count v n) bytes e (entry_count v n) x name (write_sets_entry g (file_of g v (v.inodes n)) (entry_count v n) x name bytes right))

pub file_retargeted : FileRetargeted
file_retargeted g v w n e x bytes ok d past low some many number is =
    let end = sized g v w n ok d in
    retargeted g v w n e x d past low some (same_size g v w n ok d (64 * e) bytes is (omega arith))
    (sets g v w n ok d (64 * e) bytes is e x (name_at g v n e) (write_sets_number g (file_of g v (v.inodes n)) e x (name_at g v n e) bytes many number
    (bytes_of_good (row_of g v n) e (d.names e past low))))

pub file_renamed : FileRenamed
file_renamed g v w n e name bytes ok d past low good none right is =
    let end = sized g v w n ok d in
    let many = right.many in
    renamed g v w n e name d past low good none (same_size g v w n ok d (64 * e) bytes is (omega arith))
    (sets g v w n ok d (64 * e) bytes is e (target_at g v n e) name (write_sets_entry g (file_of g v (v.inodes n)) e (target_at g v n e) name bytes right))

pub file_reparented : FileReparented
file_reparented g v w n x bytes ok d some many number is =
    let end = sized g v w n ok d in
    let two = d.two in
    reparented g v w n x d some (same_size g v w n ok d 64 bytes is (omega arith))
    (sets g v w n ok d 64 bytes is 1 x dot_dot (write_sets_number g (file_of g v (v.inodes n)) 1 x dot_dot bytes many number
    (bytes_of_field (row_of g v n) 1 dot_dot d.dot_dot_entry)))

module _ (g : Geometry) (v w : Pieces) (n size : ℕ) (f : File) (ok : IsGeometry g) (d : IsSoundDirectory g v n) (e : file_of g w (w.inodes n) ≡ file_after_resize g f size) where
  -- pages below a new size stay
  resized_held : ((p : ℕ) → page_zone g v (v.inodes n) p ≢ 0 → f.held p ≡ true) → (p : ℕ) → p < pages_of g (w.inodes n).size → page_zone g v (v.inodes n) p ≢ 0 → page_zone g w (w.inodes n) p ≢ 0
  resized_held held p low some =
      let under = begins size p g.block_size ok.block_size (subst (λ s. p < pages_of g s) (ap (λ x. x.size) e) low) in
      not_zero _ (ap (λ x. x.held p) e ∙ and_from (f.held p) (nat_lt (p * g.block_size) size) (held p some) (lt-ltb (p * g.block_size) size under))

pub file_removed : FileRemoved
file_removed g v w n e bytes ok d past low copy is =
    let end = sized g v w n ok d in
    let now : (w.inodes n).size ≡ 64 * (entry_count v n - 1) = ap (λ f. f.size) is in
    let file = file_of g v (v.inodes n) in
    removed g v w n e d past low (omega arith)
    (whole_still g v w n ok d (omega arith) (resized_held g v w n (64 * (entry_count v n - 1)) (file_after_write g file (64 * e) bytes) ok d is (λ p some. or_left (file.held p) _ (zone_held _ some))))
    (subst (λ h. DropsEntry (row_of g v n) h (entry_count v n) e) (sym (ap (λ f. f.byte) is)) (write_drops_entry g file (entry_count v n) e bytes copy))

pub file_last_removed : FileLastRemoved
file_last_removed g v w n ok d more is =
    let end = sized g v w n ok d in
    let now : (w.inodes n).size ≡ 64 * (entry_count v n - 1) = ap (λ f. f.size) is in
    let file = file_of g v (v.inodes n) in
    removed g v w n (entry_count v n - 1) d (omega arith) (omega arith) (omega arith)
    (whole_still g v w n ok d (omega arith) (resized_held g v w n (64 * (entry_count v n - 1)) file ok d is (λ p some. zone_held _ some)))
    (subst (λ h. DropsEntry (row_of g v n) h (entry_count v n) (entry_count v n - 1)) (sym (ap (λ f. f.byte) is)) (resize_drops_last g file (entry_count v n)))
