-- Where the entries stand after a change.
use Rattle.std.proofs.Common.{◌≡◌, ◌<◌, ◌≤◌, ◌+◌, ◌*◌, ◌-◌, ◌/◌, ℕ, Bool, true, false, List, length, refl, sym, ap, subst, ◌∙◌, arith}
use mathlib.Core.Logic.{inl, inr}
use Rattle.std.specs.Prelude.{◌&&◌, ◌==◌, not, nat_lt, nat_le, slice_index}
use Rattle.std.proofs.lemmas.Bool.{cond-true, cond-false, lt-ltb, le-ltb, le-leb, lt-leb, and_from, ne_eqb, not_from_false, or_left}
use Rattle.layout.specs.declared.Geometry.{Geometry}
use Rattle.tree.specs.Names.{Name, dot_dot}
use Rattle.tree.specs.Tree.{File}
use Rattle.tree.specs.Space.{pages_of}
use Rattle.tree.specs.Changes.{file_after_write, file_after_resize}
use Rattle.volume.specs.Pieces.{Pieces}
use Rattle.volume.specs.Reading.{u32_in}
use Rattle.volume.specs.Nodes.{file_of, page_zone}
use Rattle.volume.specs.Entries.{entry_count, target_at}
use Rattle.volume.specs.Holds.{IsSoundDirectory}
use Rattle.directory.specs.Directories.{SameSize, row_of}
use Rattle.directory.specs.Files.{IsEntryBytes, IsCopy}
use Rattle.directory.specs.Rows.{SetsEntry, DropsEntry}
use Rattle.directory.proofs.Files.{write_sets_entry, write_sets_number, write_drops_entry}
use Rattle.directory.proofs.Text.{bytes_of_good, bytes_of_field}
use Rattle.file.specs.PageChanges.{file_at}
use Rattle.directory.specs.Places.{IsPlaced, IsNameBytes, StandsLast, KeepsPlace, LastTakesPlace}

-- the bytes that a write leaves as they are
module _ (g : Geometry) (f : File) (at : ℕ) (bytes : List ℕ) where
  abbrev new : ℕ → ℕ
  new = (file_after_write g f at bytes).byte

  abbrev inside : ℕ → Bool
  inside q = nat_le at q && nat_lt q (at + length bytes)

  below : (q : ℕ) → q < at → new q ≡ f.byte q
  below q low = cond-false (inside q) (slice_index bytes (q - at)) (f.byte q) (ap (λ b. b && nat_lt q (at + length bytes)) (lt-leb at q low))

  behind : (q : ℕ) → at + length bytes ≤ q → new q ≡ f.byte q
  behind q high = cond-false (inside q) (slice_index bytes (q - at)) (f.byte q) (ap (λ b. nat_le at q && b) (le-ltb q (at + length bytes) high) ∙ neither (nat_le at q))
    where
      neither : (b : Bool) → (b && false) ≡ false
      neither true = refl
      neither false = refl

  within : (o : ℕ) → o < length bytes → new (at + o) ≡ slice_index bytes o
  within o low =
      let e : at + o - at ≡ o = omega arith in
      cond-true (inside (at + o)) (slice_index bytes (at + o - at)) (f.byte (at + o))
      (and_from (nat_le at (at + o)) (nat_lt (at + o) (at + length bytes)) (le-leb at (at + o) (omega arith)) (lt-ltb (at + o) (at + length bytes) (omega arith)))
      ∙ ap (slice_index bytes) e

-- the sixty bytes of an entry's name are written
pub write_sets_name : (g : Geometry) (f : File) (e : ℕ) (name : Name) (bytes : List ℕ) → IsNameBytes bytes name
    → SetsEntry f.byte (file_after_write g f (64 * e + 4) bytes).byte e (u32_in f.byte (64 * e)) name
write_sets_name g f e name bytes is =
    let many = is.many in
    let same : (o : ℕ) → o < 4 → (file_after_write g f (64 * e + 4) bytes).byte (64 * e + o) ≡ f.byte (64 * e + o) = λ o low. below g f (64 * e + 4) bytes (64 * e + o) (omega arith) in
    let a : (file_after_write g f (64 * e + 4) bytes).byte (64 * e) ≡ f.byte (64 * e) = below g f (64 * e + 4) bytes (64 * e) (omega arith) in
    let b = below g f (64 * e + 4) bytes (64 * e + 1) (omega arith) in
    let c = below g f (64 * e + 4) bytes (64 * e + 2) (omega arith) in
    let d = below g f (64 * e + 4) bytes (64 * e + 2 + 1) (omega arith) in
    record {
      here = record {
        target = λ i. (a i + 256 * b i) + 65536 * (c i + 256 * d i);
        bytes = λ o low. within g f (64 * e + 4) bytes o (omega arith) ∙ is.same o low;
      };
      others = λ q side. elim side [ inl low ↦ below g f (64 * e + 4) bytes q (omega arith) | inr high ↦ behind g f (64 * e + 4) bytes q (omega arith) ];
    }

module _ (g : Geometry) (v w : Pieces) (n : ℕ) (order : IsSoundDirectory g v n) where
  abbrev file : File
  file = file_at g v n

  ends : 64 * entry_count v n ≡ (v.inodes n).size
  ends = let sized = order.sized in omega (arith, sized)

  -- the entries now, by the file
  module _ (at : ℕ) (bytes : List ℕ) (is : file_of g w (w.inodes n) ≡ file_after_write g file at bytes) where
    -- a write inside
    same_count : at + length bytes ≤ (v.inodes n).size → entry_count w n ≡ entry_count v n
    same_count within = ap (λ (f : File). f.size / 64) is
        ∙ ap (λ z. z / 64) (cond-false (nat_lt (v.inodes n).size (at + length bytes)) (at + length bytes) (v.inodes n).size (le-ltb (v.inodes n).size (at + length bytes) within))

    sets : (e x : ℕ) (name : Name) → SetsEntry (row_of g v n) (file_after_write g file at bytes).byte e x name → SetsEntry (row_of g v n) (row_of g w n) e x name
    sets e x name s = subst (λ h. SetsEntry (row_of g v n) h e x name) (sym (ap (λ (f : File). f.byte) is)) s

  -- an entry more
  pub stands_last : (x : ℕ) (name : Name) (bytes : List ℕ) → IsEntryBytes bytes x name
      → file_of g w (w.inodes n) ≡ file_after_write g file (64 * entry_count v n) bytes → StandsLast g v w n x name
  stands_last x name bytes right is =
      let end = ends in
      let many = right.many in
      let k : ℕ = entry_count v n in
      record {
        count = ap (λ (f : File). f.size / 64) is
            ∙ ap (λ z. z / 64) (cond-true (nat_lt (v.inodes n).size (64 * k + length bytes)) (64 * k + length bytes) (v.inodes n).size (lt-ltb (v.inodes n).size (64 * k + length bytes) (omega arith)))
            ∙ omega (arith, many);
        sets = sets (64 * k) bytes is k x name (write_sets_entry g file k x name bytes right);
      }

  -- another number
  pub number_set : (e x : ℕ) (bytes : List ℕ) → 2 ≤ e → e < entry_count v n → length bytes ≡ 4 → u32_in (slice_index bytes) 0 ≡ x
      → file_of g w (w.inodes n) ≡ file_after_write g file (64 * e) bytes → (name : Name) → IsPlaced g v n name e → KeepsPlace g v w n name x name
  number_set e x bytes past low many number is name placed =
      let end = ends in
      record {
        entry = e;
        placed = placed;
        count = same_count (64 * e) bytes is (omega (arith, end, low, many));
        sets = subst (λ (y : Name). SetsEntry (row_of g v n) (row_of g w n) e x y) placed.named
            (sets (64 * e) bytes is e x _ (write_sets_number g file e x _ bytes many number (bytes_of_good (row_of g v n) e (order.names e past low))));
      }

  -- another parent
  pub dots_set : (x : ℕ) (bytes : List ℕ) → length bytes ≡ 4 → u32_in (slice_index bytes) 0 ≡ x
      → file_of g w (w.inodes n) ≡ file_after_write g file 64 bytes → SetsEntry (row_of g v n) (row_of g w n) 1 x dot_dot
  dots_set x bytes many number is =
      sets 64 bytes is 1 x dot_dot (write_sets_number g file 1 x dot_dot bytes many number (bytes_of_field (row_of g v n) 1 dot_dot order.dot_dot_entry))

  -- another name
  module _ (e : ℕ) (old name : Name) (bytes : List ℕ) (placed : IsPlaced g v n old e) (right : IsNameBytes bytes name)
      (is : file_of g w (w.inodes n) ≡ file_after_write g file (64 * e + 4) bytes) where
    inside_it : 64 * e + 4 + length bytes ≤ (v.inodes n).size
    inside_it =
        let end = ends in
        let many = right.many in
        let low = placed.low in
        omega (arith, end, low, many)

    pub name_entry : SetsEntry (row_of g v n) (row_of g w n) e (target_at g v n e) name
    name_entry = sets (64 * e + 4) bytes is e (target_at g v n e) name (write_sets_name g file e name bytes right)

    pub name_size : SameSize g v w n
    name_size =
        let size : (w.inodes n).size ≡ (v.inodes n).size = ap (λ (f : File). f.size) is
        ∙ cond-false (nat_lt (v.inodes n).size (64 * e + 4 + length bytes)) (64 * e + 4 + length bytes) (v.inodes n).size (le-ltb (v.inodes n).size (64 * e + 4 + length bytes) inside_it) in
        record {
          size = size;
          whole = λ p low zero_.
              let was = ne_eqb (page_zone g v (v.inodes n) p) 0 (order.whole p (subst (λ s. p < pages_of g s) size low)) in
              let gone : not (page_zone g w (w.inodes n) p == 0) ≡ false = ap (λ z. not (z == 0)) zero_ in
              let held : not (page_zone g w (w.inodes n) p == 0) ≡ true = ap (λ (f : File). f.held p) is ∙ or_left (file.held p) _ (not_from_false _ was) in
              absurd (cc);
        }

    pub name_set : (x : ℕ) → target_at g v n e ≡ x → KeepsPlace g v w n old x name
    name_set x target = record {
      entry = e;
      placed = placed;
      count = same_count (64 * e + 4) bytes is inside_it;
      sets = subst (λ (y : ℕ). SetsEntry (row_of g v n) (row_of g w n) e y name) target name_entry;
    }

  -- an entry less
  pub last_takes_place : (e : ℕ) (name : Name) (bytes : List ℕ) → IsPlaced g v n name e → IsCopy (row_of g v n) (entry_count v n - 1) bytes
      → file_of g w (w.inodes n) ≡ file_after_resize g (file_after_write g file (64 * e) bytes) (64 * (entry_count v n - 1)) → LastTakesPlace g v w n name
  last_takes_place e name bytes placed copy is =
      let low = placed.low in
      let k : ℕ = entry_count v n in
      let size : entry_count w n ≡ 64 * (k - 1) / 64 = ap (λ (f : File). f.size / 64) is in
      record {
        entry = e;
        placed = placed;
        count = omega (arith, size, low);
        drops = subst (λ h. DropsEntry (row_of g v n) h k e) (sym (ap (λ (f : File). f.byte) is)) (write_drops_entry g file k e bytes copy);
      }
