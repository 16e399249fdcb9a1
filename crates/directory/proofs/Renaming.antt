-- A name that is written over.
use Rattle.std.proofs.Common.{◌≡◌, ◌+◌, ◌*◌, ℕ, List, length, Some, sym, subst, ◌∙◌, arith}
use Rattle.std.specs.Prelude.{IsTrue}
use Rattle.layout.specs.declared.Geometry.{Geometry}
use Rattle.tree.specs.Names.{Name, inode_of, with_name, without_name}
use Rattle.volume.specs.Pieces.{Pieces, pieces}
use Rattle.volume.specs.Reading.{Disk}
use Rattle.volume.specs.Nodes.{file_of}
use Rattle.volume.specs.Entries.{entry_count, target_at}
use Rattle.volume.specs.Holds.{IsSoundDirectory}
use Rattle.directory.specs.Directories.{IsDirectoryOf, before, row_of}
use Rattle.directory.specs.Rows.{has_field}
use Rattle.directory.proofs.Directories.{directory_is_row, renamed}
use Rattle.directory.proofs.Rows.{found_at}
use Rattle.directory.proofs.Text.{name_is_field}
use Rattle.file.specs.PageChanges.{Stamps}
use Rattle.file.specs.Changing.{MayWriteAt, WritesAt, written_at}
use Rattle.directory.specs.Places.{IsPlaced, IsNameBytes}
use Rattle.directory.specs.Names.{IsOfDirectory, HasName, MayRename, Renames}
use Rattle.directory.proofs.EntriesStanding.{name_set, name_entry, name_size}
use Rattle.directory.proofs.Becoming.{may_change, in_order, ends, has_zones, names_then, file_then}

-- the bytes of the name may be written
pub may_write_name : (g : Geometry) (v : Pieces) (n e : ℕ) (old : Name) (bytes : List ℕ) → length bytes ≡ 60 → IsPlaced g v n old e → IsOfDirectory g v n
    → MayWriteAt g v n (64 * e + 4) bytes
may_write_name g v n e old bytes many placed of =
    let low = placed.low in
    let whole = ends g v n of in
    record { change = may_change g v n of; room = has_zones g v n (64 * e + 4) bytes of (omega (arith, low, whole, many)) }

-- the entry of the name leads where the name does
target_is : (g : Geometry) (v : Pieces) (n e x : ℕ) (old : Name) → HasName g v n old → IsPlaced g v n old e → inode_of (before g v n).names old ≡ Some x → target_at g v n e ≡ x
target_is g v n e x old has placed leads =
    let row = directory_is_row g v n (in_order g v n has.of) in
    let field = subst (λ (y : Name). IsTrue (has_field (row_of g v n) e y)) placed.named (name_is_field (row_of g v n) n (entry_count v n) e row placed.past placed.low) in
    let found = found_at (row_of g v n) n (entry_count v n) e old row has.named placed.past placed.low field in
    let both : Some (target_at g v n e) ≡ Some x = sym found ∙ leads in
    cc

module _ (g : Geometry) (n e : ℕ) (old new : Name) (now : ℕ) (bytes : List ℕ) (d m f : Disk) (right : IsNameBytes bytes new)
    (placed : IsPlaced g (pieces g d) n old e) (writes : WritesAt g n (64 * e + 4) bytes d m) (stamps : Stamps g n now m f) where
  module _ (number : ℕ) (may : MayRename g (pieces g d) n old new number) where
    allowed : MayWriteAt g (pieces g d) n (64 * e + 4) bytes
    allowed = may_write_name g (pieces g d) n e old bytes right.many placed may.has.of

    file : file_of g (pieces g f) ((pieces g f).inodes n) ≡ written_at g (pieces g d) n (64 * e + 4) bytes
    file = file_then g n (64 * e + 4) bytes now d m f may.has.of allowed writes stamps

    order : IsSoundDirectory g (pieces g d) n
    order = in_order g (pieces g d) n may.has.of

    target : target_at g (pieces g d) n e ≡ number
    target = target_is g (pieces g d) n e number old may.has placed may.leads

    its_names : IsDirectoryOf g (pieces g f) n (before g (pieces g d) n).parent (with_name (without_name (before g (pieces g d) n).names old) new number)
    its_names =
        let v = pieces g d in
        let all = renamed g v (pieces g f) n e new order placed.past placed.low may.named may.free
        (name_size g v (pieces g f) n order e old new bytes placed right file) (name_entry g v (pieces g f) n order e old new bytes placed right file) in
        subst (λ (x : ℕ). IsDirectoryOf g (pieces g f) n (before g v n).parent (with_name (without_name (before g v n).names old) new x)) target
        (subst (λ (x : Name). IsDirectoryOf g (pieces g f) n (before g v n).parent (with_name (without_name (before g v n).names x) new (target_at g v n e))) placed.named all)

  -- and then the other name leads there
  pub name_written : Renames g n old new now d f
  name_written = record {
    head = λ b l. stamps.head b l ∙ writes.head b l;
    becomes = λ number may.
        names_then g n (64 * e + 4) bytes now d m f may.has.of (allowed number may) writes stamps (λ names. with_name (without_name names old) new number) (its_names number may);
    place = λ number may. name_set g (pieces g d) (pieces g f) n (order number may) e old new bytes placed right (file number may) number (target number may);
  }
