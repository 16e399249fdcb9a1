-- Entries that have a name, and what becomes of them.
use Rattle.std.proofs.Common.{◌≡◌, ◌*◌, ℕ, List, length, Option, None, Some, false, true, refl, subst, ◌∙◌, arith}
use Rattle.std.specs.Prelude.{IsTrue, is_some, slice_index}
use Rattle.layout.specs.declared.Geometry.{Geometry}
use Rattle.tree.specs.Names.{Name, inode_of, with_name}
use Rattle.volume.specs.declared.Inode.{Inode}
use Rattle.volume.specs.Pieces.{Pieces, pieces}
use Rattle.volume.specs.Reading.{Disk, u32_in}
use Rattle.volume.specs.Nodes.{entry_count_of, file_byte, file_of}
use Rattle.volume.specs.Entries.{entry_count}
use Rattle.directory.specs.Directories.{IsDirectoryOf, before, row_of}
use Rattle.directory.specs.Rows.{IsRow}
use Rattle.directory.proofs.Directories.{directory_is_row}
use Rattle.directory.proofs.Rows.{entry_of_name}
use Rattle.directory.proofs.Text.{field_is_name}
use Rattle.directory.proofs.Writes.{file_retargeted}
use Rattle.directory.specs.Standing.{NoneNamed, IsNamed}
use Rattle.file.specs.PageChanges.{Stamps}
use Rattle.file.specs.Changing.{MayWriteAt, WritesAt, written_at}
use Rattle.directory.specs.Places.{IsPlaced}
use Rattle.directory.specs.Names.{HasName, MayReplace, Replaces}
use Rattle.directory.proofs.EntriesStanding.{number_set}
use Rattle.directory.proofs.Becoming.{may_change, in_order, ends, has_zones, names_then, file_then}

-- the entry of the directory's inode
pub placed : (g : Geometry) (v : Pieces) (n : ℕ) (name : Name) (i : Inode) (e : ℕ) → i ≡ v.inodes n → IsNamed (file_byte g v i) name 2 (entry_count_of i) e → IsPlaced g v n name e
placed g v n name i e loaded is = subst (λ (j : Inode). IsNamed (file_byte g v j) name 2 (entry_count_of j) e) loaded is

-- a name that the directory has stands somewhere
pub not_missing : (g : Geometry) (v : Pieces) (n : ℕ) (name : Name) (i : Inode) → i ≡ v.inodes n → NoneNamed (file_byte g v i) name 2 (entry_count_of i) → HasName g v n name → ⊥
not_missing g v n name i loaded none has = by (inode_of (before g v n).names name) refl has.there
  where
    row : IsRow (row_of g v n) n (entry_count v n)
    row = directory_is_row g v n (in_order g v n has.of)

    here : NoneNamed (row_of g v n) name 2 (entry_count v n)
    here = subst (λ (j : Inode). NoneNamed (file_byte g v j) name 2 (entry_count_of j)) loaded none

    by : (o : Option ℕ) → inode_of (before g v n).names name ≡ o → IsTrue (is_some o) → ⊥
    by None is some = let no : false ≡ true = some in cc
    by (Some x) is some =
        let e = entry_of_name (row_of g v n) n (entry_count v n) x name row is in
        here.none e.entry e.past e.low (field_is_name (row_of g v n) n (entry_count v n) e.entry name row has.named e.past e.low e.field)

-- its number may be written
pub may_replace : (g : Geometry) (v : Pieces) (n e : ℕ) (name : Name) (number : ℕ) (bytes : List ℕ) → length bytes ≡ 4 → IsPlaced g v n name e → MayReplace g v n name number
    → MayWriteAt g v n (64 * e) bytes
may_replace g v n e name number bytes many is may =
    let low = is.low in
    let whole = ends g v n may.has.of in
    record { change = may_change g v n may.has.of; room = has_zones g v n (64 * e) bytes may.has.of (omega (arith, low, whole, many)) }

-- and then the name leads there
pub replaced : (g : Geometry) (n e : ℕ) (name : Name) (number now : ℕ) (bytes : List ℕ) (d m f : Disk) → length bytes ≡ 4 → u32_in (slice_index bytes) 0 ≡ number
    → IsPlaced g (pieces g d) n name e → WritesAt g n (64 * e) bytes d m → Stamps g n now m f → Replaces g n name number now d f
replaced g n e name number now bytes d m f many is placed writes stamps = record {
  head = λ b l. stamps.head b l ∙ writes.head b l;
  becomes = λ may.
      let v = pieces g d in
      let of = may.has.of in
      names_then g n (64 * e) bytes now d m f of (may_replace g v n e name number bytes many placed may) writes stamps (λ names. with_name names name number)
      (subst (λ (x : Name). IsDirectoryOf g (pieces g f) n (before g v n).parent (with_name (before g v n).names x number)) placed.named
      (file_retargeted g v (pieces g f) n e number bytes of.geometry (in_order g v n of) placed.past placed.low may.some many is (file may)));
  place = λ may. number_set g (pieces g d) (pieces g f) n (in_order g (pieces g d) n may.has.of) e number bytes placed.past placed.low many is (file may) name placed;
}
  where
    file : MayReplace g (pieces g d) n name number → file_of g (pieces g f) ((pieces g f).inodes n) ≡ written_at g (pieces g d) n (64 * e) bytes
    file may = file_then g n (64 * e) bytes now d m f may.has.of (may_replace g (pieces g d) n e name number bytes many placed may) writes stamps
