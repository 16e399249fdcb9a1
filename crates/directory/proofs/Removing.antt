-- An entry that goes.
use Rattle.std.proofs.Common.{◌≡◌, ◌*◌, ◌-◌, ◌/◌, ℕ, List, length, ap, subst, ◌∙◌, arith}
use Rattle.layout.specs.declared.Geometry.{Geometry}
use Rattle.tree.specs.Names.{Name, without_name}
use Rattle.tree.specs.Tree.{File}
use Rattle.tree.specs.Changes.{file_after_resize}
use Rattle.volume.specs.declared.Inode.{Inode}
use Rattle.volume.specs.Pieces.{Pieces, pieces}
use Rattle.volume.specs.Reading.{Disk}
use Rattle.volume.specs.Nodes.{file_byte}
use Rattle.block_store.specs.Rows.{HasBytes}
use Rattle.directory.specs.Directories.{IsDirectoryOf, before}
use Rattle.directory.proofs.Writes.{file_removed}
use Rattle.file.specs.PageChanges.{BecomesFile, MayChange, SetsSize, Stamps}
use Rattle.file.specs.Changing.{MayWriteAt, WritesAt, written_at}
use Rattle.file.proofs.Becoming.{may_change_after, becomes_again}
use Rattle.directory.specs.Places.{IsPlaced}
use Rattle.directory.specs.Names.{HasName}
use Rattle.directory.specs.Removal.{MayDrop, CopiesLast, Drops, Removes}
use Rattle.directory.proofs.EntriesStanding.{last_takes_place}
use Rattle.directory.proofs.Becoming.{may_change, in_order, ends, has_zones, becomes_names}

-- the last entry's bytes may be written over another
pub may_copy : (g : Geometry) (v : Pieces) (n e : ℕ) (bytes : List ℕ) → length bytes ≡ 64 → MayDrop g v n e → MayWriteAt g v n (64 * e) bytes
may_copy g v n e bytes many may =
    let low = may.low in
    let whole = ends g v n may.of in
    record { change = may_change g v n may.of; room = has_zones g v n (64 * e) bytes may.of (omega (arith, low, whole, many)) }

-- and then they stand there
pub copied : (g : Geometry) (n e : ℕ) (bytes : List ℕ) (i : Inode) (d f : Disk) → i ≡ (pieces g d).inodes n → length bytes ≡ 64
    → HasBytes (64 * (i.size / 64 - 1)) bytes (file_byte g (pieces g d) i) → WritesAt g n (64 * e) bytes d f → CopiesLast g n e (i.size / 64 - 1) d f
copied g n e bytes i d f loaded many is writes = record {
  head = writes.head;
  copied = λ may. record {
    last_is = ap (λ (j : Inode). j.size / 64 - 1) loaded;
    bytes = bytes;
    copy = record {
      many = many;
      same = λ o low. subst (λ (j : Inode). HasBytes (64 * (j.size / 64 - 1)) bytes (file_byte g (pieces g d) j)) loaded is o (omega (arith, low, many));
    };
    becomes = writes.becomes (may_copy g (pieces g d) n e bytes many may);
  };
}

-- the size may be set
pub may_cut : (g : Geometry) (n e last : ℕ) (d m : Disk) → CopiesLast g n e last d m → MayDrop g (pieces g d) n e → MayChange g (pieces g m) n
may_cut g n e last d m copies may =
    may_change_after g (pieces g d) (pieces g m) n _ _ (may_change g (pieces g d) n may.of) (copies.copied may).becomes

-- and then the entry is gone
pub dropped : (g : Geometry) (n e last : ℕ) (d m f : Disk) → CopiesLast g n e last d m → SetsSize g n (64 * last) m f → Drops g n e d f
dropped g n e last d m f copies cuts = record {
  head = λ b l. cuts.head b l ∙ copies.head b l;
  dropped = λ may.
      let v = pieces g d in
      let c = copies.copied may in
      let all = becomes_again g v (pieces g m) (pieces g f) n (v.inodes n) _ _ (may_change g v n may.of) c.becomes (cuts.becomes (may_cut g n e last d m copies may)) in
      record {
        bytes = c.bytes;
        copy = c.copy;
        becomes = subst (λ (x : File). BecomesFile g v (pieces g f) n (v.inodes n) x)
            (ap (λ (x : File). file_after_resize g x (64 * last)) c.becomes.file
            ∙ ap (λ (k : ℕ). file_after_resize g (written_at g v n (64 * e) c.bytes) (64 * k)) c.last_is) all;
      };
}

-- the entry of a name may go
pub may_drop : (g : Geometry) (v : Pieces) (n e : ℕ) (name : Name) → IsPlaced g v n name e → HasName g v n name → MayDrop g v n e
may_drop g v n e name placed has = record { of = has.of; size = has.size; past = placed.past; low = placed.low }

-- the times may be set then
pub may_stamp : (g : Geometry) (n e : ℕ) (name : Name) (d m : Disk) → IsPlaced g (pieces g d) n name e → Drops g n e d m → HasName g (pieces g d) n name → MayChange g (pieces g m) n
may_stamp g n e name d m placed drops has =
    may_change_after g (pieces g d) (pieces g m) n _ _ (may_change g (pieces g d) n has.of) (drops.dropped (may_drop g (pieces g d) n e name placed has)).becomes

-- and the name is gone
pub removed : (g : Geometry) (n e : ℕ) (name : Name) (now : ℕ) (d m f : Disk) → IsPlaced g (pieces g d) n name e → Drops g n e d m → Stamps g n now m f → Removes g n name now d f
removed g n e name now d m f placed drops stamps = record {
  head = λ b l. stamps.head b l ∙ drops.head b l;
  becomes = λ has.
      let v = pieces g d in
      let may = may_drop g v n e name placed has in
      let gone = drops.dropped may in
      let at_last = stamps.becomes (may_stamp g n e name d m placed drops has) in
      becomes_names g v n has.of (pieces g m) _ gone.becomes (pieces g f) now at_last (λ names. without_name names name)
      (subst (λ (x : Name). IsDirectoryOf g (pieces g f) n (before g v n).parent (without_name (before g v n).names x)) placed.named
      (file_removed g v (pieces g f) n e gone.bytes has.of.geometry (in_order g v n has.of) placed.past placed.low gone.copy (at_last.file ∙ gone.becomes.file)));
  place = λ has.
      let gone = drops.dropped (may_drop g (pieces g d) n e name placed has) in
      let at_last = stamps.becomes (may_stamp g n e name d m placed drops has) in
      last_takes_place g (pieces g d) (pieces g f) n (in_order g (pieces g d) n has.of) e name gone.bytes placed gone.copy (at_last.file ∙ gone.becomes.file);
}
