-- Bytes are written into a file, and then its times.
use Rattle.std.proofs.Common.{◌≡◌, ℕ, List, length, Bool, true, false, refl, sym, ap, subst, ◌∙◌}
use Rattle.layout.specs.declared.Geometry.{Geometry}
use Rattle.volume.specs.Reading.{Disk}
use Rattle.volume.specs.Pieces.{pieces}
use Rattle.file.specs.PageChanges.{MayChange, BecomesFile, Stamps}
use Rattle.file.specs.Changing.{MayWriteAt, WritesAt, written_at}
use Rattle.file.specs.Room.{IsRoom}
use Rattle.file.proofs.Becoming.{may_change_after}
use Rattle.inode_operations.proofs.Stamped.{stamped_after}
use Rattle.calls_files.specs.Dated.{WritesIfRoom}

module _ (g : Geometry) (d m : Disk) (n at : ℕ) (bytes : List ℕ) (now count : ℕ) (x : Bool) (same : m ≡ d) (many : length bytes ≡ count) (room : IsRoom g (pieces g d) n at count x) where
  -- zones are wanting
  pub left_alone : x ≡ false → WritesIfRoom g n at bytes now false d m
  left_alone none = record {
    head = λ b low. ap (λ (z : Disk). z b) same;
    room = λ may. (λ yes_. cc, λ has. let is = (room may bytes many).1 has in cc);
    refused = λ _. same;
    written = λ may yes_. cc;
  }

  module _ (enough : x ≡ true) where
    pub may_write : MayChange g (pieces g d) n → MayWriteAt g (pieces g m) n at bytes
    may_write may = subst (λ (z : Disk). MayWriteAt g (pieces g z) n at bytes) (sym same) (record { change = may; room = (room may bytes many).0 enough })

    module _ (e : Disk) (writes : WritesAt g n at bytes m e) where
      became : MayChange g (pieces g d) n → BecomesFile g (pieces g d) (pieces g e) n ((pieces g d).inodes n) (written_at g (pieces g d) n at bytes)
      became may = subst (λ (z : Disk). BecomesFile g (pieces g z) (pieces g e) n ((pieces g z).inodes n) (written_at g (pieces g z) n at bytes)) same (writes.becomes (may_write may))

      pub may_stamp : MayChange g (pieces g d) n → MayChange g (pieces g e) n
      may_stamp may = may_change_after g (pieces g d) (pieces g e) n _ _ may (became may)

      pub written : (f : Disk) → Stamps g n now e f → WritesIfRoom g n at bytes now true d f
      written f stamps = record {
        head = λ b low. stamps.head b low ∙ writes.head b low ∙ ap (λ (z : Disk). z b) same;
        room = λ may. (λ _. (room may bytes many).0 enough, λ _. refl);
        refused = λ none. cc;
        written = λ may _. stamped_after g (pieces g d) (pieces g e) (pieces g f) n now _ may (became may) (stamps.becomes (may_stamp may));
      }
