-- The bytes of a file change, and then its times.
use Rattle.std.proofs.Common.{ℕ, ◌∙◌}
use Rattle.layout.specs.declared.Geometry.{Geometry}
use Rattle.tree.specs.Tree.{File}
use Rattle.volume.specs.Reading.{Disk}
use Rattle.volume.specs.Pieces.{Pieces, pieces}
use Rattle.file.specs.PageChanges.{MayChange, BecomesFile, SetsSize, Stamps, file_at, stamped}
use Rattle.file.proofs.Becoming.{becomes, becomes_then, may_change_after}
use Rattle.inode_operations.specs.Sizes.{SetsSizeAt}

-- a change that keeps the attributes, and then the times
pub stamped_after : (g : Geometry) (u v w : Pieces) (n now : ℕ) (f : File) → MayChange g u n → BecomesFile g u v n (u.inodes n) f
    → BecomesFile g v w n (stamped now (v.inodes n)) (file_at g v n) → BecomesFile g u w n (stamped now (u.inodes n)) f
stamped_after g u v w n now f may a b =
    let c = becomes_then g u v w n (u.inodes n) (stamped now (v.inodes n)) f (file_at g v n) may a b in
    becomes g u w n may c.rules c.marks c.others c.files (stamped now (u.inodes n)) f
    (c.inode ∙ (λ t. record (stamped now (a.inode t)) { size = (a.file t).size; zones = (w.inodes n).zones })) (c.file ∙ a.file)

module _ (g : Geometry) (d e : Disk) (n size now : ℕ) (sets : SetsSize g n size d e) where
  pub may_stamp_resized : MayChange g (pieces g d) n → MayChange g (pieces g e) n
  may_stamp_resized may = may_change_after g (pieces g d) (pieces g e) n _ _ may (sets.becomes may)

  pub resized_at : (f : Disk) → Stamps g n now e f → SetsSizeAt g n size now d f
  resized_at f stamps = record {
    head = λ b low. stamps.head b low ∙ sets.head b low;
    becomes = λ may. stamped_after g (pieces g d) (pieces g e) (pieces g f) n now _ may (sets.becomes may) (stamps.becomes (may_stamp_resized may));
  }
