-- What a size set leaves of one inode's file, with the times of the change.
use Rattle.std.specs.Prelude.{ℕ}
use Rattle.layout.specs.declared.Geometry.{Geometry}
use Rattle.tree.specs.Changes.{file_after_resize}
use Rattle.volume.specs.Reading.{Disk}
use Rattle.volume.specs.Pieces.{pieces}
use Rattle.block_store.specs.Volume.{SameHead}
use Rattle.file.specs.PageChanges.{MayChange, BecomesFile, file_at, stamped}

-- The file of inode n is made that long at `now`, where it may change.
pub record SetsSizeAt (g : Geometry) (n size now : ℕ) (d e : Disk) : Type 0 where
  pub head : SameHead d e
  pub becomes : let v = pieces g d in
      MayChange g v n → BecomesFile g v (pieces g e) n (stamped now (v.inodes n)) (file_after_resize g (file_at g v n) size)
