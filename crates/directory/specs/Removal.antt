-- What a name less does to a volume.
use Rattle.std.specs.Prelude.{◌≡◌, ℕ, ◌*◌, ◌-◌, ◌<◌, ◌≤◌, List}
use Rattle.layout.specs.declared.Geometry.{Geometry}
use Rattle.tree.specs.Names.{Name, without_name}
use Rattle.tree.specs.Tree.{most_size}
use Rattle.tree.specs.Changes.{file_after_resize}
use Rattle.volume.specs.Reading.{Disk}
use Rattle.volume.specs.Pieces.{Pieces, pieces}
use Rattle.volume.specs.Entries.{entry_count}
use Rattle.block_store.specs.Volume.{SameHead}
use Rattle.directory.specs.Directories.{row_of}
use Rattle.directory.specs.Files.{IsCopy}
use Rattle.file.specs.PageChanges.{BecomesFile}
use Rattle.file.specs.Changing.{written_at}
use Rattle.directory.specs.Places.{LastTakesPlace}
use Rattle.directory.specs.Names.{IsOfDirectory, HasName, NamesBecome}

-- An entry of a directory, none of the first two.
pub record MayDrop (g : Geometry) (v : Pieces) (n e : ℕ) : Type 0 where
  pub of : IsOfDirectory g v n
  pub size : (v.inodes n).size ≤ most_size
  pub past : 2 ≤ e
  pub low : e < entry_count v n

-- The last entry's bytes stand over entry e, too.
pub record LastIsCopied (g : Geometry) (v w : Pieces) (n e last : ℕ) : Type 0 where
  pub last_is : last ≡ entry_count v n - 1
  pub bytes : List ℕ
  pub copy : IsCopy (row_of g v n) (entry_count v n - 1) bytes
  pub becomes : BecomesFile g v w n (v.inodes n) (written_at g v n (64 * e) bytes)

pub record CopiesLast (g : Geometry) (n e last : ℕ) (d f : Disk) : Type 0 where
  pub head : SameHead d f
  pub copied : let v = pieces g d in MayDrop g v n e → LastIsCopied g v (pieces g f) n e last

-- And the file ends before the last entry.
pub record IsDropped (g : Geometry) (v w : Pieces) (n e : ℕ) : Type 0 where
  pub bytes : List ℕ
  pub copy : IsCopy (row_of g v n) (entry_count v n - 1) bytes
  pub becomes : BecomesFile g v w n (v.inodes n) (file_after_resize g (written_at g v n (64 * e) bytes) (64 * (entry_count v n - 1)))

pub record Drops (g : Geometry) (n e : ℕ) (d f : Disk) : Type 0 where
  pub head : SameHead d f
  pub dropped : let v = pieces g d in MayDrop g v n e → IsDropped g v (pieces g f) n e

-- The directory has the name no more, and the last entry stands where the name stood.
pub record Removes (g : Geometry) (n : ℕ) (name : Name) (now : ℕ) (d e : Disk) : Type 0 where
  pub head : SameHead d e
  pub becomes : let v = pieces g d in
      HasName g v n name → NamesBecome g v (pieces g e) n now (λ names. without_name names name)
  pub place : HasName g (pieces g d) n name → LastTakesPlace g (pieces g d) (pieces g e) n name
