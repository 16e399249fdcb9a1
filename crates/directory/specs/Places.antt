-- Where the entries of a directory stand after a change of its names.
use Rattle.std.specs.Prelude.{◌≡◌, ℕ, ◌+◌, ◌<◌, List, length, slice_index}
use Rattle.layout.specs.declared.Geometry.{Geometry}
use Rattle.tree.specs.Names.{Name}
use Rattle.volume.specs.Pieces.{Pieces}
use Rattle.volume.specs.Entries.{entry_count}
use Rattle.directory.specs.Rows.{SetsEntry, DropsEntry}
use Rattle.directory.specs.Directories.{row_of}
use Rattle.directory.specs.Standing.{IsNamed}

-- the entry has the name
abbrev pub IsPlaced : Geometry → Pieces → ℕ → Name → ℕ → Type 0
IsPlaced g v n name e = IsNamed (row_of g v n) name 2 (entry_count v n) e

-- There is one entry more, behind the others, which are the same: this inode number and this name.
pub record StandsLast (g : Geometry) (v w : Pieces) (n x : ℕ) (name : Name) : Type 0 where
  pub count : entry_count w n ≡ entry_count v n + 1
  pub sets : SetsEntry (row_of g v n) (row_of g w n) (entry_count v n) x name

-- There are as many entries. The one that had the old name is now this inode number and this name, and the others are the same.
pub record KeepsPlace (g : Geometry) (v w : Pieces) (n : ℕ) (old : Name) (x : ℕ) (name : Name) : Type 0 where
  pub entry : ℕ
  pub placed : IsPlaced g v n old entry
  pub count : entry_count w n ≡ entry_count v n
  pub sets : SetsEntry (row_of g v n) (row_of g w n) entry x name

-- There is one entry less. The last one stands now where the one stood that had the name, and the others are the same.
pub record LastTakesPlace (g : Geometry) (v w : Pieces) (n : ℕ) (name : Name) : Type 0 where
  pub entry : ℕ
  pub placed : IsPlaced g v n name entry
  pub count : entry_count w n + 1 ≡ entry_count v n
  pub drops : DropsEntry (row_of g v n) (row_of g w n) (entry_count v n) entry

-- the 60 bytes of a name, filled with zeros
pub record IsNameBytes (bytes : List ℕ) (name : Name) : Type 0 where
  pub many : length bytes ≡ 60
  pub same : (a : ℕ) → a < 60 → slice_index bytes a ≡ slice_index name a
