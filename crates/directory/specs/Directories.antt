-- What a change of names does to a directory of a volume.
use Rattle.std.specs.Prelude.{◌≡◌, ◌≢◌, ℕ, ◌+◌, ◌/◌, ◌%◌, ◌<◌, ◌≤◌, length, None, IsTrue, []}
use Rattle.layout.specs.declared.Geometry.{Geometry}
use Rattle.layout.specs.Places.{IsGeometry}
use Rattle.tree.specs.Names.{Name, Names, is_name, dot, dot_dot, inode_of, with_name, without_name}
use Rattle.tree.specs.Tree.{Directory}
use Rattle.tree.specs.Space.{pages_of}
use Rattle.volume.specs.Pieces.{Pieces}
use Rattle.volume.specs.Nodes.{file_byte, page_zone, directory_of}
use Rattle.volume.specs.Entries.{entry_count, name_at, target_at}
use Rattle.volume.specs.Holds.{IsSoundDirectory}
use Rattle.directory.specs.Rows.{IsRow, IsEntry, SetsEntry, DropsEntry}

-- the bytes of directory n
abbrev pub row_of : Geometry → Pieces → ℕ → ℕ → ℕ
row_of g v n = file_byte g v (v.inodes n)

-- no page that the size covers is a hole
abbrev pub IsWhole : Geometry → Pieces → ℕ → Type 0
IsWhole g v n = (p : ℕ) → p < pages_of g (v.inodes n).size → page_zone g v (v.inodes n) p ≢ 0

-- A directory in order is a row of entries by the rules.
abbrev pub DirectoryIsRow : Type 0
DirectoryIsRow = (g : Geometry) (v : Pieces) (n : ℕ) → IsSoundDirectory g v n → IsRow (row_of g v n) n (entry_count v n)

abbrev pub RowIsDirectory : Type 0
RowIsDirectory = (g : Geometry) (v : Pieces) (n : ℕ) → IsRow (row_of g v n) n (entry_count v n) → (v.inodes n).size % 64 ≡ 0
    → IsWhole g v n → IsSoundDirectory g v n

-- A directory after a change: it is in order, and has this parent and these names.
pub record IsDirectoryOf (g : Geometry) (w : Pieces) (n parent : ℕ) (names : Names) : Type 0 where
  pub sound : IsSoundDirectory g w n
  pub parent_is : (directory_of g w (w.inodes n)).parent ≡ parent
  pub names_are : (directory_of g w (w.inodes n)).names ≡ names

-- the directory before
abbrev pub before : Geometry → Pieces → ℕ → Directory
before g v n = directory_of g v (v.inodes n)

-- the size and the pages that are held stay
pub record SameSize (g : Geometry) (v w : Pieces) (n : ℕ) : Type 0 where
  pub size : (w.inodes n).size ≡ (v.inodes n).size
  pub whole : IsWhole g w n

-- a name more
abbrev pub Inserted : Type 0
Inserted = (g : Geometry) (v w : Pieces) (n x : ℕ) (name : Name) → IsSoundDirectory g v n → IsTrue (is_name name) → x ≢ 0
    → inode_of (before g v n).names name ≡ None
    → (w.inodes n).size ≡ (v.inodes n).size + 64 → IsWhole g w n → SetsEntry (row_of g v n) (row_of g w n) (entry_count v n) x name
    → IsDirectoryOf g w n (before g v n).parent (with_name (before g v n).names name x)

-- a name less
abbrev pub Removed : Type 0
Removed = (g : Geometry) (v w : Pieces) (n e : ℕ) → IsSoundDirectory g v n → 2 ≤ e → e < entry_count v n
    → (w.inodes n).size + 64 ≡ (v.inodes n).size → IsWhole g w n → DropsEntry (row_of g v n) (row_of g w n) (entry_count v n) e
    → IsDirectoryOf g w n (before g v n).parent (without_name (before g v n).names (name_at g v n e))

-- a name of another inode
abbrev pub Retargeted : Type 0
Retargeted = (g : Geometry) (v w : Pieces) (n e x : ℕ) → IsSoundDirectory g v n → 2 ≤ e → e < entry_count v n → x ≢ 0 → SameSize g v w n
    → SetsEntry (row_of g v n) (row_of g w n) e x (name_at g v n e)
    → IsDirectoryOf g w n (before g v n).parent (with_name (before g v n).names (name_at g v n e) x)

-- another name of the same inode
abbrev pub Renamed : Type 0
Renamed = (g : Geometry) (v w : Pieces) (n e : ℕ) (name : Name) → IsSoundDirectory g v n → 2 ≤ e → e < entry_count v n
    → IsTrue (is_name name) → inode_of (before g v n).names name ≡ None → SameSize g v w n
    → SetsEntry (row_of g v n) (row_of g w n) e (target_at g v n e) name
    → IsDirectoryOf g w n (before g v n).parent (with_name (without_name (before g v n).names (name_at g v n e)) name (target_at g v n e))

-- another parent
abbrev pub Reparented : Type 0
Reparented = (g : Geometry) (v w : Pieces) (n x : ℕ) → IsSoundDirectory g v n → x ≢ 0 → SameSize g v w n
    → SetsEntry (row_of g v n) (row_of g w n) 1 x dot_dot
    → IsDirectoryOf g w n x (before g v n).names

-- an empty directory has two entries
abbrev pub EmptyIsTwo : Type 0
EmptyIsTwo = (g : Geometry) (v : Pieces) (n : ℕ) → IsSoundDirectory g v n → length (before g v n).names + 2 ≡ entry_count v n

-- The pages are held where the old ones are and the last one is.
abbrev pub WholeAgain : Type 0
WholeAgain = (g : Geometry) (v w : Pieces) (n : ℕ) → IsGeometry g → IsSoundDirectory g v n → (w.inodes n).size ≡ (v.inodes n).size + 64
    → ((p : ℕ) → page_zone g v (v.inodes n) p ≢ 0 → page_zone g w (w.inodes n) p ≢ 0)
    → page_zone g w (w.inodes n) ((v.inodes n).size / g.block_size) ≢ 0 → IsWhole g w n

-- So are they where the directory is no longer and the pages that it still has stay.
abbrev pub WholeStill : Type 0
WholeStill = (g : Geometry) (v w : Pieces) (n : ℕ) → IsGeometry g → IsSoundDirectory g v n → (w.inodes n).size ≤ (v.inodes n).size
    → ((p : ℕ) → p < pages_of g (w.inodes n).size → page_zone g v (v.inodes n) p ≢ 0 → page_zone g w (w.inodes n) p ≢ 0) → IsWhole g w n

-- a new directory
abbrev pub NewDirectory : Type 0
NewDirectory = (g : Geometry) (w : Pieces) (n p : ℕ) → n ≢ 0 → p ≢ 0 → (w.inodes n).size ≡ 128 → IsWhole g w n
    → IsEntry (row_of g w n) 0 n dot → IsEntry (row_of g w n) 1 p dot_dot → IsDirectoryOf g w n p []
