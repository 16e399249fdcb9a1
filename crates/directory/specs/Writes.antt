-- A directory whose file is written: the changes of names by the calls of the layer of files.
use Rattle.std.specs.Prelude.{◌≡◌, ◌≢◌, ℕ, ◌-◌, ◌*◌, ◌<◌, ◌≤◌, List, length, slice_index, None, IsTrue}
use Rattle.layout.specs.declared.Geometry.{Geometry}
use Rattle.layout.specs.Places.{IsGeometry}
use Rattle.tree.specs.Names.{Name, is_name, inode_of, with_name, without_name}
use Rattle.tree.specs.Changes.{file_after_write, file_after_resize}
use Rattle.volume.specs.Reading.{u32_in}
use Rattle.volume.specs.Pieces.{Pieces}
use Rattle.volume.specs.Nodes.{file_of}
use Rattle.volume.specs.Entries.{entry_count, name_at, target_at}
use Rattle.volume.specs.Holds.{IsSoundDirectory}
use Rattle.directory.specs.Files.{IsEntryBytes, IsCopy}
use Rattle.directory.specs.Directories.{IsDirectoryOf, before, row_of}

-- 64 bytes are written past the end
abbrev pub FileInserted : Type 0
FileInserted = (g : Geometry) (v w : Pieces) (n x : ℕ) (name : Name) (bytes : List ℕ) → IsGeometry g → IsSoundDirectory g v n
    → IsTrue (is_name name) → x ≢ 0 → inode_of (before g v n).names name ≡ None → IsEntryBytes bytes x name
    → file_of g w (w.inodes n) ≡ file_after_write g (file_of g v (v.inodes n)) (64 * entry_count v n) bytes
    → IsDirectoryOf g w n (before g v n).parent (with_name (before g v n).names name x)

-- the last entry is written over another, and the file is 64 bytes shorter
abbrev pub FileRemoved : Type 0
FileRemoved = (g : Geometry) (v w : Pieces) (n e : ℕ) (bytes : List ℕ) → IsGeometry g → IsSoundDirectory g v n
    → 2 ≤ e → e < entry_count v n → IsCopy (row_of g v n) (entry_count v n - 1) bytes
    → file_of g w (w.inodes n) ≡ file_after_resize g (file_after_write g (file_of g v (v.inodes n)) (64 * e) bytes) (64 * (entry_count v n - 1))
    → IsDirectoryOf g w n (before g v n).parent (without_name (before g v n).names (name_at g v n e))

-- the last entry goes
abbrev pub FileLastRemoved : Type 0
FileLastRemoved = (g : Geometry) (v w : Pieces) (n : ℕ) → IsGeometry g → IsSoundDirectory g v n → 2 < entry_count v n
    → file_of g w (w.inodes n) ≡ file_after_resize g (file_of g v (v.inodes n)) (64 * (entry_count v n - 1))
    → IsDirectoryOf g w n (before g v n).parent (without_name (before g v n).names (name_at g v n (entry_count v n - 1)))

-- the number of an entry is written
abbrev pub FileRetargeted : Type 0
FileRetargeted = (g : Geometry) (v w : Pieces) (n e x : ℕ) (bytes : List ℕ) → IsGeometry g → IsSoundDirectory g v n
    → 2 ≤ e → e < entry_count v n → x ≢ 0 → length bytes ≡ 4 → u32_in (slice_index bytes) 0 ≡ x
    → file_of g w (w.inodes n) ≡ file_after_write g (file_of g v (v.inodes n)) (64 * e) bytes
    → IsDirectoryOf g w n (before g v n).parent (with_name (before g v n).names (name_at g v n e) x)

-- an entry is written with another name
abbrev pub FileRenamed : Type 0
FileRenamed = (g : Geometry) (v w : Pieces) (n e : ℕ) (name : Name) (bytes : List ℕ) → IsGeometry g → IsSoundDirectory g v n
    → 2 ≤ e → e < entry_count v n → IsTrue (is_name name) → inode_of (before g v n).names name ≡ None
    → IsEntryBytes bytes (target_at g v n e) name
    → file_of g w (w.inodes n) ≡ file_after_write g (file_of g v (v.inodes n)) (64 * e) bytes
    → IsDirectoryOf g w n (before g v n).parent (with_name (without_name (before g v n).names (name_at g v n e)) name (target_at g v n e))

-- the number of entry 1 is written
abbrev pub FileReparented : Type 0
FileReparented = (g : Geometry) (v w : Pieces) (n x : ℕ) (bytes : List ℕ) → IsGeometry g → IsSoundDirectory g v n
    → x ≢ 0 → length bytes ≡ 4 → u32_in (slice_index bytes) 0 ≡ x
    → file_of g w (w.inodes n) ≡ file_after_write g (file_of g v (v.inodes n)) 64 bytes
    → IsDirectoryOf g w n x (before g v n).names
