-- An entry is set by a write of 64 bytes, and dropped by such a write and a resize.
use Rattle.std.specs.Prelude.{◌≡◌, ℕ, ◌+◌, ◌-◌, ◌*◌, ◌<◌, List, length, slice_index}
use Rattle.layout.specs.declared.Geometry.{Geometry}
use Rattle.tree.specs.Names.{Name}
use Rattle.tree.specs.Tree.{File}
use Rattle.tree.specs.Changes.{file_after_write, file_after_resize}
use Rattle.volume.specs.Reading.{u32_in}
use Rattle.directory.specs.Rows.{SetsEntry, DropsEntry}

-- 64 bytes that are an inode number and a name, filled with zeros
pub record IsEntryBytes (bytes : List ℕ) (x : ℕ) (name : Name) : Type 0 where
  pub many : length bytes ≡ 64
  pub number : u32_in (slice_index bytes) 0 ≡ x
  pub name_bytes : (a : ℕ) → a < 60 → slice_index bytes (4 + a) ≡ slice_index name a

-- 64 bytes that are those of an entry of a file
pub record IsCopy (f : ℕ → ℕ) (e : ℕ) (bytes : List ℕ) : Type 0 where
  pub many : length bytes ≡ 64
  pub same : (o : ℕ) → o < 64 → slice_index bytes o ≡ f (64 * e + o)

abbrev pub WriteSetsEntry : Type 0
WriteSetsEntry = (g : Geometry) (f : File) (e x : ℕ) (name : Name) (bytes : List ℕ) → IsEntryBytes bytes x name
    → SetsEntry f.byte (file_after_write g f (64 * e) bytes).byte e x name

-- where only the four bytes of the number are written the name stays
abbrev pub WriteSetsNumber : Type 0
WriteSetsNumber = (g : Geometry) (f : File) (e x : ℕ) (name : Name) (bytes : List ℕ) → length bytes ≡ 4 → u32_in (slice_index bytes) 0 ≡ x
    → ((a : ℕ) → a < 60 → f.byte (64 * e + 4 + a) ≡ slice_index name a)
    → SetsEntry f.byte (file_after_write g f (64 * e) bytes).byte e x name

abbrev pub WriteDropsEntry : Type 0
WriteDropsEntry = (g : Geometry) (f : File) (k e : ℕ) (bytes : List ℕ) → IsCopy f.byte (k - 1) bytes
    → DropsEntry f.byte (file_after_resize g (file_after_write g f (64 * e) bytes) (64 * (k - 1))).byte k e

-- the last entry goes by the size alone
abbrev pub ResizeDropsLast : Type 0
ResizeDropsLast = (g : Geometry) (f : File) (k : ℕ) → DropsEntry f.byte (file_after_resize g f (64 * (k - 1))).byte k (k - 1)
