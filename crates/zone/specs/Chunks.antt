-- A write is a row of writes of one page each.
use Rattle.std.specs.Prelude.{◌≡◌, ℕ, ◌+◌, ◌*◌, ◌-◌, ◌/◌, ◌%◌, ◌<◌, ◌≤◌, List, ◌++◌, length, slice_index, true, nat_lt, if◌then◌else◌}
use Rattle.layout.specs.declared.Geometry.{Geometry}
use Rattle.tree.specs.Tree.{File}
use Rattle.tree.specs.Changes.{file_after_write}
use Rattle.zone.specs.ZoneSteps.{with_page}
use Rattle.zone.specs.Raw.{with_bytes}

-- the size after bytes up to an end
abbrev pub grown : File → ℕ → ℕ
grown f end = if nat_lt f.size end then end else f.size

-- the file of that size
abbrev pub resized : File → ℕ → File
resized f size = record f { size = size; byte = λ q. if nat_lt q size then f.byte q else 0 }

-- The bytes of a page with some of them replaced, up to the file's end.
pub record Replaces (width : ℕ) (f : File) (at : ℕ) (bytes : List ℕ) (row : ℕ → ℕ) : Type 0 where
  pub some : 0 < length bytes
  pub within : at % width + length bytes ≤ width
  pub new : (o : ℕ) → at % width ≤ o → o < at % width + length bytes → row o ≡ slice_index bytes (o - at % width)
  pub before : (o : ℕ) → o < at % width → row o ≡ f.byte (at / width * width + o)
  pub after : (o : ℕ) → at % width + length bytes ≤ o → at / width * width + o < grown f (at + length bytes) → row o ≡ f.byte (at / width * width + o)

-- Growing the size, holding the page and writing its bytes is a write of these bytes.
abbrev pub ChunkIsWritten : Type 0
ChunkIsWritten = (g : Geometry) (f : File) (at : ℕ) (bytes : List ℕ) (row : ℕ → ℕ) → 0 < g.block_size → ((q : ℕ) → f.size ≤ q → f.byte q ≡ 0)
    → Replaces g.block_size f at bytes row
    → with_bytes g.block_size (with_page (resized f (grown f (at + length bytes))) (at / g.block_size) true) (at / g.block_size) row ≡ file_after_write g f at bytes

-- Two writes in a row are one.
abbrev pub WritesJoin : Type 0
WritesJoin = (g : Geometry) (f : File) (at : ℕ) (a b : List ℕ) → 0 < g.block_size → file_after_write g (file_after_write g f at a) (at + length a) b ≡ file_after_write g f at (a ++ b)
