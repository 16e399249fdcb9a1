-- What a read of a file gives.
use Rattle.std.specs.Prelude.{◌≡◌, ℕ, ◌+◌, ◌-◌, ◌<◌, List, slice_index, nat_lt, if◌then◌else◌}
use Rattle.tree.specs.Tree.{File}

-- how many bytes are read at a place: those up to the end of the file, or as many as there is room for
abbrev pub read_count : ℕ → ℕ → ℕ → ℕ
read_count size at room = if nat_lt (size - at) room then size - at else room

-- the first n of these bytes are those of the file from a place on
abbrev pub HasFileBytes : File → ℕ → ℕ → List ℕ → Type 0
HasFileBytes f at n bytes = (k : ℕ) → k < n → slice_index bytes k ≡ f.byte (at + k)
