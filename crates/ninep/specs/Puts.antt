-- Bytes that are put behind others.
use Rattle.std.specs.Prelude.{⊤, ◌≡◌, ℕ, List, length, take}
use Rattle.ninep.specs.declared.writing.Part.{Part}
use Rattle.ninep.specs.declared.writing.Part.TheVariants as part
use Rattle.ninep.specs.Fields.{One, Two, Four, Eight, IsShort, number_bytes, text_bytes}

-- those before stand where they stood
abbrev pub StandsFirst : List ℕ → List ℕ → Type 0
StandsFirst old new = take (length old) new ≡ old

-- the bytes of a field
abbrev pub part_bytes : Part → List ℕ
part_bytes (part.U8 n) = number_bytes One n
part_bytes (part.U16 n) = number_bytes Two n
part_bytes (part.U32 n) = number_bytes Four n
part_bytes (part.U64 n) = number_bytes Eight n
part_bytes (part.Text text) = text_bytes text.now

-- one that has bytes
abbrev pub IsPut : Part → Type 0
IsPut (part.Text text) = IsShort text.now
IsPut p = ⊤
