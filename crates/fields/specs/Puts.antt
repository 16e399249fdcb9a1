-- Bytes that are put behind others.
use Rattle.std.specs.Prelude.{◌≡◌, ℕ, List, length, take}
use Rattle.fields.specs.declared.putting.Part.{Part}
use Rattle.fields.specs.declared.putting.Part.TheVariants as part
use Rattle.fields.specs.Fields.{Two, Four, Eight, number_bytes}

-- those before stand where they stood
abbrev pub StandsFirst : List ℕ → List ℕ → Type 0
StandsFirst old new = take (length old) new ≡ old

-- the bytes of a field
abbrev pub part_bytes : Part → List ℕ
part_bytes (part.U16 n) = number_bytes Two n
part_bytes (part.U32 n) = number_bytes Four n
part_bytes (part.U64 n) = number_bytes Eight n
part_bytes (part.Bytes bytes) = bytes.now
