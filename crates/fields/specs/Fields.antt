-- The fields of messages, and their bytes.
use Rattle.std.specs.Prelude.{◌≢◌, ℕ, ◌<◌, ◌*◌, ◌^◌, List, [], ◌∷◌, ◌++◌}
use Rattle.std.specs.List.{flat_map, AllByRecursion}
use Rattle.std.specs.Int.{Width, w16, w32, w64, byte_len, to_le_bytes}

-- how many bytes a number has
pub data Size : Type 0 where
  Two : Size
  Four : Size
  Eight : Size

abbrev pub width : Size → Width
width Two = w16
width Four = w32
width Eight = w64

-- a kind of field: a number, one that says nothing, or a name
pub data Kind : Type 0 where
  IsNumber : (size : Size) → Kind
  IsUnused : (size : Size) → Kind
  IsName : Kind

-- a field
pub data Field : Type 0 where
  Number : (size : Size) (n : ℕ) → Field
  Unused : (size : Size) (n : ℕ) → Field
  Name : List ℕ → Field

abbrev pub kind_of : Field → Kind
kind_of (Number size n) = IsNumber size
kind_of (Unused size n) = IsUnused size
kind_of (Name bytes) = IsName

-- a field as its reader sees it: whatever says nothing is 0
abbrev pub seen : Field → Field
seen (Number size n) = Number size n
seen (Unused size n) = Unused size 0
seen (Name bytes) = Name bytes

-- the bytes of a number, the lowest first
unfoldable pub number_bytes : Size → ℕ → List ℕ
number_bytes size n = to_le_bytes (width size) n

-- the bytes of a field: a name is ended by a zero
abbrev pub field_bytes : Field → List ℕ
field_bytes (Number size n) = number_bytes size n
field_bytes (Unused size n) = number_bytes size n
field_bytes (Name bytes) = bytes ++ 0 ∷ []

abbrev pub fields_bytes : List Field → List ℕ
fields_bytes fields = flat_map field_bytes fields

-- a field that has bytes: no byte of a name is zero
abbrev pub Fits : Field → Type 0
Fits (Number size n) = n < 2 ^ (8 * byte_len (width size))
Fits (Unused size n) = n < 2 ^ (8 * byte_len (width size))
Fits (Name bytes) = AllByRecursion (λ b. b ≢ 0) bytes
