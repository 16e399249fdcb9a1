-- The fields of messages, and their bytes.
use Rattle.std.specs.Prelude.{ℕ, ◌<◌, ◌≤◌, ◌^◌, ◌*◌, List, ◌++◌, length}
use Rattle.std.specs.List.{flat_map, AllByRecursion}
use Rattle.std.specs.Int.{Width, w8, w16, w32, w64, byte_len, to_le_bytes}

-- how many bytes a number has
pub data Size : Type 0 where
  One : Size
  Two : Size
  Four : Size
  Eight : Size

abbrev pub width : Size → Width
width One = w8
width Two = w16
width Four = w32
width Eight = w64

-- a kind of field: a number, a text, data, or texts
pub data Kind : Type 0 where
  IsNumber : (size : Size) → Kind
  IsText : Kind
  IsData : Kind
  AreNames : Kind

-- a field: a number, a text, data, or texts
pub data Field : Type 0 where
  Number : (size : Size) (n : ℕ) → Field
  Text : List ℕ → Field
  Data : List ℕ → Field
  Names : List (List ℕ) → Field

abbrev pub kind_of : Field → Kind
kind_of (Number size n) = IsNumber size
kind_of (Text bytes) = IsText
kind_of (Data bytes) = IsData
kind_of (Names names) = AreNames

-- the bytes of a number, the lowest first
unfoldable pub number_bytes : Size → ℕ → List ℕ
number_bytes size n = to_le_bytes (width size) n

-- a text: two bytes of length, and that many bytes
abbrev pub text_bytes : List ℕ → List ℕ
text_bytes bytes = number_bytes Two (length bytes) ++ bytes

-- The bytes of a field, numbers little-endian. Data have four bytes of length, texts two bytes of their number.
abbrev pub field_bytes : Field → List ℕ
field_bytes (Number size n) = number_bytes size n
field_bytes (Text bytes) = text_bytes bytes
field_bytes (Data bytes) = number_bytes Four (length bytes) ++ bytes
field_bytes (Names names) = number_bytes Two (length names) ++ flat_map text_bytes names

abbrev pub fields_bytes : List Field → List ℕ
fields_bytes fields = flat_map field_bytes fields

-- the most names of a walk
abbrev pub most_names : ℕ
most_names = 16

-- a text whose length fits its two bytes
abbrev pub IsShort : List ℕ → Type 0
IsShort bytes = length bytes < 2 ^ 16

-- a field that has bytes
abbrev pub Fits : Field → Type 0
Fits (Number size n) = n < 2 ^ (8 * byte_len (width size))
Fits (Text bytes) = IsShort bytes
Fits (Data bytes) = length bytes < 2 ^ 32
Fits (Names names) = (length names ≤ most_names) × AllByRecursion IsShort names
