-- Reading from the left, with the first fault that is met.
use Rattle.std.specs.Prelude.{◌≡◌, ℕ, List, [], ◌∷◌, length, take, drop, Result, Ok, Err, nat_lt, ◌==◌, if◌then◌else◌}
use Rattle.std.specs.Int.{Width, byte_len, from_le_bytes}
use Rattle.fields.specs.declared.fault.MalformedMessage.{MalformedMessage}
use Rattle.fields.specs.declared.fault.MalformedMessage.TheVariants.{Short}
use Rattle.fields.specs.Fields.{width, Kind, IsNumber, IsUnused, IsName, Field, Number, Unused, Name}

infixl 10 ◌>>=◌
abbrev pub ◌>>=◌ : {A B : Type 0} → Result A MalformedMessage → (A → Result B MalformedMessage) → Result B MalformedMessage
(Ok x) >>= f = f x
(Err e) >>= f = Err e

-- what a function answered, seen by view, is what reading gives
abbrev pub Gives : {X Y : Type 0} → (X → Y) → Result X MalformedMessage → Result Y MalformedMessage → Type 0
Gives view (Ok x) read = read ≡ Ok (view x)
Gives view (Err fault) read = read ≡ Err fault

-- A field is a value and the bytes after it.
abbrev pub number_at : Width → List ℕ → Result (ℕ × List ℕ) MalformedMessage
number_at w bytes =
    if nat_lt (length bytes) (byte_len w) then Err Short
    else Ok (from_le_bytes w (take (byte_len w) bytes), drop (byte_len w) bytes)

-- so many bytes
abbrev pub bytes_at : ℕ × List ℕ → Result (List ℕ × List ℕ) MalformedMessage
bytes_at n = if nat_lt (length n.1) n.0 then Err Short else Ok (take n.0 n.1, drop n.0 n.1)

-- the bytes up to the first zero, and those behind it
unfoldable pub name_at : List ℕ → Result (List ℕ × List ℕ) MalformedMessage
name_at [] = Err Short
name_at (byte ∷ bytes) = if byte == 0 then Ok ([], bytes) else (name_at bytes >>= λ name. Ok (byte ∷ name.0, name.1))

-- a field of this kind, as its reader sees it
abbrev pub field_at : Kind → List ℕ → Result (Field × List ℕ) MalformedMessage
field_at (IsNumber size) bytes = do
  n ← number_at (width size) bytes
  Ok (Number size n.0, n.1)
field_at (IsUnused size) bytes = do
  n ← number_at (width size) bytes
  Ok (Unused size 0, n.1)
field_at IsName bytes = do
  name ← name_at bytes
  Ok (Name name.0, name.1)

unfoldable pub fields_at : List Kind → List ℕ → Result (List Field × List ℕ) MalformedMessage
fields_at [] bytes = Ok ([], bytes)
fields_at (kind ∷ kinds) bytes = do
  field ← field_at kind bytes
  fields ← fields_at kinds field.1
  Ok (field.0 ∷ fields.0, fields.1)
