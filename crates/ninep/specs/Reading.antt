-- Reading a request from left to right, with the first fault that is met.
use Rattle.std.specs.Prelude.{ℕ, List, [], ◌∷◌, length, Some, None, Result, Ok, Err, ◌==◌, if◌then◌else◌}
use Rattle.std.specs.Int.{w8, w16, w32}
use Rattle.ninep.specs.declared.fault.MalformedMessage.{MalformedMessage}
use Rattle.ninep.specs.declared.fault.MalformedMessage.TheVariants.{Size, Unknown, Trailing}
use Rattle.ninep.specs.Fields.{width, Kind, IsNumber, IsText, IsData, AreNames, Field, Number, Text, Data, Names}
use Rattle.ninep.specs.Parts.{◌>>=◌, number_at, text_at, names_at}
use Rattle.ninep.specs.Requests.{Body, Tagged, kinds_of}

abbrev pub field_at : Kind → List ℕ → Result (Field × List ℕ) MalformedMessage
field_at (IsNumber size) bytes = do
  n ← number_at (width size) bytes
  Ok (Number size n.0, n.1)
field_at IsText bytes = do
  text ← text_at w16 bytes
  Ok (Text text.0, text.1)
field_at IsData bytes = do
  text ← text_at w32 bytes
  Ok (Data text.0, text.1)
field_at AreNames bytes = do
  names ← names_at bytes
  Ok (Names names.0, names.1)

unfoldable pub fields_at : List Kind → List ℕ → Result (List Field × List ℕ) MalformedMessage
fields_at [] bytes = Ok ([], bytes)
fields_at (kind ∷ kinds) bytes = do
  field ← field_at kind bytes
  fields ← fields_at kinds field.1
  Ok (field.0 ∷ fields.0, fields.1)

-- the fields of a request of this type
unfoldable pub typed_at : ℕ → List ℕ → Result (Body × List ℕ) MalformedMessage
typed_at number bytes = elim (kinds_of number) [
  | None ↦ Err Unknown
  | Some kinds ↦ (fields_at kinds bytes >>= λ fields. Ok (record { number = number; fields = fields.0 }, fields.1))
]

-- all of the bytes
abbrev pub whole : Body × List ℕ → Result Body MalformedMessage
whole body = if length body.1 == 0 then Ok body.0 else Err Trailing

-- behind the size
unfoldable pub rest_at : List ℕ → Result Tagged MalformedMessage
rest_at bytes = do
  number ← number_at w8 bytes
  tag ← number_at w16 number.1
  body ← typed_at number.0 tag.1 >>= whole
  Ok (record { tag = tag.0; body = body })

-- the request that bytes say
unfoldable pub request_at : List ℕ → Result Tagged MalformedMessage
request_at bytes = do
  size ← number_at w32 bytes
  if size.0 == length bytes then rest_at size.1 else Err Size
