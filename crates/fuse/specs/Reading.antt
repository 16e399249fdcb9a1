-- Reading a request from left to right, with the first fault that is met.
use Rattle.std.specs.Prelude.{◌≡◌, ℕ, List, [], length, Some, None, Result, Ok, Err, ◌==◌, if◌then◌else◌}
use Rattle.std.specs.Borrow.{Bor}
use Rattle.std.specs.Int.{w32}
use Rattle.fields.specs.declared.fault.MalformedMessage.{MalformedMessage}
use Rattle.fields.specs.declared.fault.MalformedMessage.TheVariants.{Size, Trailing}
use Rattle.fields.specs.Fields.{Kind, Field}
use Rattle.fields.specs.Parts.{◌>>=◌, number_at, bytes_at, fields_at}
use Rattle.fields.specs.Readers.{TakesBytes}
use Rattle.fuse.specs.Requests.{Body, Asked, kinds_of, asker_kinds, tail_length}

-- the fields of these kinds, and what stands behind them
abbrev pub body_at : ℕ → List Kind → List ℕ → Result (Body × List ℕ) MalformedMessage
body_at opcode kinds bytes = do
  fields ← fields_at kinds bytes
  tail ← bytes_at (tail_length opcode fields.0 (length fields.1), fields.1)
  Ok (record { opcode = opcode; fields = fields.0; tail = tail.0 }, tail.1)

-- what stands behind the head of a request with this opcode; of one that isn't known all is taken
unfoldable pub typed_at : ℕ → List ℕ → Result (Body × List ℕ) MalformedMessage
typed_at opcode bytes = elim (kinds_of opcode) [
  | None ↦ Ok (record { opcode = opcode; fields = []; tail = bytes }, [])
  | Some kinds ↦ body_at opcode kinds bytes
]

-- the bytes behind the fields of this body are read of what is left
abbrev pub TakesTail : Result (Bor (List ℕ)) MalformedMessage → Body → Result (Bor (List ℕ)) MalformedMessage → Type 0
TakesTail (Ok bytes) body new = TakesBytes (Ok bytes) (tail_length body.opcode body.fields (length bytes.now)) body.tail new
TakesTail (Err fault) body new = new ≡ Err fault

-- who asks
unfoldable pub asker_at : List ℕ → Result (List Field × List ℕ) MalformedMessage
asker_at bytes = fields_at asker_kinds bytes

-- all of the bytes
abbrev pub whole : Body × List ℕ → Result Body MalformedMessage
whole body = if length body.1 == 0 then Ok body.0 else Err Trailing

-- behind the length
unfoldable pub rest_at : List ℕ → Result Asked MalformedMessage
rest_at bytes = do
  opcode ← number_at w32 bytes
  asker ← asker_at opcode.1
  body ← typed_at opcode.0 asker.1 >>= whole
  Ok (record { asker = asker.0; body = body })

-- the request that bytes say
unfoldable pub request_at : List ℕ → Result Asked MalformedMessage
request_at bytes = do
  size ← number_at w32 bytes
  if size.0 == length bytes then rest_at size.1 else Err Size
