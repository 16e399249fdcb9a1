-- Reading field by field, where what is left may be a fault.
use Rattle.std.specs.Prelude.{◌≡◌, ℕ, List, [], ◌∷◌, Result, Ok, Err}
use Rattle.std.specs.Borrow.{Bor}
use Rattle.fields.specs.declared.fault.MalformedMessage.{MalformedMessage}
use Rattle.fields.specs.Fields.{Kind, Field}
use Rattle.fields.specs.Parts.{Gives, bytes_at, field_at}

-- a field is read of what is left; behind a fault nothing is
abbrev pub Takes : Result (Bor (List ℕ)) MalformedMessage → Kind → Field → Result (Bor (List ℕ)) MalformedMessage → Type 0
Takes (Ok bytes) kind field new = Gives (λ rest. (field, rest.now)) new (field_at kind bytes.now)
Takes (Err fault) kind field new = new ≡ Err fault

-- so many bytes are
abbrev pub TakesBytes : Result (Bor (List ℕ)) MalformedMessage → ℕ → List ℕ → Result (Bor (List ℕ)) MalformedMessage → Type 0
TakesBytes (Ok bytes) count taken new = Gives (λ rest. (taken, rest.now)) new (bytes_at (count, bytes.now))
TakesBytes (Err fault) count taken new = new ≡ Err fault

-- fields are read, one behind the other
abbrev pub TakesAll : Result (Bor (List ℕ)) MalformedMessage → List Kind → List Field → Result (Bor (List ℕ)) MalformedMessage → Type 0
TakesAll old [] [] new = new ≡ old
TakesAll old (kind ∷ kinds) (field ∷ fields) new =
    (mid : Result (Bor (List ℕ)) MalformedMessage) × Takes old kind field mid × TakesAll mid kinds fields new
TakesAll old kinds fields new = ⊥
