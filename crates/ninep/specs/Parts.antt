-- Reading numbers and texts from the left, with the first fault that is met.
use Rattle.std.specs.Prelude.{◌≡◌, ℕ, zero, suc, List, [], ◌∷◌, length, take, drop, Result, Ok, Err, nat_lt, if◌then◌else◌}
use Rattle.std.specs.Borrow.{Bor}
use Rattle.std.specs.Int.{Width, w16, byte_len, from_le_bytes}
use Rattle.ninep.specs.declared.fault.MalformedMessage.{MalformedMessage}
use Rattle.ninep.specs.declared.fault.MalformedMessage.TheVariants.{Short, ManyNames}
use Rattle.ninep.specs.Fields.{most_names}

infixl 10 ◌>>=◌
abbrev pub ◌>>=◌ : {A B : Type 0} → Result A MalformedMessage → (A → Result B MalformedMessage) → Result B MalformedMessage
(Ok x) >>= f = f x
(Err e) >>= f = Err e

-- what a function answered, seen by view, is what reading gives
abbrev pub Gives : {X Y : Type 0} → (X → Y) → Result X MalformedMessage → Result Y MalformedMessage → Type 0
Gives view (Ok x) read = read ≡ Ok (view x)
Gives view (Err fault) read = read ≡ Err fault

-- A field is a value and the bytes after it.
abbrev pub number_at : Width → List ℕ → Result (ℕ × List ℕ) MalformedMessage
number_at w bytes =
    if nat_lt (length bytes) (byte_len w) then Err Short
    else Ok (from_le_bytes w (take (byte_len w) bytes), drop (byte_len w) bytes)

-- so many bytes
abbrev pub bytes_at : ℕ × List ℕ → Result (List ℕ × List ℕ) MalformedMessage
bytes_at n = if nat_lt (length n.1) n.0 then Err Short else Ok (take n.0 n.1, drop n.0 n.1)

-- bytes behind their length
unfoldable pub text_at : Width → List ℕ → Result (List ℕ × List ℕ) MalformedMessage
text_at w bytes = number_at w bytes >>= bytes_at

-- so many texts
unfoldable pub texts_at : ℕ → List ℕ → Result (List (List ℕ) × List ℕ) MalformedMessage
texts_at zero bytes = Ok ([], bytes)
texts_at (suc n) bytes = do
  first ← text_at w16 bytes
  others ← texts_at n first.1
  Ok (first.0 ∷ others.0, others.1)

-- texts behind their number
unfoldable pub names_at : List ℕ → Result (List (List ℕ) × List ℕ) MalformedMessage
names_at bytes = do
  n ← number_at w16 bytes
  if nat_lt most_names n.0 then Err ManyNames else texts_at n.0 n.1

-- the texts that were read
abbrev pub texts_or_none : Result (List (List ℕ) × List ℕ) MalformedMessage → List (List ℕ)
texts_or_none (Ok read) = read.0
texts_or_none (Err fault) = []

-- the bytes behind what was read
abbrev pub IsBehind : Result (Bor (List ℕ)) MalformedMessage → Result (List (List ℕ) × List ℕ) MalformedMessage → Type 0
IsBehind (Ok rest) read = (texts : List (List ℕ)) × (read ≡ Ok (texts, rest.now))
IsBehind (Err fault) read = read ≡ Err fault

-- these bytes are so many texts, and nothing else
abbrev pub AreTexts : ℕ → List ℕ → Type 0
AreTexts count bytes = texts_at count bytes ≡ Ok (texts_or_none (texts_at count bytes), [])
