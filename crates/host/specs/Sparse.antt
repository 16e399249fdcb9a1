-- Bytes that are put over others.
use Rattle.std.specs.Prelude.{◌≡◌, ℕ, ◌+◌, ◌-◌, List, ◌++◌, length, take, drop, replicate, Option, Some, None, ⊤}

-- bytes after others were put at a place of them
abbrev pub put_at : List ℕ → ℕ → List ℕ → List ℕ
put_at old at bytes = take at old ++ bytes ++ drop (at + length bytes) old

-- what was put at a place of known bytes, and nothing else of them is another
abbrev pub Puts : Option (List ℕ) → Option (List ℕ) → ℕ → List ℕ → Type 0
Puts None new at bytes = ⊤
Puts (Some old) new at bytes = new ≡ Some (put_at old at bytes)

-- bytes, and zeros up to a length
abbrev pub filled : List ℕ → ℕ → List ℕ
filled bytes size = bytes ++ replicate (size - length bytes) 0
