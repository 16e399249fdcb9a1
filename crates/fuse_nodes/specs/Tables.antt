-- Tables, as functions of their keys, which are numbers.
use Rattle.std.specs.Prelude.{ℕ, Option, if◌then◌else◌, ◌==◌}
use Rattle.std.specs.Option.{option_map}

-- a table that has this at a key, and at all others what it had
abbrev pub put : {X : Type 0} → (ℕ → Option X) → ℕ → Option X → ℕ → Option X
put table key x other = if key == other then x else table other

-- one that has at a key what a change makes of what it had there
abbrev pub changed : {X : Type 0} → (X → X) → (ℕ → Option X) → ℕ → ℕ → Option X
changed f table key = put table key (option_map f (table key))
