-- Where a name stands among entries.
use Rattle.std.specs.Prelude.{◌≡◌, ◌≢◌, ℕ, ◌<◌, ◌≤◌, Option, None, Some}
use Rattle.tree.specs.Names.{Name}
use Rattle.volume.specs.Nodes.{entry_name}

-- no entry from one on to another has the name
pub record NoneNamed (f : ℕ → ℕ) (name : Name) (from to : ℕ) : Type 0 where
  pub none : (e : ℕ) → from ≤ e → e < to → entry_name f e ≢ name

-- this one of them has it
pub record IsNamed (f : ℕ → ℕ) (name : Name) (from to e : ℕ) : Type 0 where
  pub past : from ≤ e
  pub low : e < to
  pub named : entry_name f e ≡ name

-- an entry that has it, or there is none
abbrev pub StandsAt : (ℕ → ℕ) → Name → ℕ → ℕ → Option ℕ → Type 0
StandsAt f name from to None = NoneNamed f name from to
StandsAt f name from to (Some e) = IsNamed f name from to e
