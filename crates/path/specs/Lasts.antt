-- The parts of a path that is read part by part.
use Rattle.std.specs.Prelude.{◌≡◌, ℕ, List, [], ◌∷◌, Result, Ok, Err, length, Bool, nat_lt, if◌then◌else◌}
use Rattle.std.specs.List.{list_any}
use Rattle.errno.specs.declared.Errno.{Errno}
use Rattle.errno.specs.declared.Errno.TheVariants.{ENAMETOOLONG}
use Rattle.tree.specs.declared.Start.{Start}
use Rattle.tree.specs.Names.{Name, most_name}
use Rattle.tree.specs.Walk.{Way, last_part, parts_of}

-- the last of these parts, or the one before them
abbrev pub last_after : Name → List Name → Name
last_after part [] = part
last_after part (next ∷ rest) = last_after next rest

-- a part is longer than a name may be
abbrev pub is_long : Name → Bool
is_long part = nat_lt most_name (length part)

-- some part is
abbrev pub has_long : List Name → Bool
has_long parts = list_any is_long parts

-- the way of some parts from a start, or the refusal of a long one
abbrev pub short_parts : Start → List Name → Result Way Errno
short_parts start parts = if has_long parts then Err ENAMETOOLONG else Ok (record { start = start; parts = parts })

-- this is the last part of the path, and so many parts it has
pub record IsRead (path last : List ℕ) (count : ℕ) : Type 0 where
  pub last_is : last ≡ last_part (parts_of path)
  pub counted : count ≡ length (parts_of path)
