-- Names that entries may have.
use Rattle.std.specs.Prelude.{⊤, ◌||◌, ◌==◌, ℕ, Bool, List, length, codes, Result, Ok, Err, if◌then◌else◌}
use Rattle.std.specs.List.{list_any}
use Rattle.std.specs.Str.{bytes_eq}
use Rattle.errno.specs.declared.Errno.TheVariants.{EINVAL}
use Rattle.talks.specs.declared.refused.Refused.{Refused}
use Rattle.talks.specs.declared.refused.Refused.TheVariants.{By}

-- bytes that one of a list is
abbrev pub has_byte : List ℕ → ℕ → Bool
has_byte bytes b = list_any (λ c. c == b) bytes

-- `.`, a directory itself, and `..`, the one in which it stands
abbrev pub is_dots : List ℕ → Bool
is_dots name = bytes_eq name (codes ".") || bytes_eq name (codes "..")

-- a name that an entry may have: EINVAL where it is empty, `.` or `..`, or has a slash or a zero
abbrev pub checked : List ℕ → Result ⊤ Refused
checked name =
    if (length name == 0) || (is_dots name || (has_byte name 47 || has_byte name 0)) then Err (By EINVAL) else Ok tt
