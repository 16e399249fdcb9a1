-- Paths of fids: each name behind a slash, so that the root's is empty.
use Rattle.std.specs.Prelude.{⊤, ◌≡◌, ◌==◌, ◌||◌, ℕ, Bool, true, List, [], ◌∷◌, ◌++◌, length, codes, Result, Ok, Err, if◌then◌else◌}
use Rattle.std.specs.List.{list_any}
use Rattle.std.specs.Str.{bytes_eq}
use Rattle.errno.specs.declared.Errno.TheVariants.{ENOENT, EINVAL}
use Rattle.tree.specs.declared.PathFrom.{PathFrom}
use Rattle.tree.specs.declared.Start.{Start}
use Rattle.tree.specs.declared.Start.TheVariants.{Root, Inode}
use Rattle.talks.specs.Plain.{at, from_root}
use Rattle.talks.specs.declared.refused.Refused.{Refused}
use Rattle.talks.specs.declared.refused.Refused.TheVariants.{By}

-- a path as a call has it
abbrev pub called : List ℕ → List ℕ
called [] = 47 ∷ []
called (c ∷ path) = c ∷ path

-- a path as a call has it that starts here: at an inode it has no bytes, and names that itself
abbrev pub placed : Start → List ℕ → PathFrom
placed Root path = from_root (called path)
placed (Inode number) path = record { start = Inode number; bytes = at [] }

-- the path of a name in a directory
abbrev pub below : List ℕ → List ℕ → List ℕ
below directory name = directory ++ 47 ∷ name

-- bytes that one of a list is
abbrev pub has_byte : List ℕ → ℕ → Bool
has_byte bytes b = list_any (λ c. c == b) bytes

-- the path of the directory in which a path's last name stands, up to its last slash; the root's is its own
abbrev pub parent : List ℕ → List ℕ
parent [] = []
parent (c ∷ path) = if has_byte path 47 then c ∷ parent path else if c == 47 then [] else c ∷ path

-- `.`, a directory itself, and `..`, the one in which it stands
abbrev pub is_here : List ℕ → Bool
is_here name = bytes_eq name (codes ".")

abbrev pub is_above : List ℕ → Bool
is_above name = bytes_eq name (codes "..")

-- A name that an entry may be given: ENOENT where it is empty, EINVAL where it is `.` or `..`, or has a slash or a zero.
abbrev pub checked : List ℕ → Result ⊤ Refused
checked name =
    if length name == 0 then Err (By ENOENT)
    else if is_here name || (is_above name || (has_byte name 47 || has_byte name 0)) then Err (By EINVAL) else Ok tt

-- a name that a walk may have
abbrev pub leads : List ℕ → Result ⊤ Refused
leads name = if is_here name || is_above name then Ok tt else checked name

-- where it leads from a directory
abbrev pub stepped : List ℕ → List ℕ → List ℕ
stepped directory name =
    if is_here name then directory else if is_above name then parent directory else below directory name

-- what is behind a path in one that is the same or lies below it: nothing, or a slash and more
abbrev pub is_rest : List ℕ → Bool
is_rest [] = true
is_rest (c ∷ rest) = c == 47

abbrev pub IsRest : List ℕ → Type 0
IsRest rest = is_rest rest ≡ true

-- a path that is neither a name's nor below it
abbrev pub IsElsewhere : List ℕ → List ℕ → Type 0
IsElsewhere name path = (rest : List ℕ) → IsRest rest → ¬ (path ≡ name ++ rest)
