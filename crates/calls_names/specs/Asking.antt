-- What open asks before it looks at the path, and of a node that is there; what symlink asks of a target.
use Rattle.std.specs.Prelude.{ℕ, List, length, Bool, not, ◌&&◌, ◌||◌, ◌==◌, nat_lt, Option, None, Some, Result, Ok, if◌then◌else◌}
use Rattle.std.specs.List.{list_any}
use Rattle.errno.specs.declared.Errno.{Errno}
use Rattle.errno.specs.declared.Errno.TheVariants.{EACCES, EEXIST, EINVAL, EISDIR, ELOOP, ENAMETOOLONG, ENOENT}
use Rattle.tree.specs.declared.User.{User}
use Rattle.tree.specs.Flags.{bad_flags, creates, is_exclusive, reads, writes}
use Rattle.tree.specs.Tree.{Node, most_permissions, most_target}
use Rattle.tree.specs.Refusals.{◌>>=◌, refuse_if}
use Rattle.tree.specs.Walk.{may_access, to_read, to_write}
use Rattle.descriptors.specs.Files.{Files, room_for_file}

-- the flags and the mode, then room for one more open file
abbrev pub may_begin : Files → ℕ → ℕ → ℕ → Result (Unit {0}) Errno
may_begin f session flags mode = do
  _ ← refuse_if (bad_flags flags || nat_lt most_permissions mode) EINVAL
  room_for_file f session

-- the user may not do what the flags ask for
abbrev pub lacks_permission : User → Node → ℕ → Bool
lacks_permission user node flags =
    (reads flags && not (may_access user node to_read)) || (writes flags && not (may_access user node to_write))

-- the first of the reasons against opening a node that is there: a link or not, a directory or not, with or without the permissions
abbrev pub why_barred : Bool → Bool → Bool → ℕ → Option Errno
why_barred link directory lacks flags =
    if creates flags && is_exclusive flags then Some EEXIST
    else if link then Some ELOOP
    else if directory && writes flags then Some EISDIR
    else if lacks then Some EACCES
    else None

-- with create and exclusive a call opens no node that is there, and a link is one
abbrev pub only_makes : ℕ → Bool
only_makes flags = creates flags && is_exclusive flags

-- some bytes, not too many, and none of them zero
abbrev pub may_be_target : List ℕ → Result (Unit {0}) Errno
may_be_target target = do
  _ ← refuse_if (length target == 0) ENOENT
  _ ← refuse_if (nat_lt most_target (length target)) ENAMETOOLONG
  _ ← refuse_if (list_any (λ c. c == 0) target) EINVAL
  Ok tt
