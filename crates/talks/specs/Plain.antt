-- What is asked, wherever the bytes of a call stand.
use Rattle.std.specs.Prelude.{ℕ, List}
use Rattle.std.specs.Borrow.{Bor}
use Rattle.tree.specs.declared.Call.{Call}
use Rattle.tree.specs.declared.Call.TheVariants as call
use Rattle.tree.specs.declared.PathFrom.{PathFrom}
use Rattle.tree.specs.declared.Start.TheVariants.{Root}
use Rattle.talks.specs.declared.ask.Ask.{Ask}
use Rattle.talks.specs.declared.ask.Ask.TheVariants as ask

-- bytes of a call, wherever they stand
abbrev pub at : List ℕ → Bor (List ℕ)
at bytes = record { ref_ptr = (0, 0); now = bytes }

-- a path, wherever its bytes stand
abbrev pub plain_path : PathFrom → PathFrom
plain_path path = record { start = path.start; bytes = at path.bytes.now }

-- a path from the root
abbrev pub from_root : List ℕ → PathFrom
from_root bytes = record { start = Root; bytes = at bytes }

-- the same call, wherever its paths and bytes stand
abbrev pub plain_call : Call → Call
plain_call (call.Open path flags mode) = call.Open (plain_path path) flags mode
plain_call (call.Write fd bytes) = call.Write fd (at bytes.now)
plain_call (call.Stat path) = call.Stat (plain_path path)
plain_call (call.Link old new) = call.Link (plain_path old) (plain_path new)
plain_call (call.Unlink path) = call.Unlink (plain_path path)
plain_call (call.Mkdir path mode) = call.Mkdir (plain_path path) mode
plain_call (call.Rmdir path) = call.Rmdir (plain_path path)
plain_call (call.Rename old new) = call.Rename (plain_path old) (plain_path new)
plain_call (call.Chmod path mode) = call.Chmod (plain_path path) mode
plain_call (call.Chown path uid gid) = call.Chown (plain_path path) uid gid
plain_call (call.Utime path atime mtime) = call.Utime (plain_path path) atime mtime
plain_call (call.Truncate path size) = call.Truncate (plain_path path) size
plain_call (call.Symlink target path) = call.Symlink (at target.now) (plain_path path)
plain_call (call.Readlink path) = call.Readlink (plain_path path)
plain_call (call.Lstat path) = call.Lstat (plain_path path)
plain_call c = c

abbrev pub plain : Ask → Ask
plain (ask.Enter uid gid) = ask.Enter uid gid
plain (ask.Leave who) = ask.Leave who
plain (ask.Call session c) = ask.Call session (plain_call c)
