-- The reply to a client call, and the tree after it.
use Rattle.std.specs.Prelude.{ℕ, nat_le, Ok, Err, Bool, true, false}
use Rattle.layout.specs.declared.Geometry.{Geometry}
use Rattle.errno.specs.declared.Errno.TheVariants.{EINVAL}
use Rattle.tree.specs.declared.User.{User}
use Rattle.tree.specs.declared.Who.{Who}
use Rattle.tree.specs.declared.Call.{Call}
use Rattle.tree.specs.declared.Call.TheVariants.{Open, Close, Dup, Read, Write, Seek, Stat, Fstat, Link, Unlink, Mkdir, Rmdir, Rename}
use Rattle.tree.specs.declared.Call.TheVariants.{Chmod, Chown, Utime, Truncate, Readdir, Sync, Statfs, Symlink, Readlink, Lstat}
use Rattle.tree.specs.Tree.{Tree, most_sessions}
use Rattle.tree.specs.Refusals.{◌>>=◌, refuse_if}
use Rattle.tree.specs.Answers.{Answer, refused, done, Effect}
use Rattle.tree.specs.NodeCalls.{stat, lstat, readlink, chmod, chown, utime, truncate, statfs}
use Rattle.tree.specs.NameCalls.{link, unlink, mkdir, symlink, rmdir, rename}
use Rattle.tree.specs.FileCalls.{open_path, close, dup, read, write, seek, fstat, readdir}

-- the user who calls
abbrev pub user_of : Who → User
user_of who = record { uid = who.uid; gid = who.gid }

-- the effect of a call of a session that may be
abbrev pub effect_in_session : Geometry → Tree → Who → ℕ → Call → Effect
effect_in_session g t who now (Open path flags mode) = open_path g t (user_of who) now who.session path flags.0 mode
effect_in_session g t who now (Close fd) = close t who.session fd
effect_in_session g t who now (Dup fd) = dup t who.session fd
effect_in_session g t who now (Read fd count) = read t who.session fd count
effect_in_session g t who now (Write fd bytes) = write g t now who.session fd bytes.now
effect_in_session g t who now (Seek fd whence offset) = seek t who.session fd whence offset
effect_in_session g t who now (Stat path) = stat t (user_of who) path
effect_in_session g t who now (Fstat fd) = fstat t who.session fd
effect_in_session g t who now (Link old new) = link g t (user_of who) now old new
effect_in_session g t who now (Unlink path) = unlink t (user_of who) now path
effect_in_session g t who now (Mkdir path mode) = mkdir g t (user_of who) now path mode
effect_in_session g t who now (Rmdir path) = rmdir t (user_of who) now path
effect_in_session g t who now (Rename old new) = rename g t (user_of who) now old new
effect_in_session g t who now (Chmod path mode) = chmod t (user_of who) now path mode
effect_in_session g t who now (Chown path uid gid) = chown t (user_of who) now path uid gid
effect_in_session g t who now (Utime path atime mtime) = utime t (user_of who) now path atime mtime
effect_in_session g t who now (Truncate path size) = truncate g t (user_of who) now path size
effect_in_session g t who now (Readdir fd) = readdir t who.session fd
effect_in_session g t who now Sync = Ok (done, t)
effect_in_session g t who now Statfs = statfs g t
effect_in_session g t who now (Symlink target path) = symlink g t (user_of who) now target.now path
effect_in_session g t who now (Readlink path) = readlink t (user_of who) path
effect_in_session g t who now (Lstat path) = lstat t (user_of who) path

-- the effect of a call; sessions are numbered below 64
abbrev pub effect_of : Geometry → Tree → Who → ℕ → Call → Effect
effect_of g t who now call = do
  _ ← refuse_if (nat_le most_sessions who.session) EINVAL
  effect_in_session g t who now call

-- what the call answers
abbrev pub reply_to : Geometry → Tree → Who → ℕ → Call → Answer
reply_to g t who now call = elim (effect_of g t who now call) [ Ok made ↦ made.0 | Err e ↦ refused e ]

-- the tree that the call leaves: a refused call changes nothing
abbrev pub tree_after_call : Geometry → Tree → Who → ℕ → Call → Tree
tree_after_call g t who now call = elim (effect_of g t who now call) [ Ok made ↦ made.1 | Err e ↦ t ]

-- the calls whose answer takes memory, so that ENOMEM may stand in place of a success; the tree then stays
abbrev pub may_want_memory : Call → Bool
may_want_memory (Read fd count) = true
may_want_memory (Readdir fd) = true
may_want_memory _ = false
