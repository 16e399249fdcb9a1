-- When an open file can't be read.
use Rattle.std.specs.Prelude.{ℕ, Option, Some, None, not, nat_lt, if◌then◌else◌}
use Rattle.errno.specs.declared.Errno.{Errno}
use Rattle.errno.specs.declared.Errno.TheVariants.{EBADF, EISDIR, EINVAL}
use Rattle.tree.specs.Tree.{most_bytes}
use Rattle.tree.specs.Flags.{reads}
use Rattle.volume.specs.Nodes.{is_directory_mode}
use Rattle.calls_attributes.specs.declared.found.Found.{Found}

-- the first of the reasons against a read
abbrev pub why_unread : Found → ℕ → Option Errno
why_unread file count =
    if not (reads file.flags.0) then Some EBADF
    else if is_directory_mode file.inode.mode then Some EISDIR
    else if nat_lt most_bytes count then Some EINVAL
    else None
