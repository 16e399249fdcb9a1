-- Where a write to an open file begins, and when it can't be made.
use Rattle.std.specs.Prelude.{ℕ, ◌+◌, Option, Some, None, not, ◌||◌, nat_lt, if◌then◌else◌}
use Rattle.errno.specs.declared.Errno.{Errno}
use Rattle.errno.specs.declared.Errno.TheVariants.{EBADF, EINVAL, EFBIG}
use Rattle.tree.specs.Tree.{most_bytes, most_size}
use Rattle.tree.specs.Flags.{writes, appends}
use Rattle.volume.specs.Nodes.{is_directory_mode, is_link_mode}
use Rattle.calls_attributes.specs.declared.found.Found.{Found}

-- the end of the file with the append flag, else the position
abbrev pub write_place : Found → ℕ
write_place file = if appends file.flags.0 then file.inode.size else file.position

-- the first of the reasons against a write of so many bytes
abbrev pub why_unwritten : Found → ℕ → Option Errno
why_unwritten file count =
    if not (writes file.flags.0) then Some EBADF
    else if nat_lt most_bytes count then Some EINVAL
    else if is_directory_mode file.inode.mode || is_link_mode file.inode.mode then Some EBADF
    else if nat_lt most_size (write_place file + count) then Some EFBIG
    else None
