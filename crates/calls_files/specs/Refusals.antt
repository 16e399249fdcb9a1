-- When the names of an open file can't be listed.
use Rattle.std.specs.Prelude.{Option, Some, None, not, if◌then◌else◌}
use Rattle.errno.specs.declared.Errno.{Errno}
use Rattle.errno.specs.declared.Errno.TheVariants.{EBADF, ENOTDIR}
use Rattle.tree.specs.Flags.{reads}
use Rattle.volume.specs.Nodes.{is_directory_mode}
use Rattle.calls_attributes.specs.declared.found.Found.{Found}

-- the first of the reasons against it
abbrev pub why_unlisted : Found → Option Errno
why_unlisted file =
    if not (reads file.flags.0) then Some EBADF
    else if not (is_directory_mode file.inode.mode) then Some ENOTDIR
    else None
