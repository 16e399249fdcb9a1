-- What every call and caller of Rust meets by its types, and the laws need to hear.
use Rattle.std.specs.Prelude.{⊤, ◌<◌, ◌^◌, ℕ, List, All}
use Rattle.tree.specs.declared.Who.{Who}
use Rattle.tree.specs.declared.Start.{Start}
use Rattle.tree.specs.declared.Start.TheVariants.{Root, Inode}
use Rattle.tree.specs.declared.PathFrom.{PathFrom}
use Rattle.tree.specs.declared.Call.{Call}
use Rattle.tree.specs.declared.Call.TheVariants.{Open, Close, Dup, Read, Write, Seek, Stat, Fstat, Link, Unlink, Mkdir, Rmdir, Rename}
use Rattle.tree.specs.declared.Call.TheVariants.{Chmod, Chown, Utime, Truncate, Readdir, Sync, Statfs, Symlink, Readlink, Lstat}

-- each is a byte
abbrev pub IsBytes : List ℕ → Type 0
IsBytes bytes = All (λ b. b < 256) bytes

-- a number fits its width
abbrev pub IsStart : Start → Type 0
IsStart Root = ⊤
IsStart (Inode n) = n < 2 ^ 16

-- a path is bytes, and a number where it starts fits its width
abbrev pub IsPath : PathFrom → Type 0
IsPath path = IsBytes path.bytes.now × IsStart path.start

-- numbers fit their widths, and paths and bytes are bytes
abbrev pub IsCall : Call → Type 0
IsCall (Open path flags mode) = IsPath path × (flags.0 < 2 ^ 8) × (mode < 2 ^ 16)
IsCall (Close fd) = fd < 2 ^ 32
IsCall (Dup fd) = fd < 2 ^ 32
IsCall (Read fd count) = (fd < 2 ^ 32) × (count < 2 ^ 32)
IsCall (Write fd bytes) = (fd < 2 ^ 32) × IsBytes bytes.now
IsCall (Seek fd whence offset) = fd < 2 ^ 32
IsCall (Stat path) = IsPath path
IsCall (Fstat fd) = fd < 2 ^ 32
IsCall (Link old new) = IsPath old × IsPath new
IsCall (Unlink path) = IsPath path
IsCall (Mkdir path mode) = IsPath path × (mode < 2 ^ 16)
IsCall (Rmdir path) = IsPath path
IsCall (Rename old new) = IsPath old × IsPath new
IsCall (Chmod path mode) = IsPath path × (mode < 2 ^ 16)
IsCall (Chown path uid gid) = IsPath path × (uid < 2 ^ 16) × (gid < 2 ^ 16)
IsCall (Utime path atime mtime) = IsPath path × (atime < 2 ^ 32) × (mtime < 2 ^ 32)
IsCall (Truncate path size) = IsPath path × (size < 2 ^ 32)
IsCall (Readdir fd) = fd < 2 ^ 32
IsCall Sync = ⊤
IsCall Statfs = ⊤
IsCall (Symlink target path) = IsBytes target.now × IsPath path
IsCall (Readlink path) = IsPath path
IsCall (Lstat path) = IsPath path

-- the session and the ids fit their widths
pub record IsCaller (who : Who) : Type 0 where
  pub session : who.session < 2 ^ 8
  pub uid : who.uid < 2 ^ 16
  pub gid : who.gid < 2 ^ 16
