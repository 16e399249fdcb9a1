-- Every client call keeps a tree a tree.
use Rattle.std.proofs.Common.{refl, sym, subst}
use Rattle.tree.specs.declared.Call.TheVariants.{Open, Close, Dup, Read, Write, Seek, Stat, Fstat, Link, Unlink, Mkdir, Rmdir, Rename}
use Rattle.tree.specs.declared.Call.TheVariants.{Chmod, Chown, Utime, Truncate, Readdir, Sync, Statfs, Symlink, Readlink, Lstat}
use Rattle.tree.specs.IsTree.{IsTree}
use Rattle.tree.proofs.Leaves.{looks_leave}
use Rattle.tree.specs.Keeps.{EveryCallKeeps}
use Rattle.tree.proofs.AttributeCalls.{chmod_keeps, chown_keeps, utime_keeps}
use Rattle.tree.proofs.OpenFileCalls.{seek_keeps, read_keeps, dup_keeps}
use Rattle.tree.proofs.Closed.{close_keeps}
use Rattle.tree.proofs.ByteCalls.{write_keeps, truncate_keeps}
use Rattle.tree.proofs.Unlinked.{unlink_keeps}
use Rattle.tree.proofs.CallsKeep.{link_keeps, mkdir_keeps, rmdir_keeps}
use Rattle.tree.proofs.OpenCall.{open_keeps}
use Rattle.tree.proofs.SymlinkCall.{symlink_keeps}
use Rattle.tree.proofs.RenameCall.{rename_keeps}

-- all of them
pub every_call_keeps : EveryCallKeeps
every_call_keeps g t who now (Open path flags mode) is caller small fits tree = open_keeps g t who now path flags mode is caller small fits.0.0 tree
every_call_keeps g t who now (Close fd) is caller small fits tree = close_keeps g t who now fd tree
every_call_keeps g t who now (Dup fd) is caller small fits tree = dup_keeps g t who now fd tree
every_call_keeps g t who now (Read fd count) is caller small fits tree = read_keeps g t who now fd count tree
every_call_keeps g t who now (Write fd bytes) is caller small fits tree = write_keeps g t who now fd bytes is.sized small fits.1 tree
every_call_keeps g t who now (Seek fd whence offset) is caller small fits tree = seek_keeps g t who now fd whence offset tree
every_call_keeps g t who now (Stat path) is caller small fits tree = subst (IsTree g) (sym (looks_leave g t who now (Stat path) refl)) tree
every_call_keeps g t who now (Fstat fd) is caller small fits tree = subst (IsTree g) (sym (looks_leave g t who now (Fstat fd) refl)) tree
every_call_keeps g t who now (Link old new) is caller small fits tree = link_keeps g t who now old new is small fits.1.0 tree
every_call_keeps g t who now (Unlink path) is caller small fits tree = unlink_keeps g t who now path small tree
every_call_keeps g t who now (Mkdir path mode) is caller small fits tree = mkdir_keeps g t who now path mode is caller small fits.0.0 tree
every_call_keeps g t who now (Rmdir path) is caller small fits tree = rmdir_keeps g t who now path small tree
every_call_keeps g t who now (Rename old new) is caller small fits tree = rename_keeps g t who now old new is small fits.1.0 tree
every_call_keeps g t who now (Chmod path mode) is caller small fits tree = chmod_keeps g t who now mode path small tree
every_call_keeps g t who now (Chown path uid gid) is caller small fits tree = chown_keeps g t who now uid gid path small fits.1 fits.2 tree
every_call_keeps g t who now (Utime path atime mtime) is caller small fits tree = utime_keeps g t who now atime mtime path small fits.1 fits.2 tree
every_call_keeps g t who now (Truncate path size) is caller small fits tree = truncate_keeps g t who now size path small tree
every_call_keeps g t who now (Readdir fd) is caller small fits tree = subst (IsTree g) (sym (looks_leave g t who now (Readdir fd) refl)) tree
every_call_keeps g t who now Sync is caller small fits tree = subst (IsTree g) (sym (looks_leave g t who now Sync refl)) tree
every_call_keeps g t who now Statfs is caller small fits tree = subst (IsTree g) (sym (looks_leave g t who now Statfs refl)) tree
every_call_keeps g t who now (Symlink target path) is caller small fits tree =
    symlink_keeps g t who now target path is caller small fits.0 fits.1.0 tree
every_call_keeps g t who now (Readlink path) is caller small fits tree =
    subst (IsTree g) (sym (looks_leave g t who now (Readlink path) refl)) tree
every_call_keeps g t who now (Lstat path) is caller small fits tree = subst (IsTree g)
    (sym (looks_leave g t who now (Lstat path) refl)) tree
