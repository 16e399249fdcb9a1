-- Which calls a message may ask.
use Rattle.std.specs.Prelude.{◌==◌, ◌||◌, if◌then◌else◌, ℕ, Bool, true, false, IsTrue}
use Rattle.tree.specs.declared.Call.{Call}
use Rattle.tree.specs.declared.Call.TheVariants as call
use Rattle.fuse.specs.declared.request.Request.{Request}
use Rattle.fuse.specs.declared.request.Request.TheVariants as request
use Rattle.fuse_server.specs.declared.work.Plan.{Plan}
use Rattle.fuse_server.specs.declared.work.Plan.TheVariants as plan

-- what a message is for
abbrev pub plan_of : Request → Plan
plan_of (request.Lookup name) = plan.Look
plan_of (request.Getattr flags handle) = plan.Attributes
plan_of (request.Setattr valid handle size lock_owner atime mtime ctime mode uid gid) = plan.Change
plan_of request.Readlink = plan.Target
plan_of (request.Symlink name target) = plan.MakeLink
plan_of (request.Mknod mode device umask name) = plan.MakeFile
plan_of (request.Mkdir mode umask name) = plan.MakeDirectory
plan_of (request.Unlink name) = plan.Unlink
plan_of (request.Rmdir name) = plan.Rmdir
plan_of (request.Rename new_directory old_name new_name) = plan.Rename
plan_of (request.Rename2 new_directory flags old_name new_name) = plan.Rename
plan_of (request.Link file name) = plan.Link
plan_of (request.Open flags open_flags) = plan.Open
plan_of (request.Read span) = plan.Read
plan_of (request.Write handle offset write_flags lock_owner flags bytes) = plan.Write
plan_of request.Statfs = plan.Room
plan_of (request.Release handle flags release_flags lock_owner) = plan.Close
plan_of (request.Fsync handle fsync_flags) = plan.Sync
plan_of (request.Readdir span) = plan.List
plan_of (request.Readdirplus span) = plan.List
plan_of (request.Releasedir handle flags release_flags lock_owner) = plan.Close
plan_of (request.Fsyncdir handle fsync_flags) = plan.Sync
plan_of (request.Create flags mode umask open_flags name) = plan.MakeFile
plan_of r = plan.Nothing

-- the kinds of calls
pub data Kind : Type 0 where
  Lstat : Kind
  Fstat : Kind
  Set : Kind
  Give : Kind
  Readlink : Kind
  Space : Kind
  Sync : Kind
  Open : Kind
  New : Kind
  Close : Kind
  Seek : Kind
  Read : Kind
  Write : Kind
  Readdir : Kind
  Mkdir : Kind
  Symlink : Kind
  Link : Kind
  Unlink : Kind
  Rmdir : Kind
  Rename : Kind
  Else : Kind

-- an open of what is there, to read it (1), or to read and write it (3), which changes nothing; or of a file that it makes, where nothing
-- stands (27)
abbrev pub open_kind : ℕ → Kind
open_kind flags = if flags == 27 then New else (if (flags == 1) || (flags == 3) then Open else Else)

abbrev pub kind_of : Call → Kind
kind_of (call.Lstat path) = Lstat
kind_of (call.Fstat fd) = Fstat
kind_of (call.Chmod path mode) = Set
kind_of (call.Truncate path size) = Set
kind_of (call.Utime path atime mtime) = Set
kind_of (call.Chown path uid gid) = Give
kind_of (call.Readlink path) = Readlink
kind_of call.Statfs = Space
kind_of call.Sync = Sync
kind_of (call.Open path flags mode) = open_kind flags.0
kind_of (call.Close fd) = Close
kind_of (call.Seek fd whence offset) = Seek
kind_of (call.Read fd count) = Read
kind_of (call.Write fd bytes) = Write
kind_of (call.Readdir fd) = Readdir
kind_of (call.Mkdir path mode) = Mkdir
kind_of (call.Symlink target path) = Symlink
kind_of (call.Link old new) = Link
kind_of (call.Unlink path) = Unlink
kind_of (call.Rmdir path) = Rmdir
kind_of (call.Rename old new) = Rename
kind_of c = Else

-- Which it may ask. A descriptor is opened where the node has none; where there is no room for it, another node's is closed, that of a
-- removed file never.
abbrev pub asks : Plan → Kind → Bool
asks plan.Look Lstat = true
asks plan.Attributes Lstat = true
asks plan.Attributes Fstat = true
asks plan.Change Lstat = true
asks plan.Change Fstat = true
asks plan.Change Set = true
asks plan.Change Give = true
asks plan.Target Readlink = true
asks plan.Room Space = true
asks plan.Sync Sync = true
asks plan.Open Open = true
asks plan.Open Close = true
asks plan.Read Open = true
asks plan.Read Close = true
asks plan.Read Seek = true
asks plan.Read Read = true
asks plan.Write Open = true
asks plan.Write Close = true
asks plan.Write Seek = true
asks plan.Write Write = true
asks plan.Close Close = true
asks plan.List Lstat = true
asks plan.List Open = true
asks plan.List Readdir = true
asks plan.List Close = true
asks plan.MakeFile New = true
asks plan.MakeFile Close = true
asks plan.MakeFile Give = true
asks plan.MakeFile Lstat = true
asks plan.MakeDirectory Mkdir = true
asks plan.MakeDirectory Give = true
asks plan.MakeDirectory Lstat = true
asks plan.MakeLink Symlink = true
asks plan.MakeLink Give = true
asks plan.MakeLink Lstat = true
asks plan.Link Link = true
asks plan.Link Lstat = true
asks plan.Unlink Lstat = true
asks plan.Unlink Open = true
asks plan.Unlink Close = true
asks plan.Unlink Unlink = true
asks plan.Rmdir Lstat = true
asks plan.Rmdir Rmdir = true
asks plan.Rename Lstat = true
asks plan.Rename Open = true
asks plan.Rename Close = true
asks plan.Rename Rename = true
asks p k = false

abbrev pub May : Plan → Kind → Type 0
May p k = IsTrue (asks p k)
