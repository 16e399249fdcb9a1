-- Stat, chmod, chown, utime, truncate, sync and statfs; sessions; and the calls that may want memory.
use Rattle.std.proofs.Common.{◌≡◌, ℕ, List, [], ◌∷◌, map, refl, true, false}
use Rattle.std.specs.Prelude.{pos}
use Rattle.errno.specs.declared.Errno.{Errno}
use Rattle.errno.specs.declared.Errno.TheVariants.{EPERM, ENOENT, EACCES, ENOTDIR, EISDIR, EINVAL, EFBIG, ENAMETOOLONG}
use Rattle.tree.specs.declared.Call.{Call}
use Rattle.tree.specs.declared.Call.TheVariants.{Open, Close, Dup, Read, Write, Seek, Stat, Fstat, Link, Unlink, Mkdir, Rmdir, Rename, Chmod, Chown, Utime, Truncate, Readdir, Sync, Statfs, Symlink, Readlink, Lstat}
use Rattle.tree.specs.declared.Whence.TheVariants.{Set}
use Rattle.lemmas.specs.Sums.{sum_below, some_below, least_below}
use Rattle.tree.specs.Tree.{Tree}
use Rattle.tree.specs.Answers.{refused, done, some_bytes, descriptor, node_is, room_is}
use Rattle.tree.specs.Effects.{tree_after_call, may_want_memory}
use Rattle.tests_definitions.proofs.SmallTrees.{bytes, text, small, user, user0, other, path, flags, after, house, Row, Rows, empty_path, long_path}
use Rattle.tests_definitions.proofs.SmallTrees.{zero_path, wide_path}

-- chmod, chown, utime and truncate of a path that is refused, with arguments that may be, and ones that may not
abbrev chmods : ℕ → Errno → Errno → Errno → Errno → Errno → Errno → Errno → List Row
chmods mode e1 e2 e3 e4 e5 e6 e7 =
    (other, Chmod empty_path mode, refused e1) ∷ (other, Chmod long_path mode, refused e2) ∷ (other, Chmod (path "d") mode, refused e3)
    ∷ (other, Chmod zero_path mode, refused e3) ∷ (other, Chmod wide_path mode, refused e4) ∷ (other, Chmod (path "/f/x") mode, refused e5)
    ∷ (other, Chmod (path "/p/x") mode, refused e6) ∷ (other, Chmod (path "/none") mode, refused e7) ∷ []

abbrev truncates : ℕ → Errno → Errno → Errno → Errno → Errno → Errno → Errno → List Row
truncates size e1 e2 e3 e4 e5 e6 e7 =
    (other, Truncate empty_path size, refused e1) ∷ (other, Truncate long_path size, refused e2) ∷ (other, Truncate (path "d") size, refused e3)
    ∷ (other, Truncate zero_path size, refused e3) ∷ (other, Truncate wide_path size, refused e4) ∷ (other, Truncate (path "/f/x") size, refused e5)
    ∷ (other, Truncate (path "/p/x") size, refused e6) ∷ (other, Truncate (path "/none") size, refused e7) ∷ []

chmod_paths : Rows small house (chmods 511 ENOENT ENAMETOOLONG EINVAL ENAMETOOLONG ENOTDIR EACCES ENOENT)
unfolding house sum_below some_below least_below
chmod_paths = refl

chmod_modes : Rows small house (chmods 512 EINVAL EINVAL EINVAL EINVAL EINVAL EINVAL EINVAL)
unfolding house sum_below some_below least_below
chmod_modes = refl

truncate_paths : Rows small house (truncates 2147483647 ENOENT ENAMETOOLONG EINVAL ENAMETOOLONG ENOTDIR EACCES ENOENT)
unfolding house sum_below some_below least_below
truncate_paths = refl

truncate_sizes : Rows small house (truncates 2147483648 EFBIG EFBIG EFBIG EFBIG EFBIG EFBIG EFBIG)
unfolding house sum_below some_below least_below
truncate_sizes = refl

other_paths : Rows small house (
    (other, Chown empty_path 1 1, refused ENOENT)
    ∷ (other, Chown long_path 1 1, refused ENAMETOOLONG)
    ∷ (other, Chown (path "d") 1 1, refused EINVAL)
    ∷ (other, Chown wide_path 1 1, refused ENAMETOOLONG)
    ∷ (other, Chown (path "/f/x") 1 1, refused ENOTDIR)
    ∷ (other, Chown (path "/p/x") 1 1, refused EACCES)
    ∷ (other, Chown (path "/none") 1 1, refused ENOENT)
    ∷ (other, Utime empty_path 1 1, refused ENOENT)
    ∷ (other, Utime long_path 1 1, refused ENAMETOOLONG)
    ∷ (other, Utime (path "d") 1 1, refused EINVAL)
    ∷ (other, Utime wide_path 1 1, refused ENAMETOOLONG)
    ∷ (other, Utime (path "/f/x") 1 1, refused ENOTDIR)
    ∷ (other, Utime (path "/p/x") 1 1, refused EACCES)
    ∷ (other, Utime (path "/none") 1 1, refused ENOENT)
    ∷ [])
unfolding house sum_below some_below least_below
other_paths = refl

-- the owner, and who is refused; a bad mode or size comes before that
owned : Rows small house (
    (user0, Chmod (path "/f") 511, done)
    ∷ (user0, Chmod (path "/f") 512, refused EINVAL)
    ∷ (other, Chmod (path "/f") 511, refused EPERM)
    ∷ (other, Chmod (path "/f") 512, refused EINVAL)
    ∷ (user0, Chown (path "/f") 65535 65535, done)
    ∷ (other, Chown (path "/f") 9 9, refused EPERM)
    ∷ (user0, Utime (path "/d") 4294967295 0, done)
    ∷ (other, Utime (path "/f") 1 1, refused EPERM)
    ∷ (user0, Truncate (path "/f") 2147483647, done)
    ∷ (user0, Truncate (path "/f") 2147483648, refused EFBIG)
    ∷ (other, Truncate (path "/f") 0, refused EACCES)
    ∷ (other, Truncate (path "/f") 2147483648, refused EFBIG)
    ∷ (user0, Truncate (path "/d") 0, refused EISDIR)
    ∷ (other, Truncate (path "/d") 0, refused EISDIR)
    ∷ (other, Truncate (path "/d") 2147483648, refused EFBIG)
    ∷ [])
unfolding house sum_below some_below least_below
owned = refl

-- /f is user 9's, for nobody to write: its owner may change the mode and the times, and not the owner or the bytes
given : Rows small (after house (Chown (path "/f") 9 8 ∷ Chmod (path "/f") 292 ∷ [])) (
    (user 9 1, Chmod (path "/f") 0, done)
    ∷ (user 8 8, Chmod (path "/f") 0, refused EPERM)
    ∷ (user 9 1, Utime (path "/f") 1 1, done)
    ∷ (user 8 8, Utime (path "/f") 1 1, refused EPERM)
    ∷ (user 9 9, Chown (path "/f") 9 8, refused EPERM)
    ∷ (user 9 9, Truncate (path "/f") 0, refused EACCES)
    ∷ (user0, Truncate (path "/f") 0, done)
    ∷ [])
unfolding house sum_below some_below least_below
given = refl

-- what they leave, at 200
moded : Rows small (tree_after_call small house user0 200 (Chmod (path "/d") 448)) (
    (user0, Stat (path "/d"), node_is (record { inode = 2; mode = 16832; links = 3; uid = 0; gid = 0; size = 192; atime = 100; mtime = 100; ctime = 200 }))
    ∷ [])
unfolding house sum_below some_below least_below
moded = refl

owned_by : Rows small (tree_after_call small house user0 200 (Chown (path "/f") 9 8)) (
    (user0, Stat (path "/f"), node_is (record { inode = 5; mode = 33188; links = 1; uid = 9; gid = 8; size = 0; atime = 100; mtime = 100; ctime = 200 }))
    ∷ [])
unfolding house sum_below some_below least_below
owned_by = refl

timed : Rows small (tree_after_call small house user0 200 (Utime (path "/f") 7 6)) (
    (user0, Stat (path "/f"), node_is (record { inode = 5; mode = 33188; links = 1; uid = 0; gid = 0; size = 0; atime = 7; mtime = 6; ctime = 200 }))
    ∷ [])
unfolding house sum_below some_below least_below
timed = refl

-- growth is a hole: it takes no zone
grown : Rows small (tree_after_call small house user0 200 (Truncate (path "/f") 1000)) (
    (user0, Stat (path "/f"), node_is (record { inode = 5; mode = 33188; links = 1; uid = 0; gid = 0; size = 1000; atime = 100; mtime = 200; ctime = 200 }))
    ∷ (user0, Statfs, room_is (record { block_size = 64; zones = 58; free_zones = 45; inodes = 8; free_inodes = 2 }))
    ∷ [])
unfolding house sum_below some_below least_below
grown = refl

-- a file of 65 bytes has two pages; cut to 64 it keeps one, and what grows back is a hole
unfoldable written : Tree
written = after house (Open (path "/f") (flags 3) 0 ∷ Seek 0 Set (pos 63) ∷ Write 0 (text "AB") ∷ Truncate (path "/f") 64 ∷ Truncate (path "/f") 66
    ∷ Seek 0 Set (pos 63) ∷ [])

regrown : Rows small written (
    (user0, Read 0 9, some_bytes (65 ∷ 0 ∷ 0 ∷ []))
    ∷ (user0, Statfs, room_is (record { block_size = 64; zones = 58; free_zones = 44; inodes = 8; free_inodes = 2 }))
    ∷ [])
unfolding written house sum_below some_below least_below
regrown = refl

plain : Rows small house (
    (other, Sync, done)
    ∷ (other, Statfs, room_is (record { block_size = 64; zones = 58; free_zones = 45; inodes = 8; free_inodes = 2 }))
    ∷ [])
unfolding house sum_below some_below least_below
plain = refl

-- every call, with its first refusal where it has one
abbrev all_calls : List Call
all_calls =
    Open empty_path (flags 0) 512 ∷ Close 7 ∷ Dup 7 ∷ Read 7 70000 ∷ Write 7 (text "A") ∷ Seek 7 Set (pos 0) ∷ Stat empty_path ∷ Fstat 7
    ∷ Link empty_path empty_path ∷ Unlink empty_path ∷ Mkdir (path "/x") 493 ∷ Rmdir empty_path ∷ Rename empty_path empty_path
    ∷ Chmod (path "/f") 0 ∷ Chown (path "/f") 0 0 ∷ Utime (path "/f") 0 0 ∷ Truncate (path "/f") 0 ∷ Readdir 7 ∷ Sync ∷ Statfs
    ∷ Symlink (bytes []) empty_path ∷ Readlink empty_path ∷ Lstat empty_path ∷ []

abbrev in_session : ℕ → Call → Row
in_session session call = (record user0 { session = session }, call, refused EINVAL)

-- a session of 64 or more comes before all; 63 is one
sessions : Rows small house (map (in_session 64) all_calls)
unfolding house sum_below some_below least_below
sessions = refl

last_session : Rows small house (map (in_session 255) all_calls)
unfolding house sum_below some_below least_below
last_session = refl

session_63 : Rows small house ((record user0 { session = 63 }, Sync, done) ∷ (record user0 { session = 63 }, Open (path "/d") (flags 1) 0, descriptor 0) ∷ [])
unfolding house sum_below some_below least_below
session_63 = refl

-- read and readdir alone answer with memory
memory : map may_want_memory all_calls
    ≡ false ∷ false ∷ false ∷ true ∷ false ∷ false ∷ false ∷ false ∷ false ∷ false ∷ false ∷ false ∷ false ∷ false ∷ false ∷ false ∷ false
    ∷ true ∷ false ∷ false ∷ false ∷ false ∷ false ∷ []
memory = refl
