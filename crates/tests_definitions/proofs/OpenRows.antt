-- Open, close and dup: what they answer, each refusal, and of two the one that is answered.
use Rattle.std.proofs.Common.{List, [], ◌∷◌, refl}
use Rattle.std.specs.Prelude.{None, Some, pos, nat_lt, if◌then◌else◌}
use Rattle.errno.specs.declared.Errno.{Errno}
use Rattle.errno.specs.declared.Errno.TheVariants.{ENOENT, EBADF, EACCES, EEXIST, ENOTDIR, EISDIR, EINVAL, ENFILE, EMFILE, ENOSPC, ENAMETOOLONG}
use Rattle.tree.specs.declared.Call.TheVariants.{Open, Close, Dup, Read, Write, Seek, Stat, Fstat, Unlink, Mkdir, Statfs}
use Rattle.tree.specs.declared.Whence.TheVariants.{Set}
use Rattle.lemmas.specs.Sums.{sum_below, some_below, least_below}
use Rattle.tree.specs.Tree.{OpenFile, Tree}
use Rattle.tree.specs.Answers.{refused, done, descriptor, some_bytes, node_is, room_is}
use Rattle.tests_definitions.proofs.SmallTrees.{text, small, tight, user0, other, path, flags, after, house, Row, Rows, empty_path, long_path}
use Rattle.tests_definitions.proofs.SmallTrees.{zero_path, wide_path}

-- the flags by their letters
opened : Rows small house (
    (user0, Open (path "/d") (flags 1) 0, descriptor 0)
    ∷ (other, Open (path "/d/e") (flags 1) 0, descriptor 0)
    ∷ (user0, Open (path "/f") (flags 1) 0, descriptor 0)
    ∷ (user0, Open (path "/f") (flags 2) 0, descriptor 0)
    ∷ (user0, Open (path "/f") (flags 7) 0, descriptor 0)
    ∷ (user0, Open (path "/f") (flags 35) 0, descriptor 0)
    ∷ (user0, Open (path "/f") (flags 9) 511, descriptor 0)
    ∷ (user0, Open (path "/") (flags 9) 0, descriptor 0)
    ∷ (user0, Open (path "/new") (flags 63) 420, descriptor 0)
    ∷ (user0, Open (path "/d/new") (flags 25) 0, descriptor 0)
    ∷ [])
unfolding house sum_below some_below least_below
opened = refl

-- neither r nor w; a or t without w; x without c; other bits; a mode over octal 777
bad_arguments : Rows small house (
    (user0, Open (path "/f") (flags 0) 0, refused EINVAL)
    ∷ (user0, Open (path "/new") (flags 8) 0, refused EINVAL)
    ∷ (user0, Open (path "/f") (flags 4) 0, refused EINVAL)
    ∷ (user0, Open (path "/f") (flags 5) 0, refused EINVAL)
    ∷ (user0, Open (path "/f") (flags 33) 0, refused EINVAL)
    ∷ (user0, Open (path "/new") (flags 18) 0, refused EINVAL)
    ∷ (user0, Open (path "/f") (flags 65) 0, refused EINVAL)
    ∷ (user0, Open (path "/f") (flags 131) 0, refused EINVAL)
    ∷ (user0, Open (path "/f") (flags 1) 512, refused EINVAL)
    ∷ (user0, Open (path "/new") (flags 10) 512, refused EINVAL)
    ∷ [])
unfolding house sum_below some_below least_below
bad_arguments = refl

-- Opens that are refused once there is a descriptor and an open file: the path's refusals, then those of a missing name
-- and of one that is there. User 9 may not write in the root, and may only read /f.
abbrev late : Errno → List Row
late e =
    (other, Open empty_path (flags 3) 0, refused e)
    ∷ (other, Open long_path (flags 3) 0, refused e)
    ∷ (other, Open (path "d") (flags 3) 0, refused e)
    ∷ (other, Open zero_path (flags 3) 0, refused e)
    ∷ (other, Open wide_path (flags 3) 0, refused e)
    ∷ (other, Open (path "/f/x") (flags 3) 0, refused e)
    ∷ (other, Open (path "/p/x") (flags 3) 0, refused e)
    ∷ (other, Open (path "/none/x") (flags 11) 0, refused e)
    ∷ (other, Open (path "/none") (flags 3) 0, refused e)
    ∷ (other, Open (path "/none") (flags 11) 0, refused e)
    ∷ (user0, Open (path "/d") (flags 27) 0, refused e)
    ∷ (user0, Open (path "/d") (flags 3) 0, refused e)
    ∷ (other, Open (path "/f") (flags 3) 0, refused e)
    ∷ []

refused_opens : Rows small house (
    (other, Open empty_path (flags 3) 0, refused ENOENT)
    ∷ (other, Open long_path (flags 3) 0, refused ENAMETOOLONG)
    ∷ (other, Open (path "d") (flags 3) 0, refused EINVAL)
    ∷ (other, Open zero_path (flags 3) 0, refused EINVAL)
    ∷ (other, Open wide_path (flags 3) 0, refused ENAMETOOLONG)
    ∷ (other, Open (path "/f/x") (flags 3) 0, refused ENOTDIR)
    ∷ (other, Open (path "/p/x") (flags 3) 0, refused EACCES)
    ∷ (other, Open (path "/none/x") (flags 11) 0, refused ENOENT)
    ∷ (other, Open (path "/none") (flags 3) 0, refused ENOENT)
    ∷ (other, Open (path "/none") (flags 11) 0, refused EACCES)
    ∷ (user0, Open (path "/d") (flags 27) 0, refused EEXIST)
    ∷ (user0, Open (path "/") (flags 27) 0, refused EEXIST)
    ∷ (user0, Open (path "/d/.") (flags 25) 0, refused EEXIST)
    ∷ (user0, Open (path "/d") (flags 3) 0, refused EISDIR)
    ∷ (user0, Open (path "/") (flags 10) 0, refused EISDIR)
    ∷ (other, Open (path "/f") (flags 3) 0, refused EACCES)
    ∷ (other, Open (path "/f") (flags 2) 0, refused EACCES)
    ∷ (other, Open (path "/p") (flags 1) 0, refused EACCES)
    ∷ [])
unfolding house sum_below some_below least_below
refused_opens = refl

-- of two refusals of what is there, and of the walk and what is there
first_of_two : Rows small house (
    (other, Open (path "/d") (flags 27) 0, refused EEXIST)
    ∷ (other, Open (path "/f") (flags 27) 0, refused EEXIST)
    ∷ (other, Open (path "/p") (flags 25) 0, refused EEXIST)
    ∷ (other, Open (path "/p/.") (flags 25) 0, refused EACCES)
    ∷ (other, Open (path "/p") (flags 3) 0, refused EISDIR)
    ∷ (other, Open (path "/d") (flags 3) 0, refused EISDIR)
    ∷ (other, Open (path "/p/none") (flags 3) 0, refused EACCES)
    ∷ (other, Open (path "/f/none") (flags 11) 0, refused ENOTDIR)
    ∷ [])
unfolding house sum_below some_below least_below
first_of_two = refl

-- bad flags or a bad mode come before all
arguments_first : Rows small house (
    (other, Open empty_path (flags 0) 0, refused EINVAL)
    ∷ (other, Open long_path (flags 0) 0, refused EINVAL)
    ∷ (other, Open wide_path (flags 67) 0, refused EINVAL)
    ∷ (other, Open (path "/f/x") (flags 4) 0, refused EINVAL)
    ∷ (other, Open (path "/p/x") (flags 33) 0, refused EINVAL)
    ∷ (other, Open (path "/none/x") (flags 8) 0, refused EINVAL)
    ∷ (other, Open (path "/none") (flags 1) 512, refused EINVAL)
    ∷ (other, Open (path "/none") (flags 11) 512, refused EINVAL)
    ∷ (user0, Open (path "/d") (flags 24) 0, refused EINVAL)
    ∷ (user0, Open (path "/d") (flags 67) 0, refused EINVAL)
    ∷ (other, Open (path "/f") (flags 3) 512, refused EINVAL)
    ∷ [])
unfolding house sum_below some_below least_below
arguments_first = refl

-- every descriptor of session 0 is in use, of one open file, or every open file, or both
abbrev d_open : OpenFile
d_open = record { inode = 2; position = 0; flags = 1 }

unfoldable no_descriptor : Tree
no_descriptor = record house {
  open_files = λ k. if nat_lt k 1 then Some d_open else None;
  descriptors = λ s fd. if nat_lt s 1 then (if nat_lt fd 32 then Some 0 else None) else None;
}

unfoldable no_open_file : Tree
no_open_file = record house { open_files = λ k. if nat_lt k 128 then Some d_open else None }

unfoldable neither : Tree
neither = record no_descriptor { open_files = λ k. if nat_lt k 128 then Some d_open else None }

descriptors_first : Rows small no_descriptor (late EMFILE)
unfolding no_descriptor house sum_below some_below least_below
descriptors_first = refl

descriptors_before_open_files : Rows small neither ((user0, Open (path "/d") (flags 1) 0, refused EMFILE) ∷ late EMFILE)
unfolding neither no_descriptor house sum_below some_below least_below
descriptors_before_open_files = refl

open_files_first : Rows small no_open_file ((user0, Open (path "/d") (flags 1) 0, refused ENFILE) ∷ late ENFILE)
unfolding no_open_file house sum_below some_below least_below
open_files_first = refl

arguments_before_both : Rows small neither (
    (user0, Open (path "/d") (flags 0) 0, refused EINVAL)
    ∷ (user0, Open (path "/d") (flags 1) 512, refused EINVAL)
    ∷ [])
unfolding neither no_descriptor house sum_below some_below least_below
arguments_before_both = refl

-- No zone for another name; /f is there, so it opens. The refusals that stand before come first.
no_zone : Rows tight house (
    (user0, Open (path "/new") (flags 11) 420, refused ENOSPC)
    ∷ (user0, Open (path "/f") (flags 11) 420, descriptor 0)
    ∷ (user0, Open (path "/new") (flags 75) 420, refused EINVAL)
    ∷ (other, Open (path "/new") (flags 11) 420, refused EACCES)
    ∷ [])
unfolding house sum_below some_below least_below
no_zone = refl

no_zone_no_descriptor : Rows tight no_descriptor ((user0, Open (path "/new") (flags 11) 420, refused EMFILE) ∷ [])
unfolding no_descriptor house sum_below some_below least_below
no_zone_no_descriptor = refl

no_zone_no_open_file : Rows tight no_open_file ((user0, Open (path "/new") (flags 11) 420, refused ENFILE) ∷ [])
unfolding no_open_file house sum_below some_below least_below
no_zone_no_open_file = refl

-- the last two inodes are taken
unfoldable no_inode : Tree
no_inode = after house (Mkdir (path "/u") 493 ∷ Mkdir (path "/v") 493 ∷ [])

inodes_spent : Rows small no_inode (
    (user0, Open (path "/new") (flags 11) 420, refused ENOSPC)
    ∷ (other, Open (path "/new") (flags 11) 420, refused EACCES)
    ∷ (user0, Open (path "/new") (flags 3) 420, refused ENOENT)
    ∷ [])
unfolding no_inode house sum_below some_below least_below
inodes_spent = refl

-- what open leaves: a new file of its user and mode, one more name in the root, and with t an empty file
made : Rows small (after house (Open (path "/new") (flags 11) 288 ∷ Write 0 (text "AB") ∷ [])) (
    (user0, Fstat 0, node_is (record { inode = 7; mode = 33056; links = 1; uid = 0; gid = 0; size = 2; atime = 100; mtime = 100; ctime = 100 }))
    ∷ (user0, Stat (path "/"), node_is (record { inode = 1; mode = 16877; links = 4; uid = 0; gid = 0; size = 384; atime = 50; mtime = 100; ctime = 100 }))
    ∷ (user0, Statfs, room_is (record { block_size = 64; zones = 58; free_zones = 43; inodes = 8; free_inodes = 1 }))
    ∷ (user0, Open (path "/new") (flags 1) 0, descriptor 1)
    ∷ [])
unfolding house sum_below some_below least_below
made = refl

emptied : Rows small (after house (Open (path "/f") (flags 3) 0 ∷ Write 0 (text "AB") ∷ Open (path "/f") (flags 34) 0 ∷ [])) (
    (user0, Fstat 0, node_is (record { inode = 5; mode = 33188; links = 1; uid = 0; gid = 0; size = 0; atime = 100; mtime = 100; ctime = 100 }))
    ∷ (user0, Statfs, room_is (record { block_size = 64; zones = 58; free_zones = 45; inodes = 8; free_inodes = 2 }))
    ∷ [])
unfolding house sum_below some_below least_below
emptied = refl

-- Close and dup. /f is open as 0 and 1, with one byte.
unfoldable two : Tree
two = after house (Open (path "/f") (flags 3) 0 ∷ Write 0 (text "A") ∷ Dup 0 ∷ [])

descriptors : Rows small two (
    (user0, Close 0, done)
    ∷ (user0, Close 1, done)
    ∷ (user0, Close 2, refused EBADF)
    ∷ (user0, Close 31, refused EBADF)
    ∷ (user0, Close 32, refused EBADF)
    ∷ (user0, Close 4294967295, refused EBADF)
    ∷ (record user0 { session = 1 }, Close 0, refused EBADF)
    ∷ (user0, Dup 1, descriptor 2)
    ∷ (user0, Dup 2, refused EBADF)
    ∷ (user0, Dup 32, refused EBADF)
    ∷ (record user0 { session = 63 }, Dup 0, refused EBADF)
    ∷ [])
unfolding two house sum_below some_below least_below
descriptors = refl

-- both descriptors share one position
shared : Rows small (after two (Seek 0 Set (pos 0) ∷ [])) ((user0, Read 1 5, some_bytes (65 ∷ [])) ∷ [])
unfolding two house sum_below some_below least_below
shared = refl

-- the lowest free descriptor is the one closed
lowest : Rows small (after two (Close 0 ∷ [])) (
    (user0, Dup 1, descriptor 0)
    ∷ (user0, Open (path "/d") (flags 1) 0, descriptor 0)
    ∷ (user0, Close 0, refused EBADF)
    ∷ [])
unfolding two house sum_below some_below least_below
lowest = refl

full : Rows small no_descriptor ((user0, Dup 0, refused EMFILE) ∷ (user0, Dup 31, refused EMFILE) ∷ (user0, Dup 32, refused EBADF) ∷ [])
unfolding no_descriptor house sum_below some_below least_below
full = refl

-- a file without a name lives on until its last close: an entry of the root is gone at once, its page and its inode then
unfoldable nameless : Tree
nameless = after two (Unlink (path "/f") ∷ Close 0 ∷ [])

lives : Rows small (after nameless (Seek 1 Set (pos 0) ∷ [])) (
    (user0, Read 1 5, some_bytes (65 ∷ []))
    ∷ (user0, Fstat 1, node_is (record { inode = 5; mode = 33188; links = 0; uid = 0; gid = 0; size = 1; atime = 100; mtime = 100; ctime = 100 }))
    ∷ (user0, Statfs, room_is (record { block_size = 64; zones = 58; free_zones = 45; inodes = 8; free_inodes = 2 }))
    ∷ [])
unfolding nameless two house sum_below some_below least_below
lives = refl

gone : Rows small (after nameless (Close 1 ∷ [])) ((user0, Statfs, room_is (record { block_size = 64; zones = 58; free_zones = 46; inodes = 8; free_inodes = 3 })) ∷ [])
unfolding nameless two house sum_below some_below least_below
gone = refl
