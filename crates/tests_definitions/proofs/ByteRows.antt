-- Read, write, seek, fstat and readdir: what they answer, each refusal, and of two the one that is answered.
use Rattle.std.proofs.Common.{[], ◌∷◌, refl, codes, replicate}
use Rattle.std.specs.Prelude.{pos, negsuc}
use Rattle.errno.specs.declared.Errno.TheVariants.{EBADF, ENOTDIR, EISDIR, EINVAL, EFBIG, ENOSPC}
use Rattle.tree.specs.declared.Call.TheVariants.{Open, Read, Write, Seek, Fstat, Mkdir, Truncate, Readdir, Statfs}
use Rattle.tree.specs.declared.Whence.TheVariants.{Set, Cur, End}
use Rattle.lemmas.specs.Sums.{sum_below, some_below, least_below}
use Rattle.tree.specs.Tree.{Tree}
use Rattle.tree.specs.Answers.{refused, some_bytes, wrote, position, node_is, names_are, room_is}
use Rattle.tree.specs.Effects.{tree_after_call}
use Rattle.tests_definitions.proofs.SmallTrees.{bytes, text, small, tight, start, user0, at, path, flags, after, house, desk, Rows}

-- 14 zones are used: the 13 of the entries, and the file's page
room : Rows small desk ((user0, Statfs, room_is (record { block_size = 64; zones = 58; free_zones = 44; inodes = 8; free_inodes = 2 })) ∷ [])
unfolding desk sum_below some_below least_below
room = refl

reads : Rows small desk (
    (user0, Read 2 5, some_bytes (65 ∷ []))
    ∷ (user0, Read 2 1, some_bytes (65 ∷ []))
    ∷ (user0, Read 2 0, some_bytes [])
    ∷ (user0, Read 1 5, some_bytes [])
    ∷ (user0, Read 1 65536, some_bytes [])
    ∷ (user0, Read 1 65537, refused EINVAL)
    ∷ (user0, Read 0 1, refused EISDIR)
    ∷ (user0, Read 0 65537, refused EISDIR)
    ∷ (user0, Read 3 1, refused EBADF)
    ∷ (user0, Read 3 65537, refused EBADF)
    ∷ (user0, Read 4 1, refused EBADF)
    ∷ (user0, Read 4 65537, refused EBADF)
    ∷ [])
unfolding desk sum_below some_below least_below
reads = refl

-- a read moves its own position and sets no time
after_read : Rows small (tree_after_call small desk (user0) 200 (Read 2 1)) (
    (user0, Read 2 1, some_bytes [])
    ∷ (user0, Seek 2 Cur (pos 0), position 1)
    ∷ (user0, Fstat 2, node_is (record { inode = 5; mode = 33188; links = 1; uid = 0; gid = 0; size = 1; atime = 100; mtime = 100; ctime = 100 }))
    ∷ [])
unfolding desk sum_below some_below least_below
after_read = refl

writes : Rows small desk (
    (user0, Write 1 (text "BC"), wrote 2)
    ∷ (user0, Write 3 (text "B"), wrote 1)
    ∷ (user0, Write 1 (bytes []), wrote 0)
    ∷ (user0, Write 2 (text "B"), refused EBADF)
    ∷ (user0, Write 0 (text "B"), refused EBADF)
    ∷ (user0, Write 4 (text "B"), refused EBADF)
    ∷ (user0, Write 4 (bytes []), refused EBADF)
    ∷ [])
unfolding desk sum_below some_below least_below
writes = refl

-- over 65536 bytes; such a write never fits here either
long_writes : Rows small desk (
    (user0, Write 1 (bytes (replicate 65537 0)), refused EINVAL)
    ∷ (user0, Write 1 (bytes (replicate 65536 0)), refused ENOSPC)
    ∷ (user0, Write 2 (bytes (replicate 65537 0)), refused EBADF)
    ∷ [])
unfolding desk sum_below some_below least_below
long_writes = refl

-- at the greatest position: the end of a write would pass the greatest size
unfoldable far_out : Tree
far_out = after desk (Seek 1 Set (pos 2147483647) ∷ Seek 2 Set (pos 2147483647) ∷ [])

far_writes : Rows small far_out (
    (user0, Write 1 (text "B"), refused EFBIG)
    ∷ (user0, Write 1 (bytes []), wrote 0)
    ∷ (user0, Write 1 (bytes (replicate 65537 0)), refused EINVAL)
    ∷ (user0, Write 2 (text "B"), refused EBADF)
    ∷ (user0, Read 2 9, some_bytes [])
    ∷ [])
unfolding far_out desk sum_below some_below least_below
far_writes = refl

-- with an append flag the position doesn't matter
appends : Rows small (after far_out (Seek 3 Set (pos 2147483647) ∷ [])) ((user0, Write 3 (text "B"), wrote 1) ∷ [])
unfolding far_out desk sum_below some_below least_below
appends = refl

-- no zone is free: a byte in a page that is held is written, one in a hole isn't; the other refusals come first
unfoldable filled : Tree
filled = after house (Open (path "/f") (flags 3) 0 ∷ Truncate (path "/f") 1000 ∷ Open (path "/f") (flags 1) 0 ∷ [])

tight_writes : Rows tight filled (
    (user0, Write 0 (text "B"), refused ENOSPC)
    ∷ (user0, Write 0 (bytes []), wrote 0)
    ∷ (user0, Write 1 (text "B"), refused EBADF)
    ∷ (user0, Write 0 (bytes (replicate 65537 0)), refused EINVAL)
    ∷ [])
unfolding filled house sum_below some_below least_below
tight_writes = refl

tight_far : Rows tight (after filled (Seek 0 Set (pos 2147483647) ∷ [])) ((user0, Write 0 (text "B"), refused EFBIG) ∷ [])
unfolding filled house sum_below some_below least_below
tight_far = refl

-- 14 zones suffice for one page of /f, and its bytes may change then
fitting_writes : Rows (record tight { zones = 20 }) filled ((user0, Write 0 (text "B"), wrote 1) ∷ (user0, Write 0 (bytes (replicate 65 1)), refused ENOSPC) ∷ [])
unfolding filled house sum_below some_below least_below
fitting_writes = refl

kept_page : Rows (record tight { zones = 20 }) desk ((user0, Write 1 (bytes (replicate 63 1)), wrote 63) ∷ (user0, Write 1 (bytes (replicate 64 1)), refused ENOSPC) ∷ [])
unfolding desk sum_below some_below least_below
kept_page = refl

-- what a write leaves, at 200: size, times, its own position; a refused one leaves all
after_write : Rows small (tree_after_call small desk user0 200 (Write 1 (text "BC"))) (
    (user0, Fstat 1, node_is (record { inode = 5; mode = 33188; links = 1; uid = 0; gid = 0; size = 3; atime = 100; mtime = 200; ctime = 200 }))
    ∷ (user0, Seek 1 Cur (pos 0), position 3)
    ∷ (user0, Seek 2 Cur (pos 0), position 0)
    ∷ (user0, Read 2 9, some_bytes (codes "ABC"))
    ∷ [])
unfolding desk sum_below some_below least_below
after_write = refl

after_append : Rows small (tree_after_call small desk user0 200 (Write 3 (text "BC"))) (
    (user0, Seek 3 Cur (pos 0), position 3)
    ∷ (user0, Read 2 9, some_bytes (codes "ABC"))
    ∷ [])
unfolding desk sum_below some_below least_below
after_append = refl

after_no_bytes : Rows small (tree_after_call small desk user0 200 (Write 3 (bytes []))) (
    (user0, Fstat 3, node_is (record { inode = 5; mode = 33188; links = 1; uid = 0; gid = 0; size = 1; atime = 100; mtime = 100; ctime = 100 }))
    ∷ (user0, Seek 3 Cur (pos 0), position 0)
    ∷ [])
unfolding desk sum_below some_below least_below
after_no_bytes = refl

after_refused : Rows small (tree_after_call small desk user0 200 (Write 1 (bytes (replicate 3500 1)))) (
    (user0, Fstat 1, node_is (record { inode = 5; mode = 33188; links = 1; uid = 0; gid = 0; size = 1; atime = 100; mtime = 100; ctime = 100 }))
    ∷ (user0, Seek 1 Cur (pos 0), position 1)
    ∷ [])
unfolding desk sum_below some_below least_below
after_refused = refl

-- a write past the end leaves a hole that reads as zeros
hole : Rows small (after desk (Seek 1 End (pos 2) ∷ Write 1 (text "B") ∷ [])) ((user0, Read 2 9, some_bytes (65 ∷ 0 ∷ 0 ∷ 66 ∷ [])) ∷ [])
unfolding desk sum_below some_below least_below
hole = refl

-- Page 4096 lies in the triple range: it takes itself and three indirect blocks.
far_page : Rows small (after desk (Seek 1 Set (pos 262144) ∷ Write 1 (text "B") ∷ [])) (
    (user0, Statfs, room_is (record { block_size = 64; zones = 58; free_zones = 40; inodes = 8; free_inodes = 2 }))
    ∷ (user0, Fstat 1, node_is (record { inode = 5; mode = 33188; links = 1; uid = 0; gid = 0; size = 262145; atime = 100; mtime = 100; ctime = 100 }))
    ∷ [])
unfolding desk sum_below some_below least_below
far_page = refl

seeks : Rows small desk (
    (user0, Seek 1 Set (pos 9), position 9)
    ∷ (user0, Seek 1 Cur (pos 9), position 10)
    ∷ (user0, Seek 1 Cur (negsuc 0), position 0)
    ∷ (user0, Seek 1 End (pos 9), position 10)
    ∷ (user0, Seek 2 End (negsuc 0), position 0)
    ∷ (user0, Seek 1 Set (pos 2147483647), position 2147483647)
    ∷ (user0, Seek 1 Set (pos 2147483648), refused EINVAL)
    ∷ (user0, Seek 1 End (pos 2147483647), refused EINVAL)
    ∷ (user0, Seek 1 Cur (pos 9223372036854775807), refused EINVAL)
    ∷ (user0, Seek 1 Set (negsuc 0), refused EINVAL)
    ∷ (user0, Seek 1 Cur (negsuc 1), refused EINVAL)
    ∷ (user0, Seek 1 End (negsuc 1), refused EINVAL)
    ∷ (user0, Seek 1 Cur (negsuc 9223372036854775807), refused EINVAL)
    ∷ (user0, Seek 0 Set (pos 0), refused EISDIR)
    ∷ (user0, Seek 0 Set (negsuc 0), refused EISDIR)
    ∷ (user0, Seek 0 End (pos 2147483648), refused EISDIR)
    ∷ (user0, Seek 4 Set (pos 0), refused EBADF)
    ∷ (user0, Seek 4 Set (negsuc 0), refused EBADF)
    ∷ (user0, Seek 4 Set (pos 2147483648), refused EBADF)
    ∷ [])
unfolding desk sum_below some_below least_below
seeks = refl

attributes : Rows small desk (
    (user0, Fstat 0, node_is (record { inode = 2; mode = 16877; links = 3; uid = 0; gid = 0; size = 192; atime = 100; mtime = 100; ctime = 100 }))
    ∷ (user0, Fstat 3, node_is (record { inode = 5; mode = 33188; links = 1; uid = 0; gid = 0; size = 1; atime = 100; mtime = 100; ctime = 100 }))
    ∷ (user0, Fstat 4, refused EBADF)
    ∷ (user0, Fstat 32, refused EBADF)
    ∷ [])
unfolding desk sum_below some_below least_below
attributes = refl

-- names in the order of their bytes; a file opened for writing alone is not read, whatever it is
directories : Rows small (after desk (Open (path "/") (flags 1) 0 ∷ Open (path "/d/e") (flags 1) 0 ∷ [])) (
    (user0, Readdir 4, names_are ((codes "d", 2) ∷ (codes "f", 5) ∷ (codes "p", 4) ∷ []))
    ∷ (user0, Readdir 0, names_are ((codes "e", 3) ∷ []))
    ∷ (user0, Readdir 5, names_are [])
    ∷ (user0, Readdir 1, refused ENOTDIR)
    ∷ (user0, Readdir 2, refused ENOTDIR)
    ∷ (user0, Readdir 3, refused EBADF)
    ∷ (user0, Readdir 6, refused EBADF)
    ∷ [])
unfolding desk sum_below some_below least_below
directories = refl

sorted : Rows small (after start (Mkdir (path "/b") 493 ∷ Mkdir (path "/ab") 493 ∷ Mkdir (path "/a") 493 ∷ Open (path "/") (flags 1) 0 ∷ [])) (
    (user0, Readdir 0, names_are ((codes "a", 4) ∷ (codes "ab", 3) ∷ (codes "b", 2) ∷ []))
    ∷ [])
unfolding sum_below some_below least_below
sorted = refl
