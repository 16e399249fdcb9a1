-- Rename: what it answers and leaves, and each refusal.
use Rattle.std.proofs.Common.{◌++◌, List, [], ◌∷◌, refl, ℕ}
use Rattle.tree.specs.declared.PathFrom.{PathFrom}
use Rattle.errno.specs.declared.Errno.TheVariants.{ENOENT, EACCES, EBUSY, ENOTDIR, EISDIR, EINVAL, ENAMETOOLONG, ENOTEMPTY, EMLINK, ENOSPC}
use Rattle.tree.specs.declared.Call.TheVariants.{Open, Stat, Fstat, Link, Rename, Chmod, Statfs}
use Rattle.lemmas.specs.Sums.{sum_below, some_below, least_below}
use Rattle.tree.specs.Tree.{Tree, on_node}
use Rattle.tree.specs.Changes.{more_links}
use Rattle.tree.specs.Answers.{refused, done, node_is, room_is}
use Rattle.tree.specs.Effects.{tree_after_call}
use Rattle.tests_definitions.proofs.SmallTrees.{small, user0, other, path, flags, after, rooms, Row, Rows, empty_path, long_path, zero_path}
use Rattle.tests_definitions.proofs.SmallTrees.{wide_path}

renames : Rows small rooms (
    (user0, Rename (path "/f") (path "/y"), done)
    ∷ (user0, Rename (path "/f") (path "/d/y"), done)
    ∷ (user0, Rename (path "/d/e") (path "/d/y"), done)
    ∷ (user0, Rename (path "/d/e") (path "/g/y"), done)
    ∷ (user0, Rename (path "/d/e") (path "/g/h"), done)
    ∷ (user0, Rename (path "/g/h") (path "/h"), done)
    ∷ (user0, Rename (path "/f") (path "/p/x"), done)
    ∷ (user0, Rename (path "/f") (path "/f"), done)
    ∷ (user0, Rename (path "/d") (path "/./d/"), done)
    ∷ [])
unfolding rooms sum_below some_below least_below
renames = refl

refused_renames : Rows small rooms (
    (user0, Rename (path "/") (path "/y"), refused EINVAL)
    ∷ (user0, Rename (path "/d/.") (path "/y"), refused EINVAL)
    ∷ (user0, Rename (path "/d/..") (path "/y"), refused EINVAL)
    ∷ (user0, Rename (path "/f") (path "/"), refused EINVAL)
    ∷ (user0, Rename (path "/f") (path "/d/."), refused EINVAL)
    ∷ (user0, Rename (path "/f") (path "/d/.."), refused EINVAL)
    ∷ (user0, Rename (path "/f/x") (path "/y"), refused ENOTDIR)
    ∷ (other, Rename (path "/p/x") (path "/y"), refused EACCES)
    ∷ (user0, Rename (path "/none/x") (path "/y"), refused ENOENT)
    ∷ (user0, Rename (path "/none") (path "/y"), refused ENOENT)
    ∷ (user0, Rename (path "/f") (path "/f/y"), refused ENOTDIR)
    ∷ (user0, Rename (path "/f") (path "/none/y"), refused ENOENT)
    ∷ (other, Rename (path "/f") (path "/p/y"), refused EACCES)
    ∷ (other, Rename (path "/f") (path "/y"), refused EACCES)
    ∷ (user0, Rename (path "/d") (path "/d/y"), refused EINVAL)
    ∷ (user0, Rename (path "/d") (path "/d/e/y"), refused EINVAL)
    ∷ (user0, Rename (path "/d") (path "/f"), refused ENOTDIR)
    ∷ (user0, Rename (path "/f") (path "/d"), refused EISDIR)
    ∷ (user0, Rename (path "/f") (path "/g/h"), refused EISDIR)
    ∷ (user0, Rename (path "/d") (path "/g"), refused ENOTEMPTY)
    ∷ (user0, Rename (path "/d/e") (path "/p"), refused ENOTEMPTY)
    ∷ (user0, Rename (path "/d/e") (path "/d"), refused ENOTEMPTY)
    ∷ [])
unfolding rooms sum_below some_below least_below
refused_renames = refl

-- the refusals of an old path, where the new one is this; and of a new path, where the old one is this
abbrev old_paths : PathFrom → List Row
old_paths new =
    (other, Rename empty_path new, refused ENOENT) ∷ (other, Rename long_path new, refused ENAMETOOLONG)
    ∷ (other, Rename (path "d") new, refused EINVAL) ∷ (other, Rename zero_path new, refused EINVAL)
    ∷ (other, Rename wide_path new, refused ENAMETOOLONG) ∷ []

abbrev new_paths : PathFrom → List Row
new_paths old =
    (other, Rename old empty_path, refused ENOENT) ∷ (other, Rename old long_path, refused ENAMETOOLONG)
    ∷ (other, Rename old (path "d"), refused EINVAL) ∷ (other, Rename old zero_path, refused EINVAL)
    ∷ (other, Rename old wide_path, refused ENAMETOOLONG) ∷ []

-- each refusal of a path; that the first one in the order is answered where several hold is a law of `tree`
unreadable_paths : Rows small rooms (old_paths (path "/y") ++ new_paths (path "/f"))
unfolding rooms sum_below some_below least_below
unreadable_paths = refl

-- /d is for all to write: the old name's directory and the new name's both count
permissions : Rows small (after rooms (Chmod (path "/d") 511 ∷ [])) (
    (other, Rename (path "/d/e") (path "/d/y"), done)
    ∷ (other, Rename (path "/d/e") (path "/y"), refused EACCES)
    ∷ (other, Rename (path "/f") (path "/d/y"), refused EACCES)
    ∷ [])
unfolding rooms sum_below some_below least_below
permissions = refl

-- /d/e and /g are open, and /g/h: an open directory isn't replaced, but may move
unfoldable in_use : Tree
in_use = after rooms (Open (path "/d/e") (flags 1) 0 ∷ Open (path "/g") (flags 1) 0 ∷ Open (path "/g/h") (flags 1) 0 ∷ Open (path "/p/x") (flags 1) 0 ∷ [])

open_directories : Rows small in_use (
    (user0, Rename (path "/d/e") (path "/g/h"), refused EBUSY)
    ∷ (user0, Rename (path "/d/e") (path "/g/y"), done)
    ∷ (user0, Rename (path "/g/h") (path "/g/h"), done)
    ∷ (user0, Rename (path "/f") (path "/p/x"), done)
    ∷ (other, Rename (path "/d/e") (path "/g/h"), refused EACCES)
    ∷ (user0, Rename (path "/d") (path "/d/e"), refused EINVAL)
    ∷ (user0, Rename (path "/f") (path "/g/h"), refused EISDIR)
    ∷ (user0, Rename (path "/d/e") (path "/g"), refused ENOTEMPTY)
    ∷ (user0, Rename (path "/f") (path "/g"), refused EISDIR)
    ∷ [])
unfolding in_use rooms sum_below some_below least_below
open_directories = refl

-- /g and /d/e have 32767 links: no room for another directory, unless it takes one's place or stays in its parent
unfoldable linked_out : Tree
linked_out = on_node (on_node rooms 7 (more_links 32764)) 3 (more_links 32765)

links_next : Rows small linked_out (
    (user0, Rename (path "/d/e") (path "/g/y"), refused EMLINK)
    ∷ (user0, Rename (path "/f") (path "/g/y"), done)
    ∷ (user0, Rename (path "/g/h") (path "/g/y"), done)
    ∷ (user0, Rename (path "/d/e") (path "/g/h"), done)
    ∷ (user0, Rename (path "/g/h") (path "/y"), done)
    ∷ (user0, Rename (path "/d") (path "/d/e/y"), refused EINVAL)
    ∷ (other, Rename (path "/d/e") (path "/g/y"), refused EACCES)
    ∷ (user0, Rename (path "/none") (path "/g/y"), refused ENOENT)
    ∷ [])
unfolding linked_out rooms sum_below some_below least_below
links_next = refl

last_link : Rows small (on_node rooms 7 (more_links 32763)) ((user0, Rename (path "/d/e") (path "/g/y"), done) ∷ [])
unfolding rooms sum_below some_below least_below
last_link = refl

-- The root has 7 entries, which its inode names itself: an eighth takes a zone, and another for the indirect block. What
-- comes from /d gives one back, so a zone more is needed than the 20 that are used; within the root none is.
unfoldable seven : Tree
seven = after rooms (Link (path "/f") (path "/k") ∷ [])

no_zone : Rows (record small { zones = 26 }) seven (
    (user0, Rename (path "/d/e") (path "/y"), refused ENOSPC)
    ∷ (user0, Rename (path "/f") (path "/y"), done)
    ∷ (user0, Rename (path "/f") (path "/d/y"), done)
    ∷ (user0, Rename (path "/d/e") (path "/g/h"), done)
    ∷ (user0, Rename (path "/d/e") (path "/g/y"), done)
    ∷ (user0, Rename (path "/k") (path "/f"), done)
    ∷ (other, Rename (path "/d/e") (path "/y"), refused EACCES)
    ∷ (user0, Rename (path "/d/none") (path "/y"), refused ENOENT)
    ∷ (user0, Rename (path "/d/.") (path "/y"), refused EINVAL)
    ∷ [])
unfolding seven rooms sum_below some_below least_below
no_zone = refl

one_zone : Rows (record small { zones = 27 }) seven ((user0, Rename (path "/d/e") (path "/y"), done) ∷ [])
unfolding seven rooms sum_below some_below least_below
one_zone = refl

no_zone_no_link : Rows (record small { zones = 26 }) (on_node seven 1 (more_links 32762)) (
    (user0, Rename (path "/d/e") (path "/y"), refused EMLINK)
    ∷ (user0, Rename (path "/p/x") (path "/y"), refused ENOSPC)
    ∷ [])
unfolding seven rooms sum_below some_below least_below
no_zone_no_link = refl

-- What rename leaves, at 200. Within the root: the node's ctime, and both times of the root.
within : Rows small (tree_after_call small rooms user0 200 (Rename (path "/f") (path "/y"))) (
    (user0, Stat (path "/y"), node_is (record { inode = 5; mode = 33188; links = 1; uid = 0; gid = 0; size = 0; atime = 100; mtime = 100; ctime = 200 }))
    ∷ (user0, Stat (path "/f"), refused ENOENT)
    ∷ (user0, Stat (path "/"), node_is (record { inode = 1; mode = 16877; links = 5; uid = 0; gid = 0; size = 384; atime = 50; mtime = 200; ctime = 200 }))
    ∷ [])
unfolding rooms sum_below some_below least_below
within = refl

-- from /d to /g: both parents' links, sizes and times, its .. and its ctime
moved : Rows small (tree_after_call small rooms user0 200 (Rename (path "/d/e") (path "/g/y"))) (
    (user0, Stat (path "/d"), node_is (record { inode = 2; mode = 16877; links = 2; uid = 0; gid = 0; size = 128; atime = 100; mtime = 200; ctime = 200 }))
    ∷ (user0, Stat (path "/g"), node_is (record { inode = 7; mode = 16877; links = 4; uid = 0; gid = 0; size = 256; atime = 100; mtime = 200; ctime = 200 }))
    ∷ (user0, Stat (path "/g/y"), node_is (record { inode = 3; mode = 16877; links = 2; uid = 0; gid = 0; size = 128; atime = 100; mtime = 100; ctime = 200 }))
    ∷ (user0, Stat (path "/g/y/.."), node_is (record { inode = 7; mode = 16877; links = 4; uid = 0; gid = 0; size = 256; atime = 100; mtime = 200; ctime = 200 }))
    ∷ (user0, Statfs, room_is (record { block_size = 64; zones = 58; free_zones = 39; inodes = 8; free_inodes = 0 }))
    ∷ [])
unfolding rooms sum_below some_below least_below
moved = refl

-- onto the empty /g/h, whose inode and two zones are free then, as /d's entry is
onto_directory : Rows small (tree_after_call small rooms user0 200 (Rename (path "/d/e") (path "/g/h"))) (
    (user0, Stat (path "/g/h"), node_is (record { inode = 3; mode = 16877; links = 2; uid = 0; gid = 0; size = 128; atime = 100; mtime = 100; ctime = 200 }))
    ∷ (user0, Stat (path "/g"), node_is (record { inode = 7; mode = 16877; links = 3; uid = 0; gid = 0; size = 192; atime = 100; mtime = 200; ctime = 200 }))
    ∷ (user0, Statfs, room_is (record { block_size = 64; zones = 58; free_zones = 42; inodes = 8; free_inodes = 1 }))
    ∷ [])
unfolding rooms sum_below some_below least_below
onto_directory = refl

-- onto a file, which goes; or lives on while it is open, or under another name
onto_file : Rows small (tree_after_call small rooms user0 200 (Rename (path "/f") (path "/p/x"))) (
    (user0, Stat (path "/p/x"), node_is (record { inode = 5; mode = 33188; links = 1; uid = 0; gid = 0; size = 0; atime = 100; mtime = 100; ctime = 200 }))
    ∷ (user0, Statfs, room_is (record { block_size = 64; zones = 58; free_zones = 40; inodes = 8; free_inodes = 1 }))
    ∷ [])
unfolding rooms sum_below some_below least_below
onto_file = refl

onto_open_file : Rows small (tree_after_call small in_use user0 200 (Rename (path "/f") (path "/p/x"))) (
    (user0, Fstat 3, node_is (record { inode = 6; mode = 33152; links = 0; uid = 0; gid = 0; size = 0; atime = 100; mtime = 100; ctime = 200 }))
    ∷ (user0, Statfs, room_is (record { block_size = 64; zones = 58; free_zones = 40; inodes = 8; free_inodes = 0 }))
    ∷ [])
unfolding in_use rooms sum_below some_below least_below
onto_open_file = refl

onto_linked_file : Rows small (tree_after_call small (after rooms (Link (path "/p/x") (path "/k") ∷ [])) user0 200 (Rename (path "/f") (path "/p/x"))) (
    (user0, Stat (path "/k"), node_is (record { inode = 6; mode = 33152; links = 1; uid = 0; gid = 0; size = 0; atime = 100; mtime = 100; ctime = 200 }))
    ∷ [])
unfolding rooms sum_below some_below least_below
onto_linked_file = refl

-- two names of one inode, and one name: nothing changes
unfoldable doubled : Tree
doubled = after rooms (Link (path "/f") (path "/d/k") ∷ [])

unchanged : Rows small (tree_after_call small doubled user0 200 (Rename (path "/f") (path "/d/k"))) (
    (user0, Stat (path "/f"), node_is (record { inode = 5; mode = 33188; links = 2; uid = 0; gid = 0; size = 0; atime = 100; mtime = 100; ctime = 100 }))
    ∷ (user0, Stat (path "/"), node_is (record { inode = 1; mode = 16877; links = 5; uid = 0; gid = 0; size = 384; atime = 50; mtime = 100; ctime = 100 }))
    ∷ [])
unfolding doubled rooms sum_below some_below least_below
unchanged = refl
