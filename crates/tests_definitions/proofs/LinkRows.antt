-- Link and unlink: what they answer and leave, each refusal, and of two the one that is answered.
use Rattle.std.proofs.Common.{◌++◌, List, [], ◌∷◌, refl, codes, replicate, ℕ}
use Rattle.tree.specs.declared.PathFrom.{PathFrom}
use Rattle.errno.specs.declared.Errno.TheVariants.{EPERM, ENOENT, EACCES, EEXIST, ENOTDIR, EINVAL, ENAMETOOLONG, EMLINK, ENOSPC}
use Rattle.tree.specs.declared.Call.TheVariants.{Stat, Link, Unlink, Statfs}
use Rattle.lemmas.specs.Sums.{sum_below, some_below, least_below}
use Rattle.tree.specs.Tree.{Tree, on_node}
use Rattle.tree.specs.Changes.{more_links}
use Rattle.tree.specs.Answers.{refused, done, node_is, room_is}
use Rattle.tree.specs.Effects.{tree_after_call}
use Rattle.tests_definitions.proofs.SmallTrees.{small, tight, user0, other, at, path, after, house, Row, Rows, empty_path, long_path}
use Rattle.tests_definitions.proofs.SmallTrees.{zero_path, wide_path}

-- the refusals of an old path, where the new one is this; and of a new path, where the old one is this
abbrev old_paths : PathFrom → List Row
old_paths new =
    (other, Link empty_path new, refused ENOENT) ∷ (other, Link long_path new, refused ENAMETOOLONG)
    ∷ (other, Link (path "d") new, refused EINVAL) ∷ (other, Link zero_path new, refused EINVAL)
    ∷ (other, Link wide_path new, refused ENAMETOOLONG) ∷ []

abbrev new_paths : PathFrom → List Row
new_paths old =
    (other, Link old empty_path, refused ENOENT) ∷ (other, Link old long_path, refused ENAMETOOLONG)
    ∷ (other, Link old (path "d"), refused EINVAL) ∷ (other, Link old zero_path, refused EINVAL)
    ∷ (other, Link old wide_path, refused ENAMETOOLONG) ∷ []

abbrev old_walks : PathFrom → List Row
old_walks new =
    (other, Link (path "/f/x") new, refused ENOTDIR) ∷ (other, Link (path "/p/x") new, refused EACCES)
    ∷ (other, Link (path "/none") new, refused ENOENT) ∷ []

links : Rows small house (
    (user0, Link (path "/f") (path "/d/g"), done)
    ∷ (user0, Link (path "/f") (at (codes "/" ++ replicate 60 97)), done)
    ∷ (user0, Link (path "/p/x") (path "/d/e/x"), done)
    ∷ (user0, Link (path "/f") (path "/f"), refused EEXIST)
    ∷ (user0, Link (path "/f") (path "/d"), refused EEXIST)
    ∷ (user0, Link (path "/f") (path "/"), refused EEXIST)
    ∷ (user0, Link (path "/f") (path "/d/."), refused EEXIST)
    ∷ (user0, Link (path "/f") (path "/d/.."), refused EEXIST)
    ∷ (user0, Link (path "/d") (path "/x"), refused EPERM)
    ∷ (user0, Link (path "/f") (path "/f/x"), refused ENOTDIR)
    ∷ (user0, Link (path "/f") (path "/none/x"), refused ENOENT)
    ∷ (other, Link (path "/f") (path "/p/y"), refused EACCES)
    ∷ (other, Link (path "/f") (path "/y"), refused EACCES)
    ∷ [])
unfolding house sum_below some_below least_below
links = refl

old_read_first : Rows small house (old_paths (path "/y"))
unfolding house sum_below some_below least_below
old_read_first = refl

new_read_next : Rows small house (new_paths (path "/f"))
unfolding house sum_below some_below least_below
new_read_next = refl

-- the old path is read before the new one, and both before each walk
two_old_empty : Rows small house (
    (other, Link empty_path (path "d"), refused ENOENT)
    ∷ (other, Link empty_path wide_path, refused ENOENT)
    ∷ (other, Link long_path empty_path, refused ENAMETOOLONG)
    ∷ (other, Link long_path (path "d"), refused ENAMETOOLONG)
    ∷ (other, Link (path "d") empty_path, refused EINVAL)
    ∷ (other, Link (path "d") wide_path, refused EINVAL)
    ∷ (other, Link zero_path long_path, refused EINVAL)
    ∷ (other, Link wide_path empty_path, refused ENAMETOOLONG)
    ∷ (other, Link wide_path (path "d"), refused ENAMETOOLONG)
    ∷ [])
unfolding house sum_below some_below least_below
two_old_empty = refl

new_read_before_old_walks : Rows small house (new_paths (path "/f/x") ++ new_paths (path "/p/x") ++ new_paths (path "/none") ++ new_paths (path "/d"))
unfolding house sum_below some_below least_below
new_read_before_old_walks = refl

-- an unreadable old path before what the new one meets: a walk, a name that is there, no permission
old_read_before_the_new : Rows small house (old_paths (path "/f/x") ++ old_paths (path "/none/x") ++ old_paths (path "/d"))
unfolding house sum_below some_below least_below
old_read_before_the_new = refl

-- the walk of the old path before the same
old_walks_first : Rows small house (old_walks (path "/y") ++ old_walks (path "/f/y") ++ old_walks (path "/none/y") ++ old_walks (path "/p/y") ++ old_walks (path "/d"))
unfolding house sum_below some_below least_below
old_walks_first = refl

-- a directory before all that the new path meets
directories_next : Rows small house (
    (other, Link (path "/d") (path "/f/y"), refused EPERM)
    ∷ (other, Link (path "/d") (path "/none/y"), refused EPERM)
    ∷ (other, Link (path "/d") (path "/p/y"), refused EPERM)
    ∷ (other, Link (path "/d") (path "/f"), refused EPERM)
    ∷ (other, Link (path "/d") (path "/y"), refused EPERM)
    ∷ [])
unfolding house sum_below some_below least_below
directories_next = refl

-- 32767 links: /f, and the directory /d
unfoldable linked_out : Tree
linked_out = on_node (on_node house 5 (more_links 32766)) 2 (more_links 32764)

links_next : Rows small linked_out (
    (user0, Link (path "/f") (path "/y"), refused EMLINK)
    ∷ (other, Link (path "/f") (path "/f/y"), refused EMLINK)
    ∷ (other, Link (path "/f") (path "/none/y"), refused EMLINK)
    ∷ (other, Link (path "/f") (path "/p/y"), refused EMLINK)
    ∷ (other, Link (path "/f") (path "/d"), refused EMLINK)
    ∷ (other, Link (path "/f") (path "/y"), refused EMLINK)
    ∷ (user0, Link (path "/d") (path "/y"), refused EPERM)
    ∷ (other, Link (path "/f") empty_path, refused ENOENT)
    ∷ (other, Link wide_path (path "/y"), refused ENAMETOOLONG)
    ∷ [])
unfolding linked_out house sum_below some_below least_below
links_next = refl

-- one link fewer is room for one more
last_link : Rows small (on_node house 5 (more_links 32765)) ((user0, Link (path "/f") (path "/y"), done) ∷ [])
unfolding house sum_below some_below least_below
last_link = refl

-- the new path: its walk, a name that is there, permission
new_in_order : Rows small house (
    (other, Link (path "/f") (path "/p/."), refused EACCES)
    ∷ (other, Link (path "/f") (path "/p/.."), refused EACCES)
    ∷ (other, Link (path "/f") (path "/p/x"), refused EACCES)
    ∷ (other, Link (path "/f") (path "/f/."), refused ENOTDIR)
    ∷ (other, Link (path "/f") (path "/none/."), refused ENOENT)
    ∷ (other, Link (path "/f") (path "/d"), refused EEXIST)
    ∷ (other, Link (path "/f") (path "/"), refused EEXIST)
    ∷ [])
unfolding house sum_below some_below least_below
new_in_order = refl

-- no zone for another name comes last
no_zone : Rows tight house (
    (user0, Link (path "/f") (path "/y"), refused ENOSPC)
    ∷ (other, Link (path "/f") (path "/y"), refused EACCES)
    ∷ (user0, Link (path "/f") (path "/d"), refused EEXIST)
    ∷ (user0, Link (path "/d") (path "/y"), refused EPERM)
    ∷ (user0, Link (path "/none") (path "/y"), refused ENOENT)
    ∷ (user0, Link empty_path (path "/y"), refused ENOENT)
    ∷ [])
unfolding house sum_below some_below least_below
no_zone = refl

no_zone_no_link : Rows tight linked_out ((user0, Link (path "/f") (path "/y"), refused EMLINK) ∷ [])
unfolding linked_out house sum_below some_below least_below
no_zone_no_link = refl

-- what link leaves, at 200: a link more and another ctime of the node, another mtime and ctime of the directory
unfoldable linked : Tree
linked = tree_after_call small house user0 200 (Link (path "/f") (path "/d/g"))

after_link : Rows small linked (
    (user0, Stat (path "/d/g"), node_is (record { inode = 5; mode = 33188; links = 2; uid = 0; gid = 0; size = 0; atime = 100; mtime = 100; ctime = 200 }))
    ∷ (user0, Stat (path "/d"), node_is (record { inode = 2; mode = 16877; links = 3; uid = 0; gid = 0; size = 256; atime = 100; mtime = 200; ctime = 200 }))
    ∷ (user0, Statfs, room_is (record { block_size = 64; zones = 58; free_zones = 44; inodes = 8; free_inodes = 2 }))
    ∷ [])
unfolding linked house sum_below some_below least_below
after_link = refl

-- Unlink. A path without a last name is refused right after it is read.
unlinks : Rows small house (
    (user0, Unlink (path "/f"), done)
    ∷ (user0, Unlink (path "/p/x/"), done)
    ∷ (user0, Unlink (path "/none"), refused ENOENT)
    ∷ (user0, Unlink (path "/d"), refused EPERM)
    ∷ (user0, Unlink (path "/"), refused EINVAL)
    ∷ (user0, Unlink (path "/d/."), refused EINVAL)
    ∷ (user0, Unlink (path "/d/.."), refused EINVAL)
    ∷ (other, Unlink empty_path, refused ENOENT)
    ∷ (other, Unlink long_path, refused ENAMETOOLONG)
    ∷ (other, Unlink (path "d"), refused EINVAL)
    ∷ (other, Unlink zero_path, refused EINVAL)
    ∷ (other, Unlink wide_path, refused ENAMETOOLONG)
    ∷ (other, Unlink (path "/f/x"), refused ENOTDIR)
    ∷ (other, Unlink (path "/p/x"), refused EACCES)
    ∷ (other, Unlink (path "/none/x"), refused ENOENT)
    ∷ (other, Unlink (path "/f"), refused EACCES)
    ∷ [])
unfolding house sum_below some_below least_below
unlinks = refl

unlink_in_order : Rows small house (
    (other, Unlink (at (codes "/" ++ replicate 61 97 ++ codes "/.")), refused ENAMETOOLONG)
    ∷ (other, Unlink (at (replicate 1025 47 ++ codes ".")), refused ENAMETOOLONG)
    ∷ (other, Unlink (path "/f/."), refused EINVAL)
    ∷ (other, Unlink (path "/p/.."), refused EINVAL)
    ∷ (other, Unlink (path "/none/."), refused EINVAL)
    ∷ (other, Unlink (path "/d/."), refused EINVAL)
    ∷ (other, Unlink (path "/p/none"), refused EACCES)
    ∷ (other, Unlink (path "/f/none"), refused ENOTDIR)
    ∷ (other, Unlink (path "/none"), refused ENOENT)
    ∷ (other, Unlink (path "/d"), refused EACCES)
    ∷ [])
unfolding house sum_below some_below least_below
unlink_in_order = refl

-- one name less, and the last: the inode is free then
after_unlink : Rows small (tree_after_call small linked user0 300 (Unlink (path "/f"))) (
    (user0, Stat (path "/d/g"), node_is (record { inode = 5; mode = 33188; links = 1; uid = 0; gid = 0; size = 0; atime = 100; mtime = 100; ctime = 300 }))
    ∷ (user0, Stat (path "/"), node_is (record { inode = 1; mode = 16877; links = 4; uid = 0; gid = 0; size = 256; atime = 50; mtime = 300; ctime = 300 }))
    ∷ (user0, Stat (path "/f"), refused ENOENT)
    ∷ (user0, Statfs, room_is (record { block_size = 64; zones = 58; free_zones = 45; inodes = 8; free_inodes = 2 }))
    ∷ [])
unfolding linked house sum_below some_below least_below
after_unlink = refl

after_last : Rows small (after house (Unlink (path "/f") ∷ [])) (
    (user0, Statfs, room_is (record { block_size = 64; zones = 58; free_zones = 46; inodes = 8; free_inodes = 3 }))
    ∷ [])
unfolding house sum_below some_below least_below
after_last = refl
