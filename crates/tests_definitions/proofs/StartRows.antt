-- Paths that start at a node: what they mean, each refusal, and calls with two starts.
use Rattle.std.proofs.Common.{[], ◌∷◌, refl, codes, replicate}
use Rattle.tree.specs.declared.Start.TheVariants.{Inode}
use Rattle.tree.specs.declared.Call.TheVariants.{Chmod, Chown, Close, Fstat, Link, Lstat, Open, Mkdir, Readlink, Rename, Rmdir, Stat, Symlink, Truncate, Unlink}
use Rattle.errno.specs.declared.Errno.TheVariants.{ENOENT, EACCES, EEXIST, ENOTDIR, EISDIR, EINVAL, ENAMETOOLONG, ELOOP}
use Rattle.lemmas.specs.Sums.{sum_below, some_below, least_below}
use Rattle.tree.specs.Tree.{Tree}
use Rattle.tree.specs.Answers.{Answer, refused, done, descriptor, node_is, some_bytes}
use Rattle.tests_definitions.proofs.SmallTrees.{small, user0, other, path, text, from, flags, after, house, Rows}

-- what stat says of /d (node 2), of /d/e (3), of /f (5) and of the root
abbrev d_is : Answer
d_is = node_is (record { inode = 2; mode = 16877; links = 3; uid = 0; gid = 0; size = 192; atime = 100; mtime = 100; ctime = 100 })

abbrev e_is : Answer
e_is = node_is (record { inode = 3; mode = 16877; links = 2; uid = 0; gid = 0; size = 128; atime = 100; mtime = 100; ctime = 100 })

abbrev f_is : Answer
f_is = node_is (record { inode = 5; mode = 33188; links = 1; uid = 0; gid = 0; size = 0; atime = 100; mtime = 100; ctime = 100 })

abbrev root_is : Answer
root_is = node_is (record { inode = 1; mode = 16877; links = 4; uid = 0; gid = 0; size = 320; atime = 50; mtime = 100; ctime = 100 })

-- no bytes mean the node; others lead from it; with a slash first they lead from the root, wherever they start
found : Rows small house (
    (user0, Stat (from 5 ""), f_is)
    ∷ (user0, Stat (from 1 ""), root_is)
    ∷ (user0, Stat (from 1 "f"), f_is)
    ∷ (user0, Stat (from 2 "e"), e_is)
    ∷ (user0, Stat (from 2 "e/"), e_is)
    ∷ (user0, Stat (from 3 "."), e_is)
    ∷ (user0, Stat (from 3 ".."), d_is)
    ∷ (user0, Stat (from 3 "../../f"), f_is)
    ∷ (user0, Stat (from 1 ".."), root_is)
    ∷ (user0, Stat (from 3 "/f"), f_is)
    ∷ (user0, Stat (from 7 "/f"), f_is)
    ∷ (other, Stat (from 7 "/f"), f_is)
    ∷ (user0, Open (from 4 "x") (flags 1) 0, descriptor 0)
    ∷ (user0, Open (from 5 "") (flags 1) 0, descriptor 0)
    ∷ [])
unfolding house sum_below some_below least_below
found = refl

-- each refusal: the path, who asks, the node, and then as from the root
refused_starts : Rows small house (
    (user0, Stat (from 7 ""), refused ENOENT)
    ∷ (user0, Stat (from 7 "f"), refused ENOENT)
    ∷ (user0, Open (from 7 "f") (flags 11) 420, refused ENOENT)
    ∷ (user0, Stat (from 0 ""), refused ENOENT)
    ∷ (user0, Stat (from 9 ""), refused ENOENT)
    ∷ (user0, Open (from 5 "f") (flags 1) 0, refused ENOTDIR)
    ∷ (user0, Stat (from 5 "."), refused ENOTDIR)
    ∷ (user0, Stat (from 5 ".."), refused ENOTDIR)
    ∷ (user0, Stat (from 2 "f"), refused ENOENT)
    ∷ (other, Stat (from 5 ""), refused EACCES)
    ∷ (other, Stat (from 1 "f"), refused EACCES)
    ∷ (other, Stat (from 7 ""), refused EACCES)
    ∷ (other, Stat (record { start = Inode 7; bytes = record { ref_ptr = (0, 0); now = replicate 61 97 } }), refused ENAMETOOLONG)
    ∷ (other, Stat (record { start = Inode 7; bytes = record { ref_ptr = (0, 0); now = 0 ∷ [] } }), refused EINVAL)
    ∷ (user0, Unlink (from 5 ""), refused EINVAL)
    ∷ (user0, Rmdir (from 3 ""), refused EINVAL)
    ∷ (user0, Mkdir (from 3 "") 493, refused EEXIST)
    ∷ (user0, Mkdir (from 5 "") 493, refused ENOTDIR)
    ∷ (user0, Rename (from 5 "") (from 3 "y"), refused EINVAL)
    ∷ (user0, Rename (from 4 "x") (from 7 "y"), refused ENOENT)
    ∷ (user0, Rename (from 7 "x") (from 3 "y"), refused ENOENT)
    ∷ (user0, Rename (from 1 "d") (from 3 "y"), refused EINVAL)
    ∷ [])
unfolding house sum_below some_below least_below
refused_starts = refl

-- between two starts: /p/x becomes /d/e/y
moved : Tree
moved = after house (Rename (from 4 "x") (from 3 "y") ∷ [])

renamed : Rows small moved (
    (user0, Stat (path "/d/e/y"), node_is (record { inode = 6; mode = 33152; links = 1; uid = 0; gid = 0; size = 0; atime = 100; mtime = 100; ctime = 100 }))
    ∷ (user0, Stat (path "/p/x"), refused ENOENT)
    ∷ (user0, Stat (from 6 ""), node_is (record { inode = 6; mode = 33152; links = 1; uid = 0; gid = 0; size = 0; atime = 100; mtime = 100; ctime = 100 }))
    ∷ [])
unfolding moved house sum_below some_below least_below
renamed = refl

-- a link, /s (node 7), that leads to /f: as a start it is itself
linked : Tree
linked = after house (Symlink (text "/f") (path "/s") ∷ [])

abbrev s_is : Answer
s_is = node_is (record { inode = 7; mode = 41471; links = 1; uid = 0; gid = 0; size = 2; atime = 100; mtime = 100; ctime = 100 })

link_starts : Rows small linked (
    (user0, Lstat (from 7 ""), s_is)
    ∷ (user0, Stat (from 7 ""), s_is)
    ∷ (user0, Stat (from 1 "s"), f_is)
    ∷ (user0, Readlink (from 7 ""), some_bytes (codes "/f"))
    ∷ (user0, Open (from 7 "") (flags 1) 0, refused ELOOP)
    ∷ (user0, Truncate (from 7 "") 0, refused EISDIR)
    ∷ (user0, Stat (from 7 "x"), refused ENOTDIR)
    ∷ (user0, Chown (from 7 "") 9 8, done)
    ∷ [])
unfolding linked house sum_below some_below least_below
link_starts = refl

-- a file that is open and has no name any more is still a node
removed : Tree
removed = after house (Open (path "/f") (flags 3) 0 ∷ Unlink (path "/f") ∷ Truncate (from 5 "") 10 ∷ Chmod (from 5 "") 384 ∷ Chown (from 5 "") 9 8 ∷ [])

abbrev gone_is : Answer
gone_is = node_is (record { inode = 5; mode = 33152; links = 0; uid = 9; gid = 8; size = 10; atime = 100; mtime = 100; ctime = 100 })

without_name : Rows small removed (
    (user0, Fstat 0, gone_is)
    ∷ (user0, Stat (from 5 ""), gone_is)
    ∷ (user0, Link (from 5 "") (path "/g"), done)
    ∷ [])
unfolding removed house sum_below some_below least_below
without_name = refl

closed : Rows small (after removed (Close 0 ∷ [])) ((user0, Stat (from 5 ""), refused ENOENT) ∷ [])
unfolding removed house sum_below some_below least_below
closed = refl
