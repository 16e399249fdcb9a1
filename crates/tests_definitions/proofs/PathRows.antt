-- Paths and access: each refusal of a path, which of two is answered, and whose permission bits are looked at.
use Rattle.std.proofs.Common.{◌++◌, [], ◌∷◌, refl, codes, replicate}
use Rattle.tree.specs.declared.Call.TheVariants.{Chmod, Chown, Open, Stat}
use Rattle.errno.specs.declared.Errno.TheVariants.{ENOENT, EACCES, ENOTDIR, EINVAL, ENAMETOOLONG}
use Rattle.lemmas.specs.Sums.{sum_below, some_below, least_below}
use Rattle.tree.specs.Tree.{Tree}
use Rattle.tree.specs.Answers.{Answer, refused, done, descriptor, node_is}
use Rattle.tests_definitions.proofs.SmallTrees.{small, user, user0, other, at, path, flags, after, house, Rows, empty_path, long_path}
use Rattle.tests_definitions.proofs.SmallTrees.{zero_path, wide_path}

-- what stat says of /d, and of the root
abbrev d_is : Answer
d_is = node_is (record { inode = 2; mode = 16877; links = 3; uid = 0; gid = 0; size = 192; atime = 100; mtime = 100; ctime = 100 })

abbrev root_is : Answer
root_is = node_is (record { inode = 1; mode = 16877; links = 4; uid = 0; gid = 0; size = 320; atime = 50; mtime = 100; ctime = 100 })

-- paths that lead to them
found : Rows small house (
    (other, Stat (path "/d"), d_is)
    ∷ (other, Stat (path "//d///"), d_is)
    ∷ (other, Stat (path "/d/./e/.."), d_is)
    ∷ (other, Stat (path "/"), root_is)
    ∷ (other, Stat (path "/.."), root_is)
    ∷ (other, Stat (path "/d/../.././"), root_is)
    ∷ (other, Stat (at (replicate 1024 47)), root_is)
    ∷ [])
unfolding house sum_below some_below least_below
found = refl

-- each refusal, for user 9
refused_paths : Rows small house (
    (other, Stat empty_path, refused ENOENT)
    ∷ (other, Stat long_path, refused ENAMETOOLONG)
    ∷ (other, Stat (path "d"), refused EINVAL)
    ∷ (other, Stat zero_path, refused EINVAL)
    ∷ (other, Stat wide_path, refused ENAMETOOLONG)
    ∷ (other, Stat (path "/f/x"), refused ENOTDIR)
    ∷ (other, Stat (path "/f/."), refused ENOTDIR)
    ∷ (other, Stat (path "/f/.."), refused ENOTDIR)
    ∷ (other, Stat (path "/p/x"), refused EACCES)
    ∷ (other, Stat (path "/p/."), refused EACCES)
    ∷ (other, Stat (path "/p/.."), refused EACCES)
    ∷ (other, Stat (path "/none"), refused ENOENT)
    ∷ (other, Stat (at (codes "/" ++ replicate 60 97)), refused ENOENT)
    ∷ [])
unfolding house sum_below some_below least_below
refused_paths = refl

-- reading comes before the walk, and each in its order; of the walk's parts the first
first_of_two : Rows small house (
    (other, Stat (at (replicate 1025 97)), refused ENAMETOOLONG)
    ∷ (other, Stat (at (replicate 1025 0)), refused ENAMETOOLONG)
    ∷ (other, Stat (at (replicate 61 97)), refused EINVAL)
    ∷ (other, Stat (at (codes "/" ++ replicate 61 0)), refused EINVAL)
    ∷ (other, Stat (at (codes "/none" ++ replicate 1025 47)), refused ENAMETOOLONG)
    ∷ (other, Stat (at (codes "/f/x" ++ replicate 1025 47)), refused ENAMETOOLONG)
    ∷ (other, Stat (at (codes "/p/x" ++ replicate 1025 47)), refused ENAMETOOLONG)
    ∷ (other, Stat (path "none/x"), refused EINVAL)
    ∷ (other, Stat (path "f/x"), refused EINVAL)
    ∷ (other, Stat (path "p/x"), refused EINVAL)
    ∷ (other, Stat (at (codes "/none/" ++ replicate 61 97)), refused ENAMETOOLONG)
    ∷ (other, Stat (at (codes "/f/" ++ replicate 61 97)), refused ENAMETOOLONG)
    ∷ (other, Stat (at (codes "/p/" ++ replicate 61 97)), refused ENAMETOOLONG)
    ∷ (other, Stat (path "/p/none"), refused EACCES)
    ∷ (other, Stat (path "/f/none/p"), refused ENOTDIR)
    ∷ (other, Stat (path "/none/../f/x"), refused ENOENT)
    ∷ (other, Stat (path "/p/x/y"), refused EACCES)
    ∷ [])
unfolding house sum_below some_below least_below
first_of_two = refl

-- /f is for user 5 to read, for group 7 not at all, for others to write: octal 402
shared : Tree
shared = after house (Chown (path "/f") 5 7 ∷ Chmod (path "/f") 258 ∷ [])

-- the owner's bits, else the group's, else the others'
access : Rows small shared (
    (user 5 7, Open (path "/f") (flags 1) 0, descriptor 0)
    ∷ (user 5 7, Open (path "/f") (flags 2) 0, refused EACCES)
    ∷ (user 9 7, Open (path "/f") (flags 1) 0, refused EACCES)
    ∷ (user 9 7, Open (path "/f") (flags 2) 0, refused EACCES)
    ∷ (user 9 8, Open (path "/f") (flags 1) 0, refused EACCES)
    ∷ (user 9 8, Open (path "/f") (flags 2) 0, descriptor 0)
    ∷ (user 9 8, Open (path "/f") (flags 3) 0, refused EACCES)
    ∷ (user0, Open (path "/f") (flags 3) 0, descriptor 0)
    ∷ [])
unfolding shared house sum_below some_below least_below
access = refl

-- the directory /p is for its group to search: octal 710
searched : Rows small (after house (Chmod (path "/p") 456 ∷ [])) (
    (user 9 0, Chmod (path "/p/none") 0, refused ENOENT)
    ∷ (user 9 9, Chmod (path "/p/none") 0, refused EACCES)
    ∷ (user0, Chmod (path "/p/x") 0, done)
    ∷ [])
unfolding house sum_below some_below least_below
searched = refl
