-- Mkdir and rmdir: what they answer and leave, each refusal, and of two the one that is answered.
use Rattle.std.proofs.Common.{◌++◌, [], ◌∷◌, refl, codes, replicate}
use Rattle.errno.specs.declared.Errno.TheVariants.{ENOENT, EACCES, EBUSY, EEXIST, ENOTDIR, EINVAL, ENAMETOOLONG, ENOTEMPTY, EMLINK, ENOSPC}
use Rattle.tree.specs.declared.Call.TheVariants.{Open, Stat, Mkdir, Rmdir, Chmod, Statfs}
use Rattle.lemmas.specs.Sums.{sum_below, some_below, least_below}
use Rattle.tree.specs.Tree.{Tree, on_node}
use Rattle.tree.specs.Changes.{more_links}
use Rattle.tree.specs.Answers.{refused, done, node_is, room_is}
use Rattle.tree.specs.Effects.{tree_after_call}
use Rattle.tests_definitions.proofs.SmallTrees.{small, tight, user0, other, at, path, flags, after, house, Rows, empty_path, long_path}
use Rattle.tests_definitions.proofs.SmallTrees.{zero_path, wide_path}

mkdirs : Rows small house (
    (user0, Mkdir (path "/y") 511, done)
    ∷ (user0, Mkdir (path "/d/e/y") 0, done)
    ∷ (user0, Mkdir (path "/y") 512, refused EINVAL)
    ∷ (other, Mkdir empty_path 493, refused ENOENT)
    ∷ (other, Mkdir long_path 493, refused ENAMETOOLONG)
    ∷ (other, Mkdir (path "d") 493, refused EINVAL)
    ∷ (other, Mkdir zero_path 493, refused EINVAL)
    ∷ (other, Mkdir wide_path 493, refused ENAMETOOLONG)
    ∷ (other, Mkdir (path "/f/y") 493, refused ENOTDIR)
    ∷ (other, Mkdir (path "/p/y") 493, refused EACCES)
    ∷ (other, Mkdir (path "/none/y") 493, refused ENOENT)
    ∷ (user0, Mkdir (path "/d") 493, refused EEXIST)
    ∷ (user0, Mkdir (path "/f") 493, refused EEXIST)
    ∷ (user0, Mkdir (path "/") 493, refused EEXIST)
    ∷ (user0, Mkdir (path "/d/.") 493, refused EEXIST)
    ∷ (user0, Mkdir (path "/d/..") 493, refused EEXIST)
    ∷ (other, Mkdir (path "/y") 493, refused EACCES)
    ∷ [])
unfolding house sum_below some_below least_below
mkdirs = refl

-- a bad mode comes before all
modes_first : Rows small house (
    (other, Mkdir empty_path 512, refused EINVAL)
    ∷ (other, Mkdir long_path 512, refused EINVAL)
    ∷ (other, Mkdir (path "d") 512, refused EINVAL)
    ∷ (other, Mkdir wide_path 512, refused EINVAL)
    ∷ (other, Mkdir (path "/f/y") 512, refused EINVAL)
    ∷ (other, Mkdir (path "/p/y") 512, refused EINVAL)
    ∷ (other, Mkdir (path "/none/y") 512, refused EINVAL)
    ∷ (other, Mkdir (path "/d") 512, refused EINVAL)
    ∷ (other, Mkdir (path "/y") 512, refused EINVAL)
    ∷ [])
unfolding house sum_below some_below least_below
modes_first = refl

-- the parent walk before a name that is there, that before permission
mkdir_in_order : Rows small house (
    (other, Mkdir (path "/p/.") 493, refused EACCES)
    ∷ (other, Mkdir (path "/p/x") 493, refused EACCES)
    ∷ (other, Mkdir (path "/f/.") 493, refused ENOTDIR)
    ∷ (other, Mkdir (path "/none/..") 493, refused ENOENT)
    ∷ (other, Mkdir (path "/d") 493, refused EEXIST)
    ∷ (other, Mkdir (path "/") 493, refused EEXIST)
    ∷ [])
unfolding house sum_below some_below least_below
mkdir_in_order = refl

shut_root : Rows small (after house (Chmod (path "/") 448 ∷ [])) ((other, Mkdir (path "/") 493, refused EACCES) ∷ (user0, Mkdir (path "/") 493, refused EEXIST) ∷ [])
unfolding house sum_below some_below least_below
shut_root = refl

-- the root, /d and /p have 32767 links
unfoldable linked_out : Tree
linked_out = on_node (on_node (on_node house 1 (more_links 32763)) 2 (more_links 32764)) 4 (more_links 32765)

links_in_order : Rows small linked_out (
    (user0, Mkdir (path "/y") 493, refused EMLINK)
    ∷ (user0, Mkdir (path "/d/y") 493, refused EMLINK)
    ∷ (user0, Mkdir (path "/d/e/y") 493, done)
    ∷ (user0, Mkdir (path "/y") 512, refused EINVAL)
    ∷ (other, Mkdir (path "/p/y") 493, refused EACCES)
    ∷ (other, Mkdir (path "/y") 493, refused EACCES)
    ∷ (user0, Mkdir (path "/d") 493, refused EEXIST)
    ∷ [])
unfolding linked_out house sum_below some_below least_below
links_in_order = refl

last_link : Rows small (on_node house 1 (more_links 32762)) ((user0, Mkdir (path "/y") 493, done) ∷ [])
unfolding house sum_below some_below least_below
last_link = refl

-- A directory takes a zone here for each of its two entries, and one for its name: 3. The rest comes first.
no_zone : Rows tight house (
    (user0, Mkdir (path "/y") 493, refused ENOSPC)
    ∷ (user0, Mkdir (path "/y") 512, refused EINVAL)
    ∷ (user0, Mkdir (path "/d") 493, refused EEXIST)
    ∷ (other, Mkdir (path "/y") 493, refused EACCES)
    ∷ [])
unfolding house sum_below some_below least_below
no_zone = refl

two_zones : Rows (record tight { zones = 21 }) house ((user0, Mkdir (path "/y") 493, refused ENOSPC) ∷ [])
unfolding house sum_below some_below least_below
two_zones = refl

three_zones : Rows (record tight { zones = 22 }) house ((user0, Mkdir (path "/y") 493, done) ∷ [])
unfolding house sum_below some_below least_below
three_zones = refl

no_zone_no_link : Rows tight linked_out ((user0, Mkdir (path "/y") 493, refused EMLINK) ∷ [])
unfolding linked_out house sum_below some_below least_below
no_zone_no_link = refl

-- the last two inodes are taken
unfoldable no_inode : Tree
no_inode = after house (Mkdir (path "/u") 493 ∷ Mkdir (path "/v") 493 ∷ [])

inodes_spent : Rows small no_inode (
    (user0, Mkdir (path "/y") 493, refused ENOSPC)
    ∷ (user0, Mkdir (path "/u") 493, refused EEXIST)
    ∷ (other, Mkdir (path "/y") 493, refused EACCES)
    ∷ (user0, Mkdir (path "/y") 512, refused EINVAL)
    ∷ [])
unfolding no_inode house sum_below some_below least_below
inodes_spent = refl

-- what mkdir leaves, at 200
after_mkdir : Rows small (tree_after_call small house user0 200 (Mkdir (path "/d/y") 448)) (
    (user0, Stat (path "/d/y"), node_is (record { inode = 7; mode = 16832; links = 2; uid = 0; gid = 0; size = 128; atime = 200; mtime = 200; ctime = 200 }))
    ∷ (user0, Stat (path "/d"), node_is (record { inode = 2; mode = 16877; links = 4; uid = 0; gid = 0; size = 256; atime = 100; mtime = 200; ctime = 200 }))
    ∷ (user0, Stat (path "/d/y/../e"), node_is (record { inode = 3; mode = 16877; links = 2; uid = 0; gid = 0; size = 128; atime = 100; mtime = 100; ctime = 100 }))
    ∷ (user0, Statfs, room_is (record { block_size = 64; zones = 58; free_zones = 42; inodes = 8; free_inodes = 1 }))
    ∷ [])
unfolding house sum_below some_below least_below
after_mkdir = refl

rmdirs : Rows small house (
    (user0, Rmdir (path "/d/e"), done)
    ∷ (user0, Rmdir (path "/none"), refused ENOENT)
    ∷ (user0, Rmdir (path "/f"), refused ENOTDIR)
    ∷ (user0, Rmdir (path "/d"), refused ENOTEMPTY)
    ∷ (user0, Rmdir (path "/p"), refused ENOTEMPTY)
    ∷ (user0, Rmdir (path "/"), refused EINVAL)
    ∷ (user0, Rmdir (path "/d/e/."), refused EINVAL)
    ∷ (user0, Rmdir (path "/d/e/.."), refused EINVAL)
    ∷ (other, Rmdir empty_path, refused ENOENT)
    ∷ (other, Rmdir long_path, refused ENAMETOOLONG)
    ∷ (other, Rmdir (path "d"), refused EINVAL)
    ∷ (other, Rmdir zero_path, refused EINVAL)
    ∷ (other, Rmdir wide_path, refused ENAMETOOLONG)
    ∷ (other, Rmdir (path "/f/x"), refused ENOTDIR)
    ∷ (other, Rmdir (path "/p/x"), refused EACCES)
    ∷ (other, Rmdir (path "/none/x"), refused ENOENT)
    ∷ (other, Rmdir (path "/d/e"), refused EACCES)
    ∷ [])
unfolding house sum_below some_below least_below
rmdirs = refl

rmdir_in_order : Rows small house (
    (other, Rmdir (at (codes "/" ++ replicate 61 97 ++ codes "/.")), refused ENAMETOOLONG)
    ∷ (other, Rmdir (at (replicate 1025 47 ++ codes ".")), refused ENAMETOOLONG)
    ∷ (other, Rmdir (path "/f/."), refused EINVAL)
    ∷ (other, Rmdir (path "/p/.."), refused EINVAL)
    ∷ (other, Rmdir (path "/none/."), refused EINVAL)
    ∷ (other, Rmdir (path "/d/."), refused EINVAL)
    ∷ (other, Rmdir (path "/p/none"), refused EACCES)
    ∷ (other, Rmdir (path "/f/none"), refused ENOTDIR)
    ∷ (other, Rmdir (path "/none"), refused ENOENT)
    ∷ (other, Rmdir (path "/f"), refused EACCES)
    ∷ (other, Rmdir (path "/d"), refused EACCES)
    ∷ [])
unfolding house sum_below some_below least_below
rmdir_in_order = refl

-- /d and /d/e are open
in_use : Rows small (after house (Open (path "/d") (flags 1) 0 ∷ Open (path "/d/e") (flags 1) 0 ∷ [])) (
    (user0, Rmdir (path "/d/e"), refused EBUSY)
    ∷ (user0, Rmdir (path "/d"), refused ENOTEMPTY)
    ∷ (other, Rmdir (path "/d/e"), refused EACCES)
    ∷ (user0, Rmdir (path "/d/e/."), refused EINVAL)
    ∷ [])
unfolding house sum_below some_below least_below
in_use = refl

-- what rmdir leaves, at 200
after_rmdir : Rows small (tree_after_call small house user0 200 (Rmdir (path "/d/e"))) (
    (user0, Stat (path "/d"), node_is (record { inode = 2; mode = 16877; links = 2; uid = 0; gid = 0; size = 128; atime = 100; mtime = 200; ctime = 200 }))
    ∷ (user0, Stat (path "/d/e"), refused ENOENT)
    ∷ (user0, Statfs, room_is (record { block_size = 64; zones = 58; free_zones = 48; inodes = 8; free_inodes = 3 }))
    ∷ [])
unfolding house sum_below some_below least_below
after_rmdir = refl
