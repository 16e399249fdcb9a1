-- Symbolic links: symlink, readlink and lstat, and what each call does where a link stands last or in the middle.
use Rattle.std.proofs.Common.{◌≡◌, ◌++◌, ℕ, List, [], ◌∷◌, refl, codes, replicate}
use Prim.Native.String.{String}
use Rattle.std.specs.Prelude.{None, Some, true}
use Rattle.errno.specs.declared.Errno.{Errno}
use Rattle.errno.specs.declared.Errno.TheVariants.{EPERM, ENOENT, EACCES, EEXIST, ENOTDIR, EISDIR, EINVAL, ENAMETOOLONG, ELOOP}
use Rattle.layout.specs.declared.Geometry.{Geometry}
use Rattle.tree.specs.declared.Call.{Call}
use Rattle.tree.specs.declared.Call.TheVariants.{Open, Stat, Link, Unlink, Mkdir, Rmdir, Rename, Chmod, Chown, Utime, Truncate, Statfs}
use Rattle.tree.specs.declared.Call.TheVariants.{Symlink, Readlink, Lstat}
use Rattle.lemmas.specs.Sums.{put, sum_below, some_below, least_below}
use Rattle.tree.specs.Tree.{Node, is_file, Tree}
use Rattle.tree.specs.Changes.{target_file}
use Rattle.tree.specs.Answers.{Answer, refused, done, some_bytes, descriptor, node_is, room_is}
use Rattle.tests_definitions.proofs.SmallTrees.{bytes, text, small, start, user0, other, at, path, flags, after, folder, no_bytes, Row, Rows}

-- a link with a target
abbrev link_to : List ℕ → Node
link_to target = record (no_bytes 511) { symbolic = true; body = is_file (target_file target) }

-- the attributes of a link of so many bytes, and of a directory with its links, size and time of access
abbrev of_link : ℕ → ℕ → Answer
of_link n size =
    node_is (record { inode = n; mode = 41471; links = 1; uid = 0; gid = 0; size = size; atime = 100; mtime = 100; ctime = 100 })

abbrev of_folder : ℕ → ℕ → ℕ → ℕ → Answer
of_folder n links size atime = node_is (record {
  inode = n;
  mode = 16877;
  links = links;
  uid = 0;
  gid = 0;
  size = size;
  atime = atime;
  mtime = 100;
  ctime = 100;
})

-- a link to nothing
unfoldable linked : Tree
linked = after start (Symlink (text "d") (path "/l") ∷ [])

fresh : Rows small linked (
    (user0, Lstat (path "/l"), of_link 2 1)
    ∷ (user0, Readlink (path "/l"), some_bytes (100 ∷ []))
    ∷ (user0, Stat (path "/l"), refused ENOENT)
    ∷ (user0, Open (path "/l") (flags 11) 420, refused ENOENT)
    ∷ (user0, Open (path "/l") (flags 27) 420, refused EEXIST)
    ∷ (user0, Readlink (path "/"), refused EINVAL)
    ∷ (user0, Statfs, room_is (record { block_size = 64; zones = 58; free_zones = 54; inodes = 8; free_inodes = 6 }))
    ∷ [])
unfolding linked sum_below some_below least_below
fresh = refl

-- then a directory there
unfoldable pointed : Tree
pointed = after start (Symlink (text "d") (path "/l") ∷ Mkdir (path "/d") 493 ∷ [])

led : Rows small pointed (
    (user0, Stat (path "/l"), of_folder 3 2 128 100)
    ∷ (user0, Stat (path "/l/.."), of_folder 1 3 256 50)
    ∷ (user0, Lstat (path "/l/."), of_folder 3 2 128 100)
    ∷ (user0, Lstat (path "/l/"), of_link 2 1)
    ∷ (user0, Open (path "/l") (flags 3) 0, refused EISDIR)
    ∷ (user0, Rmdir (path "/l"), refused ENOTDIR)
    ∷ (user0, Unlink (path "/l"), done)
    ∷ (user0, Link (path "/l") (path "/m"), done)
    ∷ (user0, Mkdir (path "/l/x") 493, done)
    ∷ (user0, Mkdir (path "/l") 493, refused EEXIST)
    ∷ (user0, Symlink (text "x") (path "/l"), refused EEXIST)
    ∷ (user0, Truncate (path "/l") 0, refused EISDIR)
    ∷ [])
unfolding pointed sum_below some_below least_below
led = refl

-- The root has /a, a directory that other users may not search, with the file /a/x and the link /a/up to ../f; the file /f; and links:
-- /s0 to /, /s1 to s0, and so on to /s8; /x to itself; /in to a/x; /up to a/up; /w to a name of 61 bytes; /v to one of 60.
unfoldable many : Tree
many = record {
  nodes =
      put (put (put (put (put (put (put (put (put (put (put (put (put (put (put (put (put (put (put (λ n. None)
      1 (Some (folder 493 3 50 1 (
      (codes "a", 2) ∷ (codes "f", 4) ∷ (codes "in", 16) ∷ (codes "s0", 6) ∷ (codes "s1", 7) ∷ (codes "s2", 8) ∷ (codes "s3", 9)
      ∷ (codes "s4", 10) ∷ (codes "s5", 11) ∷ (codes "s6", 12) ∷ (codes "s7", 13) ∷ (codes "s8", 14) ∷ (codes "up", 17) ∷ (codes "v", 19)
      ∷ (codes "w", 18) ∷ (codes "x", 15) ∷ []))))
      2 (Some (folder 448 2 100 1 ((codes "up", 5) ∷ (codes "x", 3) ∷ []))))
      3 (Some (no_bytes 420)))
      4 (Some (no_bytes 420)))
      5 (Some (link_to (codes "../f"))))
      6 (Some (link_to (codes "/"))))
      7 (Some (link_to (codes "s0"))))
      8 (Some (link_to (codes "s1"))))
      9 (Some (link_to (codes "s2"))))
      10 (Some (link_to (codes "s3"))))
      11 (Some (link_to (codes "s4"))))
      12 (Some (link_to (codes "s5"))))
      13 (Some (link_to (codes "s6"))))
      14 (Some (link_to (codes "s7"))))
      15 (Some (link_to (codes "x"))))
      16 (Some (link_to (codes "a/x"))))
      17 (Some (link_to (codes "a/up"))))
      18 (Some (link_to (replicate 61 97))))
      19 (Some (link_to (replicate 60 97)));
  open_files = λ k. None;
  descriptors = λ s fd. None;
}

-- the attributes of the root, of /f and of /a/x
abbrev of_root : Answer
of_root = of_folder 1 3 1152 50

abbrev of_file : ℕ → Answer
of_file n = node_is (record { inode = n; mode = 33188; links = 1; uid = 0; gid = 0; size = 0; atime = 100; mtime = 100; ctime = 100 })

-- eight links are followed, and the ninth is refused, before its target's lengths are looked at
eight : Rows small many (
    (user0, Stat (path "/s7"), of_root)
    ∷ (user0, Stat (path "/s8"), refused ELOOP)
    ∷ (user0, Stat (path "/s7/f"), of_file 4)
    ∷ (user0, Stat (path "/s6/in"), of_file 3)
    ∷ (user0, Stat (path "/s7/in"), refused ELOOP)
    ∷ (user0, Stat (path "/s7/w"), refused ELOOP)
    ∷ (user0, Lstat (path "/s7/w"), of_link 18 61)
    ∷ (user0, Lstat (path "/s8/w"), refused ELOOP)
    ∷ (user0, Stat (path "/w"), refused ENAMETOOLONG)
    ∷ (user0, Stat (path "/v"), refused ENOENT)
    ∷ (user0, Stat (path "/x"), refused ELOOP)
    ∷ (user0, Open (path "/x") (flags 9) 420, refused ELOOP)
    ∷ (user0, Open (path "/x") (flags 25) 420, refused EEXIST)
    ∷ (user0, Unlink (path "/x"), done)
    ∷ [])
unfolding many sum_below some_below least_below
eight = refl

-- relative targets are walked from where the link stands; the link's own directory is asked, the link isn't
ways : Rows small many (
    (user0, Stat (path "/up"), of_file 4)
    ∷ (user0, Stat (path "/a/up"), of_file 4)
    ∷ (user0, Stat (path "/up/.."), refused ENOTDIR)
    ∷ (user0, Stat (path "/s0/s0//s0/../f/"), of_file 4)
    ∷ (user0, Stat (path "/in"), of_file 3)
    ∷ (other, Stat (path "/in"), refused EACCES)
    ∷ (other, Stat (path "/up"), refused EACCES)
    ∷ (other, Lstat (path "/in"), of_link 16 3)
    ∷ (other, Readlink (path "/in"), some_bytes (codes "a/x"))
    ∷ (other, Readlink (path "/a/up"), refused EACCES)
    ∷ (other, Readlink (path "/f"), refused EINVAL)
    ∷ (other, Readlink (path "/g"), refused ENOENT)
    ∷ (other, Open (path "/in") (flags 1) 0, refused EACCES)
    ∷ (user0, Open (path "/in") (flags 35) 0, descriptor 0)
    ∷ (other, Chmod (path "/up") 0, refused EACCES)
    ∷ (user0, Chmod (path "/up") 0, done)
    ∷ (user0, Chown (path "/x") 1 1, refused ELOOP)
    ∷ (user0, Utime (path "/w") 1 1, refused ENAMETOOLONG)
    ∷ (user0, Truncate (path "/v") 0, refused ENOENT)
    ∷ (user0, Truncate (path "/in") 0, done)
    ∷ [])
unfolding many sum_below some_below least_below
ways = refl

-- symlink's refusals, in their order
refusals : Rows small many (
    (other, Symlink (bytes []) (at []), refused ENOENT)
    ∷ (other, Symlink (bytes (replicate 1024 0)) (at []), refused ENAMETOOLONG)
    ∷ (other, Symlink (bytes (replicate 1023 0)) (at []), refused EINVAL)
    ∷ (other, Symlink (bytes (replicate 1023 47)) (path "f"), refused EINVAL)
    ∷ (other, Symlink (text "x") (path "/f/g"), refused ENOTDIR)
    ∷ (other, Symlink (text "x") (path "/a/g"), refused EACCES)
    ∷ (other, Symlink (text "x") (path "/f"), refused EEXIST)
    ∷ (other, Symlink (text "x") (path "/s1"), refused EEXIST)
    ∷ (other, Symlink (text "x") (path "/"), refused EEXIST)
    ∷ (other, Symlink (text "x") (path "/.."), refused EEXIST)
    ∷ (other, Symlink (text "x") (path "/g"), refused EACCES)
    ∷ (other, Readlink (at []), refused ENOENT)
    ∷ (other, Lstat (path "f"), refused EINVAL)
    ∷ [])
unfolding many sum_below some_below least_below
refusals = refl

-- a link is moved, and is replaced, as a file
moved : Rows small pointed (
    (user0, Rename (path "/l") (path "/m"), done)
    ∷ (user0, Rename (path "/l") (path "/d"), refused EISDIR)
    ∷ (user0, Rename (path "/d") (path "/l"), refused ENOTDIR)
    ∷ (user0, Rename (path "/l") (path "/l/m"), done)
    ∷ [])
unfolding pointed sum_below some_below least_below
moved = refl
