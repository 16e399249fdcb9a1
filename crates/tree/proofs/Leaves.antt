-- Calls that leave the tree.
use Rattle.std.proofs.Common.{◌≡◌, ℕ, refl, ap}
use Rattle.std.specs.Prelude.{Result, Ok, Err, nat_le, not}
use Rattle.lemmas.proofs.Bools.{false_not_true}
use Rattle.errno.specs.declared.Errno.TheVariants.{EINVAL, EBADF, ENOTDIR}
use Rattle.tree.specs.declared.PathFrom.{PathFrom}
use Rattle.tree.specs.declared.User.{User}
use Rattle.tree.specs.declared.Who.{Who}
use Rattle.errno.specs.declared.Errno.{Errno}
use Rattle.tree.specs.declared.Call.TheVariants.{Open, Close, Dup, Read, Write, Seek, Stat, Fstat, Link, Unlink, Mkdir, Rmdir, Rename}
use Rattle.tree.specs.declared.Call.TheVariants.{Chmod, Chown, Utime, Truncate, Readdir, Sync, Statfs, Symlink, Readlink, Lstat}
use Rattle.tree.specs.Tree.{Tree, target_of, most_sessions}
use Rattle.tree.specs.Refusals.{◌>>=◌, or_refuse, refuse_if}
use Rattle.tree.specs.Answers.{Answer, refused, some_bytes, node_is, names_are, Effect}
use Rattle.tree.specs.Flags.{reads}
use Rattle.tree.specs.Walk.{walk, walk_to_last, read_path, node_at}
use Rattle.tree.specs.Changes.{open_file_of}
use Rattle.tree.specs.NodeCalls.{stat, lstat, readlink, attributes_of}
use Rattle.tree.specs.FileCalls.{fstat, readdir, names_or}
use Rattle.tree.specs.Effects.{effect_in_session, user_of}
use Rattle.tree.specs.Laws.{RefusedLeaves, LooksLeave}

-- what a call with that effect answers, and the tree it leaves
abbrev answer_after : Effect → Answer
answer_after o = elim o [ Ok made ↦ made.0 | Err e ↦ refused e ]

abbrev tree_after : Tree → Effect → Tree
tree_after t o = elim o [ Ok made ↦ made.1 | Err e ↦ t ]

-- the law of refused calls
pub refused_leaves : RefusedLeaves
refused_leaves g t who now call e h = (ap answer_after h, ap (tree_after t) h)

-- an effect_of that leaves the tree
record Leaves (t : Tree) (o : Effect) : Type 0 where
  same : tree_after t o ≡ t

-- an answer with the same tree leaves it
answered : (t : Tree) (a : Answer) → Leaves t (Ok (a, t))
answered t a = record { same = refl }

-- what leaves the tree at each value leaves it after a step
bound : {A : Type 0} (t : Tree) (r : Result A Errno) (f : A → Effect) → ((x : A) → Leaves t (f x)) → Leaves t (r >>= f)
bound t (Ok x) f h = h x
bound t (Err e) f h = record { same = refl }

-- stat leaves the tree
stat_leaves : (t : Tree) (user : User) (path : PathFrom) → Leaves t (stat t user path)
stat_leaves t user path =
    bound t (walk t user path) (λ n. node_at t n >>= λ node. Ok (node_is (attributes_of n node), t)) (λ n.
    bound t (node_at t n) (λ node. Ok (node_is (attributes_of n node), t)) (λ node. answered t _))

-- lstat leaves the tree
lstat_leaves : (t : Tree) (user : User) (path : PathFrom) → Leaves t (lstat t user path)
lstat_leaves t user path =
    bound t (read_path path) (λ parts. walk_to_last t user parts >>= λ n. node_at t n >>= λ node. Ok (node_is (attributes_of n node), t))
    (λ parts.
    bound t (walk_to_last t user parts) (λ n. node_at t n >>= λ node. Ok (node_is (attributes_of n node), t)) (λ n.
    bound t (node_at t n) (λ node. Ok (node_is (attributes_of n node), t)) (λ node. answered t _)))

-- readlink leaves the tree
readlink_leaves : (t : Tree) (user : User) (path : PathFrom) → Leaves t (readlink t user path)
readlink_leaves t user path =
    bound t (read_path path) (λ parts. walk_to_last t user parts >>= λ n. or_refuse (target_of (t.nodes n)) EINVAL
    >>= λ target. Ok (some_bytes target, t)) (λ parts.
    bound t (walk_to_last t user parts) (λ n. or_refuse (target_of (t.nodes n)) EINVAL >>= λ target. Ok (some_bytes target, t)) (λ n.
    bound t (or_refuse (target_of (t.nodes n)) EINVAL) (λ target. Ok (some_bytes target, t)) (λ target. answered t _)))

-- fstat leaves the tree
fstat_leaves : (t : Tree) (session fd : ℕ) → Leaves t (fstat t session fd)
fstat_leaves t session fd =
    bound t (open_file_of t session fd) (λ found. node_at t found.1.inode >>= λ node. Ok (node_is (attributes_of found.1.inode node), t)) (λ found.
    bound t (node_at t found.1.inode) (λ node. Ok (node_is (attributes_of found.1.inode node), t)) (λ node. answered t _))

-- readdir leaves the tree
readdir_leaves : (t : Tree) (session fd : ℕ) → Leaves t (readdir t session fd)
readdir_leaves t session fd =
    bound t (open_file_of t session fd) (λ found. refuse_if (not (reads found.1.flags)) EBADF >>= λ _. node_at t found.1.inode >>= λ node. names_or node ENOTDIR >>= λ names. Ok (names_are names, t)) (λ found.
    bound t (refuse_if (not (reads found.1.flags)) EBADF) (λ _. node_at t found.1.inode >>= λ node. names_or node ENOTDIR >>= λ names. Ok (names_are names, t)) (λ _.
    bound t (node_at t found.1.inode) (λ node. names_or node ENOTDIR >>= λ names. Ok (names_are names, t)) (λ node.
    bound t (names_or node ENOTDIR) (λ names. Ok (names_are names, t)) (λ names. answered t _))))

-- the test of the session
abbrev session_refused : Who → Result ℕ Errno
session_refused who = refuse_if (nat_le most_sessions who.session) EINVAL

-- the law of calls that only look
pub looks_leave : LooksLeave
looks_leave g t who now (Stat path) h = (bound t (session_refused who) (λ _. effect_in_session g t who now (Stat path)) (λ _. stat_leaves t (user_of who) path)).same
looks_leave g t who now (Fstat fd) h = (bound t (session_refused who) (λ _. effect_in_session g t who now (Fstat fd)) (λ _. fstat_leaves t who.session fd)).same
looks_leave g t who now (Readdir fd) h = (bound t (session_refused who) (λ _. effect_in_session g t who now (Readdir fd)) (λ _. readdir_leaves t who.session fd)).same
looks_leave g t who now Sync h = (bound t (session_refused who) (λ _. effect_in_session g t who now Sync) (λ _. answered t _)).same
looks_leave g t who now Statfs h = (bound t (session_refused who) (λ _. effect_in_session g t who now Statfs) (λ _. answered t _)).same
looks_leave g t who now (Readlink path) h =
    (bound t (session_refused who) (λ _. effect_in_session g t who now (Readlink path))
    (λ _. readlink_leaves t (user_of who) path)).same
looks_leave g t who now (Lstat path) h =
    (bound t (session_refused who) (λ _. effect_in_session g t who now (Lstat path)) (λ _. lstat_leaves t (user_of who) path)).same
looks_leave g t who now (Symlink target path) h = absurd (false_not_true h)
looks_leave g t who now (Open path flags mode) h = absurd (false_not_true h)
looks_leave g t who now (Close fd) h = absurd (false_not_true h)
looks_leave g t who now (Dup fd) h = absurd (false_not_true h)
looks_leave g t who now (Read fd count) h = absurd (false_not_true h)
looks_leave g t who now (Write fd bytes) h = absurd (false_not_true h)
looks_leave g t who now (Seek fd whence offset) h = absurd (false_not_true h)
looks_leave g t who now (Link old new) h = absurd (false_not_true h)
looks_leave g t who now (Unlink path) h = absurd (false_not_true h)
looks_leave g t who now (Mkdir path mode) h = absurd (false_not_true h)
looks_leave g t who now (Rmdir path) h = absurd (false_not_true h)
looks_leave g t who now (Rename old new) h = absurd (false_not_true h)
looks_leave g t who now (Chmod path mode) h = absurd (false_not_true h)
looks_leave g t who now (Chown path uid gid) h = absurd (false_not_true h)
looks_leave g t who now (Utime path atime mtime) h = absurd (false_not_true h)
looks_leave g t who now (Truncate path size) h = absurd (false_not_true h)
