-- What holds of the refusals and of the successes of the calls on a node, and of unlink, holds of the calls.
use Rattle.std.proofs.Common.{◌≡◌, ◌≤◌, ℕ, List, Bool, true, false, refl, ap}
use Rattle.std.specs.Prelude.{Some, Ok, not, ◌==◌, nat_lt}
use Rattle.std.proofs.lemmas.Bool.{ltb-false}
use Rattle.layout.specs.declared.Geometry.{Geometry}
use Rattle.errno.specs.declared.Errno.{Errno}
use Rattle.errno.specs.declared.Errno.TheVariants.{EPERM, ENOENT, EACCES, EISDIR, EINVAL, EFBIG}
use Rattle.tree.specs.declared.PathFrom.{PathFrom}
use Rattle.tree.specs.declared.User.{User}
use Rattle.tree.specs.Names.{inode_of}
use Rattle.tree.specs.Tree.{Body, File, is_file, is_directory, Node, Tree, target_of, is_dir, with_node, most_size, most_permissions}
use Rattle.tree.specs.Refusals.{◌>>=◌, or_refuse, refuse_if}
use Rattle.tree.specs.Walk.{read_path, walk, walk_to_last, parent_walk, node_at, has_last_name, Place, may_access, to_write, is_owner, Way}
use Rattle.tree.specs.Changes.{with_ctime, with_body, file_after_resize}
use Rattle.tree.specs.Answers.{done, some_bytes, node_is}
use Rattle.tree.specs.NodeCalls.{attributes_of, file_or, stat, lstat, readlink, chmod, chown, utime, truncate}
use Rattle.tree.specs.NameCalls.{without_entry, with_name_lost, unlink}
use Rattle.tree.proofs.Steps.{passed, was_there, not_refused, ok_is}
use Rattle.tree.proofs.Outcomes.{Effects, IsClosed, is_enospc, is_plain, plain_refuse, plain_or, plain_node, plain_read, plain_walk}
use Rattle.tree.proofs.Outcomes.{plain_walk_to_last, plain_parent_walk}

-- The file that a node is.

-- a node that is taken for a file is one
file_in : (e : Errno) (body : Body) (node : Node) (f : File) → file_or (record node { body = body }) e ≡ Ok f → body ≡ is_file f
file_in e (is_file x) node f h = ap is_file (ok_is x f (Ok x) refl h)
file_in e (is_directory d) node f h = absurd (not_refused e f h)

-- the file that it is
pub file_is : (node : Node) (e : Errno) (f : File) → file_or node e ≡ Ok f → node.body ≡ is_file f
file_is node e f h = file_in e node.body node f h

-- taking a node for a file doesn't ask for room
plain_in : (e : Errno) → is_enospc e ≡ false → (body : Body) (node : Node) → is_plain (file_or (record node { body = body }) e) ≡ true
plain_in e h (is_file x) node = refl
plain_in e h (is_directory d) node = ap not h

-- nor does taking a whole node
pub plain_file : (node : Node) (e : Errno) → is_enospc e ≡ false → is_plain (file_or node e) ≡ true
plain_file node e h = plain_in e h node.body node

module _ (t : Tree) (user : User) (now : ℕ) (P : Effects → Type 0) (steps : IsClosed P) where
  -- a node that a path leads to
  found_each : (path : PathFrom) (f : ℕ → Node → Effects) → ((n : ℕ) (node : Node) → t.nodes n ≡ Some node → P (f n node))
      → P (λ z. walk t user path >>= λ n. node_at t n >>= λ node. f n node z)
  found_each path f each =
      steps _ (walk t user path) (λ n z. node_at t n >>= λ node. f n node z) (plain_walk t user path) (λ n _.
      steps _ (node_at t n) (f n) (plain_node t n) (λ node found. each n node (was_there _ _ _ found)))

  -- one that is asked for a right, and changed
  changed_each : (path : PathFrom) (refused : Node → Bool) (change : Node → Node)
      → ((n : ℕ) (node : Node) → t.nodes n ≡ Some node → P (λ z. Ok (done, with_node t n (Some (change node)))))
      → P (λ z. walk t user path >>= λ n. node_at t n >>= λ node. refuse_if (refused node) EPERM >>= λ _. Ok (done, with_node t n (Some (change node))))
  changed_each path refused change each =
      found_each path (λ n node z. refuse_if (refused node) EPERM >>= λ _. Ok (done, with_node t n (Some (change node)))) (λ n node there.
      steps _ (refuse_if (refused node) EPERM) (λ _ z. Ok (done, with_node t n (Some (change node)))) (plain_refuse _ _ refl) (λ _ _. each n node there))

  pub stat_each : (path : PathFrom) → ((n : ℕ) (node : Node) → t.nodes n ≡ Some node → P (λ z. Ok (node_is (attributes_of n node), t))) → P (λ z. stat t user path)
  stat_each path each = found_each path (λ n node z. Ok (node_is (attributes_of n node), t)) each

  -- a node that a path names, as it stands
  module _ (path : PathFrom) (tell : ℕ → Effects) (each : (n : ℕ) → P (tell n)) where
    abbrev named_at : Way → Effects
    named_at parts z = walk_to_last t user parts >>= λ n. tell n z

    named_last : P (λ z. read_path path >>= λ parts. named_at parts z)
    named_last =
        steps _ (read_path path) named_at (plain_read path) (λ parts _.
        steps _ (walk_to_last t user parts) tell (plain_walk_to_last t user parts) (λ n _. each n))

  pub lstat_each : (path : PathFrom) → ((n : ℕ) (node : Node) → P (λ z. Ok (node_is (attributes_of n node), t))) → P (λ z. lstat t user path)
  lstat_each path each = named_last path (λ n z. node_at t n >>= λ node. Ok (node_is (attributes_of n node), t)) (λ n.
      steps _ (node_at t n) (λ node z. Ok (node_is (attributes_of n node), t)) (plain_node t n) (λ node _. each n node))

  pub readlink_each : (path : PathFrom) → ((target : List ℕ) → P (λ z. Ok (some_bytes target, t))) → P (λ z. readlink t user path)
  readlink_each path each = named_last path (λ n z. or_refuse (target_of (t.nodes n)) EINVAL >>= λ target. Ok (some_bytes target, t)) (λ n.
      steps _ (or_refuse (target_of (t.nodes n)) EINVAL) (λ target z. Ok (some_bytes target, t)) (plain_or _ _ refl)
      (λ target _. each target))

  pub chmod_each : (path : PathFrom) (mode : ℕ)
      → (mode ≤ most_permissions → (n : ℕ) (node : Node) → t.nodes n ≡ Some node → P (λ z. Ok (done, with_node t n (Some (with_ctime now (record node { permissions = mode }))))))
      → P (λ z. chmod t user now path mode)
  chmod_each path mode each =
      steps _ (refuse_if (nat_lt most_permissions mode) EINVAL) (λ _ z. walk t user path >>= λ n. node_at t n >>= λ node. refuse_if (not (is_owner user node)) EPERM >>= λ _. Ok (done, with_node t n (Some (with_ctime now (record node { permissions = mode })))))
      (plain_refuse _ _ refl) (λ x fits.
      changed_each path (λ node. not (is_owner user node)) (λ node. with_ctime now (record node { permissions = mode })) (each (ltb-false most_permissions mode (passed _ _ x fits))))

  pub chown_each : (path : PathFrom) (uid gid : ℕ)
      → ((n : ℕ) (node : Node) → t.nodes n ≡ Some node → P (λ z. Ok (done, with_node t n (Some (with_ctime now (record node { uid = uid; gid = gid }))))))
      → P (λ z. chown t user now path uid gid)
  chown_each path uid gid each = changed_each path (λ node. not (user.uid == 0)) (λ node. with_ctime now (record node { uid = uid; gid = gid })) each

  pub utime_each : (path : PathFrom) (atime mtime : ℕ)
      → ((n : ℕ) (node : Node) → t.nodes n ≡ Some node → P (λ z. Ok (done, with_node t n (Some (with_ctime now (record node { atime = atime; mtime = mtime }))))))
      → P (λ z. utime t user now path atime mtime)
  utime_each path atime mtime each = changed_each path (λ node. not (is_owner user node)) (λ node. with_ctime now (record node { atime = atime; mtime = mtime })) each

  -- A file that another size is set of.
  module _ (path : PathFrom) (size : ℕ) (set_size : ℕ → Node → File → Effects)
      (each : (n : ℕ) (node : Node) (f : File) → size ≤ most_size → t.nodes n ≡ Some node → node.body ≡ is_file f → node.symbolic ≡ false
      → P (set_size n node f)) where
    abbrev at_regular : ℕ → Node → File → Effects
    at_regular n node f z = refuse_if (not (may_access user node to_write)) EACCES >>= λ _. set_size n node f z

    abbrev at_file : ℕ → Node → File → Effects
    at_file n node f z = refuse_if node.symbolic EISDIR >>= λ _. at_regular n node f z

    abbrev at_node : ℕ → Node → Effects
    at_node n node z = file_or node EISDIR >>= λ f. at_file n node f z

    sized_each : P (λ z. refuse_if (nat_lt most_size size) EFBIG >>= λ _. walk t user path >>= λ n. node_at t n >>= λ node. at_node n node z)
    sized_each =
        steps _ (refuse_if (nat_lt most_size size) EFBIG) (λ _ z. walk t user path >>= λ n. node_at t n >>= λ node. at_node n node z) (plain_refuse _ _ refl) (λ x fits.
        found_each path at_node (λ n node there.
        steps _ (file_or node EISDIR) (at_file n node) (plain_file node EISDIR refl) (λ f is_f.
        steps _ (refuse_if node.symbolic EISDIR) (λ _. at_regular n node f) (plain_refuse _ _ refl) (λ y regular.
        steps _ (refuse_if (not (may_access user node to_write)) EACCES) (λ _. set_size n node f) (plain_refuse _ _ refl) (λ _ _.
        each n node f (ltb-false most_size size (passed _ _ x fits)) there (file_is node EISDIR f is_f) (passed _ _ y regular))))))

  pub truncate_each : (g : Geometry) (path : PathFrom) (size : ℕ)
      → ((n : ℕ) (node : Node) (f : File) → size ≤ most_size → t.nodes n ≡ Some node → node.body ≡ is_file f → node.symbolic ≡ false
      → P (λ z. Ok (done, with_node t n (Some (with_body now (is_file (file_after_resize g f size)) node)))))
      → P (λ z. truncate g t user now path size)
  truncate_each g path size each = sized_each path size (λ n node f z. Ok (done, with_node t n (Some (with_body now (is_file (file_after_resize g f size)) node)))) each

  -- A file that loses a name.
  pub record IsUnlinked (n : ℕ) (node : Node) (place : Place) : Type 0 where
    pub parts : Way
    pub walked : parent_walk t user parts ≡ Ok place
    pub found : inode_of place.names place.name ≡ Some n
    pub there : t.nodes n ≡ Some node
    pub file : is_dir node ≡ false

  module _ (path : PathFrom) (lose : Place → ℕ → Effects) (each : (n : ℕ) (node : Node) (place : Place) → IsUnlinked n node place → P (lose place n)) where
    abbrev from_node : Place → ℕ → Node → Effects
    from_node place n node z = refuse_if (is_dir node) EPERM >>= λ _. lose place n z

    abbrev from_writable : Place → ℕ → Effects
    from_writable place n z = node_at t n >>= λ node. from_node place n node z

    abbrev from_parent : Place → ℕ → Node → Effects
    from_parent place n parent z = refuse_if (not (may_access user parent to_write)) EACCES >>= λ _. from_writable place n z

    abbrev from_name : Place → ℕ → Effects
    from_name place n z = node_at t place.directory >>= λ parent. from_parent place n parent z

    abbrev from_place : Place → Effects
    from_place place z = or_refuse (inode_of place.names place.name) ENOENT >>= λ n. from_name place n z

    abbrev from_last : Way → Effects
    from_last parts z = parent_walk t user parts >>= λ place. from_place place z

    abbrev from_parts : Way → Effects
    from_parts parts z = refuse_if (not (has_last_name parts)) EINVAL >>= λ _. from_last parts z

    named_each : P (λ z. read_path path >>= λ parts. from_parts parts z)
    named_each =
        steps _ (read_path path) from_parts (plain_read path) (λ parts _.
        steps _ (refuse_if (not (has_last_name parts)) EINVAL) (λ _. from_last parts) (plain_refuse _ _ refl) (λ _ _.
        steps _ (parent_walk t user parts) from_place (plain_parent_walk t user parts) (λ place walked.
        steps _ (or_refuse (inode_of place.names place.name) ENOENT) (from_name place) (plain_or _ _ refl) (λ n named.
        steps _ (node_at t place.directory) (from_parent place n) (plain_node t place.directory) (λ parent _.
        steps _ (refuse_if (not (may_access user parent to_write)) EACCES) (λ _. from_writable place n) (plain_refuse _ _ refl) (λ _ _.
        steps _ (node_at t n) (from_node place n) (plain_node t n) (λ node at_node.
        steps _ (refuse_if (is_dir node) EPERM) (λ _. lose place n) (plain_refuse _ _ refl) (λ x file.
        each n node place (record { parts = parts; walked = walked; found = was_there _ _ _ named; there = was_there _ _ _ at_node; file = passed _ _ x file })))))))))

  pub unlink_each : (path : PathFrom) → ((n : ℕ) (node : Node) (place : Place) → IsUnlinked n node place → P (λ z. Ok (done, with_name_lost (without_entry t now place) now n)))
      → P (λ z. unlink t user now path)
  unlink_each path each = named_each path (λ place n z. Ok (done, with_name_lost (without_entry t now place) now n)) each
