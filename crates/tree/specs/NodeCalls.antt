-- Calls on a node that is there. Each line of a do block is one refusal, in their order.
use Rattle.std.specs.Prelude.{ℕ, not, ◌==◌, nat_lt, Some, Result, Ok, Err}
use Rattle.layout.specs.declared.Geometry.{Geometry}
use Rattle.errno.specs.declared.Errno.{Errno}
use Rattle.errno.specs.declared.Errno.TheVariants.{EPERM, EACCES, EISDIR, EINVAL, EFBIG}
use Rattle.tree.specs.declared.PathFrom.{PathFrom}
use Rattle.tree.specs.declared.User.{User}
use Rattle.tree.specs.declared.Attributes.{Attributes}
use Rattle.tree.specs.Tree.{File, is_file, is_directory, Node, Tree, target_of, with_node, mode_of, size_of, most_size, most_permissions}
use Rattle.tree.specs.Space.{data_zones, free_zones, free_inodes}
use Rattle.tree.specs.Refusals.{◌>>=◌, or_refuse, refuse_if}
use Rattle.tree.specs.Walk.{walk, walk_to_last, read_path, node_at, may_access, to_write, is_owner}
use Rattle.tree.specs.Changes.{with_ctime, with_body, file_after_resize}
use Rattle.tree.specs.Answers.{done, some_bytes, node_is, room_is, Effect}

-- what stat tells of node n
abbrev pub attributes_of : ℕ → Node → Attributes
attributes_of n node = record {
  inode = n;
  mode = mode_of node;
  links = node.links;
  uid = node.uid;
  gid = node.gid;
  size = size_of node.body;
  atime = node.atime;
  mtime = node.mtime;
  ctime = node.ctime;
}

-- the file that a node is, or the refusal of a directory
abbrev pub file_or : Node → Errno → Result File Errno
file_or node e = elim node.body [ is_file f ↦ Ok f | is_directory d ↦ Err e ]

-- stat
abbrev pub stat : Tree → User → PathFrom → Effect
stat t user path = do
  n ← walk t user path
  node ← node_at t n
  Ok (node_is (attributes_of n node), t)

-- lstat: of a link that stands last, its own attributes
abbrev pub lstat : Tree → User → PathFrom → Effect
lstat t user path = do
  way ← read_path path
  n ← walk_to_last t user way
  node ← node_at t n
  Ok (node_is (attributes_of n node), t)

-- readlink: the target of a link that stands last
abbrev pub readlink : Tree → User → PathFrom → Effect
readlink t user path = do
  way ← read_path path
  n ← walk_to_last t user way
  target ← or_refuse (target_of (t.nodes n)) EINVAL
  Ok (some_bytes target, t)

-- chmod: the permissions; the type stays
abbrev pub chmod : Tree → User → ℕ → PathFrom → ℕ → Effect
chmod t user now path mode = do
  _ ← refuse_if (nat_lt most_permissions mode) EINVAL
  n ← walk t user path
  node ← node_at t n
  _ ← refuse_if (not (is_owner user node)) EPERM
  Ok (done, with_node t n (Some (with_ctime now (record node { permissions = mode }))))

-- chown: for user 0 alone
abbrev pub chown : Tree → User → ℕ → PathFrom → ℕ → ℕ → Effect
chown t user now path uid gid = do
  n ← walk t user path
  node ← node_at t n
  _ ← refuse_if (not (user.uid == 0)) EPERM
  Ok (done, with_node t n (Some (with_ctime now (record node { uid = uid; gid = gid }))))

-- utime: both times as given, and the change of attributes at `now`
abbrev pub utime : Tree → User → ℕ → PathFrom → ℕ → ℕ → Effect
utime t user now path atime mtime = do
  n ← walk t user path
  node ← node_at t n
  _ ← refuse_if (not (is_owner user node)) EPERM
  Ok (done, with_node t n (Some (with_ctime now (record node { atime = atime; mtime = mtime }))))

-- Truncate: another size. A link is met only where it is the start itself.
abbrev pub truncate : Geometry → Tree → User → ℕ → PathFrom → ℕ → Effect
truncate g t user now path size = do
  _ ← refuse_if (nat_lt most_size size) EFBIG
  n ← walk t user path
  node ← node_at t n
  f ← file_or node EISDIR
  _ ← refuse_if node.symbolic EISDIR
  _ ← refuse_if (not (may_access user node to_write)) EACCES
  Ok (done, with_node t n (Some (with_body now (is_file (file_after_resize g f size)) node)))

-- statfs: the data zones and the inodes, and how many of each are free
abbrev pub statfs : Geometry → Tree → Effect
statfs g t = Ok (
  room_is (record {
    block_size = g.block_size;
    zones = data_zones g;
    free_zones = free_zones g t;
    inodes = g.inodes;
    free_inodes = free_inodes g t;
  }),
  t,
)
