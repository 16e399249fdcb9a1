-- Calls on open files. Each line of a do block is one refusal, in their order.
use Rattle.std.specs.Prelude.{ℕ, ℤ, pos, negsuc, ◌+◌, ◌-◌, List, length, not, ◌&&◌, ◌||◌, ◌==◌, nat_lt, Option, None, Some, Result, Ok, Err, if◌then◌else◌}
use Rattle.layout.specs.declared.Geometry.{Geometry}
use Rattle.errno.specs.declared.Errno.{Errno}
use Rattle.errno.specs.declared.Errno.TheVariants.{ENOENT, EBADF, EACCES, EEXIST, ENOTDIR, EISDIR, EINVAL, ENFILE, EMFILE, EFBIG, ELOOP}
use Rattle.tree.specs.declared.PathFrom.{PathFrom}
use Rattle.tree.specs.declared.User.{User}
use Rattle.tree.specs.declared.Whence.{Whence}
use Rattle.tree.specs.declared.Whence.TheVariants.{Set, Cur, End}
use Rattle.tree.specs.Names.{Names}
use Rattle.tree.specs.Flags.{reads, writes, appends, creates, is_exclusive, truncates, bad_flags}
pub use Rattle.tree.specs.Tree.{bytes_from}
use Rattle.tree.specs.Tree.{File, is_file, is_directory, Node, Tree, is_dir, with_node, with_open_file, with_descriptor, most_descriptors, most_open_files, most_bytes, most_size, most_permissions}
use Rattle.tree.specs.Refusals.{◌>>=◌, or_refuse, refuse_if, free_place}
use Rattle.tree.specs.Walk.{read_path, node_at, Found, is_there, is_missing, open_look_up, may_access, to_read, to_write}
use Rattle.tree.specs.Changes.{new_node, empty_file, free_inode, with_body, file_after_write, file_after_resize, open_file_of, without_unused, without_nameless, at_position}
use Rattle.tree.specs.Answers.{done, descriptor, some_bytes, wrote, position, node_is, names_are, Effect, if_it_fits}
use Rattle.tree.specs.NodeCalls.{attributes_of, file_or}
use Rattle.tree.specs.NameCalls.{with_entry}

-- Open and its kin.

-- where a call that opens puts the file: the session, its descriptor, the open file's number
pub record Slot : Type 0 where
  pub session : ℕ
  pub fd : ℕ
  pub number : ℕ

-- the tree in which the node is open, at position 0
abbrev pub with_open : Tree → Slot → ℕ → ℕ → Tree
with_open t slot n flags =
    with_descriptor (with_open_file t slot.number (Some (record { inode = n; position = 0; flags = flags })))
    slot.session slot.fd (Some slot.number)

-- the tree after open's truncate flag, if it is set: the file is empty, changed at `now`
abbrev pub after_truncate_flag : Geometry → Tree → ℕ → ℕ → ℕ → Node → Tree
after_truncate_flag g t now flags n node = elim node.body [
  | is_file f ↦ if truncates flags then with_node t n (Some (with_body now (is_file (file_after_resize g f 0)) node)) else t
  | is_directory d ↦ t
]

-- The effect of open on a node that is there, and on a name that is missing. A link is met only where it is the start itself.
abbrev pub open_found : Geometry → Tree → User → ℕ → Slot → ℕ → ℕ → Found → Effect
open_found g t user now slot flags mode (is_there n) = do
  _ ← refuse_if (creates flags && is_exclusive flags) EEXIST
  node ← node_at t n
  _ ← refuse_if node.symbolic ELOOP
  _ ← refuse_if (is_dir node && writes flags) EISDIR
  _ ← refuse_if ((reads flags && not (may_access user node to_read)) || (writes flags && not (may_access user node to_write))) EACCES
  Ok (descriptor slot.fd, with_open (after_truncate_flag g t now flags n node) slot n flags)
open_found g t user now slot flags mode (is_missing place) = do
  _ ← refuse_if (not (creates flags)) ENOENT
  parent ← node_at t place.directory
  _ ← refuse_if (not (may_access user parent to_write)) EACCES
  n ← free_inode g t
  if_it_fits g (descriptor slot.fd)
      (with_open (with_entry (with_node t n (Some (new_node now user mode 1 empty_file))) now place n) slot n flags)

-- open: its flags and mode, the room for one more open file, the path, then what is found there. A link that stands last is
-- followed, but for c with x.
abbrev pub open_path : Geometry → Tree → User → ℕ → ℕ → PathFrom → ℕ → ℕ → Effect
open_path g t user now session path flags mode = do
  _ ← refuse_if (bad_flags flags || nat_lt most_permissions mode) EINVAL
  fd ← free_place (t.descriptors session) most_descriptors EMFILE
  k ← free_place t.open_files most_open_files ENFILE
  way ← read_path path
  found ← open_look_up t user (creates flags && is_exclusive flags) way
  open_found g t user now (record { session = session; fd = fd; number = k }) flags mode found

-- close: the last close of a file without a name frees it
abbrev pub close : Tree → ℕ → ℕ → Effect
close t session fd = do
  found ← open_file_of t session fd
  Ok (done, without_nameless (without_unused (with_descriptor t session fd None) found.0) found.1.inode)

-- dup: the lowest free descriptor leads to the same open file
abbrev pub dup : Tree → ℕ → ℕ → Effect
dup t session fd = do
  found ← open_file_of t session fd
  other ← free_place (t.descriptors session) most_descriptors EMFILE
  Ok (descriptor other, with_descriptor t session other (Some found.0))

-- Bytes and names.

-- the bytes up to the end, count of them at most
abbrev pub bytes_read : File → ℕ → ℕ → List ℕ
bytes_read f at count = bytes_from f.byte at (if nat_lt (f.size - at) count then f.size - at else count)

-- read: the position moves on by the bytes read, and no time changes
abbrev pub read : Tree → ℕ → ℕ → ℕ → Effect
read t session fd count = do
  found ← open_file_of t session fd
  let o = found.1 in do
    _ ← refuse_if (not (reads o.flags)) EBADF
    node ← node_at t o.inode
    f ← file_or node EISDIR
    _ ← refuse_if (nat_lt most_bytes count) EINVAL
    let bytes = bytes_read f o.position count in
        Ok (some_bytes bytes, at_position t found.0 o (o.position + length bytes))

-- write: all the bytes, at the position or with the append flag at the end; no bytes change nothing.
-- A directory is never open for writing, and a link never open, so the EBADF of one isn't met.
abbrev pub write : Geometry → Tree → ℕ → ℕ → ℕ → List ℕ → Effect
write g t now session fd bytes = do
  found ← open_file_of t session fd
  let o = found.1 in do
    _ ← refuse_if (not (writes o.flags)) EBADF
    _ ← refuse_if (nat_lt most_bytes (length bytes)) EINVAL
    node ← node_at t o.inode
    f ← file_or node EBADF
    _ ← refuse_if node.symbolic EBADF
    let at = if appends o.flags then f.size else o.position in do
      _ ← refuse_if (nat_lt most_size (at + length bytes)) EFBIG
      if length bytes == 0 then Ok (wrote 0, t) else
          if_it_fits g (wrote (length bytes))
          (at_position (with_node t o.inode (Some (with_body now (is_file (file_after_write g f at bytes)) node)))
          found.0 o (at + length bytes))

-- the place from which a seek counts: the start, the position or the end
abbrev pub seek_base : File → ℕ → Whence → ℕ
seek_base f at Set = 0
seek_base f at Cur = at
seek_base f at End = f.size

-- so far on or back from there, and not below 0; `negsuc k` is -(k + 1)
abbrev pub seek_place : ℕ → ℤ → Option ℕ
seek_place base (pos k) = Some (base + k)
seek_place base (negsuc k) = if nat_lt k base then Some (base - (k + 1)) else None

-- seek: the new position, which may lie past the end
abbrev pub seek : Tree → ℕ → ℕ → Whence → ℤ → Effect
seek t session fd whence offset = do
  found ← open_file_of t session fd
  let o = found.1 in do
    node ← node_at t o.inode
    f ← file_or node EISDIR
    at ← or_refuse (seek_place (seek_base f o.position whence) offset) EINVAL
    _ ← refuse_if (nat_lt most_size at) EINVAL
    Ok (position at, at_position t found.0 o at)

-- fstat: the attributes of the node of an open file
abbrev pub fstat : Tree → ℕ → ℕ → Effect
fstat t session fd = do
  found ← open_file_of t session fd
  node ← node_at t found.1.inode
  Ok (node_is (attributes_of found.1.inode node), t)

-- the names of a directory, or the refusal of a file
abbrev pub names_or : Node → Errno → Result Names Errno
names_or node e = elim node.body [ is_file f ↦ Err e | is_directory d ↦ Ok d.names ]

-- readdir: all names but . and .., with their inodes, in the order of their bytes
abbrev pub readdir : Tree → ℕ → ℕ → Effect
readdir t session fd = do
  found ← open_file_of t session fd
  _ ← refuse_if (not (reads found.1.flags)) EBADF
  node ← node_at t found.1.inode
  names ← names_or node ENOTDIR
  Ok (names_are names, t)
