-- Calls on names of directories. Each line of a do block is one refusal, in their order.
use Rattle.std.specs.Prelude.{ℕ, ◌+◌, List, length, Bool, false, not, ◌&&◌, ◌||◌, ◌==◌, nat_lt, nat_le, None, Some, Option, Result, Ok, if◌then◌else◌}
use Rattle.layout.specs.declared.Geometry.{Geometry}
use Rattle.errno.specs.declared.Errno.{Errno}
use Rattle.errno.specs.declared.Errno.TheVariants.{EPERM, ENOENT, EACCES, EBUSY, EEXIST, ENOTDIR, EISDIR, EINVAL, EMLINK, ENAMETOOLONG}
use Rattle.errno.specs.declared.Errno.TheVariants.{ENOTEMPTY}
use Rattle.std.specs.List.{list_any}
use Rattle.tree.specs.declared.PathFrom.{PathFrom}
use Rattle.tree.specs.declared.User.{User}
use Rattle.lemmas.specs.Sums.{one_if, some_below}
use Rattle.tree.specs.Names.{inode_of, with_name, without_name}
use Rattle.tree.specs.Tree.{Node, Tree, names_of, is_dir, is_open, with_node, on_node, most_target, most_links, most_permissions}
use Rattle.tree.specs.IsTree.{above}
use Rattle.tree.specs.Refusals.{◌>>=◌, or_refuse, refuse_if}
use Rattle.tree.specs.Walk.{read_path, walk_to_last, parent_walk, node_at, has_last_name, is_taken, Place, may_access, to_write}
use Rattle.tree.specs.Changes.{with_ctime, with_names, with_parent, more_links, fewer_links, with_link_lost, new_node, new_link}
use Rattle.tree.specs.Changes.{empty_directory, free_inode, without_nameless}
use Rattle.tree.specs.Answers.{done, Effect, if_it_fits}

-- the tree in which the place's name leads to node n
abbrev pub with_entry : Tree → ℕ → Place → ℕ → Tree
with_entry t now place n = on_node t place.directory (with_names now (λ names. with_name names place.name n))

-- the tree in which the place's directory has no such name
abbrev pub without_entry : Tree → ℕ → Place → Tree
without_entry t now place = on_node t place.directory (with_names now (λ names. without_name names place.name))

-- no names; a file has none
abbrev pub is_empty : Node → Bool
is_empty node = length (names_of (Some node)) == 0

-- the tree in which node n has one link less, and is gone where that was the last and it isn't open
abbrev pub with_name_lost : Tree → ℕ → ℕ → Tree
with_name_lost t now n = without_nameless (on_node t n (with_link_lost now)) n

-- link: a file has one name more, or a symbolic link that stands last
abbrev pub link : Geometry → Tree → User → ℕ → PathFrom → PathFrom → Effect
link g t user now old new = do
  old_way ← read_path old
  new_way ← read_path new
  n ← walk_to_last t user old_way
  node ← node_at t n
  _ ← refuse_if (is_dir node) EPERM
  _ ← refuse_if (nat_le most_links node.links) EMLINK
  place ← parent_walk t user new_way
  _ ← refuse_if (is_taken place new_way) EEXIST
  parent ← node_at t place.directory
  _ ← refuse_if (not (may_access user parent to_write)) EACCES
  if_it_fits g done (with_entry (with_node t n (Some (with_ctime now (more_links 1 node)))) now place n)

-- unlink: a file has one name less; one that is open lives on without a name
abbrev pub unlink : Tree → User → ℕ → PathFrom → Effect
unlink t user now path = do
  way ← read_path path
  _ ← refuse_if (not (has_last_name way)) EINVAL
  place ← parent_walk t user way
  n ← or_refuse (inode_of place.names place.name) ENOENT
  parent ← node_at t place.directory
  _ ← refuse_if (not (may_access user parent to_write)) EACCES
  node ← node_at t n
  _ ← refuse_if (is_dir node) EPERM
  Ok (done, with_name_lost (without_entry t now place) now n)

-- mkdir: a new directory, which is one link more of its parent
abbrev pub mkdir : Geometry → Tree → User → ℕ → PathFrom → ℕ → Effect
mkdir g t user now path mode = do
  _ ← refuse_if (nat_lt most_permissions mode) EINVAL
  way ← read_path path
  place ← parent_walk t user way
  _ ← refuse_if (is_taken place way) EEXIST
  parent ← node_at t place.directory
  _ ← refuse_if (not (may_access user parent to_write)) EACCES
  _ ← refuse_if (nat_le most_links parent.links) EMLINK
  n ← free_inode g t
  if_it_fits g done (on_node
      (with_entry (with_node t n (Some (new_node now user mode 2 (empty_directory place.directory)))) now place n)
      place.directory (more_links 1))

-- symlink: a new link with this target
abbrev pub symlink : Geometry → Tree → User → ℕ → List ℕ → PathFrom → Effect
symlink g t user now target path = do
  _ ← refuse_if (length target == 0) ENOENT
  _ ← refuse_if (nat_lt most_target (length target)) ENAMETOOLONG
  _ ← refuse_if (list_any (λ c. c == 0) target) EINVAL
  way ← read_path path
  place ← parent_walk t user way
  _ ← refuse_if (is_taken place way) EEXIST
  parent ← node_at t place.directory
  _ ← refuse_if (not (may_access user parent to_write)) EACCES
  n ← free_inode g t
  if_it_fits g done (with_entry (with_node t n (Some (new_link now user target))) now place n)

-- rmdir: an empty directory that isn't open is gone
abbrev pub rmdir : Tree → User → ℕ → PathFrom → Effect
rmdir t user now path = do
  way ← read_path path
  _ ← refuse_if (not (has_last_name way)) EINVAL
  place ← parent_walk t user way
  n ← or_refuse (inode_of place.names place.name) ENOENT
  parent ← node_at t place.directory
  _ ← refuse_if (not (may_access user parent to_write)) EACCES
  node ← node_at t n
  _ ← refuse_if (not (is_dir node)) ENOTDIR
  _ ← refuse_if (not (is_empty node)) ENOTEMPTY
  _ ← refuse_if (is_open t n) EBUSY
  Ok (done, with_node (on_node (without_entry t now place) place.directory (fewer_links 1)) n None)

-- node n is `top`, or lies below it: some number of steps to the parent leads there
abbrev pub is_within : Geometry → Tree → ℕ → ℕ → Bool
is_within g t n top = some_below (λ k. above t.nodes k n == top) (g.inodes + 1)

-- why node m may not lose its name to another: both or neither have to be directories, and a directory empty and not open
abbrev pub can_replace : Tree → Node → ℕ → Node → Result ℕ Errno
can_replace t node m other = do
  _ ← refuse_if (is_dir node && not (is_dir other)) ENOTDIR
  _ ← refuse_if (not (is_dir node) && is_dir other) EISDIR
  _ ← refuse_if (is_dir other && not (is_empty other)) ENOTEMPTY
  refuse_if (is_dir other && is_open t m) EBUSY

-- a directory that moves to another parent is one link more of it, which may have no room for another
abbrev pub has_room_for_link : Node → ℕ → ℕ → Node → Result ℕ Errno
has_room_for_link node old_parent new_parent parent =
    refuse_if (is_dir node && not (old_parent == new_parent) && nat_le most_links parent.links) EMLINK

-- the tree without the node that moves: its name is gone from its old place
abbrev pub without_moved : Tree → ℕ → Place → Node → Tree
without_moved t now old node = on_node (without_entry t now old) old.directory (fewer_links (one_if (is_dir node)))

-- the tree with it at its new place, under its new parent
abbrev pub with_moved : Tree → ℕ → Place → ℕ → Node → Tree
with_moved t now new n node =
    on_node (on_node (with_entry t now new n) new.directory (more_links (one_if (is_dir node))))
    n (λ moved. with_ctime now (with_parent new.directory moved))

-- the tree without node m, whose name another took: a file has lost that name, an empty directory is gone
abbrev pub without_replaced : Tree → ℕ → Place → ℕ → Node → Tree
without_replaced t now new m other =
    if is_dir other
    then with_node (on_node t new.directory (fewer_links 1)) m None
    else with_name_lost t now m

-- the effect of a rename of node n from a place to one where m stands, or nothing
abbrev pub rename_onto : Geometry → Tree → ℕ → Place → Place → ℕ → Node → Option ℕ → Effect
rename_onto g t now old new n node None = do
  parent ← node_at t new.directory
  _ ← has_room_for_link node old.directory new.directory parent
  if_it_fits g done (with_moved (without_moved t now old node) now new n node)
rename_onto g t now old new n node (Some m) = do
  other ← node_at t m
  _ ← can_replace t node m other
  if_it_fits g done (without_replaced (with_moved (without_moved t now old node) now new n node) now new m other)

-- the node that is there, if any, is n
abbrev pub is_same : ℕ → Option ℕ → Bool
is_same n None = false
is_same n (Some m) = n == m

-- rename: two names of one inode change nothing
abbrev pub rename : Geometry → Tree → User → ℕ → PathFrom → PathFrom → Effect
rename g t user now old_path new_path = do
  old_way ← read_path old_path
  new_way ← read_path new_path
  _ ← refuse_if (not (has_last_name old_way) || not (has_last_name new_way)) EINVAL
  old ← parent_walk t user old_way
  n ← or_refuse (inode_of old.names old.name) ENOENT
  new ← parent_walk t user new_way
  old_parent ← node_at t old.directory
  _ ← refuse_if (not (may_access user old_parent to_write)) EACCES
  new_parent ← node_at t new.directory
  _ ← refuse_if (not (may_access user new_parent to_write)) EACCES
  node ← node_at t n
  let there = inode_of new.names new.name in
      if is_same n there then Ok (done, t) else do
        _ ← refuse_if (is_dir node && is_within g t new.directory n) EINVAL
        rename_onto g t now old new n node there
