-- Which of two refusals that hold at once a call answers. Each law asks that the tests before one have passed, and nothing of the
-- tests after it; so where that one and a later one hold, the one is answered.
use Rattle.std.specs.Prelude.{◌≡◌, ℕ, true, false, not, ◌&&◌, ◌||◌, nat_le, nat_lt, None, Some, Ok, Err}
use Rattle.layout.specs.declared.Geometry.{Geometry}
use Rattle.errno.specs.declared.Errno.{Errno}
use Rattle.errno.specs.declared.Errno.TheVariants.{ELOOP, EPERM, ENOENT, EACCES, EEXIST, EISDIR, EINVAL, EMLINK, EMFILE, ENFILE}
use Rattle.tree.specs.declared.PathFrom.{PathFrom}
use Rattle.tree.specs.declared.User.{User}
use Rattle.tree.specs.Names.{inode_of}
use Rattle.tree.specs.Flags.{reads, writes, creates, is_exclusive, bad_flags}
use Rattle.tree.specs.Tree.{Node, Tree, is_dir, most_links, most_descriptors, most_open_files, most_permissions}
use Rattle.tree.specs.Refusals.{free_place}
use Rattle.tree.specs.Walk.{read_path, walk_to_last, parent_walk, has_last_name, is_taken, Place, Found, is_there, is_missing, open_look_up, Way}
use Rattle.tree.specs.Walk.{may_access, to_read, to_write}
use Rattle.tree.specs.Changes.{free_inode}
use Rattle.tree.specs.NameCalls.{link, is_within, is_same, has_room_for_link, can_replace, rename}
use Rattle.tree.specs.FileCalls.{Slot, open_found, open_path}

-- Link: the old path, the new one, the node (a directory, too many links), the new place (its walk, its name, its permission).
pub record LinkRefusesInOrder (g : Geometry) (t : Tree) (user : User) (now : ℕ) (old new : PathFrom) : Type 0 where
  pub old_read : (e : Errno) → read_path old ≡ Err e → link g t user now old new ≡ Err e
  pub new_read : (ps : Way) (e : Errno) → read_path old ≡ Ok ps → read_path new ≡ Err e → link g t user now old new ≡ Err e
  pub walked : (ps qs : Way) (e : Errno) → read_path old ≡ Ok ps → read_path new ≡ Ok qs → walk_to_last t user ps ≡ Err e
      → link g t user now old new ≡ Err e
  pub directory :
      (ps qs : Way) (n : ℕ) (node : Node) → read_path old ≡ Ok ps → read_path new ≡ Ok qs → walk_to_last t user ps ≡ Ok n
      → t.nodes n ≡ Some node
      → is_dir node ≡ true → link g t user now old new ≡ Err EPERM
  pub links :
      (ps qs : Way) (n : ℕ) (node : Node) → read_path old ≡ Ok ps → read_path new ≡ Ok qs → walk_to_last t user ps ≡ Ok n
      → t.nodes n ≡ Some node
      → is_dir node ≡ false → nat_le most_links node.links ≡ true → link g t user now old new ≡ Err EMLINK
  pub place :
      (ps qs : Way) (n : ℕ) (node : Node) (e : Errno) → read_path old ≡ Ok ps → read_path new ≡ Ok qs → walk_to_last t user ps ≡ Ok n
      → t.nodes n ≡ Some node
      → is_dir node ≡ false → nat_le most_links node.links ≡ false → parent_walk t user qs ≡ Err e → link g t user now old new ≡ Err e
  pub taken :
      (ps qs : Way) (n : ℕ) (node : Node) (place : Place) → read_path old ≡ Ok ps → read_path new ≡ Ok qs
      → walk_to_last t user ps ≡ Ok n → t.nodes n ≡ Some node
      → is_dir node ≡ false → nat_le most_links node.links ≡ false → parent_walk t user qs ≡ Ok place → is_taken place qs ≡ true → link g t user now old new ≡ Err EEXIST
  pub permission :
      (ps qs : Way) (n : ℕ) (node : Node) (place : Place) (parent : Node) → read_path old ≡ Ok ps → read_path new ≡ Ok qs
      → walk_to_last t user ps ≡ Ok n
      → t.nodes n ≡ Some node → is_dir node ≡ false → nat_le most_links node.links ≡ false → parent_walk t user qs ≡ Ok place → is_taken place qs ≡ false
      → t.nodes place.directory ≡ Some parent → may_access user parent to_write ≡ false → link g t user now old new ≡ Err EACCES

-- Open: flags and mode, a descriptor, an open file, the path, what is found there.
pub record OpenRefusesInOrder (g : Geometry) (t : Tree) (user : User) (now session : ℕ) (path : PathFrom) (flags mode : ℕ) : Type 0 where
  pub good : (bad_flags flags || nat_lt most_permissions mode) ≡ true → open_path g t user now session path flags mode ≡ Err EINVAL
  pub descriptor :
      (e : Errno) → (bad_flags flags || nat_lt most_permissions mode) ≡ false → free_place (t.descriptors session) most_descriptors EMFILE ≡ Err e
      → open_path g t user now session path flags mode ≡ Err e
  pub number :
      (e : Errno) (fd : ℕ) → (bad_flags flags || nat_lt most_permissions mode) ≡ false → free_place (t.descriptors session) most_descriptors EMFILE ≡ Ok fd
      → free_place t.open_files most_open_files ENFILE ≡ Err e → open_path g t user now session path flags mode ≡ Err e
  pub read :
      (e : Errno) (fd k : ℕ) → (bad_flags flags || nat_lt most_permissions mode) ≡ false → free_place (t.descriptors session) most_descriptors EMFILE ≡ Ok fd
      → free_place t.open_files most_open_files ENFILE ≡ Ok k → read_path path ≡ Err e → open_path g t user now session path flags mode ≡ Err e
  pub looked :
      (e : Errno) (fd k : ℕ) (ps : Way) → (bad_flags flags || nat_lt most_permissions mode) ≡ false
      → free_place (t.descriptors session) most_descriptors EMFILE ≡ Ok fd → free_place t.open_files most_open_files ENFILE ≡ Ok k → read_path path ≡ Ok ps
      → open_look_up t user (creates flags && is_exclusive flags) ps ≡ Err e → open_path g t user now session path flags mode ≡ Err e
  pub found :
      (fd k : ℕ) (ps : Way) (found : Found) → (bad_flags flags || nat_lt most_permissions mode) ≡ false
      → free_place (t.descriptors session) most_descriptors EMFILE ≡ Ok fd → free_place t.open_files most_open_files ENFILE ≡ Ok k → read_path path ≡ Ok ps
      → open_look_up t user (creates flags && is_exclusive flags) ps ≡ Ok found
      → open_path g t user now session path flags mode ≡ open_found g t user now (record { session = session; fd = fd; number = k }) flags mode found

-- What open found: a node (exclusive, a link, a directory to write, permission), or a missing name (no create, permission, no inode).
pub record FoundRefusesInOrder (g : Geometry) (t : Tree) (user : User) (now : ℕ) (slot : Slot) (flags mode : ℕ) : Type 0 where
  pub exclusive : (n : ℕ) → (creates flags && is_exclusive flags) ≡ true → open_found g t user now slot flags mode (is_there n) ≡ Err EEXIST
  pub symbolic :
      (n : ℕ) (node : Node) → (creates flags && is_exclusive flags) ≡ false → t.nodes n ≡ Some node → node.symbolic ≡ true
      → open_found g t user now slot flags mode (is_there n) ≡ Err ELOOP
  pub directory :
      (n : ℕ) (node : Node) → (creates flags && is_exclusive flags) ≡ false → t.nodes n ≡ Some node → node.symbolic ≡ false → (is_dir node && writes flags) ≡ true
      → open_found g t user now slot flags mode (is_there n) ≡ Err EISDIR
  pub permission :
      (n : ℕ) (node : Node) → (creates flags && is_exclusive flags) ≡ false → t.nodes n ≡ Some node → node.symbolic ≡ false → (is_dir node && writes flags) ≡ false
      → ((reads flags && not (may_access user node to_read)) || (writes flags && not (may_access user node to_write))) ≡ true
      → open_found g t user now slot flags mode (is_there n) ≡ Err EACCES
  pub missing : (place : Place) → creates flags ≡ false → open_found g t user now slot flags mode (is_missing place) ≡ Err ENOENT
  pub parent :
      (place : Place) (parent : Node) → creates flags ≡ true → t.nodes place.directory ≡ Some parent → may_access user parent to_write ≡ false
      → open_found g t user now slot flags mode (is_missing place) ≡ Err EACCES
  pub inode :
      (place : Place) (parent : Node) (e : Errno) → creates flags ≡ true → t.nodes place.directory ≡ Some parent → may_access user parent to_write ≡ true
      → free_inode g t ≡ Err e → open_found g t user now slot flags mode (is_missing place) ≡ Err e

-- What rename asks of its paths and places, before it looks at the two nodes.
pub record IsRenameAsked (t : Tree) (user : User) (old new : PathFrom) (ps qs : Way) (from to : Place) (n : ℕ) (p q node : Node) : Type 0 where
  pub old_read : read_path old ≡ Ok ps
  pub new_read : read_path new ≡ Ok qs
  pub last : (not (has_last_name ps) || not (has_last_name qs)) ≡ false
  pub from_walked : parent_walk t user ps ≡ Ok from
  pub found : inode_of from.names from.name ≡ Some n
  pub to_walked : parent_walk t user qs ≡ Ok to
  pub from_there : t.nodes from.directory ≡ Some p
  pub from_may : may_access user p to_write ≡ true
  pub to_there : t.nodes to.directory ≡ Some q
  pub to_may : may_access user q to_write ≡ true
  pub there : t.nodes n ≡ Some node

-- Rename: the old path, the new one, their last names, the old place, its name, the new place, the permission of both, and then
-- the nodes: below itself, and what stands at the new place.
pub record RenameRefusesInOrder (g : Geometry) (t : Tree) (user : User) (now : ℕ) (old new : PathFrom) : Type 0 where
  pub old_read : (e : Errno) → read_path old ≡ Err e → rename g t user now old new ≡ Err e
  pub new_read : (ps : Way) (e : Errno) → read_path old ≡ Ok ps → read_path new ≡ Err e → rename g t user now old new ≡ Err e
  pub last :
      (ps qs : Way) → read_path old ≡ Ok ps → read_path new ≡ Ok qs → (not (has_last_name ps) || not (has_last_name qs)) ≡ true
      → rename g t user now old new ≡ Err EINVAL
  pub from_walked :
      (ps qs : Way) (e : Errno) → read_path old ≡ Ok ps → read_path new ≡ Ok qs → (not (has_last_name ps) || not (has_last_name qs)) ≡ false
      → parent_walk t user ps ≡ Err e → rename g t user now old new ≡ Err e
  pub missing :
      (ps qs : Way) (from : Place) → read_path old ≡ Ok ps → read_path new ≡ Ok qs → (not (has_last_name ps) || not (has_last_name qs)) ≡ false
      → parent_walk t user ps ≡ Ok from → inode_of from.names from.name ≡ None → rename g t user now old new ≡ Err ENOENT
  pub to_walked :
      (ps qs : Way) (from : Place) (n : ℕ) (e : Errno) → read_path old ≡ Ok ps → read_path new ≡ Ok qs
      → (not (has_last_name ps) || not (has_last_name qs)) ≡ false → parent_walk t user ps ≡ Ok from → inode_of from.names from.name ≡ Some n
      → parent_walk t user qs ≡ Err e → rename g t user now old new ≡ Err e
  pub from_permission :
      (ps qs : Way) (from to : Place) (n : ℕ) (p : Node) → read_path old ≡ Ok ps → read_path new ≡ Ok qs
      → (not (has_last_name ps) || not (has_last_name qs)) ≡ false → parent_walk t user ps ≡ Ok from → inode_of from.names from.name ≡ Some n
      → parent_walk t user qs ≡ Ok to → t.nodes from.directory ≡ Some p → may_access user p to_write ≡ false → rename g t user now old new ≡ Err EACCES
  pub to_permission :
      (ps qs : Way) (from to : Place) (n : ℕ) (p q : Node) → read_path old ≡ Ok ps → read_path new ≡ Ok qs
      → (not (has_last_name ps) || not (has_last_name qs)) ≡ false → parent_walk t user ps ≡ Ok from → inode_of from.names from.name ≡ Some n
      → parent_walk t user qs ≡ Ok to → t.nodes from.directory ≡ Some p → may_access user p to_write ≡ true → t.nodes to.directory ≡ Some q
      → may_access user q to_write ≡ false → rename g t user now old new ≡ Err EACCES
  pub within :
      (ps qs : Way) (from to : Place) (n : ℕ) (p q node : Node) → IsRenameAsked t user old new ps qs from to n p q node
      → is_same n (inode_of to.names to.name) ≡ false → (is_dir node && is_within g t to.directory n) ≡ true → rename g t user now old new ≡ Err EINVAL
  pub no_room :
      (ps qs : Way) (from to : Place) (n : ℕ) (p q node : Node) (e : Errno) → IsRenameAsked t user old new ps qs from to n p q node
      → (is_dir node && is_within g t to.directory n) ≡ false → inode_of to.names to.name ≡ None
      → has_room_for_link node from.directory to.directory q ≡ Err e → rename g t user now old new ≡ Err e
  pub cannot_replace :
      (ps qs : Way) (from to : Place) (n m : ℕ) (p q node other : Node) (e : Errno) → IsRenameAsked t user old new ps qs from to n p q node
      → is_same n (Some m) ≡ false → (is_dir node && is_within g t to.directory n) ≡ false → inode_of to.names to.name ≡ Some m → t.nodes m ≡ Some other
      → can_replace t node m other ≡ Err e → rename g t user now old new ≡ Err e

abbrev pub LinkOrder : Type 0
LinkOrder = (g : Geometry) (t : Tree) (user : User) (now : ℕ) (old new : PathFrom) → LinkRefusesInOrder g t user now old new

abbrev pub OpenOrder : Type 0
OpenOrder = (g : Geometry) (t : Tree) (user : User) (now session : ℕ) (path : PathFrom) (flags mode : ℕ) → OpenRefusesInOrder g t user now session path flags mode

abbrev pub FoundOrder : Type 0
FoundOrder = (g : Geometry) (t : Tree) (user : User) (now : ℕ) (slot : Slot) (flags mode : ℕ) → FoundRefusesInOrder g t user now slot flags mode

abbrev pub RenameOrder : Type 0
RenameOrder = (g : Geometry) (t : Tree) (user : User) (now : ℕ) (old new : PathFrom) → RenameRefusesInOrder g t user now old new
