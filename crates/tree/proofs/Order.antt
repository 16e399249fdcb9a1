-- The refusals of link, open and rename, in their order.
use Rattle.std.proofs.Common.{◌≡◌, ℕ, Bool, true, false, ap, ◌∙◌}
use Rattle.std.specs.Prelude.{Some, Result, Ok, Err, not, ◌&&◌, ◌||◌, nat_le, nat_lt, if◌then◌else◌}
use Rattle.std.proofs.lemmas.Bool.{cond-false}
use Rattle.layout.specs.declared.Geometry.{Geometry}
use Rattle.errno.specs.declared.Errno.{Errno}
use Rattle.errno.specs.declared.Errno.TheVariants.{EPERM, ENOENT, EACCES, EEXIST, EISDIR, EINVAL, EMLINK, EMFILE, ENFILE, ELOOP}
use Rattle.tree.specs.declared.PathFrom.{PathFrom}
use Rattle.tree.specs.declared.User.{User}
use Rattle.tree.specs.Names.{inode_of}
use Rattle.tree.specs.Flags.{reads, writes, creates, is_exclusive, bad_flags}
use Rattle.tree.specs.Tree.{Node, Tree, is_dir, with_node, most_links, most_descriptors, most_open_files, most_permissions}
use Rattle.tree.specs.Refusals.{◌>>=◌, or_refuse, refuse_if, free_place}
use Rattle.tree.specs.Walk.{read_path, walk_to_last, parent_walk, node_at, has_last_name, is_taken, Place, Found, open_look_up, may_access, Way}
use Rattle.tree.specs.Walk.{to_read, to_write}
use Rattle.tree.specs.Changes.{with_ctime, more_links, new_node, empty_file, free_inode}
use Rattle.tree.specs.Answers.{done, descriptor, Effect, if_it_fits}
use Rattle.tree.specs.NameCalls.{with_entry, link, is_within, is_same, has_room_for_link, can_replace, with_moved, without_moved, without_replaced, rename_onto, rename}
use Rattle.tree.specs.FileCalls.{Slot, with_open, after_truncate_flag, open_found, open_path}
use Rattle.tree.specs.Order.{LinkRefusesInOrder, LinkOrder, OpenRefusesInOrder, OpenOrder, FoundRefusesInOrder, FoundOrder, IsRenameAsked, RenameRefusesInOrder, RenameOrder}

-- a step that succeeds goes on, and one that refuses ends the call
goes_on : {A : Type 0} (r : Result A Errno) (f : A → Effect) (x : A) → r ≡ Ok x → (r >>= f) ≡ f x
goes_on r f x h = ap (λ y. y >>= f) h

-- a step that refuses ends the call
ends : {A : Type 0} (r : Result A Errno) (f : A → Effect) (e : Errno) → r ≡ Err e → (r >>= f) ≡ Err e
ends r f e h = ap (λ y. y >>= f) h

-- a test that passes goes on, and one that holds ends the call
passes : (b : Bool) (e : Errno) (f : Effect) → b ≡ false → (refuse_if b e >>= λ _. f) ≡ f
passes b e f h = ap (λ x. refuse_if x e >>= λ _. f) h

-- a test that holds ends the call
holds : (b : Bool) (e : Errno) (f : Effect) → b ≡ true → (refuse_if b e >>= λ _. f) ≡ Err e
holds b e f h = ap (λ x. refuse_if x e >>= λ _. f) h

-- a node that is there is found
at_there : (t : Tree) (n : ℕ) (node : Node) (f : Node → Effect) → t.nodes n ≡ Some node → (node_at t n >>= f) ≡ f node
at_there t n node f h = goes_on (node_at t n) f node (ap (λ o. or_refuse o ENOENT) h)

module _ (g : Geometry) (t : Tree) (user : User) (now : ℕ) (old new : PathFrom) where
  abbrev put_link : ℕ → Node → Place → Effect
  put_link n node place = if_it_fits g done (with_entry (with_node t n (Some (with_ctime now (more_links 1 node)))) now place n)

  abbrev at_parent : ℕ → Node → Place → Node → Effect
  at_parent n node place parent = refuse_if (not (may_access user parent to_write)) EACCES >>= λ _. put_link n node place

  abbrev at_free : ℕ → Node → Place → Effect
  at_free n node place = node_at t place.directory >>= at_parent n node place

  abbrev at_place : Way → ℕ → Node → Place → Effect
  at_place qs n node place = refuse_if (is_taken place qs) EEXIST >>= λ _. at_free n node place

  abbrev at_few : Way → ℕ → Node → Effect
  at_few qs n node = parent_walk t user qs >>= at_place qs n node

  abbrev at_file : Way → ℕ → Node → Effect
  at_file qs n node = refuse_if (nat_le most_links node.links) EMLINK >>= λ _. at_few qs n node

  abbrev at_node : Way → ℕ → Node → Effect
  at_node qs n node = refuse_if (is_dir node) EPERM >>= λ _. at_file qs n node

  abbrev after_new_read : Way → Way → Effect
  after_new_read ps qs = walk_to_last t user ps >>= λ n. node_at t n >>= at_node qs n

  abbrev after_old_read : Way → Effect
  after_old_read ps = read_path new >>= after_new_read ps

  -- link as far as its node
  to_node : (ps qs : Way) (n : ℕ) (node : Node) → read_path old ≡ Ok ps → read_path new ≡ Ok qs → walk_to_last t user ps ≡ Ok n
      → t.nodes n ≡ Some node
      → link g t user now old new ≡ at_node qs n node
  to_node ps qs n node a b c d =
      goes_on (read_path old) after_old_read ps a ∙ goes_on (read_path new) (after_new_read ps) qs b
      ∙ goes_on (walk_to_last t user ps) (λ m. node_at t m >>= at_node qs m) n c ∙ at_there t n node (at_node qs n) d

  -- link as far as its new place
  to_place : (ps qs : Way) (n : ℕ) (node : Node) → read_path old ≡ Ok ps → read_path new ≡ Ok qs → walk_to_last t user ps ≡ Ok n
      → t.nodes n ≡ Some node
      → is_dir node ≡ false → nat_le most_links node.links ≡ false → link g t user now old new ≡ at_few qs n node
  to_place ps qs n node a b c d e f = to_node ps qs n node a b c d ∙ passes (is_dir node) EPERM (at_file qs n node) e ∙ passes (nat_le most_links node.links) EMLINK (at_few qs n node) f

  pub link_in_order : LinkRefusesInOrder g t user now old new
  link_in_order = record {
    old_read = λ e h. ends (read_path old) after_old_read e h;
    new_read = λ ps e a h. goes_on (read_path old) after_old_read ps a ∙ ends (read_path new) (after_new_read ps) e h;
    walked = λ ps qs e a b h. goes_on (read_path old) after_old_read ps a ∙ goes_on (read_path new) (after_new_read ps) qs b
        ∙ ends (walk_to_last t user ps) (λ m. node_at t m >>= at_node qs m) e h;
    directory = λ ps qs n node a b c d h. to_node ps qs n node a b c d ∙ holds (is_dir node) EPERM (at_file qs n node) h;
    links = λ ps qs n node a b c d e h. to_node ps qs n node a b c d ∙ passes (is_dir node) EPERM (at_file qs n node) e ∙ holds (nat_le most_links node.links) EMLINK (at_few qs n node) h;
    place = λ ps qs n node x a b c d e f h. to_place ps qs n node a b c d e f ∙ ends (parent_walk t user qs) (at_place qs n node) x h;
    taken = λ ps qs n node place a b c d e f w h. to_place ps qs n node a b c d e f ∙ goes_on (parent_walk t user qs) (at_place qs n node) place w ∙ holds (is_taken place qs) EEXIST (at_free n node place) h;
    permission = λ ps qs n node place parent a b c d e f w free there h.
        to_place ps qs n node a b c d e f ∙ goes_on (parent_walk t user qs) (at_place qs n node) place w ∙ passes (is_taken place qs) EEXIST (at_free n node place) free
        ∙ at_there t place.directory parent (at_parent n node place) there ∙ holds (not (may_access user parent to_write)) EACCES (put_link n node place) (ap not h);
  }

-- link
pub link_order : LinkOrder
link_order = link_in_order

module _ (g : Geometry) (t : Tree) (user : User) (now : ℕ) (slot : Slot) (flags mode : ℕ) where
  abbrev open_it : ℕ → Node → Effect
  open_it n node = Ok (descriptor slot.fd, with_open (after_truncate_flag g t now flags n node) slot n flags)

  abbrev at_openable : ℕ → Node → Effect
  at_openable n node = refuse_if ((reads flags && not (may_access user node to_read)) || (writes flags && not (may_access user node to_write))) EACCES >>= λ _. open_it n node

  abbrev at_no_link : ℕ → Node → Effect
  at_no_link n node = refuse_if (is_dir node && writes flags) EISDIR >>= λ _. at_openable n node

  abbrev at_found : ℕ → Node → Effect
  at_found n node = refuse_if node.symbolic ELOOP >>= λ _. at_no_link n node

  abbrev make_it : Place → ℕ → Effect
  make_it place n = if_it_fits g (descriptor slot.fd) (with_open (with_entry (with_node t n (Some (new_node now user mode 1 empty_file))) now place n) slot n flags)

  abbrev at_missing_parent : Place → Node → Effect
  at_missing_parent place parent = refuse_if (not (may_access user parent to_write)) EACCES >>= λ _. free_inode g t >>= make_it place

  abbrev at_missing : Place → Effect
  at_missing place = node_at t place.directory >>= at_missing_parent place

  pub found_in_order : FoundRefusesInOrder g t user now slot flags mode
  found_in_order = record {
    exclusive = λ n h. holds (creates flags && is_exclusive flags) EEXIST (node_at t n >>= at_found n) h;
    symbolic = λ n node a b h.
        passes (creates flags && is_exclusive flags) EEXIST (node_at t n >>= at_found n) a ∙ at_there t n node (at_found n) b
        ∙ holds node.symbolic ELOOP (at_no_link n node) h;
    directory = λ n node a b c h.
        passes (creates flags && is_exclusive flags) EEXIST (node_at t n >>= at_found n) a ∙ at_there t n node (at_found n) b
        ∙ passes node.symbolic ELOOP (at_no_link n node) c ∙ holds (is_dir node && writes flags) EISDIR (at_openable n node) h;
    permission = λ n node a b c d h.
        passes (creates flags && is_exclusive flags) EEXIST (node_at t n >>= at_found n) a ∙ at_there t n node (at_found n) b
        ∙ passes node.symbolic ELOOP (at_no_link n node) c ∙ passes (is_dir node && writes flags) EISDIR (at_openable n node) d
        ∙ holds _ EACCES (open_it n node) h;
    missing = λ place h. holds (not (creates flags)) ENOENT (at_missing place) (ap not h);
    parent = λ place parent a b h.
        passes (not (creates flags)) ENOENT (at_missing place) (ap not a) ∙ at_there t place.directory parent (at_missing_parent place) b
        ∙ holds (not (may_access user parent to_write)) EACCES (free_inode g t >>= make_it place) (ap not h);
    inode = λ place parent e a b c h.
        passes (not (creates flags)) ENOENT (at_missing place) (ap not a) ∙ at_there t place.directory parent (at_missing_parent place) b
        ∙ passes (not (may_access user parent to_write)) EACCES (free_inode g t >>= make_it place) (ap not c) ∙ ends (free_inode g t) (make_it place) e h;
  }

-- what open found
pub found_order : FoundOrder
found_order = found_in_order

module _ (g : Geometry) (t : Tree) (user : User) (now session : ℕ) (path : PathFrom) (flags mode : ℕ) where
  abbrev after_look : ℕ → ℕ → Found → Effect
  after_look fd k found = open_found g t user now (record { session = session; fd = fd; number = k }) flags mode found

  abbrev after_path : ℕ → ℕ → Way → Effect
  after_path fd k ps = open_look_up t user (creates flags && is_exclusive flags) ps >>= after_look fd k

  abbrev after_number : ℕ → ℕ → Effect
  after_number fd k = read_path path >>= after_path fd k

  abbrev after_descriptor : ℕ → Effect
  after_descriptor fd = free_place t.open_files most_open_files ENFILE >>= after_number fd

  abbrev after_flags : Effect
  after_flags = free_place (t.descriptors session) most_descriptors EMFILE >>= after_descriptor

  abbrev bad : Bool
  bad = bad_flags flags || nat_lt most_permissions mode

  -- open as far as its path
  to_path : (fd k : ℕ) → bad ≡ false → free_place (t.descriptors session) most_descriptors EMFILE ≡ Ok fd → free_place t.open_files most_open_files ENFILE ≡ Ok k
      → open_path g t user now session path flags mode ≡ after_number fd k
  to_path fd k a b c = passes bad EINVAL after_flags a ∙ goes_on (free_place (t.descriptors session) most_descriptors EMFILE) after_descriptor fd b ∙ goes_on (free_place t.open_files most_open_files ENFILE) (after_number fd) k c

  pub open_in_order : OpenRefusesInOrder g t user now session path flags mode
  open_in_order = record {
    good = λ h. holds bad EINVAL after_flags h;
    descriptor = λ e a h. passes bad EINVAL after_flags a ∙ ends (free_place (t.descriptors session) most_descriptors EMFILE) after_descriptor e h;
    number = λ e fd a b h. passes bad EINVAL after_flags a ∙ goes_on (free_place (t.descriptors session) most_descriptors EMFILE) after_descriptor fd b ∙ ends (free_place t.open_files most_open_files ENFILE) (after_number fd) e h;
    read = λ e fd k a b c h. to_path fd k a b c ∙ ends (read_path path) (after_path fd k) e h;
    looked = λ e fd k ps a b c d h. to_path fd k a b c ∙ goes_on (read_path path) (after_path fd k) ps d
        ∙ ends (open_look_up t user (creates flags && is_exclusive flags) ps) (after_look fd k) e h;
    found = λ fd k ps found a b c d h. to_path fd k a b c ∙ goes_on (read_path path) (after_path fd k) ps d
        ∙ goes_on (open_look_up t user (creates flags && is_exclusive flags) ps) (after_look fd k) found h;
  }

-- open
pub open_order : OpenOrder
open_order = open_in_order

module _ (g : Geometry) (t : Tree) (user : User) (now : ℕ) (old new : PathFrom) where
  abbrev move_onto : Place → Place → ℕ → Node → Effect
  move_onto from to n node = rename_onto g t now from to n node (inode_of to.names to.name)

  abbrev move_apart : Place → Place → ℕ → Node → Effect
  move_apart from to n node = refuse_if (is_dir node && is_within g t to.directory n) EINVAL >>= λ _. move_onto from to n node

  abbrev move_node : Place → Place → ℕ → Node → Effect
  move_node from to n node = if is_same n (inode_of to.names to.name) then Ok (done, t) else move_apart from to n node

  abbrev move_to_parent : Place → Place → ℕ → Node → Effect
  move_to_parent from to n q = refuse_if (not (may_access user q to_write)) EACCES >>= λ _. node_at t n >>= move_node from to n

  abbrev move_from_parent : Place → Place → ℕ → Node → Effect
  move_from_parent from to n p = refuse_if (not (may_access user p to_write)) EACCES >>= λ _. node_at t to.directory >>= move_to_parent from to n

  abbrev move_to : Way → Place → ℕ → Place → Effect
  move_to qs from n to = node_at t from.directory >>= move_from_parent from to n

  abbrev move_from : Way → Place → Effect
  move_from qs from = or_refuse (inode_of from.names from.name) ENOENT >>= λ n. parent_walk t user qs >>= move_to qs from n

  abbrev move_after_new : Way → Way → Effect
  move_after_new ps qs = refuse_if (not (has_last_name ps) || not (has_last_name qs)) EINVAL >>= λ _. parent_walk t user ps >>= move_from qs

  abbrev move_after_old : Way → Effect
  move_after_old ps = read_path new >>= move_after_new ps

  abbrev lasts : Way → Way → Bool
  lasts ps qs = not (has_last_name ps) || not (has_last_name qs)

  -- rename as far as its old place
  to_old : (ps qs : Way) → read_path old ≡ Ok ps → read_path new ≡ Ok qs → lasts ps qs ≡ false → rename g t user now old new ≡ (parent_walk t user ps >>= move_from qs)
  to_old ps qs a b c = goes_on (read_path old) move_after_old ps a ∙ goes_on (read_path new) (move_after_new ps) qs b ∙ passes (lasts ps qs) EINVAL (parent_walk t user ps >>= move_from qs) c

  -- rename as far as its new place
  to_new : (ps qs : Way) (from : Place) (n : ℕ) → read_path old ≡ Ok ps → read_path new ≡ Ok qs → lasts ps qs ≡ false → parent_walk t user ps ≡ Ok from
      → inode_of from.names from.name ≡ Some n → rename g t user now old new ≡ (parent_walk t user qs >>= move_to qs from n)
  to_new ps qs from n a b c d e =
      to_old ps qs a b c ∙ goes_on (parent_walk t user ps) (move_from qs) from d
      ∙ goes_on (or_refuse (inode_of from.names from.name) ENOENT) (λ m. parent_walk t user qs >>= move_to qs from m) n (ap (λ o. or_refuse o ENOENT) e)

  -- rename as far as the permission of the new place's directory
  to_permission : (ps qs : Way) (from to : Place) (n : ℕ) (p q : Node) → read_path old ≡ Ok ps → read_path new ≡ Ok qs → lasts ps qs ≡ false
      → parent_walk t user ps ≡ Ok from → inode_of from.names from.name ≡ Some n → parent_walk t user qs ≡ Ok to → t.nodes from.directory ≡ Some p
      → may_access user p to_write ≡ true → t.nodes to.directory ≡ Some q → rename g t user now old new ≡ move_to_parent from to n q
  to_permission ps qs from to n p q a b c d e w there may other =
      to_new ps qs from n a b c d e ∙ goes_on (parent_walk t user qs) (move_to qs from n) to w ∙ at_there t from.directory p (move_from_parent from to n) there
      ∙ passes (not (may_access user p to_write)) EACCES (node_at t to.directory >>= move_to_parent from to n) (ap not may) ∙ at_there t to.directory q (move_to_parent from to n) other

  -- rename as far as its nodes
  to_nodes : (ps qs : Way) (from to : Place) (n : ℕ) (p q node : Node) → IsRenameAsked t user old new ps qs from to n p q node → rename g t user now old new ≡ move_node from to n node
  to_nodes ps qs from to n p q node is =
      to_permission ps qs from to n p q is.old_read is.new_read is.last is.from_walked is.found is.to_walked is.from_there is.from_may is.to_there
      ∙ passes (not (may_access user q to_write)) EACCES (node_at t n >>= move_node from to n) (ap not is.to_may) ∙ at_there t n node (move_node from to n) is.there

  abbrev within : Place → ℕ → Node → Bool
  within to n node = is_dir node && is_within g t to.directory n

  -- rename as far as what stands at the new place
  to_onto : (ps qs : Way) (from to : Place) (n : ℕ) (p q node : Node) → IsRenameAsked t user old new ps qs from to n p q node
      → is_same n (inode_of to.names to.name) ≡ false → within to n node ≡ false → rename g t user now old new ≡ move_onto from to n node
  to_onto ps qs from to n p q node is other outside =
      to_nodes ps qs from to n p q node is ∙ cond-false (is_same n (inode_of to.names to.name)) (Ok (done, t)) (move_apart from to n node) other
      ∙ passes (within to n node) EINVAL (move_onto from to n node) outside

  abbrev moved : Place → Place → ℕ → Node → Effect
  moved from to n node = if_it_fits g done (with_moved (without_moved t now from node) now to n node)

  abbrev replacing : Place → Place → ℕ → Node → ℕ → Node → Effect
  replacing from to n node m other = if_it_fits g done (without_replaced (with_moved (without_moved t now from node) now to n node) now to m other)

  pub rename_in_order : RenameRefusesInOrder g t user now old new
  rename_in_order = record {
    old_read = λ e h. ends (read_path old) move_after_old e h;
    new_read = λ ps e a h. goes_on (read_path old) move_after_old ps a ∙ ends (read_path new) (move_after_new ps) e h;
    last = λ ps qs a b h. goes_on (read_path old) move_after_old ps a ∙ goes_on (read_path new) (move_after_new ps) qs b ∙ holds (lasts ps qs) EINVAL (parent_walk t user ps >>= move_from qs) h;
    from_walked = λ ps qs e a b c h. to_old ps qs a b c ∙ ends (parent_walk t user ps) (move_from qs) e h;
    missing = λ ps qs from a b c d h.
        to_old ps qs a b c ∙ goes_on (parent_walk t user ps) (move_from qs) from d
        ∙ ends (or_refuse (inode_of from.names from.name) ENOENT) (λ m. parent_walk t user qs >>= move_to qs from m) ENOENT (ap (λ o. or_refuse o ENOENT) h);
    to_walked = λ ps qs from n x a b c d e h. to_new ps qs from n a b c d e ∙ ends (parent_walk t user qs) (move_to qs from n) x h;
    from_permission = λ ps qs from to n p a b c d e w there h.
        to_new ps qs from n a b c d e ∙ goes_on (parent_walk t user qs) (move_to qs from n) to w ∙ at_there t from.directory p (move_from_parent from to n) there
        ∙ holds (not (may_access user p to_write)) EACCES (node_at t to.directory >>= move_to_parent from to n) (ap not h);
    to_permission = λ ps qs from to n p q a b c d e w there may other h.
        to_permission ps qs from to n p q a b c d e w there may other ∙ holds (not (may_access user q to_write)) EACCES (node_at t n >>= move_node from to n) (ap not h);
    within = λ ps qs from to n p q node is other h.
        to_nodes ps qs from to n p q node is ∙ cond-false (is_same n (inode_of to.names to.name)) (Ok (done, t)) (move_apart from to n node) other
        ∙ holds (within to n node) EINVAL (move_onto from to n node) h;
    no_room = λ ps qs from to n p q node e is outside free h.
        to_onto ps qs from to n p q node is (ap (is_same n) free) outside ∙ ap (λ o. rename_onto g t now from to n node o) free
        ∙ at_there t to.directory q (λ parent. has_room_for_link node from.directory to.directory parent >>= λ _. moved from to n node) is.to_there
        ∙ ends (has_room_for_link node from.directory to.directory q) (λ _. moved from to n node) e h;
    cannot_replace = λ ps qs from to n m p q node other e is differs outside taken there h.
        to_onto ps qs from to n p q node is (ap (is_same n) taken ∙ differs) outside ∙ ap (λ o. rename_onto g t now from to n node o) taken
        ∙ at_there t m other (λ x. can_replace t node m x >>= λ _. replacing from to n node m x) there
        ∙ ends (can_replace t node m other) (λ _. replacing from to n node m other) e h;
  }

-- rename
pub rename_order : RenameOrder
rename_order = rename_in_order
