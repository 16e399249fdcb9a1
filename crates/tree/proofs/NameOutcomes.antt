-- What holds of the refusals and of the successes of link, mkdir and rmdir holds of the calls.
use Rattle.std.proofs.Common.{◌≡◌, ◌<◌, ◌≤◌, ℕ, true, false, refl}
use Rattle.std.specs.Prelude.{None, Some, Ok, Err, not, nat_le, nat_lt}
use Rattle.std.proofs.lemmas.Bool.{leb-false, ltb-false, not-false}
use Rattle.layout.specs.declared.Geometry.{Geometry}
use Rattle.errno.specs.declared.Errno.TheVariants.{EPERM, ENOENT, EACCES, EBUSY, EEXIST, ENOTDIR, EINVAL, EMLINK, ENOTEMPTY, ENOSPC}
use Rattle.tree.specs.declared.PathFrom.{PathFrom}
use Rattle.tree.specs.declared.User.{User}
use Rattle.tree.specs.Names.{inode_of}
use Rattle.tree.specs.Tree.{Node, Tree, is_dir, is_open, with_node, on_node, most_links, most_permissions}
use Rattle.tree.specs.Refusals.{◌>>=◌, or_refuse, refuse_if}
use Rattle.tree.specs.Walk.{read_path, walk_to_last, parent_walk, node_at, has_last_name, is_taken, Place, may_access, to_write, Way}
use Rattle.tree.specs.Changes.{with_ctime, more_links, fewer_links, new_node, empty_directory, free_inode}
use Rattle.tree.specs.Answers.{done, if_it_fits}
use Rattle.tree.specs.NameCalls.{with_entry, without_entry, is_empty, link, mkdir, rmdir}
use Rattle.tree.proofs.Steps.{passed, was_there}
use Rattle.tree.proofs.Outcomes.{Effects, IsClosed, with_zones, IsFree, NoInodeFree, at_free_inode, plain_refuse, plain_or, plain_node}
use Rattle.tree.proofs.Outcomes.{plain_read, plain_walk_to_last, plain_parent_walk}

-- the tree with a new directory
abbrev pub with_new_directory : Tree → User → ℕ → ℕ → Place → ℕ → Tree
with_new_directory t user now mode place n =
    on_node (with_entry (with_node t n (Some (new_node now user mode 2 (empty_directory place.directory)))) now place n) place.directory (more_links 1)

module _ (g : Geometry) (t : Tree) (user : User) (now : ℕ) (P : Effects → Type 0) (steps : IsClosed P) where
  -- A link that is made.
  pub record IsLinkMade (new : PathFrom) (n : ℕ) (node : Node) (place : Place) : Type 0 where
    pub there : t.nodes n ≡ Some node
    pub file : is_dir node ≡ false
    pub few : node.links < most_links
    pub parts : Way
    pub read : read_path new ≡ Ok parts
    pub walked : parent_walk t user parts ≡ Ok place
    pub free : is_taken place parts ≡ false

  module _ (old new : PathFrom) (made : (n : ℕ) (node : Node) (place : Place) → IsLinkMade new n node place
      → P (λ z. if_it_fits (with_zones z g) done (with_entry (with_node t n (Some (with_ctime now (more_links 1 node)))) now place n))) where
    abbrev put_link : ℕ → Node → Place → Effects
    put_link n node place z = if_it_fits (with_zones z g) done (with_entry (with_node t n (Some (with_ctime now (more_links 1 node)))) now place n)

    abbrev from_parent : ℕ → Node → Place → Node → Effects
    from_parent n node place parent z = refuse_if (not (may_access user parent to_write)) EACCES >>= λ _. put_link n node place z

    abbrev from_free : ℕ → Node → Place → Effects
    from_free n node place z = node_at t place.directory >>= λ parent. from_parent n node place parent z

    abbrev from_place : Way → ℕ → Node → Place → Effects
    from_place parts n node place z = refuse_if (is_taken place parts) EEXIST >>= λ _. from_free n node place z

    abbrev from_few : Way → ℕ → Node → Effects
    from_few parts n node z = parent_walk t user parts >>= λ place. from_place parts n node place z

    abbrev from_file : Way → ℕ → Node → Effects
    from_file parts n node z = refuse_if (nat_le most_links node.links) EMLINK >>= λ _. from_few parts n node z

    abbrev from_node : Way → ℕ → Node → Effects
    from_node parts n node z = refuse_if (is_dir node) EPERM >>= λ _. from_file parts n node z

    abbrev from_walk : Way → ℕ → Effects
    from_walk parts n z = node_at t n >>= λ node. from_node parts n node z

    abbrev from_new : Way → Way → Effects
    from_new old_parts parts z = walk_to_last t user old_parts >>= λ n. from_walk parts n z

    abbrev from_old : Way → Effects
    from_old old_parts z = read_path new >>= λ parts. from_new old_parts parts z

    pub link_each : P (λ z. link (with_zones z g) t user now old new)
    link_each =
        steps _ (read_path old) from_old (plain_read old) (λ old_parts _.
        steps _ (read_path new) (from_new old_parts) (plain_read new) (λ parts read.
        steps _ (walk_to_last t user old_parts) (from_walk parts) (plain_walk_to_last t user old_parts) (λ n _.
        steps _ (node_at t n) (from_node parts n) (plain_node t n) (λ node at_node.
        steps _ (refuse_if (is_dir node) EPERM) (λ _. from_file parts n node) (plain_refuse _ _ refl) (λ x file.
        steps _ (refuse_if (nat_le most_links node.links) EMLINK) (λ _. from_few parts n node) (plain_refuse _ _ refl) (λ y few.
        steps _ (parent_walk t user parts) (from_place parts n node) (plain_parent_walk t user parts) (λ place walked.
        steps _ (refuse_if (is_taken place parts) EEXIST) (λ _. from_free n node place) (plain_refuse _ _ refl) (λ u free.
        steps _ (node_at t place.directory) (from_parent n node place) (plain_node t place.directory) (λ parent _.
        steps _ (refuse_if (not (may_access user parent to_write)) EACCES) (λ _. put_link n node place) (plain_refuse _ _ refl) (λ _ _.
        made n node place (record {
          there = was_there _ _ _ at_node;
          file = passed _ _ x file;
          few = leb-false most_links node.links (passed _ _ y few);
          parts = parts;
          read = read;
          walked = walked;
          free = passed _ _ u free;
        })))))))))))

  -- What mkdir has asked before it takes an inode.
  pub record IsDirectoryAsked (path : PathFrom) (mode : ℕ) (place : Place) (above : Node) : Type 0 where
    pub fits : mode ≤ most_permissions
    pub parts : Way
    pub read : read_path path ≡ Ok parts
    pub walked : parent_walk t user parts ≡ Ok place
    pub free : is_taken place parts ≡ false
    pub parent : t.nodes place.directory ≡ Some above
    pub few : above.links < most_links

  -- A directory that is made.
  pub record IsDirectoryMade (path : PathFrom) (mode n : ℕ) (place : Place) (above : Node) : Type 0 where
    pub fits : mode ≤ most_permissions
    pub parts : Way
    pub read : read_path path ≡ Ok parts
    pub walked : parent_walk t user parts ≡ Ok place
    pub free : is_taken place parts ≡ false
    pub parent : t.nodes place.directory ≡ Some above
    pub few : above.links < most_links
    pub inode : IsFree g t n

  -- Up to the inode, over any volumes: what holds of a directory that asks for an inode holds of the call.
  module _ (volumes : ℕ → Geometry) (path : PathFrom) (mode : ℕ) (asks : (place : Place) (parent : Node) → IsDirectoryAsked path mode place parent
      → P (λ z. free_inode (volumes z) t >>= λ n. if_it_fits (volumes z) done (with_new_directory t user now mode place n))) where
    abbrev below_few : Place → Effects
    below_few place z = free_inode (volumes z) t >>= λ n. if_it_fits (volumes z) done (with_new_directory t user now mode place n)

    abbrev below_writable : Place → Node → Effects
    below_writable place parent z = refuse_if (nat_le most_links parent.links) EMLINK >>= λ _. below_few place z

    abbrev below_parent : Place → Node → Effects
    below_parent place parent z = refuse_if (not (may_access user parent to_write)) EACCES >>= λ _. below_writable place parent z

    abbrev below_free : Place → Effects
    below_free place z = node_at t place.directory >>= λ parent. below_parent place parent z

    abbrev below_place : Way → Place → Effects
    below_place parts place z = refuse_if (is_taken place parts) EEXIST >>= λ _. below_free place z

    abbrev below_parts : Way → Effects
    below_parts parts z = parent_walk t user parts >>= λ place. below_place parts place z

    abbrev below_mode : Effects
    below_mode z = read_path path >>= λ parts. below_parts parts z

    pub mkdir_up_to_inode : P (λ z. mkdir (volumes z) t user now path mode)
    mkdir_up_to_inode =
        steps _ (refuse_if (nat_lt most_permissions mode) EINVAL) (λ _. below_mode) (plain_refuse _ _ refl) (λ x fits.
        steps _ (read_path path) below_parts (plain_read path) (λ parts read.
        steps _ (parent_walk t user parts) (below_place parts) (plain_parent_walk t user parts) (λ place walked.
        steps _ (refuse_if (is_taken place parts) EEXIST) (λ _. below_free place) (plain_refuse _ _ refl) (λ y free.
        steps _ (node_at t place.directory) (below_parent place) (plain_node t place.directory) (λ parent at_parent.
        steps _ (refuse_if (not (may_access user parent to_write)) EACCES) (λ _. below_writable place parent) (plain_refuse _ _ refl) (λ _ _.
        steps _ (refuse_if (nat_le most_links parent.links) EMLINK) (λ _. below_few place) (plain_refuse _ _ refl) (λ u few.
        asks place parent (record {
          fits = ltb-false most_permissions mode (passed _ _ x fits);
          parts = parts;
          read = read;
          walked = walked;
          free = passed _ _ y free;
          parent = was_there _ _ _ at_parent;
          few = leb-false most_links parent.links (passed _ _ u few);
        }))))))))

  pub mkdir_each : (path : PathFrom) (mode : ℕ) → (NoInodeFree g t → P (λ z. Err ENOSPC))
      → ((n : ℕ) (place : Place) (parent : Node) → IsDirectoryMade path mode n place parent → P (λ z. if_it_fits (with_zones z g) done (with_new_directory t user now mode place n)))
      → P (λ z. mkdir (with_zones z g) t user now path mode)
  mkdir_each path mode full made =
      mkdir_up_to_inode (λ z. with_zones z g) path mode (λ place parent asked.
      at_free_inode g t P (λ n z. if_it_fits (with_zones z g) done (with_new_directory t user now mode place n)) full (λ n inode.
      made n place parent (record {
        fits = asked.fits;
        parts = asked.parts;
        read = asked.read;
        walked = asked.walked;
        free = asked.free;
        parent = asked.parent;
        few = asked.few;
        inode = inode;
      })))

  -- A directory that goes.
  pub record IsDirectoryGone (n : ℕ) (node : Node) (place : Place) : Type 0 where
    pub parts : Way
    pub walked : parent_walk t user parts ≡ Ok place
    pub found : inode_of place.names place.name ≡ Some n
    pub there : t.nodes n ≡ Some node
    pub directory : is_dir node ≡ true
    pub empty : is_empty node ≡ true
    pub closed : is_open t n ≡ false

  module _ (path : PathFrom) (gone : (n : ℕ) (node : Node) (place : Place) → IsDirectoryGone n node place
      → P (λ z. Ok (done, with_node (on_node (without_entry t now place) place.directory (fewer_links 1)) n None))) where
    abbrev take : Place → ℕ → Effects
    take place n z = Ok (done, with_node (on_node (without_entry t now place) place.directory (fewer_links 1)) n None)

    abbrev after_empty : Place → ℕ → Effects
    after_empty place n z = refuse_if (is_open t n) EBUSY >>= λ _. take place n z

    abbrev after_directory : Place → ℕ → Node → Effects
    after_directory place n node z = refuse_if (not (is_empty node)) ENOTEMPTY >>= λ _. after_empty place n z

    abbrev after_node : Place → ℕ → Node → Effects
    after_node place n node z = refuse_if (not (is_dir node)) ENOTDIR >>= λ _. after_directory place n node z

    abbrev after_writable : Place → ℕ → Effects
    after_writable place n z = node_at t n >>= λ node. after_node place n node z

    abbrev after_parent : Place → ℕ → Node → Effects
    after_parent place n parent z = refuse_if (not (may_access user parent to_write)) EACCES >>= λ _. after_writable place n z

    abbrev after_name : Place → ℕ → Effects
    after_name place n z = node_at t place.directory >>= λ parent. after_parent place n parent z

    abbrev after_place : Place → Effects
    after_place place z = or_refuse (inode_of place.names place.name) ENOENT >>= λ n. after_name place n z

    abbrev after_last : Way → Effects
    after_last parts z = parent_walk t user parts >>= λ place. after_place place z

    abbrev after_parts : Way → Effects
    after_parts parts z = refuse_if (not (has_last_name parts)) EINVAL >>= λ _. after_last parts z

    pub rmdir_each : P (λ z. rmdir t user now path)
    rmdir_each =
        steps _ (read_path path) after_parts (plain_read path) (λ parts _.
        steps _ (refuse_if (not (has_last_name parts)) EINVAL) (λ _. after_last parts) (plain_refuse _ _ refl) (λ _ _.
        steps _ (parent_walk t user parts) after_place (plain_parent_walk t user parts) (λ place walked.
        steps _ (or_refuse (inode_of place.names place.name) ENOENT) (after_name place) (plain_or _ _ refl) (λ n found.
        steps _ (node_at t place.directory) (after_parent place n) (plain_node t place.directory) (λ parent _.
        steps _ (refuse_if (not (may_access user parent to_write)) EACCES) (λ _. after_writable place n) (plain_refuse _ _ refl) (λ _ _.
        steps _ (node_at t n) (after_node place n) (plain_node t n) (λ node at_node.
        steps _ (refuse_if (not (is_dir node)) ENOTDIR) (λ _. after_directory place n node) (plain_refuse _ _ refl) (λ x directory.
        steps _ (refuse_if (not (is_empty node)) ENOTEMPTY) (λ _. after_empty place n) (plain_refuse _ _ refl) (λ y empty.
        steps _ (refuse_if (is_open t n) EBUSY) (λ _. take place n) (plain_refuse _ _ refl) (λ u closed.
        gone n node place (record {
          parts = parts;
          walked = walked;
          found = was_there _ _ _ found;
          there = was_there _ _ _ at_node;
          directory = not-false _ (passed _ _ x directory);
          empty = not-false _ (passed _ _ y empty);
          closed = passed _ _ u closed;
        })))))))))))
