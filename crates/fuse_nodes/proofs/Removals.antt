-- What holds of the refusals and of the successes of unlink and rmdir holds of the calls; the path names what is removed.
use Rattle.std.proofs.Common.{◌≡◌, ℕ, true, false, refl, sym, ap, ◌∙◌}
use Rattle.std.specs.Prelude.{None, Some, Result, Ok, Err, not}
use Rattle.std.proofs.lemmas.Bool.{cond-true, not-false}
use Rattle.errno.specs.declared.Errno.{Errno}
use Rattle.errno.specs.declared.Errno.TheVariants.{EPERM, ENOENT, EACCES, EBUSY, ENOTDIR, EINVAL, ENOTEMPTY}
use Rattle.tree.specs.declared.PathFrom.{PathFrom}
use Rattle.tree.specs.declared.User.{User}
use Rattle.tree.specs.Names.{inode_of}
use Rattle.tree.specs.Tree.{Node, Tree, is_dir, is_open, with_node, on_node}
use Rattle.tree.specs.Refusals.{◌>>=◌, or_refuse, refuse_if}
use Rattle.tree.specs.Walk.{read_path, parent_walk, walk_parts, walk_to_last, look_up, found_or, found_at, is_there, is_missing, node_at, has_last_name, Place, Way, may_access, to_write}
use Rattle.tree.specs.Changes.{fewer_links}
use Rattle.tree.specs.Answers.{done}
use Rattle.tree.specs.NameCalls.{without_entry, with_name_lost, is_empty, unlink, rmdir}
use Rattle.tree.proofs.Steps.{passed, was_there}
use Rattle.tree.proofs.Outcomes.{Effects, IsClosed, plain_refuse, plain_or, plain_node, plain_read, plain_parent_walk}
use Rattle.fuse_nodes.specs.Files.{Names}

-- a name in a directory is what the path with that last name names
pub names_it : (t : Tree) (user : User) (path : PathFrom) (way : Way) (place : Place) (n : ℕ) → read_path path ≡ Ok way → has_last_name way ≡ true
    → parent_walk t user way ≡ Ok place → inode_of place.names place.name ≡ Some n → Names t user path n
names_it t user path way place n read last walked found =
    ap (λ r. r >>= walk_to_last t user) read
    ∙ ap (λ r. r >>= λ it. found_or it ENOENT) (cond-true (has_last_name way) (parent_walk t user way >>= λ p. Ok (found_at p)) (walk_parts t user way >>= λ m. Ok (is_there m)) last)
    ∙ ap (λ r. (r >>= λ p. Ok (found_at p)) >>= λ it. found_or it ENOENT) walked
    ∙ ap (λ o. found_or (elim o [ None ↦ is_missing place | Some m ↦ is_there m ]) ENOENT) found

module _ (t : Tree) (user : User) (now : ℕ) (path : PathFrom) (P : Effects → Type 0) (steps : IsClosed P) where
  -- A node that the path names.
  pub record IsNamed (n : ℕ) (node : Node) (place : Place) : Type 0 where
    pub names : Names t user path n
    pub there : t.nodes n ≡ Some node

  module _ (lose : Place → ℕ → Node → Effects) (each : (n : ℕ) (node : Node) (place : Place) → IsNamed n node place → P (lose place n node)) where
    abbrev at_writable : Place → ℕ → Effects
    at_writable place n z = node_at t n >>= λ node. lose place n node z

    abbrev at_parent : Place → ℕ → Node → Effects
    at_parent place n parent z = refuse_if (not (may_access user parent to_write)) EACCES >>= λ _. at_writable place n z

    abbrev at_name : Place → ℕ → Effects
    at_name place n z = node_at t place.directory >>= λ parent. at_parent place n parent z

    abbrev at_place : Place → Effects
    at_place place z = or_refuse (inode_of place.names place.name) ENOENT >>= λ n. at_name place n z

    abbrev at_last : Way → Effects
    at_last way z = parent_walk t user way >>= λ place. at_place place z

    abbrev at_way : Way → Effects
    at_way way z = refuse_if (not (has_last_name way)) EINVAL >>= λ _. at_last way z

    pub named_each : P (λ z. read_path path >>= λ way. at_way way z)
    named_each =
        steps _ (read_path path) at_way (plain_read path) (λ way read.
        steps _ (refuse_if (not (has_last_name way)) EINVAL) (λ _. at_last way) (plain_refuse _ _ refl) (λ x last.
        steps _ (parent_walk t user way) at_place (plain_parent_walk t user way) (λ place walked.
        steps _ (or_refuse (inode_of place.names place.name) ENOENT) (at_name place) (plain_or _ _ refl) (λ n found.
        steps _ (node_at t place.directory) (at_parent place n) (plain_node t place.directory) (λ parent _.
        steps _ (refuse_if (not (may_access user parent to_write)) EACCES) (λ _. at_writable place n) (plain_refuse _ _ refl) (λ _ _.
        steps _ (node_at t n) (lose place n) (plain_node t n) (λ node at_node.
        each n node place (record {
          names = names_it t user path way place n read (not-false _ (passed _ _ x last)) walked (was_there _ _ _ found);
          there = was_there _ _ _ at_node;
        }))))))))

  -- unlink
  abbrev lose_name : Place → ℕ → Node → Effects
  lose_name place n node z = refuse_if (is_dir node) EPERM >>= λ _. Ok (done, with_name_lost (without_entry t now place) now n)

  pub unlink_named : ((n : ℕ) (node : Node) (place : Place) → IsNamed n node place → P (λ z. Ok (done, with_name_lost (without_entry t now place) now n)))
      → P (λ z. unlink t user now path)
  unlink_named each = named_each lose_name (λ n node place named.
      steps _ (refuse_if (is_dir node) EPERM) (λ _ z. Ok (done, with_name_lost (without_entry t now place) now n)) (plain_refuse _ _ refl) (λ x file.
      each n node place named))

  -- rmdir
  abbrev gone : Place → ℕ → Effects
  gone place n z = Ok (done, with_node (on_node (without_entry t now place) place.directory (fewer_links 1)) n None)

  abbrev after_empty : Place → ℕ → Effects
  after_empty place n z = refuse_if (is_open t n) EBUSY >>= λ _. gone place n z

  abbrev after_directory : Place → ℕ → Node → Effects
  after_directory place n node z = refuse_if (not (is_empty node)) ENOTEMPTY >>= λ _. after_empty place n z

  abbrev after_node : Place → ℕ → Node → Effects
  after_node place n node z = refuse_if (not (is_dir node)) ENOTDIR >>= λ _. after_directory place n node z

  pub rmdir_named : ((n : ℕ) (node : Node) (place : Place) → IsNamed n node place → is_dir node ≡ true → is_open t n ≡ false → P (gone place n))
      → P (λ z. rmdir t user now path)
  rmdir_named each = named_each after_node (λ n node place named.
      steps _ (refuse_if (not (is_dir node)) ENOTDIR) (λ _. after_directory place n node) (plain_refuse _ _ refl) (λ x directory.
      steps _ (refuse_if (not (is_empty node)) ENOTEMPTY) (λ _. after_empty place n) (plain_refuse _ _ refl) (λ y empty.
      steps _ (refuse_if (is_open t n) EBUSY) (λ _. gone place n) (plain_refuse _ _ refl) (λ u closed.
      each n node place named (not-false _ (passed _ _ x directory)) (passed _ _ u closed)))))
