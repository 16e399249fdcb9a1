-- What holds of the refusals and of the successes of symlink holds of the call.
use Rattle.std.proofs.Common.{◌≡◌, ◌≤◌, ℕ, List, false, refl, length}
use Rattle.std.specs.Prelude.{Some, Ok, Err, not, ◌==◌, nat_lt}
use Rattle.std.specs.List.{list_any}
use Rattle.std.proofs.lemmas.Bool.{ltb-false}
use Rattle.layout.specs.declared.Geometry.{Geometry}
use Rattle.errno.specs.declared.Errno.TheVariants.{ENOENT, EACCES, EEXIST, EINVAL, ENAMETOOLONG, ENOSPC}
use Rattle.tree.specs.declared.PathFrom.{PathFrom}
use Rattle.tree.specs.declared.User.{User}
use Rattle.tree.specs.Tree.{Node, Tree, with_node, most_target}
use Rattle.tree.specs.Refusals.{◌>>=◌, refuse_if}
use Rattle.tree.specs.Walk.{read_path, parent_walk, node_at, is_taken, Place, may_access, to_write, Way}
use Rattle.tree.specs.Changes.{new_link, free_inode}
use Rattle.tree.specs.Answers.{done, if_it_fits}
use Rattle.tree.specs.NameCalls.{with_entry, symlink}
use Rattle.tree.proofs.Steps.{passed}
use Rattle.tree.proofs.Outcomes.{Effects, IsClosed, with_zones, IsFree, NoInodeFree, at_free_inode, plain_refuse, plain_node, plain_read}
use Rattle.tree.proofs.Outcomes.{plain_parent_walk}

-- the tree with a new link
abbrev pub with_new_link : Tree → User → ℕ → List ℕ → Place → ℕ → Tree
with_new_link t user now target place n = with_entry (with_node t n (Some (new_link now user target))) now place n

module _ (g : Geometry) (t : Tree) (user : User) (now : ℕ) (P : Effects → Type 0) (steps : IsClosed P) where
  -- What symlink has asked before it takes an inode.
  pub record IsLinkAsked (target : List ℕ) (path : PathFrom) (place : Place) : Type 0 where
    pub some : (length target == 0) ≡ false
    pub few : length target ≤ most_target
    pub clean : list_any (λ c. c == 0) target ≡ false
    pub parts : Way
    pub read : read_path path ≡ Ok parts
    pub walked : parent_walk t user parts ≡ Ok place
    pub free : is_taken place parts ≡ false

  -- A link that is made.
  pub record IsSymlinkMade (target : List ℕ) (path : PathFrom) (n : ℕ) (place : Place) : Type 0 where
    pub asked : IsLinkAsked target path place
    pub inode : IsFree g t n

  -- Up to the inode, over any volumes: what holds of a link that asks for an inode holds of the call.
  module _ (volumes : ℕ → Geometry) (target : List ℕ) (path : PathFrom) (asks : (place : Place) → IsLinkAsked target path place
      → P (λ z. free_inode (volumes z) t >>= λ n. if_it_fits (volumes z) done (with_new_link t user now target place n))) where
    abbrev below_writable : Place → Effects
    below_writable place z = free_inode (volumes z) t >>= λ n. if_it_fits (volumes z) done (with_new_link t user now target place n)

    abbrev below_parent : Place → Node → Effects
    below_parent place parent z = refuse_if (not (may_access user parent to_write)) EACCES >>= λ _. below_writable place z

    abbrev below_free : Place → Effects
    below_free place z = node_at t place.directory >>= λ parent. below_parent place parent z

    abbrev below_place : Way → Place → Effects
    below_place parts place z = refuse_if (is_taken place parts) EEXIST >>= λ _. below_free place z

    abbrev below_parts : Way → Effects
    below_parts parts z = parent_walk t user parts >>= λ place. below_place parts place z

    abbrev below_target : Effects
    below_target z = read_path path >>= λ parts. below_parts parts z

    abbrev below_few : Effects
    below_few z = refuse_if (list_any (λ c. c == 0) target) EINVAL >>= λ _. below_target z

    abbrev below_some : Effects
    below_some z = refuse_if (nat_lt most_target (length target)) ENAMETOOLONG >>= λ _. below_few z

    pub symlink_up_to_inode : P (λ z. symlink (volumes z) t user now target path)
    symlink_up_to_inode =
        steps _ (refuse_if (length target == 0) ENOENT) (λ _. below_some) (plain_refuse _ _ refl) (λ x some.
        steps _ (refuse_if (nat_lt most_target (length target)) ENAMETOOLONG) (λ _. below_few) (plain_refuse _ _ refl) (λ y few.
        steps _ (refuse_if (list_any (λ c. c == 0) target) EINVAL) (λ _. below_target) (plain_refuse _ _ refl) (λ u clean.
        steps _ (read_path path) below_parts (plain_read path) (λ parts read.
        steps _ (parent_walk t user parts) (below_place parts) (plain_parent_walk t user parts) (λ place walked.
        steps _ (refuse_if (is_taken place parts) EEXIST) (λ _. below_free place) (plain_refuse _ _ refl) (λ v free.
        steps _ (node_at t place.directory) (below_parent place) (plain_node t place.directory) (λ parent _.
        steps _ (refuse_if (not (may_access user parent to_write)) EACCES) (λ _. below_writable place) (plain_refuse _ _ refl) (λ _ _.
        asks place (record {
          some = passed _ _ x some;
          few = ltb-false most_target (length target) (passed _ _ y few);
          clean = passed _ _ u clean;
          parts = parts;
          read = read;
          walked = walked;
          free = passed _ _ v free;
        })))))))))

  pub symlink_each : (target : List ℕ) (path : PathFrom) → (NoInodeFree g t → P (λ z. Err ENOSPC))
      → ((n : ℕ) (place : Place) → IsSymlinkMade target path n place → P
      (λ z. if_it_fits (with_zones z g) done (with_new_link t user now target place n)))
      → P (λ z. symlink (with_zones z g) t user now target path)
  symlink_each target path full made =
      symlink_up_to_inode (λ z. with_zones z g) target path (λ place asked.
      at_free_inode g t P (λ n z. if_it_fits (with_zones z g) done (with_new_link t user now target place n)) full (λ n inode.
      made n place (record { asked = asked; inode = inode })))
