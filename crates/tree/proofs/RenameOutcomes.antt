-- What holds of the refusals and of the successes of rename holds of the call.
use Rattle.std.proofs.Common.{◌≡◌, ◌≢◌, ℕ, Bool, true, false, refl}
use Rattle.std.specs.Prelude.{Option, None, Some, Result, Ok, not, ◌&&◌, ◌||◌, ◌==◌, nat_le, if◌then◌else◌}
use Rattle.std.proofs.lemmas.Bool.{or_parts, not-false, eqb-false}
use Rattle.layout.specs.declared.Geometry.{Geometry}
use Rattle.errno.specs.declared.Errno.{Errno}
use Rattle.errno.specs.declared.Errno.TheVariants.{ENOENT, EACCES, EBUSY, EINVAL, EISDIR, ENOTDIR, ENOTEMPTY}
use Rattle.tree.specs.declared.PathFrom.{PathFrom}
use Rattle.tree.specs.declared.User.{User}
use Rattle.tree.specs.Names.{inode_of}
use Rattle.tree.specs.Tree.{Node, Tree, is_dir, is_open, most_links}
use Rattle.tree.specs.Refusals.{◌>>=◌, or_refuse, refuse_if}
use Rattle.tree.specs.Walk.{read_path, parent_walk, node_at, has_last_name, Place, may_access, to_write, Way}
use Rattle.tree.specs.Answers.{done, if_it_fits}
use Rattle.tree.specs.NameCalls.{is_empty, is_within, can_replace, has_room_for_link, without_moved, with_moved, without_replaced, rename_onto, is_same, rename}
use Rattle.tree.proofs.Steps.{passed, was_there, both_steps}
use Rattle.tree.proofs.Outcomes.{Effects, IsClosed, with_zones, is_plain, plain_refuse, plain_or, plain_bind, plain_node, plain_read, plain_parent_walk}

-- What lets a node take another's name.
pub record IsReplaceable (t : Tree) (node : Node) (q : ℕ) (other : Node) : Type 0 where
  pub directory_onto : (is_dir node && not (is_dir other)) ≡ false
  pub file_onto : (not (is_dir node) && is_dir other) ≡ false
  pub empty : (is_dir other && not (is_empty other)) ≡ false
  pub closed : (is_dir other && is_open t q) ≡ false

-- a node that may take another's name
is_replaceable : (t : Tree) (node : Node) (q : ℕ) (other : Node) (x : ℕ) → can_replace t node q other ≡ Ok x → IsReplaceable t node q other
is_replaceable t node q other x h =
    let a = both_steps (refuse_if (is_dir node && not (is_dir other)) ENOTDIR) (λ _. from_kind) x h in
    let b = both_steps (refuse_if (not (is_dir node) && is_dir other) EISDIR) (λ _. from_empty) x a.2 in
    let c = both_steps (refuse_if (is_dir other && not (is_empty other)) ENOTEMPTY) (λ _. refuse_if (is_dir other && is_open t q) EBUSY) x b.2 in
    record { directory_onto = passed _ _ a.0 a.1; file_onto = passed _ _ b.0 b.1; empty = passed _ _ c.0 c.1; closed = passed _ _ x c.2 }
  where
    from_empty : Result ℕ Errno
    from_empty = refuse_if (is_dir other && not (is_empty other)) ENOTEMPTY >>= λ _. refuse_if (is_dir other && is_open t q) EBUSY

    from_kind : Result ℕ Errno
    from_kind = refuse_if (not (is_dir node) && is_dir other) EISDIR >>= λ _. from_empty

-- asking whether it may doesn't ask for room
plain_can_replace : (t : Tree) (node : Node) (q : ℕ) (other : Node) → is_plain (can_replace t node q other) ≡ true
plain_can_replace t node q other =
    plain_bind (refuse_if (is_dir node && not (is_dir other)) ENOTDIR) (λ _. from_kind) (plain_refuse _ _ refl) (λ _.
    plain_bind (refuse_if (not (is_dir node) && is_dir other) EISDIR) (λ _. from_empty) (plain_refuse _ _ refl) (λ _.
    plain_bind (refuse_if (is_dir other && not (is_empty other)) ENOTEMPTY) (λ _. refuse_if (is_dir other && is_open t q) EBUSY) (plain_refuse _ _ refl) (λ _. plain_refuse _ _ refl)))
  where
    from_empty : Result ℕ Errno
    from_empty = refuse_if (is_dir other && not (is_empty other)) ENOTEMPTY >>= λ _. refuse_if (is_dir other && is_open t q) EBUSY

    from_kind : Result ℕ Errno
    from_kind = refuse_if (not (is_dir node) && is_dir other) EISDIR >>= λ _. from_empty

-- either branch of a test
pub at_test : (P : Effects → Type 0) (b : Bool) (F G : Effects) → (b ≡ true → P F) → (b ≡ false → P G) → P (λ z. if b then F z else G z)
at_test P true F G yes_case no_case = yes_case refl
at_test P false F G yes_case no_case = no_case refl

module _ (g : Geometry) (t : Tree) (user : User) (now : ℕ) (old_path new_path : PathFrom) (P : Effects → Type 0) (steps : IsClosed P) where
  -- The node that moves, from its old place to the new one.
  pub record IsMove (old new : Place) (n : ℕ) (node : Node) : Type 0 where
    pub old_parts : Way
    pub new_parts : Way
    pub read_old : read_path old_path ≡ Ok old_parts
    pub read : read_path new_path ≡ Ok new_parts
    pub last : has_last_name new_parts ≡ true
    pub from : parent_walk t user old_parts ≡ Ok old
    pub to : parent_walk t user new_parts ≡ Ok new
    pub found : inode_of old.names old.name ≡ Some n
    pub there : t.nodes n ≡ Some node

  pub record IsMoveToFree (old new : Place) (n : ℕ) (node : Node) : Type 0 where
    pub move : IsMove old new n node
    pub not_within : (is_dir node && is_within g t new.directory n) ≡ false
    pub free : inode_of new.names new.name ≡ None
    pub parent : Node
    pub parent_there : t.nodes new.directory ≡ Some parent
    pub room : (is_dir node && not (old.directory == new.directory) && nat_le most_links parent.links) ≡ false

  pub record IsMoveOnto (old new : Place) (n : ℕ) (node : Node) (q : ℕ) (other : Node) : Type 0 where
    pub move : IsMove old new n node
    pub not_within : (is_dir node && is_within g t new.directory n) ≡ false
    pub taken : inode_of new.names new.name ≡ Some q
    pub differs : n ≢ q
    pub other_there : t.nodes q ≡ Some other
    pub can : IsReplaceable t node q other

  module _ (same : P (λ z. Ok (done, t)))
      (to_free : (old new : Place) (n : ℕ) (node : Node) → IsMoveToFree old new n node → P (λ z. if_it_fits (with_zones z g) done (with_moved (without_moved t now old node) now new n node)))
      (onto : (old new : Place) (n : ℕ) (node : Node) (q : ℕ) (other : Node) → IsMoveOnto old new n node q other
      → P (λ z. if_it_fits (with_zones z g) done (without_replaced (with_moved (without_moved t now old node) now new n node) now new q other))) where
    abbrev move_free : Place → Place → ℕ → Node → Effects
    move_free old new n node z = if_it_fits (with_zones z g) done (with_moved (without_moved t now old node) now new n node)

    abbrev at_room : Place → Place → ℕ → Node → Node → Effects
    at_room old new n node parent z = has_room_for_link node old.directory new.directory parent >>= λ _. move_free old new n node z

    abbrev move_onto : Place → Place → ℕ → Node → ℕ → Node → Effects
    move_onto old new n node q other z = if_it_fits (with_zones z g) done (without_replaced (with_moved (without_moved t now old node) now new n node) now new q other)

    abbrev at_other : Place → Place → ℕ → Node → ℕ → Node → Effects
    at_other old new n node q other z = can_replace t node q other >>= λ _. move_onto old new n node q other z

    onto_each : (old new : Place) (n : ℕ) (node : Node) → IsMove old new n node → (is_dir node && is_within g t new.directory n) ≡ false
        → (o : Option ℕ) → inode_of new.names new.name ≡ o → is_same n o ≡ false → P (λ z. rename_onto (with_zones z g) t now old new n node o)
    onto_each old new n node move not_within None free differs =
        steps _ (node_at t new.directory) (at_room old new n node) (plain_node t new.directory) (λ parent parent_is.
        steps _ (has_room_for_link node old.directory new.directory parent) (λ _. move_free old new n node) (plain_refuse _ _ refl) (λ x room.
        to_free old new n node (record { move = move; not_within = not_within; free = free; parent = parent; parent_there = was_there _ _ _ parent_is; room = passed _ _ x room })))
    onto_each old new n node move not_within (Some q) taken differs =
        steps _ (node_at t q) (at_other old new n node q) (plain_node t q) (λ other other_is.
        steps _ (can_replace t node q other) (λ _. move_onto old new n node q other) (plain_can_replace t node q other) (λ x can.
        onto old new n node q other (record {
          move = move;
          not_within = not_within;
          taken = taken;
          differs = eqb-false n q differs;
          other_there = was_there _ _ _ other_is;
          can = is_replaceable t node q other x can;
        })))

    abbrev at_place : Place → Place → ℕ → Node → Effects
    at_place old new n node z = rename_onto (with_zones z g) t now old new n node (inode_of new.names new.name)

    abbrev at_other_node : Place → Place → ℕ → Node → Effects
    at_other_node old new n node z = refuse_if (is_dir node && is_within g t new.directory n) EINVAL >>= λ _. at_place old new n node z

    abbrev at_node : Place → Place → ℕ → Node → Effects
    at_node old new n node z = if is_same n (inode_of new.names new.name) then Ok (done, t) else at_other_node old new n node z

    abbrev at_writable : Place → Place → ℕ → Effects
    at_writable old new n z = node_at t n >>= λ node. at_node old new n node z

    abbrev at_new_parent : Place → Place → ℕ → Node → Effects
    at_new_parent old new n parent z = refuse_if (not (may_access user parent to_write)) EACCES >>= λ _. at_writable old new n z

    abbrev at_old_writable : Place → Place → ℕ → Effects
    at_old_writable old new n z = node_at t new.directory >>= λ parent. at_new_parent old new n parent z

    abbrev at_old_parent : Place → Place → ℕ → Node → Effects
    at_old_parent old new n parent z = refuse_if (not (may_access user parent to_write)) EACCES >>= λ _. at_old_writable old new n z

    abbrev at_new : Place → ℕ → Place → Effects
    at_new old n new z = node_at t old.directory >>= λ parent. at_old_parent old new n parent z

    abbrev at_found : Way → Place → ℕ → Effects
    at_found new_parts old n z = parent_walk t user new_parts >>= λ new. at_new old n new z

    abbrev at_old : Way → Place → Effects
    at_old new_parts old z = or_refuse (inode_of old.names old.name) ENOENT >>= λ n. at_found new_parts old n z

    abbrev at_last : Way → Way → Effects
    at_last old_parts new_parts z = parent_walk t user old_parts >>= λ old. at_old new_parts old z

    abbrev at_parts : Way → Way → Effects
    at_parts old_parts new_parts z = refuse_if (not (has_last_name old_parts) || not (has_last_name new_parts)) EINVAL >>= λ _. at_last old_parts new_parts z

    abbrev at_old_read : Way → Effects
    at_old_read old_parts z = read_path new_path >>= λ new_parts. at_parts old_parts new_parts z

    pub rename_each : P (λ z. rename (with_zones z g) t user now old_path new_path)
    rename_each =
        steps _ (read_path old_path) at_old_read (plain_read old_path) (λ old_parts read_old.
        steps _ (read_path new_path) (at_parts old_parts) (plain_read new_path) (λ new_parts read.
        steps _ (refuse_if (not (has_last_name old_parts) || not (has_last_name new_parts)) EINVAL) (λ _. at_last old_parts new_parts) (plain_refuse _ _ refl) (λ x last.
        steps _ (parent_walk t user old_parts) (at_old new_parts) (plain_parent_walk t user old_parts) (λ old from.
        steps _ (or_refuse (inode_of old.names old.name) ENOENT) (at_found new_parts old) (plain_or _ _ refl) (λ n found.
        steps _ (parent_walk t user new_parts) (at_new old n) (plain_parent_walk t user new_parts) (λ new to.
        steps _ (node_at t old.directory) (at_old_parent old new n) (plain_node t old.directory) (λ old_parent _.
        steps _ (refuse_if (not (may_access user old_parent to_write)) EACCES) (λ _. at_old_writable old new n) (plain_refuse _ _ refl) (λ _ _.
        steps _ (node_at t new.directory) (at_new_parent old new n) (plain_node t new.directory) (λ new_parent _.
        steps _ (refuse_if (not (may_access user new_parent to_write)) EACCES) (λ _. at_writable old new n) (plain_refuse _ _ refl) (λ _ _.
        steps _ (node_at t n) (at_node old new n) (plain_node t n) (λ node node_is.
        at_test P (is_same n (inode_of new.names new.name)) (λ z. Ok (done, t)) (at_other_node old new n node) (λ _. same) (λ differs.
        steps _ (refuse_if (is_dir node && is_within g t new.directory n) EINVAL) (λ _. at_place old new n node) (plain_refuse _ _ refl) (λ y within.
        onto_each old new n node (record {
          old_parts = old_parts;
          new_parts = new_parts;
          read_old = read_old;
          read = read;
          last = not-false _ (or_parts _ (not (has_last_name new_parts)) (passed _ _ x last)).1;
          from = from;
          to = to;
          found = was_there _ _ _ found;
          there = was_there _ _ _ node_is;
        }) (passed _ _ y within) (inode_of new.names new.name) refl differs)))))))))))))
