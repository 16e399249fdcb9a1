-- A call that looks leaves the nodes of a tree, and a tree.
use Rattle.std.proofs.Common.{◌≡◌, ◌<◌, ℕ, ℤ, zero, suc, Bool, true, false, refl, sym, ◌∙◌, ap, subst, arith}
use mathlib.Core.Logic.{inl, inr}
use Rattle.std.specs.Prelude.{Option, None, Some, is_some, Result, Ok, Err, IsTrue, not, nat_le, nat_lt, ◌&&◌, ◌||◌, ◌==◌}
use Rattle.std.proofs.lemmas.Bool.{cond_both, leb-false, and_cases, and_parts, or_parts, not_from_false, ne_eqb}
use Rattle.lemmas.proofs.Bools.{false_not_true, from_clash}
use Rattle.errno.specs.declared.Errno.{Errno}
use Rattle.errno.specs.declared.Errno.TheVariants.{ENOENT, EBADF, EACCES, EEXIST, EISDIR, EINVAL, ENFILE, EMFILE, ELOOP}
use Rattle.layout.specs.declared.Geometry.{Geometry}
use Rattle.tree.specs.declared.PathFrom.{PathFrom}
use Rattle.tree.specs.declared.OpenFlags.{OpenFlags}
use Rattle.tree.specs.declared.Whence.{Whence}
use Rattle.tree.specs.declared.Who.{Who}
use Rattle.tree.specs.declared.Call.{Call}
use Rattle.tree.specs.declared.Call.TheVariants.{Open, Close, Dup, Read, Write, Seek, Stat, Fstat, Link, Unlink, Mkdir, Rmdir, Rename}
use Rattle.tree.specs.declared.Call.TheVariants.{Chmod, Chown, Utime, Truncate, Readdir, Sync, Statfs, Symlink, Readlink, Lstat}
use Rattle.tree.specs.Flags.{creates, truncates, reads, writes, is_exclusive, bad_flags}
use Rattle.tree.specs.Tree.{is_file, is_directory, Body, Node, OpenFile, Tree, is_dir, is_open, has_descriptor, with_node, with_open_file, with_descriptor}
use Rattle.tree.specs.Tree.{most_sessions, most_descriptors, most_open_files, most_bytes, most_size, most_permissions}
use Rattle.tree.specs.IsTree.{IsTree}
use Rattle.tree.specs.Refusals.{◌>>=◌, or_refuse, refuse_if, free_place}
use Rattle.tree.specs.Walk.{Found, is_there, is_missing, read_path, node_at, open_look_up, may_access, to_read, to_write}
use Rattle.tree.specs.Changes.{open_file_of, has_no_link, without_unused, without_nameless}
use Rattle.tree.specs.Answers.{Answer, Effect, done}
use Rattle.tree.specs.NodeCalls.{file_or}
use Rattle.tree.specs.FileCalls.{Slot, with_open, after_truncate_flag, open_found, seek_base, seek_place}
use Rattle.tree.specs.Effects.{effect_in_session, tree_after_call, user_of}
use Rattle.tree.proofs.Steps.{passed, was_there}
use Rattle.tree.proofs.Search.{free_place_is}
use Rattle.tree.proofs.Shapes.{kind_of}
use Rattle.tree.proofs.Leaves.{looks_leave}
use Rattle.tree.proofs.NewlyOpen.{IsFreeSlot, opened_is_tree}
use Rattle.tree.proofs.Closed.{close_keeps}
use Rattle.tree.proofs.OpenFileCalls.{seek_keeps, read_keeps, dup_keeps}
use Rattle.volume.specs.Reading.{Disk}
use Rattle.volume.specs.Holds.{HoldsVolume}
use Rattle.records.specs.Legal.{is_no_memory, may_lack_memory, tree_after_answer}
use Rattle.records.specs.Settled.{only_looks, has_link}

-- it has the same nodes, and is a tree
pub record Leaves (g : Geometry) (t u : Tree) : Type 0 where
  pub is_tree : IsTree g u
  pub nodes : u.nodes ≡ t.nodes

-- the tree that an effect leaves
abbrev left : Tree → Effect → Tree
left t o = elim o [ Ok made ↦ made.1 | Err e ↦ t ]

-- what holds of the tree, and after each value of a step, holds after the step
bound : {A : Type 0} (Q : Tree → Type 0) (t : Tree) (r : Result A Errno) (f : A → Effect) → Q t → ((x : A) → r ≡ Ok x → Q (left t (f x)))
    → Q (left t (r >>= f))
bound Q t (Ok x) f base each = each x refl
bound Q t (Err e) f base each = base

-- what holds of the tree, and after the call of a session that may be, holds after the call
in_session : (Q : Tree → Type 0) (g : Geometry) (t : Tree) (who : Who) (now : ℕ) (call : Call) → Q t
    → (who.session < most_sessions → Q (left t (effect_in_session g t who now call))) → Q (tree_after_call g t who now call)
in_session Q g t who now call base h =
    bound Q t (refuse_if (nat_le most_sessions who.session) EINVAL) (λ _. effect_in_session g t who now call) base (λ x allowed.
    h (leb-false most_sessions who.session (passed _ _ x allowed)))

-- a test that fails
from_not : {b : Bool} → not b ≡ true → b ≡ false
from_not {b = false} h = refl
from_not {b = true} h = absurd (false_not_true h)

-- ---- the nodes

-- no truncate flag leaves the tree
uncut : (g : Geometry) (t : Tree) (now flags n : ℕ) (Q : Tree → Type 0) → Q t → truncates flags ≡ false → (body : Body) (node : Node)
    → Q (after_truncate_flag g t now flags n (record node { body = body }))
uncut g t now flags n Q stays none (is_file f) node = cond_both (truncates flags) _ t Q (λ e. from_clash (sym e ∙ none)) (λ _. stays)
uncut g t now flags n Q stays none (is_directory d) node = stays

-- what has a link isn't without one
some_link : (k : ℕ) → nat_lt 0 k ≡ true → (k == 0) ≡ false
some_link zero h = absurd (false_not_true h)
some_link (suc k) h = ne_eqb (suc k) 0 (λ e. absurd (omega (arith, e)))

linked : (o : Option Node) → (elim o [ None ↦ true | Some node ↦ nat_lt 0 node.links ]) ≡ true → has_no_link o ≡ false
linked None h = refl
linked (Some node) h = some_link node.links h

-- a file with a link stays when it is closed
named_stays : (t u : Tree) (n : ℕ) → u.nodes ≡ t.nodes → has_link t n ≡ true → (without_nameless u n).nodes ≡ t.nodes
named_stays t u n same h =
    cond_both (has_no_link (u.nodes n) && not (is_open u n)) (with_node u n None) u (λ v. v.nodes ≡ t.nodes)
    (λ e. from_clash (sym (and_parts (has_no_link (u.nodes n)) (not (is_open u n)) e).0 ∙ ap (λ (f : ℕ → Option Node). has_no_link (f n)) same ∙ linked (t.nodes n) h))
    (λ _. same)

unused_stays : (t : Tree) (k : ℕ) → (without_unused t k).nodes ≡ t.nodes
unused_stays t k = cond_both (has_descriptor t k) t (with_open_file t k None) (λ v. v.nodes ≡ t.nodes) (λ _. refl) (λ _. refl)

close_stays : (g : Geometry) (t : Tree) (who : Who) (now fd : ℕ) → only_looks t who (Close fd) ≡ true → (tree_after_call g t who now (Close fd)).nodes ≡ t.nodes
close_stays g t who now fd looks = in_session (λ u. u.nodes ≡ t.nodes) g t who now (Close fd) refl (λ _.
    bound (λ u. u.nodes ≡ t.nodes) t (open_file_of t who.session fd)
    (λ found. Ok (done, without_nameless (without_unused (with_descriptor t who.session fd None) found.0) found.1.inode)) refl (λ found is.
    named_stays t (without_unused (with_descriptor t who.session fd None) found.0) found.1.inode
    (unused_stays (with_descriptor t who.session fd None) found.0)
    (sym (ap (λ (r : Result (ℕ × OpenFile) Errno). elim r [ Ok x ↦ has_link t x.1.inode | Err e ↦ true ]) is) ∙ looks)))

abbrev Stays : Tree → Tree → Type 0
Stays t u = u.nodes ≡ t.nodes

dup_stays : (g : Geometry) (t : Tree) (who : Who) (now fd : ℕ) → (tree_after_call g t who now (Dup fd)).nodes ≡ t.nodes
dup_stays g t who now fd = in_session (Stays t) g t who now (Dup fd) refl (λ _.
    bound (Stays t) t (open_file_of t who.session fd) _ refl (λ found is.
    bound (Stays t) t (free_place (t.descriptors who.session) most_descriptors EMFILE) _ refl (λ other free. refl)))

read_stays : (g : Geometry) (t : Tree) (who : Who) (now fd count : ℕ) → (tree_after_call g t who now (Read fd count)).nodes ≡ t.nodes
read_stays g t who now fd count = in_session (Stays t) g t who now (Read fd count) refl (λ _.
    bound (Stays t) t (open_file_of t who.session fd) _ refl (λ found is.
    bound (Stays t) t (refuse_if (not (reads found.1.flags)) EBADF) _ refl (λ _ _.
    bound (Stays t) t (node_at t found.1.inode) _ refl (λ node _.
    bound (Stays t) t (file_or node EISDIR) _ refl (λ f _.
    bound (Stays t) t (refuse_if (nat_lt most_bytes count) EINVAL) _ refl (λ _ _. refl))))))

seek_stays : (g : Geometry) (t : Tree) (who : Who) (now fd : ℕ) (whence : Whence) (offset : ℤ) → (tree_after_call g t who now (Seek fd whence offset)).nodes ≡ t.nodes
seek_stays g t who now fd whence offset = in_session (Stays t) g t who now (Seek fd whence offset) refl (λ _.
    bound (Stays t) t (open_file_of t who.session fd) _ refl (λ found is.
    bound (Stays t) t (node_at t found.1.inode) _ refl (λ node _.
    bound (Stays t) t (file_or node EISDIR) _ refl (λ f _.
    bound (Stays t) t (or_refuse (seek_place (seek_base f found.1.position whence) offset) EINVAL) _ refl (λ at _.
    bound (Stays t) t (refuse_if (nat_lt most_size at) EINVAL) _ refl (λ _ _. refl))))))

-- ---- open

open_leaves : (g : Geometry) (t : Tree) (who : Who) (now : ℕ) (path : PathFrom) (flags : OpenFlags) (mode : ℕ) → IsTree g t
    → creates flags.0 ≡ false → truncates flags.0 ≡ false → Leaves g t (tree_after_call g t who now (Open path flags mode))
open_leaves g t who now path flags mode tree none uncut_is = in_session (Leaves g t) g t who now (Open path flags mode) same (λ inside.
    bound (Leaves g t) t (refuse_if (bad_flags flags.0 || nat_lt most_permissions mode) EINVAL) _ same (λ x good.
    bound (Leaves g t) t (free_place (t.descriptors who.session) most_descriptors EMFILE) _ same (λ fd free_fd.
    bound (Leaves g t) t (free_place t.open_files most_open_files ENFILE) _ same (λ k free_k.
    bound (Leaves g t) t (read_path path) _ same (λ way _.
    bound (Leaves g t) t (open_look_up t (user_of who) (creates flags.0 && is_exclusive flags.0) way) _ same (λ found _.
    let slot : Slot = record { session = who.session; fd = fd; number = k } in
    let free : IsFreeSlot t slot = record {
      session = inside;
      fd = (free_place_is (t.descriptors who.session) most_descriptors EMFILE fd free_fd).0;
      number = (free_place_is t.open_files most_open_files ENFILE k free_k).0;
      no_descriptor = (free_place_is (t.descriptors who.session) most_descriptors EMFILE fd free_fd).1;
      no_file = (free_place_is t.open_files most_open_files ENFILE k free_k).1;
    } in
    at_found slot free (not_from_false _ (or_parts (bad_flags flags.0) (nat_lt most_permissions mode) (passed _ _ x good)).0) found))))))
  where
    same : Leaves g t t
    same = record { is_tree = tree; nodes = refl }

    at_found : (slot : Slot) → IsFreeSlot t slot → IsTrue (not (bad_flags flags.0)) → (found : Found)
        → Leaves g t (left t (open_found g t (user_of who) now slot flags.0 mode found))
    at_found slot free good (is_there n) =
        bound (Leaves g t) t (refuse_if (creates flags.0 && is_exclusive flags.0) EEXIST) _ same (λ _ _.
        bound (Leaves g t) t (node_at t n) _ same (λ node there.
        bound (Leaves g t) t (refuse_if node.symbolic ELOOP) _ same (λ _ _.
        bound (Leaves g t) t (refuse_if (is_dir node && writes flags.0) EISDIR) _ same (λ y file.
        bound (Leaves g t) t (refuse_if ((reads flags.0 && not (may_access (user_of who) node to_read)) || (writes flags.0 && not (may_access (user_of who) node to_write))) EACCES) _ same (λ _ _.
        let is : t.nodes n ≡ Some node = was_there _ _ _ there in
        uncut g t now flags.0 n (λ u. Leaves g t (with_open u slot n flags.0))
        (record {
          is_tree = opened_is_tree g t tree slot free n flags.0 (ap is_some is) good
              (λ w. ap kind_of is ∙ elim (and_cases (is_dir node) (writes flags.0) (passed _ _ y file)) [ inl f ↦ f | inr never ↦ absurd (false_not_true (sym never ∙ w)) ]);
          nodes = refl;
        }) uncut_is node.body node)))))
    at_found slot free good (is_missing place) =
        bound (Leaves g t) t (refuse_if (not (creates flags.0)) ENOENT) _ same (λ x made.
        absurd (false_not_true (sym (passed _ _ x made) ∙ ap not none)))

-- ---- each call that looks

kept : (g : Geometry) (t u : Tree) → IsTree g u → u.nodes ≡ t.nodes → Leaves g t u
kept g t u tree same = record { is_tree = tree; nodes = same }

left_alone : (g : Geometry) (t u : Tree) → IsTree g t → u ≡ t → Leaves g t u
left_alone g t u tree same = record { is_tree = subst (IsTree g) (sym same) tree; nodes = ap (λ (x : Tree). x.nodes) same }

pub looks_keep : (g : Geometry) (t : Tree) (who : Who) (now : ℕ) (call : Call) → IsTree g t → IsTrue (only_looks t who call)
    → Leaves g t (tree_after_call g t who now call)
looks_keep g t who now (Open path flags mode) tree h =
    let parts = and_parts (not (creates flags.0)) (not (truncates flags.0)) h in
    open_leaves g t who now path flags mode tree (from_not parts.0) (from_not parts.1)
looks_keep g t who now (Close fd) tree h = kept g t _ (close_keeps g t who now fd tree) (close_stays g t who now fd h)
looks_keep g t who now (Dup fd) tree h = kept g t _ (dup_keeps g t who now fd tree) (dup_stays g t who now fd)
looks_keep g t who now (Read fd count) tree h = kept g t _ (read_keeps g t who now fd count tree) (read_stays g t who now fd count)
looks_keep g t who now (Seek fd whence offset) tree h =
    kept g t _ (seek_keeps g t who now fd whence offset tree) (seek_stays g t who now fd whence offset)
looks_keep g t who now (Stat path) tree h = left_alone g t _ tree (looks_leave g t who now (Stat path) refl)
looks_keep g t who now (Fstat fd) tree h = left_alone g t _ tree (looks_leave g t who now (Fstat fd) refl)
looks_keep g t who now (Readdir fd) tree h = left_alone g t _ tree (looks_leave g t who now (Readdir fd) refl)
looks_keep g t who now Statfs tree h = left_alone g t _ tree (looks_leave g t who now Statfs refl)
looks_keep g t who now (Readlink path) tree h = left_alone g t _ tree (looks_leave g t who now (Readlink path) refl)
looks_keep g t who now (Lstat path) tree h = left_alone g t _ tree (looks_leave g t who now (Lstat path) refl)
looks_keep g t who now Sync tree h = absurd (false_not_true h)
looks_keep g t who now (Symlink target path) tree h = absurd (false_not_true h)
looks_keep g t who now (Write fd bytes) tree h = absurd (false_not_true h)
looks_keep g t who now (Link old new) tree h = absurd (false_not_true h)
looks_keep g t who now (Unlink path) tree h = absurd (false_not_true h)
looks_keep g t who now (Mkdir path mode) tree h = absurd (false_not_true h)
looks_keep g t who now (Rmdir path) tree h = absurd (false_not_true h)
looks_keep g t who now (Rename old new) tree h = absurd (false_not_true h)
looks_keep g t who now (Chmod path mode) tree h = absurd (false_not_true h)
looks_keep g t who now (Chown path uid gid) tree h = absurd (false_not_true h)
looks_keep g t who now (Utime path atime mtime) tree h = absurd (false_not_true h)
looks_keep g t who now (Truncate path size) tree h = absurd (false_not_true h)

-- a volume that holds the tree before such a call holds the one after it
pub held_after : (g : Geometry) (d : Disk) (t : Tree) (who : Who) (now : ℕ) (call : Call) (answer : Answer) → IsTrue (only_looks t who call)
    → HoldsVolume g d t → HoldsVolume g d (tree_after_answer g t who now call answer)
held_after g d t who now call answer looks holds =
    cond_both (may_lack_memory g t who now call && is_no_memory answer) t (tree_after_call g t who now call) (λ u. HoldsVolume g d u) (λ _. holds) (λ _.
    let after : Leaves g t (tree_after_call g t who now call) = looks_keep g t who now call holds.nodes.tree looks in
    record {
      superblock = holds.superblock;
      nodes = record { nodes = after.nodes ∙ holds.nodes.nodes; sound = holds.nodes.sound; tree = after.is_tree };
    })
