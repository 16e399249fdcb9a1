-- What each client call does to the room on a volume.
use Rattle.std.proofs.Common.{◌≡◌, ◌≤◌, ◌<◌, ℕ, Bool, true, false, refl, sym, ap, subst, ◌∙◌, arith, length}
use Rattle.std.specs.Prelude.{Option, None, Some, is_some, IsTrue, Ok, Err, nat_le}
use Rattle.std.proofs.lemmas.Bool.{cond_both}
use Rattle.lemmas.proofs.Bools.{false_not_true}
use Rattle.layout.specs.declared.Geometry.{Geometry}
use Rattle.errno.specs.declared.Errno.TheVariants.{EINVAL}
use Rattle.tree.specs.declared.Who.{Who}
use Rattle.tree.specs.declared.Call.{Call}
use Rattle.tree.specs.declared.Call.TheVariants.{Open, Close, Dup, Read, Write, Seek, Stat, Fstat, Link, Unlink, Mkdir, Rmdir, Rename}
use Rattle.tree.specs.declared.Call.TheVariants.{Chmod, Chown, Utime, Truncate, Readdir, Sync, Statfs, Symlink, Readlink, Lstat}
use Rattle.tree.specs.Tree.{Node, Tree, has_descriptor, with_node, on_node, with_open_file, with_descriptor, is_dir, most_sessions}
use Rattle.tree.specs.Space.{zones_of, zones_used, data_zones, free_zones, free_inodes}
use Rattle.tree.specs.Refusals.{refuse_if}
use Rattle.tree.specs.Walk.{Place}
use Rattle.tree.specs.Changes.{with_ctime, with_link_lost, fewer_links, more_links, new_node, empty_file, empty_directory, without_nameless, without_unused}
use Rattle.tree.specs.NodeCalls.{attributes_of}
use Rattle.tree.specs.NameCalls.{with_entry, without_entry, with_name_lost, without_moved, with_moved, without_replaced}
use Rattle.tree.specs.FileCalls.{bytes_read, with_open, after_truncate_flag}
use Rattle.tree.specs.Answers.{Answer, Effect, done, descriptor, some_bytes, wrote, position, node_is, names_are, room_is}
use Rattle.tree.specs.Effects.{user_of, effect_in_session, effect_of, tree_after_call}
use Rattle.tree.specs.Room.{with_zones, NoInodeFree, may_take, may_make, EveryCallFits, TooBigIsRefused, FullMakesNone, OthersHaveRoom}
use Rattle.tree.proofs.Outcomes.{IsFree, plain_refuse}
use Rattle.tree.proofs.NodeOutcomes.{stat_each, lstat_each, readlink_each, chmod_each, chown_each, utime_each, truncate_each, unlink_each}
use Rattle.tree.proofs.FileOutcomes.{close_each, dup_each, fstat_each, readdir_each, seek_each, read_each, write_each, after_write}
use Rattle.tree.proofs.NameOutcomes.{link_each, mkdir_each, rmdir_each}
use Rattle.tree.proofs.Symlinks.{with_new_link, symlink_each}
use Rattle.tree.proofs.OpenOutcomes.{open_each}
use Rattle.tree.proofs.RenameOutcomes.{rename_each}
use Rattle.tree.proofs.OpenCall.{cut_is}
use Rattle.tree.proofs.Fewer.{with_node_less, on_node_less, nameless_less, resized_less, without_entry_less}
use Rattle.tree.proofs.Spaced.{IsNoMore, IsSpaced, spaced_closed, spaced_ok, spaced_fit, spaced_full, no_more_itself, no_more_at, no_more_on, no_more_gone, no_more_nameless}

-- a number is at most itself
no_less : (n : ℕ) → n ≤ n
no_less n = omega arith

-- one order after another
no_later : (a b c : ℕ) → a ≤ b → b ≤ c → a ≤ c
no_later a b c l k = omega (arith, l, k)

module _ (g : Geometry) (sized : 0 < g.block_size) (t : Tree) (who : Who) (now : ℕ) where
  -- a node that changes and holds no more pages
  changed_less : (n : ℕ) (node new : Node) → t.nodes n ≡ Some node → zones_of g (Some new) ≤ zones_of g (Some node) → zones_used g (with_node t n (Some new)) ≤ zones_used g t
  changed_less n node new there l = with_node_less g t n (Some new) (let is = ap (zones_of g) there in omega (arith, is, l))

  -- one that keeps its pages
  changed : (takes makes : Bool) (answer : Answer) (n : ℕ) (node new : Node) → t.nodes n ≡ Some node → zones_of g (Some new) ≤ zones_of g (Some node)
      → IsSpaced g t takes makes (λ z. Ok (answer, with_node t n (Some new)))
  changed takes makes answer n node new there l =
      spaced_ok g t takes makes (λ _. answer) (with_node t n (Some new)) (changed_less n node new there l) (no_more_at t n node (Some new) there)

  -- the nodes as they are
  same : (takes makes : Bool) (answer : Answer) → IsSpaced g t takes makes (λ z. Ok (answer, t))
  same takes makes answer = spaced_ok g t takes makes (λ _. answer) t (no_less (zones_used g t)) (no_more_itself t)

  unlinked_less : (place : Place) (n : ℕ) → zones_used g (with_name_lost (without_entry t now place) now n) ≤ zones_used g t
  unlinked_less place n =
      let a = without_entry_less g sized t now place in
      let b = on_node_less g (without_entry t now place) n (with_link_lost now) (λ node. no_less (zones_of g (Some node))) in
      let c = nameless_less g (on_node (without_entry t now place) n (with_link_lost now)) n in
      no_later _ _ _ c (no_later _ _ _ b a)

  gone_less : (place : Place) (n : ℕ) → zones_used g (with_node (on_node (without_entry t now place) place.directory (fewer_links 1)) n None) ≤ zones_used g t
  gone_less place n =
      let a = without_entry_less g sized t now place in
      let b = on_node_less g (without_entry t now place) place.directory (fewer_links 1) (λ node. no_less (zones_of g (Some node))) in
      let c = with_node_less g (on_node (without_entry t now place) place.directory (fewer_links 1)) n None (omega arith) in
      no_later _ _ _ c (no_later _ _ _ b a)

  abbrev less : ℕ → Tree
  less fd = with_descriptor t who.session fd None

  -- the nodes after a close, before a nameless one goes
  unused_is : (P : (ℕ → Option Node) → Type 0) (fd k : ℕ) → P t.nodes → P (without_unused (less fd) k).nodes
  unused_is P fd k h = cond_both (has_descriptor (less fd) k) (less fd) (with_open_file (less fd) k None) (λ u. P u.nodes) (λ _. h) (λ _. h)

  closed_less : (fd k n : ℕ) → zones_used g (without_nameless (without_unused (less fd) k) n) ≤ zones_used g t
  closed_less fd k n =
      no_later _ _ _ (nameless_less g (without_unused (less fd) k) n)
      (unused_is (λ nodes. zones_used g (record t { nodes = nodes }) ≤ zones_used g t) fd k (no_less (zones_used g t)))

  cut_less : (flags n : ℕ) (node : Node) → t.nodes n ≡ Some node
      → (zones_used g (after_truncate_flag g t now flags n node) ≤ zones_used g t) × IsNoMore (after_truncate_flag g t now flags n node) t
  cut_less flags n node there =
      cut_is g t now flags n (λ u. (zones_used g u ≤ zones_used g t) × IsNoMore u t) (no_less (zones_used g t), no_more_itself t) node.body node
      (λ f body. (changed_less n node _ there (resized_less g now 0 node f body), no_more_at t n node _ there))

  moved_no_more : (old new : Place) (n : ℕ) (node : Node) → IsNoMore (with_moved (without_moved t now old node) now new n node) t
  moved_no_more old new n node =
      no_more_on t _ n _ (no_more_on t _ new.directory _ (no_more_on t _ new.directory _ (no_more_on t _ old.directory _ (no_more_on t t old.directory _ (no_more_itself t)))))

  replaced_no_more : (old new : Place) (n : ℕ) (node : Node) (q : ℕ) (other : Node)
      → IsNoMore (without_replaced (with_moved (without_moved t now old node) now new n node) now new q other) t
  replaced_no_more old new n node q other =
      let moved = with_moved (without_moved t now old node) now new n node in
      cond_both (is_dir other) (with_node (on_node moved new.directory (fewer_links 1)) q None) (with_name_lost moved now q) (λ u. IsNoMore u t)
      (λ _. no_more_gone t (on_node moved new.directory (fewer_links 1)) q (no_more_on t moved new.directory _ (moved_no_more old new n node)))
      (λ _. no_more_nameless t (on_node moved q (with_link_lost now)) q (no_more_on t moved q _ (moved_no_more old new n node)))

  -- where no inode is free, none is taken
  never_free : {A : Type 0} (n : ℕ) → IsFree g t n → NoInodeFree g t → A
  never_free n free full = absurd (false_not_true (sym (ap is_some free.nothing) ∙ full n free.from free.to))

  call_spaced : (call : Call) → IsSpaced g t (may_take call) (may_make call) (λ z. effect_in_session (with_zones z g) t who now call)
  call_spaced (Open path flags mode) =
      open_each g t (user_of who) now who.session path flags.0 mode (IsSpaced g t true true) (spaced_closed g t true true)
      (spaced_full g t)
      (λ slot n node is. let cut = cut_less flags.0 n node is.at_inode in
      spaced_ok g t true true (λ _. descriptor slot.fd) (with_open (after_truncate_flag g t now flags.0 n node) slot n flags.0) cut.0 cut.1)
      (λ slot place n is. spaced_fit g t true (descriptor slot.fd)
      (with_open (with_entry (with_node t n (Some (new_node now (user_of who) mode 1 empty_file))) now place n) slot n flags.0) (λ full. never_free n is.inode (full refl)))
  call_spaced (Close fd) =
      close_each t who.session (IsSpaced g t false false) (spaced_closed g t false false) fd (λ found _.
      spaced_ok g t false false (λ _. done) (without_nameless (without_unused (less fd) found.0) found.1.inode) (closed_less fd found.0 found.1.inode)
      (no_more_nameless t (without_unused (less fd) found.0) found.1.inode (unused_is (λ nodes. (m : ℕ) → IsTrue (is_some (nodes m)) → IsTrue (is_some (t.nodes m))) fd found.0 (no_more_itself t))))
  call_spaced (Dup fd) =
      dup_each t who.session (IsSpaced g t false false) (spaced_closed g t false false) fd (λ found other _ _.
      spaced_ok g t false false (λ _. descriptor other) (with_descriptor t who.session other (Some found.0)) (no_less (zones_used g t)) (no_more_itself t))
  call_spaced (Read fd count) =
      read_each t who.session (IsSpaced g t false false) (spaced_closed g t false false) fd count (λ found node f _.
      spaced_ok g t false false (λ _. some_bytes (bytes_read f found.1.position count)) _ (no_less (zones_used g t)) (no_more_itself t))
  call_spaced (Write fd bytes) =
      write_each t who.session (IsSpaced g t true false) (spaced_closed g t true false) g now fd bytes.now
      (λ _ _ _ _ _. same true false (wrote 0)) (λ found node f is _ _ _.
      spaced_fit g t false (wrote (length bytes.now)) (after_write t who.session (IsSpaced g t true false) (spaced_closed g t true false) g now found node f bytes.now)
      (λ _. no_more_at t found.1.inode node _ is.there))
  call_spaced (Seek fd whence offset) =
      seek_each t who.session (IsSpaced g t false false) (spaced_closed g t false false) fd whence offset (λ found node f at _ _ _.
      spaced_ok g t false false (λ _. position at) _ (no_less (zones_used g t)) (no_more_itself t))
  call_spaced (Stat path) =
      stat_each t (user_of who) now (IsSpaced g t false false) (spaced_closed g t false false) path (λ n node _. same false false (node_is (attributes_of n node)))
  call_spaced (Fstat fd) =
      fstat_each t who.session (IsSpaced g t false false) (spaced_closed g t false false) fd (λ found node. same false false (node_is (attributes_of found.1.inode node)))
  call_spaced (Link old new) =
      link_each g t (user_of who) now (IsSpaced g t true false) (spaced_closed g t true false) old new (λ n node place made.
      spaced_fit g t false done (with_entry (with_node t n (Some (with_ctime now (more_links 1 node)))) now place n)
      (λ _. no_more_on t _ place.directory _ (no_more_at t n node _ made.there)))
  call_spaced (Unlink path) =
      unlink_each t (user_of who) now (IsSpaced g t false false) (spaced_closed g t false false) path (λ n node place _.
      spaced_ok g t false false (λ _. done) (with_name_lost (without_entry t now place) now n) (unlinked_less place n)
      (no_more_nameless t (on_node (without_entry t now place) n (with_link_lost now)) n (no_more_on t (without_entry t now place) n _ (no_more_on t t place.directory _ (no_more_itself t)))))
  call_spaced (Mkdir path mode) =
      mkdir_each g t (user_of who) now (IsSpaced g t true true) (spaced_closed g t true true) path mode (spaced_full g t) (λ n place parent made.
      spaced_fit g t true done
      (on_node (with_entry (with_node t n (Some (new_node now (user_of who) mode 2 (empty_directory place.directory)))) now place n) place.directory (more_links 1))
      (λ full. never_free n made.inode (full refl)))
  call_spaced (Rmdir path) =
      rmdir_each g t (user_of who) now (IsSpaced g t false false) (spaced_closed g t false false) path (λ n node place _.
      spaced_ok g t false false (λ _. done) (with_node (on_node (without_entry t now place) place.directory (fewer_links 1)) n None) (gone_less place n)
      (no_more_gone t (on_node (without_entry t now place) place.directory (fewer_links 1)) n (no_more_on t (without_entry t now place) place.directory _ (no_more_on t t place.directory _ (no_more_itself t)))))
  call_spaced (Rename old new) =
      rename_each g t (user_of who) now old new (IsSpaced g t true false) (spaced_closed g t true false) (same true false done)
      (λ from to n node _. spaced_fit g t false done (with_moved (without_moved t now from node) now to n node) (λ _. moved_no_more from to n node))
      (λ from to n node q other _. spaced_fit g t false done (without_replaced (with_moved (without_moved t now from node) now to n node) now to q other)
      (λ _. replaced_no_more from to n node q other))
  call_spaced (Chmod path mode) =
      chmod_each t (user_of who) now (IsSpaced g t false false) (spaced_closed g t false false) path mode (λ _ n node there. changed false false done n node _ there (no_less (zones_of g (Some node))))
  call_spaced (Chown path uid gid) =
      chown_each t (user_of who) now (IsSpaced g t false false) (spaced_closed g t false false) path uid gid (λ n node there. changed false false done n node _ there (no_less (zones_of g (Some node))))
  call_spaced (Utime path atime mtime) =
      utime_each t (user_of who) now (IsSpaced g t false false) (spaced_closed g t false false) path atime mtime (λ n node there. changed false false done n node _ there (no_less (zones_of g (Some node))))
  call_spaced (Truncate path size) =
      truncate_each t (user_of who) now (IsSpaced g t false false) (spaced_closed g t false false) g path size
      (λ n node f _ there body _. changed false false done n node _ there (resized_less g now size node f body))
  call_spaced (Readdir fd) =
      readdir_each t who.session (IsSpaced g t false false) (spaced_closed g t false false) fd (λ found node d _ _ _. same false false (names_are d.names))
  call_spaced (Symlink target path) =
      symlink_each g t (user_of who) now (IsSpaced g t true true) (spaced_closed g t true true) target.now path (spaced_full g t)
      (λ n place made.
      spaced_fit g t true done (with_new_link t (user_of who) now target.now place n) (λ full. never_free n made.inode (full refl)))
  call_spaced (Readlink path) =
      readlink_each t (user_of who) now (IsSpaced g t false false) (spaced_closed g t false false) path
      (λ target. same false false (some_bytes target))
  call_spaced (Lstat path) =
      lstat_each t (user_of who) now (IsSpaced g t false false) (spaced_closed g t false false) path
      (λ n node. same false false (node_is (attributes_of n node)))
  call_spaced Sync = same false false done
  call_spaced Statfs =
      spaced_ok g t false false
      (λ z. room_is (record {
        block_size = g.block_size;
        zones = data_zones (with_zones z g);
        free_zones = free_zones (with_zones z g) t;
        inodes = g.inodes;
        free_inodes = free_inodes g t;
      })) t (no_less (zones_used g t)) (no_more_itself t)

  pub effect_spaced : (call : Call) → IsSpaced g t (may_take call) (may_make call) (λ z. effect_of (with_zones z g) t who now call)
  effect_spaced call =
      spaced_closed g t (may_take call) (may_make call) _ (refuse_if (nat_le most_sessions who.session) EINVAL) (λ _ z. effect_in_session (with_zones z g) t who now call) (plain_refuse _ _ refl) (λ _ _.
      call_spaced call)

-- the room is kept
pub every_call_fits : EveryCallFits
every_call_fits g t who now call is bound = by_effect (effect_of g t who now call) refl
  where
    by_effect : (o : Effect) → effect_of g t who now call ≡ o → zones_used g (tree_after_call g t who now call) ≤ data_zones g
    by_effect (Ok made) e =
        let fits = (effect_spaced g is.sized t who now call).fits made e bound in
        subst (λ o. zones_used g (elim o [ Ok made ↦ made.1 | Err _ ↦ t ]) ≤ data_zones g) (sym e) fits
    by_effect (Err x) e = subst (λ o. zones_used g (elim o [ Ok made ↦ made.1 | Err _ ↦ t ]) ≤ data_zones g) (sym e) bound

-- a tree too big is refused
pub too_big_is_refused : TooBigIsRefused
too_big_is_refused g t who now call is bound big = (effect_spaced g is.sized t who now call).refused big.zones big.made big.is_made big.too_big bound

-- without an inode no node is made
pub full_makes_none : FullMakesNone
full_makes_none g t who now zones call made geometry full is = (effect_spaced g geometry.sized t who now call).none_made (λ _. full) zones made is

-- the calls that take none
pub others_have_room : OthersHaveRoom
others_have_room g t who now call geometry other is = false_not_true (sym other ∙ ((effect_spaced g geometry.sized t who now call).why is).0)
