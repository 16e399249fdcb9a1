-- No call of one session changes another's descriptors.
use Rattle.std.proofs.Common.{◌≡◌, ◌≢◌, ℕ, refl, ap, ◌∙◌}
use Rattle.std.specs.Prelude.{None, Some, Ok, Err, nat_lt, nat_le, not, ◌&&◌}
use Rattle.std.proofs.lemmas.Bool.{cond_both}
use Rattle.layout.specs.declared.Geometry.{Geometry}
use Rattle.errno.specs.declared.Errno.TheVariants.{EINVAL, ENOSPC}
use Rattle.tree.specs.declared.Who.{Who}
use Rattle.tree.specs.declared.Call.{Call}
use Rattle.tree.specs.declared.Call.TheVariants.{Open, Close, Dup, Read, Write, Seek, Stat, Fstat, Link, Unlink, Mkdir, Rmdir, Rename}
use Rattle.tree.specs.declared.Call.TheVariants.{Chmod, Chown, Utime, Truncate, Readdir, Sync, Statfs, Symlink, Readlink, Lstat}
use Rattle.tree.specs.Tree.{Node, Tree, is_dir, is_open, has_descriptor, with_node, on_node, with_open_file, with_descriptor, most_sessions}
use Rattle.tree.specs.Space.{zones_used, data_zones}
use Rattle.tree.specs.Refusals.{refuse_if}
use Rattle.tree.specs.Walk.{Place}
use Rattle.tree.specs.Changes.{has_no_link, without_nameless, without_unused, with_link_lost, fewer_links, more_links, with_ctime, new_node, empty_file, empty_directory}
use Rattle.tree.specs.NameCalls.{with_entry, without_entry, with_name_lost, without_moved, with_moved, without_replaced}
use Rattle.tree.specs.FileCalls.{Slot, with_open, after_truncate_flag}
use Rattle.tree.specs.Answers.{Answer, if_it_fits}
use Rattle.tree.specs.Effects.{user_of, effect_in_session, effect_of}
use Rattle.tree.specs.Sessions.{OtherSessionsStay}
use Rattle.tree.specs.Room.{with_zones}
use Rattle.tree.proofs.Steps.{tree_after}
use Rattle.tree.proofs.OpenFiles.{other_session}
use Rattle.tree.proofs.Outcomes.{Effects, IsClosed, plain_refuse}
use Rattle.tree.proofs.NodeOutcomes.{stat_each, lstat_each, readlink_each, chmod_each, chown_each, utime_each, truncate_each, unlink_each}
use Rattle.tree.proofs.FileOutcomes.{close_each, dup_each, fstat_each, readdir_each, seek_each, read_each, write_each}
use Rattle.tree.proofs.NameOutcomes.{link_each, mkdir_each, rmdir_each}
use Rattle.tree.proofs.Symlinks.{with_new_link, symlink_each}
use Rattle.tree.proofs.OpenOutcomes.{open_each}
use Rattle.tree.proofs.RenameOutcomes.{rename_each}
use Rattle.tree.proofs.OpenCall.{cut_is}
use Rattle.tree.proofs.TreeOver.{IsOver, over_itself, over_with_node, over_on_node}

-- a nameless node that goes
over_nameless : (t u : Tree) (n : ℕ) → IsOver t u → IsOver t (without_nameless u n)
over_nameless t u n over = cond_both (has_no_link (u.nodes n) && not (is_open u n)) (with_node u n None) u (IsOver t) (λ _. over_with_node t u n None over) (λ _. over)

-- a node that moves
over_moved : (t : Tree) (now : ℕ) (old new : Place) (n : ℕ) (node : Node) → IsOver t (with_moved (without_moved t now old node) now new n node)
over_moved t now old new n node =
    over_on_node t _ n _ (over_on_node t _ new.directory _ (over_on_node t _ new.directory _ (over_on_node t _ old.directory _ (over_on_node t t old.directory _ (over_itself t)))))

-- a node whose name another takes
over_replaced : (t u : Tree) (now : ℕ) (new : Place) (q : ℕ) (other : Node) → IsOver t u → IsOver t (without_replaced u now new q other)
over_replaced t u now new q other over =
    cond_both (is_dir other) (with_node (on_node u new.directory (fewer_links 1)) q None) (with_name_lost u now q) (IsOver t)
    (λ _. over_with_node t (on_node u new.directory (fewer_links 1)) q None (over_on_node t u new.directory _ over))
    (λ _. over_nameless t (on_node u q (with_link_lost now)) q (over_on_node t u q _ over))

-- a file that open cuts
over_cut : (g : Geometry) (t : Tree) (now flags n : ℕ) (node : Node) → IsOver t (after_truncate_flag g t now flags n node)
over_cut g t now flags n node = cut_is g t now flags n (IsOver t) (over_itself t) node.body node (λ f _. over_with_node t t n _ (over_itself t))

module _ (g : Geometry) (t : Tree) (who : Who) (now : ℕ) (s : ℕ) (other : s ≢ who.session) where
  abbrev Stays : Effects → Type 0
  Stays F = (tree_after t (F g.zones)).descriptors s ≡ t.descriptors s

  closed : IsClosed Stays
  closed A (Ok x) f plain h = h x refl
  closed A (Err e) f plain h = refl

  over_stays : (u : Tree) → IsOver t u → u.descriptors s ≡ t.descriptors s
  over_stays u over = ap (λ f. f s) over.descriptors

  fit_stays : (answer : Answer) (u : Tree) → u.descriptors s ≡ t.descriptors s → Stays (λ z. if_it_fits (with_zones z g) answer u)
  fit_stays answer u stays =
      cond_both (nat_lt (data_zones g) (zones_used g u)) (Err ENOSPC) (Ok (answer, u)) (λ o. (tree_after t o).descriptors s ≡ t.descriptors s) (λ _. refl) (λ _. stays)

  opened_stays : (u : Tree) (slot : Slot) (n flags : ℕ) → IsOver t u → slot.session ≡ who.session → (with_open u slot n flags).descriptors s ≡ t.descriptors s
  opened_stays u slot n flags over session =
      (λ i fd. other_session (with_open_file u slot.number (Some (record { inode = n; position = 0; flags = flags }))) slot.session slot.fd (Some slot.number) s fd (λ e. other (e ∙ session)) i)
      ∙ over_stays u over

  less_stays : (fd k n : ℕ) → (without_nameless (without_unused (with_descriptor t who.session fd None) k) n).descriptors s ≡ t.descriptors s
  less_stays fd k n =
      let less = with_descriptor t who.session fd None in
      let unused = without_unused less k in
      ap (λ f. f s) (over_nameless unused unused n (over_itself unused)).descriptors
      ∙ cond_both (has_descriptor less k) less (with_open_file less k None) (λ u. u.descriptors s ≡ less.descriptors s) (λ _. refl) (λ _. refl)
      ∙ (λ i f. other_session t who.session fd None s f other i)

  call_stays : (call : Call) → Stays (λ z. effect_in_session (with_zones z g) t who now call)
  call_stays (Open path flags mode) =
      open_each g t (user_of who) now who.session path flags.0 mode Stays closed (λ _. refl)
      (λ slot n node is. opened_stays (after_truncate_flag g t now flags.0 n node) slot n flags.0 (over_cut g t now flags.0 n node) is.asked.session_is)
      (λ slot place n is. let made = with_entry (with_node t n (Some (new_node now (user_of who) mode 1 empty_file))) now place n in
      fit_stays _ (with_open made slot n flags.0)
      (opened_stays made slot n flags.0 (over_on_node t _ place.directory _ (over_with_node t t n _ (over_itself t))) is.asked.session_is))
  call_stays (Close fd) = close_each t who.session Stays closed fd (λ found _. less_stays fd found.0 found.1.inode)
  call_stays (Dup fd) = dup_each t who.session Stays closed fd (λ found new _ _. λ i f. other_session t who.session new (Some found.0) s f other i)
  call_stays (Read fd count) = read_each t who.session Stays closed fd count (λ found node f _. refl)
  call_stays (Write fd bytes) = write_each t who.session Stays closed g now fd bytes.now (λ found node f _ _. refl)
      (λ found node f _ _ _ _. fit_stays _ _ refl)
  call_stays (Seek fd whence offset) = seek_each t who.session Stays closed fd whence offset (λ found node f at _ _ _. refl)
  call_stays (Stat path) = stat_each t (user_of who) now Stays closed path (λ n node _. refl)
  call_stays (Fstat fd) = fstat_each t who.session Stays closed fd (λ found node. refl)
  call_stays (Link old new) =
      link_each g t (user_of who) now Stays closed old new (λ n node place made.
      fit_stays _ (with_entry (with_node t n (Some (with_ctime now (more_links 1 node)))) now place n)
      (over_stays _ (over_on_node t _ place.directory _ (over_with_node t t n _ (over_itself t)))))
  call_stays (Unlink path) =
      unlink_each t (user_of who) now Stays closed path (λ n node place _.
      over_stays (with_name_lost (without_entry t now place) now n)
      (over_nameless t (on_node (without_entry t now place) n (with_link_lost now)) n (over_on_node t _ n _ (over_on_node t t place.directory _ (over_itself t)))))
  call_stays (Mkdir path mode) =
      mkdir_each g t (user_of who) now Stays closed path mode (λ _. refl) (λ n place parent made.
      fit_stays _ (on_node (with_entry (with_node t n (Some (new_node now (user_of who) mode 2 (empty_directory place.directory)))) now place n) place.directory (more_links 1))
      (over_stays _ (over_on_node t _ place.directory _ (over_on_node t _ place.directory _ (over_with_node t t n _ (over_itself t))))))
  call_stays (Rmdir path) =
      rmdir_each g t (user_of who) now Stays closed path (λ n node place _.
      over_stays (with_node (on_node (without_entry t now place) place.directory (fewer_links 1)) n None)
      (over_with_node t (on_node (without_entry t now place) place.directory (fewer_links 1)) n None (over_on_node t _ place.directory _ (over_on_node t t place.directory _ (over_itself t)))))
  call_stays (Rename old new) =
      rename_each g t (user_of who) now old new Stays closed refl
      (λ from to n node _. fit_stays _ (with_moved (without_moved t now from node) now to n node) (over_stays _ (over_moved t now from to n node)))
      (λ from to n node q another _. fit_stays _ (without_replaced (with_moved (without_moved t now from node) now to n node) now to q another)
      (over_stays _ (over_replaced t _ now to q another (over_moved t now from to n node))))
  call_stays (Chmod path mode) = chmod_each t (user_of who) now Stays closed path mode (λ _ n node _. refl)
  call_stays (Chown path uid gid) = chown_each t (user_of who) now Stays closed path uid gid (λ n node _. refl)
  call_stays (Utime path atime mtime) = utime_each t (user_of who) now Stays closed path atime mtime (λ n node _. refl)
  call_stays (Truncate path size) = truncate_each t (user_of who) now Stays closed g path size (λ n node f _ _ _ _. refl)
  call_stays (Readdir fd) = readdir_each t who.session Stays closed fd (λ found node d _ _ _. refl)
  call_stays Sync = refl
  call_stays Statfs = refl
  call_stays (Symlink target path) =
      symlink_each g t (user_of who) now Stays closed target.now path (λ _. refl) (λ n place made.
      fit_stays _ (with_new_link t (user_of who) now target.now place n)
      (over_stays _ (over_on_node t _ place.directory _ (over_with_node t t n _ (over_itself t)))))
  call_stays (Readlink path) = readlink_each t (user_of who) now Stays closed path (λ target. refl)
  call_stays (Lstat path) = lstat_each t (user_of who) now Stays closed path (λ n node. refl)

  stays : (call : Call) → Stays (λ z. effect_of (with_zones z g) t who now call)
  stays call = closed _ (refuse_if (nat_le most_sessions who.session) EINVAL) (λ _ z. effect_in_session (with_zones z g) t who now call) (plain_refuse _ _ refl) (λ _ _. call_stays call)

-- all of them
pub other_sessions_stay : OtherSessionsStay
other_sessions_stay g t who now call session other = stays g t who now session other call
