-- No call but one that takes a node away changes what it is.
use Rattle.std.proofs.Common.{◌≡◌, ◌≢◌, ◌≤◌, ◌+◌, ◌-◌, ℕ, Bool, true, false, refl, sym, ap, subst, ◌∙◌, arith}
use mathlib.Core.Logic.{inl, inr, ◌⊎◌}
use Rattle.std.specs.Prelude.{List, [], ◌∷◌, Option, None, Some, is_some, IsTrue, Ok, Err, nat_lt, nat_le, not, ◌&&◌, ◌==◌}
use Rattle.std.proofs.lemmas.Bool.{cond_both, cases_eq, cases_Bool, eqb-true, not-true, and_parts, and_cases}
use Rattle.lemmas.proofs.Bools.{false_not_true}
use Rattle.layout.specs.declared.Geometry.{Geometry}
use Rattle.errno.specs.declared.Errno.TheVariants.{EINVAL, ENOSPC}
use Rattle.tree.specs.declared.Who.{Who}
use Rattle.tree.specs.declared.Call.{Call}
use Rattle.tree.specs.declared.Call.TheVariants.{Open, Close, Dup, Read, Write, Seek, Stat, Fstat, Link, Unlink, Mkdir, Rmdir, Rename}
use Rattle.tree.specs.declared.Call.TheVariants.{Chmod, Chown, Utime, Truncate, Readdir, Sync, Statfs, Symlink, Readlink, Lstat}
use Rattle.lemmas.specs.Sums.{one_if, some_below}
use Rattle.tree.specs.Tree.{File, is_file, Node, Tree, is_dir, is_dir_at, is_open, opens, has_descriptor, with_node, on_node, with_open_file, with_descriptor, most_sessions, most_open_files}
use Rattle.tree.specs.Space.{zones_used, data_zones}
use Rattle.tree.specs.Refusals.{refuse_if}
use Rattle.tree.specs.Walk.{Place}
use Rattle.tree.specs.Changes.{has_no_link, without_nameless, without_unused, with_link_lost, fewer_links, more_links, with_ctime, with_parent, with_body, new_node, new_link, empty_file, empty_directory}
use Rattle.tree.specs.NameCalls.{with_entry, without_entry, with_name_lost, without_moved, with_moved, without_replaced}
use Rattle.tree.specs.FileCalls.{after_truncate_flag}
use Rattle.tree.specs.Answers.{Answer, if_it_fits}
use Rattle.tree.specs.Effects.{user_of, effect_in_session, effect_of, tree_after_call}
use Rattle.tree.specs.Room.{with_zones}
use Rattle.tree.proofs.Steps.{tree_after}
use Rattle.lemmas.proofs.Maps.{put-same, not_nothing}
use Rattle.tree.proofs.Views.{on_node_is}
use Rattle.tree.proofs.TreeOver.{IsOver, over_itself, over_on_node}
use Rattle.tree.proofs.Outcomes.{Effects, IsClosed, plain_refuse}
use Rattle.tree.proofs.NodeOutcomes.{stat_each, lstat_each, readlink_each, chmod_each, chown_each, utime_each, truncate_each}
use Rattle.tree.proofs.FileOutcomes.{close_each, dup_each, fstat_each, readdir_each, seek_each, read_each, write_each}
use Rattle.tree.proofs.NameOutcomes.{link_each, mkdir_each}
use Rattle.tree.proofs.Symlinks.{with_new_link, symlink_each}
use Rattle.tree.proofs.OpenOutcomes.{open_each}
use Rattle.tree.proofs.RenameOutcomes.{IsMoveOnto, rename_each}
use Rattle.tree.proofs.OpenCall.{cut_is}
use Rattle.fuse_nodes.specs.Files.{kind, links, Names, HasLastName, IsShut, Takes, NodesStay, Made, after_calls, NoneTakes, FilesStay}
use Rattle.fuse_nodes.proofs.FileKinds.{Kept, put_kept, elsewhere, is_other, on_kept, names_kept, parent_kept, entry_kept, less_kept, links_names, links_parent, links_on}
use Rattle.fuse_nodes.proofs.Removals.{unlink_named, rmdir_named, names_it}

-- over the same open files, the same nodes are open
same_open : (t u : Tree) (n : ℕ) → IsOver t u → is_open u n ≡ is_open t n
same_open t u n over = ap (λ files. some_below (λ k. opens n (files k)) most_open_files) over.files

-- what has no link, or has none once it loses one, has one at most
few : (o : Option Node) → has_no_link o ≡ true → links o ≤ 1
few None h = omega arith
few (Some node) h = let none = eqb-true node.links 0 h in omega (arith, none)

few_but_one : (node : Node) (now : ℕ) → has_no_link (Some (with_link_lost now node)) ≡ true → node.links ≤ 1
few_but_one node now h = let none = eqb-true (node.links - 1) 0 h in omega (arith, none)

few_lost : (u : Tree) (now m : ℕ) → has_no_link ((on_node u m (with_link_lost now)).nodes m) ≡ true → links (u.nodes m) ≤ 1
few_lost u now m = on_node_is u m (with_link_lost now) (λ v. has_no_link (v.nodes m) ≡ true → links (u.nodes m) ≤ 1)
    (λ h. few (u.nodes m) h)
    (λ node e h. subst (λ o. links o ≤ 1) (sym e) (few_but_one node now (ap has_no_link (sym (put-same u.nodes m (Some (with_link_lost now node)))) ∙ h)))

-- A node loses a link: all stay what they are but one that loses its last name, if it isn't open.
name_lost : (t u : Tree) (now m n : ℕ) → IsOver t u → Kept t u n → links (u.nodes m) ≡ links (t.nodes m) → (m ≡ n → HasLastName t m → ⊥)
    → Kept t (with_name_lost u now m) n
name_lost t u now m n over kept same_links never = cond_both (has_no_link (lost.nodes m) && not (is_open lost m)) (with_node lost m None) lost (λ v. Kept t v n) gone (λ _. lost_kept)
  where
    lost : Tree
    lost = on_node u m (with_link_lost now)

    lost_kept : Kept t lost n
    lost_kept = on_kept u m (with_link_lost now) (λ node. refl) n ∙ kept

    gone : (has_no_link (lost.nodes m) && not (is_open lost m)) ≡ true → Kept t (with_node lost m None) n
    gone h = elim (cases_eq n m) [
      | inr d ↦ elsewhere lost m None n d ∙ lost_kept
      | inl e ↦
          let parts = and_parts (has_no_link (lost.nodes m)) (not (is_open lost m)) h in
          let one = few_lost u now m parts.0 in
          let shut = sym (same_open t lost m (over_on_node t u m _ over)) ∙ not-true (is_open lost m) parts.1 in
          absurd (never (sym e) (subst (λ k. k ≤ 1) same_links one, shut))
    ]

module _ (t : Tree) (now : ℕ) (old new : Place) (k : ℕ) (node : Node) where
  abbrev moved : Tree
  moved = with_moved (without_moved t now old node) now new k node

  moved_over : IsOver t moved
  moved_over =
      over_on_node t _ k _ (over_on_node t _ new.directory _ (over_on_node t _ new.directory _ (over_on_node t _ old.directory _ (over_on_node t t old.directory _ (over_itself t)))))

  moved_kept : (n : ℕ) → Kept t moved n
  moved_kept n =
      on_kept (on_node (with_entry (without_moved t now old node) now new k) new.directory (more_links (one_if (is_dir node)))) k
      (λ it. with_ctime now (with_parent new.directory it)) (λ it. parent_kept new.directory it) n
      ∙ on_kept (with_entry (without_moved t now old node) now new k) new.directory (more_links (one_if (is_dir node))) (λ it. refl) n
      ∙ entry_kept (without_moved t now old node) now new k n
      ∙ on_kept (without_entry t now old) old.directory (fewer_links (one_if (is_dir node))) (λ it. refl) n
      ∙ less_kept t now old n

  -- of a file no links move
  moved_links : is_dir node ≡ false → (n : ℕ) → links (moved.nodes n) ≡ links (t.nodes n)
  moved_links file n =
      links_on (on_node (with_entry (without_moved t now old node) now new k) new.directory (more_links (one_if (is_dir node)))) k
      (λ it. with_ctime now (with_parent new.directory it)) (λ it. links_parent new.directory it) n
      ∙ links_on (with_entry (without_moved t now old node) now new k) new.directory (more_links (one_if (is_dir node)))
      (λ it. let none = ap one_if file in omega (arith, none)) n
      ∙ links_on (without_moved t now old node) new.directory _ (λ it. links_names now _ it) n
      ∙ links_on (without_entry t now old) old.directory (fewer_links (one_if (is_dir node))) (λ it. let none = ap one_if file in omega (arith, none)) n
      ∙ links_on t old.directory _ (λ it. links_names now _ it) n

  -- a node whose name another takes
  replaced_kept : (q n : ℕ) (other : Node) → t.nodes q ≡ Some other → (is_dir node && not (is_dir other)) ≡ false → (is_dir other && is_open t q) ≡ false
      → (q ≡ n → HasLastName t q → ⊥) → (q ≡ n → IsShut t q → ⊥) → Kept t (without_replaced moved now new q other) n
  replaced_kept q n other there onto closed no_name no_directory =
      cond_both (is_dir other) (with_node (on_node moved new.directory (fewer_links 1)) q None) (with_name_lost moved now q) (λ v. Kept t v n) directory file
    where
      directory : is_dir other ≡ true → Kept t (with_node (on_node moved new.directory (fewer_links 1)) q None) n
      directory is = elim (cases_eq n q) [
        | inr d ↦ elsewhere (on_node moved new.directory (fewer_links 1)) q None n d ∙ on_kept moved new.directory (fewer_links 1) (λ it. refl) n ∙ moved_kept n
        | inl e ↦
            let shut : is_open t q ≡ false = elim (and_cases (is_dir other) (is_open t q) closed) [ inl f ↦ absurd (false_not_true (sym f ∙ is)) | inr f ↦ f ] in
            absurd (no_directory (sym e) (ap (λ o. is_dir_at (λ _. o) q) there ∙ is, shut))
      ]

      file : is_dir other ≡ false → Kept t (with_name_lost moved now q) n
      file is =
          let not_dir : is_dir node ≡ false = elim (and_cases (is_dir node) (not (is_dir other)) onto) [ inl f ↦ f | inr f ↦ absurd (false_not_true (sym f ∙ ap not is)) ] in
          name_lost t moved now q n moved_over (moved_kept n) (moved_links not_dir q) no_name

module _ (g : Geometry) (t : Tree) (who : Who) (now n : ℕ) (some : IsTrue (is_some (t.nodes n))) where
  abbrev Stays : Type 0 → Effects → Type 0
  Stays T F = (T → ⊥) → Kept t (tree_after t (F g.zones)) n

  closed : (T : Type 0) → IsClosed (Stays T)
  closed T A (Ok x) f plain h = h x refl
  closed T A (Err e) f plain h = λ _. refl

  fit_stays : (T : Type 0) (answer : Answer) (u : Tree) → Kept t u n → Stays T (λ z. if_it_fits (with_zones z g) answer u)
  fit_stays T answer u stays _ =
      cond_both (nat_lt (data_zones g) (zones_used g u)) (Err ENOSPC) (Ok (answer, u)) (λ o. Kept t (tree_after t o) n) (λ _. refl) (λ _. stays)

  -- a node made at a free number
  made_kept : (m : ℕ) (node : Node) (place : Place) → t.nodes m ≡ None → Kept t (with_entry (with_node t m (Some node)) now place m) n
  made_kept m node place free = entry_kept (with_node t m (Some node)) now place m n ∙ elsewhere t m (Some node) n (is_other t n m some free)

  -- a file that open cuts
  cut_kept : (flags m : ℕ) (node : Node) → t.nodes m ≡ Some node → Kept t (after_truncate_flag g t now flags m node) n
  cut_kept flags m node there = cut_is g t now flags m (λ u. Kept t u n) refl node.body node (λ f body. put_kept t m _ node there (ap (λ b. kind (Some (record node { body = b }))) (sym body)) n)

  -- a node of which only attributes change
  alike : (m : ℕ) (node other : Node) → t.nodes m ≡ Some node → kind (Some other) ≡ kind (Some node) → Kept t (with_node t m (Some other)) n
  alike m node other there same = put_kept t m other node there same n

  -- a file with other bytes
  bytes_kept : (m : ℕ) (node : Node) (f new : File) → t.nodes m ≡ Some node → node.body ≡ is_file f → Kept t (with_node t m (Some (with_body now (is_file new) node))) n
  bytes_kept m node f new there body = put_kept t m _ node there (ap (λ b. kind (Some (record node { body = b }))) (sym body)) n

  closing : (fd k m : ℕ) → (links (t.nodes n) ≡ 0 → ⊥) → Kept t (without_nameless (without_unused (with_descriptor t who.session fd None) k) m) n
  closing fd k m never = cond_both (has_no_link (unused.nodes m) && not (is_open unused m)) (with_node unused m None) unused (λ v. Kept t v n) gone (λ _. unused_kept n)
    where
      less : Tree
      less = with_descriptor t who.session fd None

      unused : Tree
      unused = without_unused less k

      same_nodes : unused.nodes ≡ t.nodes
      same_nodes = cond_both (has_descriptor less k) less (with_open_file less k None) (λ v. v.nodes ≡ t.nodes) (λ _. refl) (λ _. refl)

      unused_kept : (j : ℕ) → Kept t unused j
      unused_kept j = ap (λ nodes. kind (nodes j)) same_nodes

      none : (o : Option Node) → has_no_link o ≡ true → links o ≡ 0
      none None h = refl
      none (Some node) h = eqb-true node.links 0 h

      gone : (has_no_link (unused.nodes m) && not (is_open unused m)) ≡ true → Kept t (with_node unused m None) n
      gone h = elim (cases_eq n m) [
        | inr d ↦ elsewhere unused m None n d ∙ unused_kept n
        | inl e ↦
            let parts = and_parts (has_no_link (unused.nodes m)) (not (is_open unused m)) h in
            absurd (never (ap (λ j. links (t.nodes j)) e ∙ ap (λ nodes. links (nodes m)) (sym same_nodes) ∙ none (unused.nodes m) parts.0))
      ]

  call_stays : (call : Call) → Stays (Takes t who call n) (λ z. effect_in_session (with_zones z g) t who now call)
  call_stays (Open path flags mode) =
      open_each g t (user_of who) now who.session path flags.0 mode (Stays ⊥) (closed ⊥) (λ _ _. refl)
      (λ slot m node is _. cut_kept flags.0 m node is.at_inode)
      (λ slot place m is. fit_stays ⊥ _ _ (made_kept m (new_node now (user_of who) mode 1 empty_file) place is.inode.nothing))
  call_stays (Close fd) = close_each t who.session (Stays (links (t.nodes n) ≡ 0)) (closed _) fd (λ found _ never. closing fd found.0 found.1.inode never)
  call_stays (Dup fd) = dup_each t who.session (Stays ⊥) (closed ⊥) fd (λ found new _ _ _. refl)
  call_stays (Read fd count) = read_each t who.session (Stays ⊥) (closed ⊥) fd count (λ found node f _ _. refl)
  call_stays (Write fd bytes) = write_each t who.session (Stays ⊥) (closed ⊥) g now fd bytes.now (λ found node f _ _ _. refl)
      (λ found node f is _ _ _. fit_stays ⊥ _ _ (bytes_kept found.1.inode node f _ is.there is.file))
  call_stays (Seek fd whence offset) = seek_each t who.session (Stays ⊥) (closed ⊥) fd whence offset (λ found node f at _ _ _ _. refl)
  call_stays (Stat path) = stat_each t (user_of who) now (Stays ⊥) (closed ⊥) path (λ m node _ _. refl)
  call_stays (Fstat fd) = fstat_each t who.session (Stays ⊥) (closed ⊥) fd (λ found node _. refl)
  call_stays (Link old new) =
      link_each g t (user_of who) now (Stays ⊥) (closed ⊥) old new (λ m node place made.
      fit_stays ⊥ _ _ (entry_kept (with_node t m (Some (with_ctime now (more_links 1 node)))) now place m n ∙ alike m node _ made.there refl))
  call_stays (Unlink path) =
      unlink_named t (user_of who) now path (Stays _) (closed _) (λ m node place named never.
      name_lost t (without_entry t now place) now m n (over_on_node t t place.directory _ (over_itself t)) (less_kept t now place n)
      (links_on t place.directory _ (λ it. links_names now _ it) m)
      (λ e last. never (subst (λ k. Names t (user_of who) path k × HasLastName t k) e (named.names, last))))
  call_stays (Mkdir path mode) =
      mkdir_each g t (user_of who) now (Stays ⊥) (closed ⊥) path mode (λ _ _. refl) (λ m place parent made.
      fit_stays ⊥ _ _ (on_kept (with_entry (with_node t m (Some (new_node now (user_of who) mode 2 (empty_directory place.directory)))) now place m) place.directory (more_links 1) (λ it. refl) n
      ∙ made_kept m (new_node now (user_of who) mode 2 (empty_directory place.directory)) place made.inode.nothing))
  call_stays (Rmdir path) =
      rmdir_named t (user_of who) now path (Stays _) (closed _) (λ m node place named directory shut never. elim (cases_eq n m) [
        | inr d ↦ elsewhere (on_node (without_entry t now place) place.directory (fewer_links 1)) m None n d
            ∙ on_kept (without_entry t now place) place.directory (fewer_links 1) (λ it. refl) n ∙ less_kept t now place n
        | inl e ↦ absurd (never (subst (λ k. Names t (user_of who) path k × IsShut t k) (sym e) (named.names, (ap (λ o. is_dir_at (λ _. o) m) named.there ∙ directory, shut))))
      ])
  call_stays (Rename old new) =
      rename_each g t (user_of who) now old new (Stays _) (closed _) (λ _. refl)
      (λ from to m node _. fit_stays _ _ _ (moved_kept t now from to m node n))
      (λ from to m node q another is never. fit_stays ⊥ _ (without_replaced (with_moved (without_moved t now from node) now to m node) now to q another)
      (replaced_kept t now from to m node q n another is.other_there is.can.directory_onto is.can.closed
      (λ e last. never (subst (λ k. Names t (user_of who) new k × (HasLastName t k ⊎ IsShut t k)) e (renamed from to m node q another is, inl last)))
      (λ e shut. never (subst (λ k. Names t (user_of who) new k × (HasLastName t k ⊎ IsShut t k)) e (renamed from to m node q another is, inr shut)))) (λ x. x))
    where
      renamed : (from to : Place) (m : ℕ) (node : Node) (q : ℕ) (another : Node) → IsMoveOnto g t (user_of who) now old new (Stays (Takes t who (Rename old new) n)) (closed _) from to m node q another → Names t (user_of who) new q
      renamed from to m node q another is = names_it t (user_of who) new is.move.new_parts to q is.move.read is.move.last is.move.to is.taken
  call_stays (Chmod path mode) = chmod_each t (user_of who) now (Stays ⊥) (closed ⊥) path mode (λ _ m node there _. alike m node _ there refl)
  call_stays (Chown path uid gid) = chown_each t (user_of who) now (Stays ⊥) (closed ⊥) path uid gid (λ m node there _. alike m node _ there refl)
  call_stays (Utime path atime mtime) = utime_each t (user_of who) now (Stays ⊥) (closed ⊥) path atime mtime (λ m node there _. alike m node _ there refl)
  call_stays (Truncate path size) = truncate_each t (user_of who) now (Stays ⊥) (closed ⊥) g path size (λ m node f _ there body _ _. bytes_kept m node f _ there body)
  call_stays (Readdir fd) = readdir_each t who.session (Stays ⊥) (closed ⊥) fd (λ found node d _ _ _ _. refl)
  call_stays Sync = λ _. refl
  call_stays Statfs = λ _. refl
  call_stays (Symlink target path) =
      symlink_each g t (user_of who) now (Stays ⊥) (closed ⊥) target.now path (λ _ _. refl) (λ m place made.
      fit_stays ⊥ _ _ (made_kept m (new_link now (user_of who) target.now) place made.inode.nothing))
  call_stays (Readlink path) = readlink_each t (user_of who) now (Stays ⊥) (closed ⊥) path (λ target _. refl)
  call_stays (Lstat path) = lstat_each t (user_of who) now (Stays ⊥) (closed ⊥) path (λ m node _. refl)

  stays : (call : Call) → Stays (Takes t who call n) (λ z. effect_of (with_zones z g) t who now call)
  stays call = closed _ _ (refuse_if (nat_le most_sessions who.session) EINVAL) (λ _ z. effect_in_session (with_zones z g) t who now call) (plain_refuse _ _ refl) (λ _ _. call_stays call)

-- one call
pub nodes_stay : NodesStay
nodes_stay g t who now call n some never = stays g t who now n some call never

-- what kept its kind is there
still_there : (o p : Option Node) → kind o ≡ kind p → IsTrue (is_some p) → IsTrue (is_some o)
still_there None None e some = some
still_there None (Some x) e some = absurd (not_nothing _ e)
still_there (Some x) p e some = refl

-- and any
pub files_stay : FilesStay
files_stay g t [] n some none = refl
files_stay g t (c ∷ cs) n some none =
    let after = tree_after_call g t c.who c.now c.call in
    let one = nodes_stay g t c.who c.now c.call n some none.0 in
    files_stay g after cs n (still_there (after.nodes n) (t.nodes n) one some) none.1 ∙ one
