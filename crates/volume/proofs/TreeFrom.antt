-- Where no finding holds, the nodes of the volume are a tree.
use Rattle.std.proofs.Common.{◌≡◌, ◌≢◌, ◌<◌, ◌≤◌, ◌+◌, ℕ, true, false, refl, sym, ap, ◌∙◌, arith, subst}
use mathlib.Core.Logic.{inl, inr}
use Rattle.std.specs.Prelude.{not, ◌&&◌, ◌||◌, ◌==◌, nat_lt, None, Some}
use Rattle.std.proofs.lemmas.Bool.{cases_Bool, and_parts, or_parts, cond-true, cond-false, ne_eqb, eqb-true, eqb-false, ltb-true, ltb-false, lt-ltb, not-false}
use Rattle.layout.specs.declared.Geometry.{Geometry}
use Rattle.lemmas.specs.Sums.{one_if, some_below}
use Rattle.tree.specs.Names.{is_name}
use Rattle.tree.specs.Tree.{Node, Tree, is_file, is_directory, is_dir, names_of, most_links, most_target}
use Rattle.tree.specs.IsTree.{IsBody, HasTarget, IsDirectory, IsNode, IsPlaced, NodesAgree, OpenFilesAgree, IsTree, IsClosed, links_due}
use Rattle.tree.specs.IsTree.{subdirectories}
use Rattle.lemmas.proofs.Maps.{not_nothing}
use Rattle.volume.specs.Pieces.{Pieces}
use Rattle.volume.specs.Nodes.{is_marked, node_of, directory_of, file_of, file_byte, body_of, page_zone, type_in, is_directory_mode}
use Rattle.volume.specs.Nodes.{is_link_mode}
use Rattle.volume.specs.Entries.{is_directory_inode, entry_count, name_at, target_at, is_padded}
use Rattle.volume.specs.Findings.{names_in_of, all_names_of, is_reached, is_parent, links_of, is_bad_link_size}
use Rattle.volume.specs.Holds.{IsSound, HoldsNodes}
use Rattle.volume.specs.Verdict.{place_limit}
use Rattle.volume.proofs.Sums.{none_below, sum_at, sum_same}
use Rattle.volume.proofs.Reached.{reached_climbs}
use Rattle.volume.proofs.Quiet.{Quiet}
use Rattle.volume.proofs.Volumes.{IsVolume}
use Rattle.volume.proofs.Ranges.{marked_low, dir_marked, at_inode, at_dir, at_link}
use Rattle.volume.proofs.DirectoriesFrom.{size_low, is_sound}
use Rattle.volume.proofs.NodesAs.{nodes, names_differ, node_marked, some_node, node_is, body_directory, body_file, dir_node, names_sorted, names_good, parent_node, find_entry, named_node, all_named_node, subdirectories_node, length_node}
use Rattle.volume.proofs.Widths.{IsOfBytes}
use Rattle.volume.proofs.Files.{is_file_of}
use Rattle.volume.proofs.Ways.{edge, reached_is, above_climbs, dir, parent, as_dir, edge_from, orphan, nowhere}

module _ (g : Geometry) (v : Pieces) (ok : IsVolume g v) (bytes : IsOfBytes v) (q : Quiet g v) where
  -- the rules of the format hold
  abbrev s : IsSound g v
  s = is_sound g v q ok

  -- each entry leads to a marked inode
  targets_marked : (n e : ℕ) → is_directory_inode g v n ≡ true → e < entry_count v n → is_marked g v (target_at g v n e) ≡ true
  targets_marked n e is low =
      not-false _ (none_below (λ e. not (is_marked g v (target_at g v n e))) (entry_count v n)
      (at_dir g v (λ n. some_below (λ e. not (is_marked g v (target_at g v n e))) (entry_count v n)) n q.targets is) e low)

  -- what finding 15 asks of a directory
  record Placed (n : ℕ) : Type 0 where
    is_reached : is_reached g v g.inodes n ≡ true
    once : all_names_of g v n ≡ one_if (not (n == 1))
    parent : is_parent g v n (target_at g v n 1) ≡ true

  -- and each has it
  placed : (n : ℕ) → is_directory_inode g v n ≡ true → Placed n
  placed n is =
      let r = not (is_reached g v g.inodes n) in
      let o = not (all_names_of g v n == one_if (not (n == 1))) in
      let p = not (is_parent g v n (target_at g v n 1)) in
      let none : (r || o || p) ≡ false = at_dir g v (λ n. not (is_reached g v g.inodes n) || not (all_names_of g v n == one_if (not (n == 1))) || not (is_parent g v n (target_at g v n 1))) n q.places is in
      let a = or_parts (r || o) p none in
      let b = or_parts r o a.0 in
      record { is_reached = not-false _ b.0; once = eqb-true _ _ (not-false _ b.1); parent = not-false _ a.1 }

  -- what finding 16 asks of an inode
  record Linked (n : ℕ) : Type 0 where
    due : (v.inodes n).links ≡ links_of g v n
    some : (v.inodes n).links ≢ 0
    few : (v.inodes n).links ≤ most_links

  -- and each has it
  linked : (n : ℕ) → is_marked g v n ≡ true → Linked n
  linked n is =
      let l = (v.inodes n).links in
      let none : (not (l == links_of g v n) || (l == 0) || nat_lt most_links l) ≡ false
      = at_inode g v (λ n. not ((v.inodes n).links == links_of g v n) || ((v.inodes n).links == 0) || nat_lt most_links (v.inodes n).links) n q.links is in
      let a = or_parts (not (l == links_of g v n) || (l == 0)) (nat_lt most_links l) none in
      let b = or_parts (not (l == links_of g v n)) (l == 0) a.0 in
      record { due = eqb-true _ _ (not-false _ b.0); some = eqb-false l 0 b.1; few = ltb-false most_links l a.1 }

  -- inode 1 is a directory
  root_dir : is_directory_inode g v 1 ≡ true
  root_dir = not-false _ (none_below (λ n. (n == 1) && not (is_directory_inode g v 1)) (place_limit g) q.root 1 (omega (arith, ok.geometry.some_zone)))

  -- a directory is named in the one that .. leads to
  named_in_parent : (n : ℕ) → is_directory_inode g v n ≡ true → n ≢ 1 → 0 < names_in_of g v (target_at g v n 1) n
  named_in_parent n is other = ltb-true 0 (names_in_of g v (target_at g v n 1) n) (sym (cond-false (n == 1) (target_at g v n 1 == 1) _ (ne_eqb n 1 other)) ∙ (placed n is).parent)

  -- so its parent names it
  edge_parent : (n : ℕ) → dir g v n ≡ true → n ≢ 1 → edge g v (parent g v n) n ≡ true
  edge_parent n is other =
      let d = as_dir g v n is in
      ap (λ k. edge g v k n) (parent_node g v n d) ∙ lt-ltb 0 _ (named_in_parent n d other)

  -- a directory but the root has one name
  one_name : (n : ℕ) → is_directory_inode g v n ≡ true → n ≢ 1 → all_names_of g v n ≡ 1
  one_name n is other = (placed n is).once ∙ ap (λ b. one_if (not b)) (ne_eqb n 1 other)

  -- so it is named in its parent alone
  alone : (k n : ℕ) → dir g v n ≡ true → n ≢ 1 → edge g v k n ≡ true → k ≡ parent g v n
  alone k n is other e =
      let there = edge_parent n is other in
      let one = one_name n (as_dir g v n is) other in
      sum_same (λ k. names_in_of g v k n) (g.inodes + 1) k (parent g v n) (omega arith) (edge_from g v k n e).0 (edge_from g v (parent g v n) n there).0 (ltb-true 0 _ e) (ltb-true 0 _ there)

  -- and once there
  once_in_parent : (n : ℕ) → is_directory_inode g v n ≡ true → n ≢ 1 → names_in_of g v (parent g v n) n ≡ 1
  once_in_parent n is other =
      let there = edge_parent n (dir_node g v n ∙ is) other in
      let some = ltb-true 0 (names_in_of g v (parent g v n) n) there in
      let one = one_name n is other in
      let part : names_in_of g v (parent g v n) n ≤ all_names_of g v n = sum_at (λ k. names_in_of g v k n) (g.inodes + 1) (parent g v n) (edge_from g v (parent g v n) n there).0 in
      omega arith

  -- so a directory has its place
  is_placed : (n : ℕ) → n ≢ 1 → dir g v n ≡ true → IsPlaced g (nodes g v) n
  is_placed n other is =
      let d = as_dir g v n is in
      let up = reached_climbs (edge g v) (g.inodes + 1) (dir g v) (parent g v) (edge_from g v) edge_parent (orphan g v) (nowhere g v) alone g.inodes n is
      (sym (reached_is g v g.inodes n) ∙ (placed n d).is_reached) in
      record {
        one_name = all_named_node g v (names_differ g v s) n ∙ one_name n d other;
        in_parent = named_node g v (names_differ g v s) n (parent g v n) ∙ once_in_parent n d other;
        reached = (up.0, above_climbs (nodes g v) up.0 n ∙ up.1);
      }

  -- the links due are those of the nodes
  links_node : (n : ℕ) → is_marked g v n ≡ true → links_of g v n ≡ links_due g (nodes g v) n (node_of g v (v.inodes n))
  links_node n is = elim (cases_Bool (is_directory_inode g v n)) [
    | inl d ↦ cond-true (is_directory_inode g v n) _ _ d
        ∙ ap (λ a. 2 + a) (sym (subdirectories_node g v (names_differ g v s) n d) ∙ ap (λ o. subdirectories (nodes g v) (names_of o)) (node_marked g v n is))
        ∙ sym (cond-true (is_dir (node_of g v (v.inodes n))) _ _ (sym (ap (λ o. elim o [ None ↦ false | Some x ↦ is_dir x ]) (node_marked g v n is)) ∙ dir_node g v n ∙ d))
    | inr f ↦ cond-false (is_directory_inode g v n) _ _ f ∙ sym (all_named_node g v (names_differ g v s) n)
        ∙ sym (cond-false (is_dir (node_of g v (v.inodes n))) _ _ (sym (ap (λ o. elim o [ None ↦ false | Some x ↦ is_dir x ]) (node_marked g v n is)) ∙ dir_node g v n ∙ f))
  ]

  -- a directory is one by its own rules
  directory_good : (n : ℕ) → is_directory_inode g v n ≡ true → IsDirectory (directory_of g v (v.inodes n))
  directory_good n is =
      let d = s.directories n is in
      let many = length_node g v (names_differ g v s) n is in
      let low = size_low g v q n (dir_marked g v n is) in
      record {
        size = omega (arith, d.sized, d.two);
        names = names_good g v n (λ e low. (and_parts (is_padded g v n (e + 2)) (is_name (name_at g v n (e + 2))) (d.names (e + 2) (omega arith) (omega arith))).1);
        sorted = names_sorted g v n;
      }

  -- and so is a body of either kind
  body_good : (n : ℕ) → is_marked g v n ≡ true → IsBody g (body_of g v (v.inodes n))
  body_good n is = elim (cases_Bool (is_directory_inode g v n)) [
    | inl d ↦ subst (IsBody g) (sym (body_directory g v n d)) (directory_good n d)
    | inr f ↦ subst (IsBody g) (sym (body_file g v n is f))
        (is_file_of g v (v.inodes n) ok.geometry.sized bytes.zones (size_low g v q n is) (s.inodes n is).inside)
  ]

  -- what finding 17 asks of a link
  target_good : (n : ℕ) → is_marked g v n ≡ true → is_link_mode (v.inodes n).mode ≡ true → HasTarget (body_of g v (v.inodes n))
  target_good n is link =
      let i = v.inodes n in
      let size = is_bad_link_size g v i.size in
      let hole = page_zone g v i 0 == 0 in
      let zero = some_below (λ p. file_byte g v i p == 0) i.size in
      let none : (size || hole || zero) ≡ false
      = at_link g v (λ n. is_bad_link_size g v (v.inodes n).size || (page_zone g v (v.inodes n) 0 == 0)
      || some_below (λ p. file_byte g v (v.inodes n) p == 0) (v.inodes n).size) n q.link_targets
      (ap (λ b. b && is_link_mode i.mode) is ∙ link) in
      let a = or_parts (size || hole) zero none in
      let b = or_parts (i.size == 0) (nat_lt most_target i.size) (or_parts size hole a.0).0 in
      let no_directory : is_directory_mode i.mode ≡ false = ne_eqb (type_in i.mode) 4
      (λ four. let ten = eqb-true (type_in i.mode) 10 link in absurd (omega (arith, four, ten))) in
      subst HasTarget
      (sym (cond-false (is_directory_mode i.mode) (is_directory (directory_of g v i)) (is_file (file_of g v i)) no_directory)) (record {
        some = let some = eqb-false i.size 0 b.0 in omega (arith, some);
        few = ltb-false most_target i.size b.1;
        bytes = λ p low. eqb-false (file_byte g v i p) 0 (none_below (λ p. file_byte g v i p == 0) i.size a.1 p low);
      })

  -- a node fits
  node_good : (n : ℕ) → is_marked g v n ≡ true → IsNode g (node_of g v (v.inodes n))
  node_good n is =
      let fits = bytes.inodes n in
      record {
        permissions = omega arith;
        links = (linked n is).few;
        uid = fits.uid;
        gid = fits.gid;
        atime = fits.atime;
        mtime = fits.mtime;
        ctime = fits.ctime;
        body = body_good n is;
        target = target_good n is;
      }

  -- the nodes agree
  nodes_agree : NodesAgree g (nodes g v)
  nodes_agree = record {
    inside = λ n is. marked_low g v n (sym (some_node g v n) ∙ is);
    each = λ n node e. let w = node_is g v n node e in subst (IsNode g) (sym w.1) (node_good n w.0);
    targets = λ n k name e.
        let w = find_entry g v (names_differ g v s) n k name e in
        some_node g v k ∙ ap (is_marked g v) (sym w.1.3) ∙ targets_marked n (w.1.0 + 2) w.0 w.1.1;
    root = dir_node g v 1 ∙ root_dir;
    root_parent = parent_node g v 1 root_dir ∙ eqb-true (target_at g v 1 1) 1 (placed 1 root_dir).parent;
    root_name = all_named_node g v (names_differ g v s) 1 ∙ (placed 1 root_dir).once;
    placed = is_placed;
    links = λ n node e.
        let w = node_is g v n node e in
        ap (λ (x : Node). x.links) w.1 ∙ (linked n w.0).due ∙ links_node n w.0 ∙ ap (links_due g (nodes g v) n) (sym w.1);
  }

  -- the nodes without open files
  abbrev tree : Tree
  tree = record { nodes = nodes g v; open_files = λ k. None; descriptors = λ s fd. None }

  -- where there is no open file they agree
  none_open : OpenFilesAgree tree
  none_open = record {
    numbers = λ k is. absurd (cc);
    each = λ k o e. absurd (not_nothing o e);
    descriptors = λ s fd k e. absurd (not_nothing k e);
    in_use = λ k is. absurd (cc);
  }

  -- they are a tree
  is_tree : IsTree g tree
  is_tree = record {
    nodes = nodes_agree;
    open_files = none_open;
    nameless = λ n node e none.
        let w = node_is g v n node e in
        absurd ((linked n w.0).some (sym (ap (λ (x : Node). x.links) w.1) ∙ none));
  }

  -- Where no finding holds, a tree without open files is held.
  pub held : (t : Tree) × (HoldsNodes g v t × IsClosed t)
  held = (tree, (record { nodes = refl; sound = s; tree = is_tree }, record { open_files = refl; descriptors = refl }))
