-- Where a tree without open files is held, no finding holds.
use Rattle.std.proofs.Common.{◌≡◌, ◌≢◌, ◌<◌, ◌≤◌, ◌+◌, ℕ, true, false, sym, ap, ◌∙◌, arith, subst}
use mathlib.Core.Logic.{inl, inr}
use Rattle.std.specs.Prelude.{not, ◌||◌, ◌==◌, ◌/◌, nat_lt, nat_le, None, Some}
use Rattle.std.proofs.lemmas.Bool.{cases_eq, cases_Bool, cases_lt, or_from, cond-true, cond-false, eq-eqb, ne_eqb, lt-ltb, le-ltb}
use Rattle.std.proofs.lemmas.Bool.{both_ways, and_parts, eqb-true, or_right, not_from_false}
use Rattle.std.proofs.Math.Nat.{zero-div}
use Rattle.layout.specs.declared.Geometry.{Geometry}
use Rattle.lemmas.specs.Sums.{one_if}
use Rattle.tree.specs.Tree.{Tree, is_file, is_directory, most_target, is_dir, names_of, opens, is_open, most_size, most_links}
use Rattle.tree.specs.Tree.{most_open_files}
use Rattle.tree.specs.IsTree.{IsBody, HasTarget, IsTree, IsClosed, above, links_due, subdirectories}
use Rattle.volume.specs.Pieces.{Pieces}
use Rattle.volume.specs.Nodes.{is_marked, node_of, directory_of, file_of, file_byte, page_zone, type_in, is_directory_mode, is_link_mode}
use Rattle.volume.specs.Entries.{is_directory_inode, is_link_inode, entry_count, name_at, target_at}
use Rattle.volume.specs.Findings.{has_bad_size, has_bad_target, is_misplaced, has_bad_links, has_bad_link, is_bad_link_size, names_in_of}
use Rattle.volume.specs.Findings.{all_names_of, is_reached, is_parent, links_of}
use Rattle.volume.specs.Holds.{IsSound}
use Rattle.volume.specs.Verdict.{place_limit}
use Rattle.volume.proofs.Sums.{none_from}
use Rattle.volume.proofs.Reached.{climbed_reached}
use Rattle.volume.proofs.Quiet.{Quiet, guard_false}
use Rattle.volume.proofs.Volumes.{IsVolume}
use Rattle.volume.proofs.Ranges.{marked_low, dir_marked}
use Rattle.volume.proofs.NodesAs.{nodes, names_differ, node_marked, some_node, body_directory, body_file, dir_node, parent_node, entry_in, named_node, all_named_node, subdirectories_node, length_node}
use Rattle.volume.proofs.Ways.{edge, reached_is, above_climbs, dir, parent, edge_from, orphan, nowhere}
use Rattle.volume.proofs.QuietSound.{not_false_from, quiet_numbers, quiet_uses, quiet_bits, quiet_ends, quiet_holes, quiet_dots, quiet_entries}

module _ (g : Geometry) (v : Pieces) (ok : IsVolume g v) (s : IsSound g v) (u : Tree)
    (tree : IsTree g (record u { nodes = nodes g v })) (closed : IsClosed u) where
  -- the inode of a directory has the node of one
  as_node : (n : ℕ) → is_directory_inode g v n ≡ true → dir g v n ≡ true
  as_node n is = dir_node g v n ∙ is

  -- the tree keeps the limit of sizes
  size_low : (n : ℕ) → is_marked g v n ≡ true → (v.inodes n).size ≤ most_size
  size_low n is =
      let body = (tree.nodes.each n (node_of g v (v.inodes n)) (node_marked g v n is)).body in
      elim (cases_Bool (is_directory_inode g v n)) [
        | inl d ↦
            let good = subst (IsBody g) (body_directory g v n d) body in
            let most = good.size in
            let many = length_node g v (names_differ g v s) n d in
            let sound = s.directories n d in
            omega (arith, sound.sized, sound.two)
        | inr f ↦ (subst (IsBody g) (body_file g v n is f) body).size
      ]

  -- finding 6
  quiet_sizes : (n : ℕ) → has_bad_size g v n ≡ false
  quiet_sizes n = guard_false (is_marked g v n) _ (λ is. or_from _ _
      (le-ltb most_size _ (size_low n is))
      (guard_false (is_directory_inode g v n) _ (λ d. let sound = s.directories n d in
      or_from _ _ (le-ltb _ 128 (omega (arith, sound.two))) (not_false_from _ (eq-eqb _ 0 sound.sized)))))

  -- inode 1 is a directory
  root_dir : is_directory_inode g v 1 ≡ true
  root_dir = sym (dir_node g v 1) ∙ tree.nodes.root

  -- and its own parent
  root_parent : target_at g v 1 1 ≡ 1
  root_parent = sym (parent_node g v 1 root_dir) ∙ tree.nodes.root_parent

  -- what directory n is named in
  named_in_parent : (n : ℕ) → dir g v n ≡ true → n ≢ 1 → names_in_of g v (parent g v n) n ≡ 1
  named_in_parent n is other = sym (named_node g v (names_differ g v s) n (parent g v n)) ∙ (tree.nodes.placed n other is).in_parent

  -- .. leads to a marked inode
  parent_marked : (n : ℕ) → is_directory_inode g v n ≡ true → is_marked g v (target_at g v n 1) ≡ true
  parent_marked n is = elim (cases_eq n 1) [
    | inl e ↦ ap (is_marked g v) (ap (λ k. target_at g v k 1) e ∙ root_parent) ∙ dir_marked g v 1 root_dir
    | inr other ↦
        let one = ap (λ k. names_in_of g v k n) (sym (parent_node g v n is)) ∙ named_in_parent n (as_node n is) other in
        elim (cases_Bool (is_directory_inode g v (target_at g v n 1))) [
          | inl d ↦ dir_marked g v _ d
          | inr f ↦ let none : names_in_of g v (target_at g v n 1) n ≡ 0 = cond-false (is_directory_inode g v (target_at g v n 1)) _ 0 f in absurd (omega arith)
        ]
  ]

  -- and so does each entry
  target_marked : (n e : ℕ) → is_directory_inode g v n ≡ true → e < entry_count v n → is_marked g v (target_at g v n e) ≡ true
  target_marked n e is low = elim (cases_lt e 2) [
    | inr high ↦ sym (some_node g v (target_at g v n e)) ∙ tree.nodes.targets n (target_at g v n e) (name_at g v n e) (entry_in g v (names_differ g v s) n e is high low)
    | inl front ↦ elim (cases_eq e 0) [
      | inl o ↦ ap (λ k. is_marked g v (target_at g v n k)) o ∙ ap (is_marked g v) (s.directories n is).dot_entry.1 ∙ dir_marked g v n is
      | inr d ↦ let one : e ≡ 1 = omega arith in ap (λ k. is_marked g v (target_at g v n k)) one ∙ parent_marked n is
    ]
  ]

  -- finding 14
  quiet_targets : (n : ℕ) → has_bad_target g v n ≡ false
  quiet_targets n = guard_false (is_directory_inode g v n) _ (λ is. none_from _ (entry_count v n) (λ e low. not_false_from _ (target_marked n e is low)))

  -- the parent names a directory
  edge_parent : (n : ℕ) → dir g v n ≡ true → n ≢ 1 → edge g v (parent g v n) n ≡ true
  edge_parent n is other = let one = named_in_parent n is other in lt-ltb 0 _ (omega arith)

  -- where parents lead to the root, names lead back
  climbs : (n k : ℕ) → is_marked g v n ≡ true → above (nodes g v) k n ≡ 1 → is_reached g v g.inodes n ≡ true
  climbs n k is up =
      let low = marked_low g v n is in
      reached_is g v g.inodes n
      ∙ climbed_reached (edge g v) (g.inodes + 1) (dir g v) (parent g v) (edge_from g v) edge_parent (orphan g v) (nowhere g v) g.inodes k n
      (omega (arith, low.0, low.1)) (omega arith) (omega (arith, low.1)) (sym (above_climbs (nodes g v) k n) ∙ up)

  -- so each directory is reached
  reaches : (n : ℕ) → is_directory_inode g v n ≡ true → is_reached g v g.inodes n ≡ true
  reaches n is = elim (cases_eq n 1) [
    | inl e ↦ climbs n 0 (dir_marked g v n is) e
    | inr other ↦ let up = (tree.nodes.placed n other (as_node n is)).reached in climbs n up.0 (dir_marked g v n is) up.1
  ]

  -- it is named once, and the root never
  named_once : (n : ℕ) → is_directory_inode g v n ≡ true → all_names_of g v n ≡ one_if (not (n == 1))
  named_once n is = elim (cases_eq n 1) [
    | inl e ↦ ap (all_names_of g v) e ∙ sym (all_named_node g v (names_differ g v s) 1) ∙ tree.nodes.root_name ∙ sym (ap (λ b. one_if (not b)) (eq-eqb n 1 e))
    | inr other ↦ sym (all_named_node g v (names_differ g v s) n) ∙ (tree.nodes.placed n other (as_node n is)).one_name ∙ sym (ap (λ b. one_if (not b)) (ne_eqb n 1 other))
  ]

  -- .. leads to the parent
  right_parent : (n : ℕ) → is_directory_inode g v n ≡ true → is_parent g v n (target_at g v n 1) ≡ true
  right_parent n is = elim (cases_eq n 1) [
    | inl e ↦ cond-true (n == 1) _ _ (eq-eqb n 1 e) ∙ eq-eqb _ 1 (ap (λ k. target_at g v k 1) e ∙ root_parent)
    | inr other ↦ cond-false (n == 1) _ _ (ne_eqb n 1 other) ∙ ap (λ k. edge g v k n) (sym (parent_node g v n is)) ∙ edge_parent n (as_node n is) other
  ]

  -- finding 15
  quiet_places : (n : ℕ) → is_misplaced g v n ≡ false
  quiet_places n = guard_false (is_directory_inode g v n) _ (λ is.
      let r = is_reached g v g.inodes n in
      let o = all_names_of g v n == one_if (not (n == 1)) in
      let p = is_parent g v n (target_at g v n 1) in
      or_from (not r || not o) (not p)
      (or_from (not r) (not o) (not_false_from r (reaches n is)) (not_false_from o (eq-eqb _ _ (named_once n is))))
      (not_false_from p (right_parent n is)))

  -- the links due are those of the findings
  links_node : (n : ℕ) → is_marked g v n ≡ true → links_due g (nodes g v) n (node_of g v (v.inodes n)) ≡ links_of g v n
  links_node n is =
      let kind : is_dir (node_of g v (v.inodes n)) ≡ is_directory_inode g v n = sym (ap (λ o. elim o [ None ↦ false | Some x ↦ is_dir x ]) (node_marked g v n is)) ∙ dir_node g v n in
      elim (cases_Bool (is_directory_inode g v n)) [
        | inl d ↦ cond-true (is_dir (node_of g v (v.inodes n))) _ _ (kind ∙ d)
            ∙ ap (λ a. 2 + a) (sym (ap (λ o. subdirectories (nodes g v) (names_of o)) (node_marked g v n is)) ∙ subdirectories_node g v (names_differ g v s) n d)
            ∙ sym (cond-true (is_directory_inode g v n) _ _ d)
        | inr f ↦ cond-false (is_dir (node_of g v (v.inodes n))) _ _ (kind ∙ f) ∙ all_named_node g v (names_differ g v s) n ∙ sym (cond-false (is_directory_inode g v n) _ _ f)
      ]

  -- no node is open
  none_open : (n : ℕ) → is_open (record u { nodes = nodes g v }) n ≡ false
  none_open n = none_from (λ k. opens n (u.open_files k)) most_open_files (λ k _. λ i. opens n (closed.open_files i k))

  -- finding 16
  quiet_links : (n : ℕ) → has_bad_links g v n ≡ false
  quiet_links n = guard_false (is_marked g v n) _ (λ is.
      let node = node_of g v (v.inodes n) in
      let at = node_marked g v n is in
      let l = (v.inodes n).links in
      or_from (not (l == links_of g v n) || (l == 0)) (nat_lt most_links l)
      (or_from (not (l == links_of g v n)) (l == 0)
      (not_false_from _ (eq-eqb l _ (tree.nodes.links n node at ∙ links_node n is)))
      (ne_eqb l 0 (λ z. both_ways _ (none_open n) (tree.nameless n node at z))))
      (le-ltb most_links l (tree.nodes.each n node at).links))

  -- finding 17
  quiet_link_targets : (n : ℕ) → has_bad_link g v n ≡ false
  quiet_link_targets n = guard_false (is_link_inode g v n) _ (λ is.
      let i = v.inodes n in
      let parts = and_parts (is_marked g v n) (is_link_mode i.mode) is in
      let no_directory : is_directory_mode i.mode ≡ false = ne_eqb (type_in i.mode) 4
      (λ four. let ten = eqb-true (type_in i.mode) 10 parts.1 in absurd (omega (arith, four, ten))) in
      let body_is = cond-false (is_directory_mode i.mode) (is_directory (directory_of g v i)) (is_file (file_of g v i)) no_directory in
      let node = tree.nodes.each n (node_of g v i) (node_marked g v n parts.0) in
      let file = subst (IsBody g) body_is node.body in
      let target = subst HasTarget body_is (node.target parts.1) in
      let some = target.some in
      or_from (is_bad_link_size g v i.size || (page_zone g v i 0 == 0)) _
      (or_from (is_bad_link_size g v i.size) (page_zone g v i 0 == 0)
      (or_from (i.size == 0) (nat_lt most_target i.size) (ne_eqb i.size 0 (λ e. absurd (omega (arith, some, e))))
      (le-ltb most_target i.size target.few))
      (ne_eqb (page_zone g v i 0) 0 (λ hole.
      let first : page_zone g v i (0 / g.block_size) ≡ 0 = ap (page_zone g v i) (zero-div g.block_size) ∙ hole in
      target.bytes 0 some (file.zeros 0 (or_right (nat_le i.size 0) _ (not_from_false _ (not_false_from _ (eq-eqb _ 0 first))))))))
      (none_from _ i.size (λ p low. ne_eqb (file_byte g v i p) 0 (target.bytes p low))))

  -- nothing is found
  pub is_quiet : Quiet g v
  is_quiet = record {
    inode_bit = none_from _ (place_limit g) (λ p _. guard_false (p == 0) _ (λ _. not_false_from _ s.zones.inode_bit_0));
    zone_bit = none_from _ (place_limit g) (λ p _. guard_false (p == 0) _ (λ _. not_false_from _ s.zones.zone_bit_0));
    root = none_from _ (place_limit g) (λ n _. guard_false (n == 1) _ (λ _. not_false_from _ root_dir));
    modes = none_from _ (place_limit g) (λ n _. guard_false (is_marked g v n) _ (λ is. not_false_from _ (s.inodes n is).mode));
    sizes = none_from _ (place_limit g) (λ n _. quiet_sizes n);
    numbers = none_from _ (place_limit g) (λ n _. quiet_numbers g v ok s n);
    twice = none_from _ (place_limit g) (λ z _. quiet_uses g v ok s z);
    bits = none_from _ (place_limit g) (λ z _. quiet_bits g v ok s z);
    ends = none_from _ (place_limit g) (λ n _. quiet_ends g v ok s n);
    holes = none_from _ (place_limit g) (λ n _. quiet_holes g v ok s n);
    dots = none_from _ (place_limit g) (λ n _. quiet_dots g v ok s n);
    entries = none_from _ (place_limit g) (λ n _. quiet_entries g v ok s n);
    targets = none_from _ (place_limit g) (λ n _. quiet_targets n);
    places = none_from _ (place_limit g) (λ n _. quiet_places n);
    links = none_from _ (place_limit g) (λ n _. quiet_links n);
    link_targets = none_from _ (place_limit g) (λ n _. quiet_link_targets n);
  }
