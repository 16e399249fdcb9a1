-- A file that moves leaves a tree a tree, whether or not it takes another's name.
use Rattle.std.proofs.Common.{◌≡◌, ◌≢◌, ◌<◌, ◌≤◌, ◌+◌, ◌*◌, ◌^◌, ℕ, true, false, refl, sym, ap, ◌∙◌, arith}
use mathlib.Core.Logic.{inl, inr}
use Rattle.std.specs.Prelude.{None, Some, is_some, IsTrue, not, ◌&&◌}
use Rattle.std.proofs.lemmas.Bool.{cases_eq, cond_both}
use Rattle.lemmas.proofs.Bools.{false_not_true}
use Rattle.layout.specs.declared.Geometry.{Geometry}
use Rattle.layout.specs.Places.{IsGeometry}
use Rattle.lemmas.specs.Sums.{one_if}
use Rattle.tree.specs.Names.{is_name, inode_of}
use Rattle.tree.specs.Tree.{Node, Tree, is_dir, names_of, parent_of, with_node, on_node, is_open, most_size}
use Rattle.tree.specs.IsTree.{NodesAgree, IsTree}
use Rattle.tree.specs.Space.{zones_used, data_zones}
use Rattle.tree.specs.Walk.{Place}
use Rattle.tree.specs.Changes.{with_link_lost, has_no_link, without_nameless}
use Rattle.tree.specs.NameCalls.{without_moved, with_moved}
use Rattle.lemmas.proofs.Maps.{put-other}
use Rattle.tree.proofs.Places.{IsPlace}
use Rattle.tree.proofs.Weights.{weigh}
use Rattle.tree.proofs.Freed.{part_below, without_nameless_is_tree}
use Rattle.tree.proofs.Totals.{one_for, only_one, one_for_itself, none_for_other, only_at, only_elsewhere, only_nothing, sum_gained, sum_moved, weigh_found}
use Rattle.tree.proofs.Shapes.{kind_of, links_of, weight, total, IsShape, shape_of, links_fit, shaped_agree, no_parent_of, has_names}
use Rattle.tree.proofs.NewDirectory.{directory_inside}
use Rattle.tree.proofs.FileNames.{file_names_change}
use Rattle.tree.proofs.Growth.{grown_fits}
use Rattle.tree.proofs.Views.{view_kept, view_lost, fits_on}
use Rattle.tree.proofs.TreeOver.{over_on_node, nameless_open, tree_over, tree_but_over, place_names}
use Rattle.tree.proofs.Moved.{moved_some, moved_kind, moved_parent, moved_links, moved_weights, replaced_weights, moved_fit, moved_over, named_in_p, d_directory}

-- a nameless node that goes leaves the others
nameless_elsewhere : (t : Tree) (n m : ℕ) → m ≢ n → (without_nameless t n).nodes m ≡ t.nodes m
nameless_elsewhere t n m e =
    cond_both (has_no_link (t.nodes n) && not (is_open t n)) (with_node t n None) t (λ u. u.nodes m ≡ t.nodes m) (λ _. put-other t.nodes n None m e) (λ _. refl)

module _ (g : Geometry) (is : IsGeometry g) (t : Tree) (tree : IsTree g t) (now : ℕ) (small : now < 2 ^ 32) (old new : Place) (from : IsPlace t old) (to : IsPlace t new)
    (n : ℕ) (node : Node) (there : t.nodes n ≡ Some node) (found : inode_of old.names old.name ≡ Some n) (file : is_dir node ≡ false) (named : is_name new.name ≡ true) where
  abbrev p : ℕ
  p = old.directory

  abbrev d : ℕ
  d = new.directory

  abbrev after : Tree
  after = with_moved (without_moved t now old node) now new n node

  shape : IsShape g t.nodes
  shape = shape_of g t.nodes tree.nodes

  n_file : kind_of (t.nodes n) ≡ false
  n_file = ap kind_of there ∙ file

  p_in : p < g.inodes + 1
  p_in = directory_inside g t.nodes shape p (has_names (one_for n) (t.nodes p) (named_in_p g t tree now small old new from to n node there found))

  d_is : kind_of (t.nodes d) ≡ true
  d_is = d_directory g t tree now small old new from to n node there found

  d_in : d < g.inodes + 1
  d_in = directory_inside g t.nodes shape d d_is

  some : (m : ℕ) → is_some (after.nodes m) ≡ is_some (t.nodes m)
  some = moved_some g t tree now small old new from to n node there found

  kind : (m : ℕ) → kind_of (after.nodes m) ≡ kind_of (t.nodes m)
  kind = moved_kind g t tree now small old new from to n node there found

  parent : (m : ℕ) → parent_of (after.nodes m) ≡ parent_of (t.nodes m)
  parent m = elim (cases_eq m n) [
    | inl e ↦
        let f = ap (λ x. kind_of (t.nodes x)) e ∙ n_file in
        no_parent_of (after.nodes m) (kind m ∙ f) ∙ sym (no_parent_of (t.nodes m) f)
    | inr e ↦ moved_parent g t tree now small old new from to n node there found m e
  ]

  links : (m : ℕ) → links_of (after.nodes m) ≡ links_of (t.nodes m)
  links m =
      let moved = moved_links g t tree now small old new from to n node there found m in
      let none : one_if (is_dir node) ≡ 0 = ap one_if file in
      let a = only_nothing p (one_if (is_dir node)) m none in
      let b = only_nothing d (one_if (is_dir node)) m none in
      omega (arith, moved, a, b)

  -- To a place where nothing stands.
  module _ (free : inode_of new.names new.name ≡ None) (fits : zones_used g after ≤ data_zones g) where
    weights : (w : ℕ → ℕ) (m : ℕ) → weight after.nodes w m + only_at p (w n) m ≡ weight t.nodes w m + only_at d (w n) m
    weights = moved_weights g t tree now small old new from to n node there found free

    totals : (m : ℕ) → total g after.nodes (one_for m) ≡ total g t.nodes (one_for m)
    totals m =
        let moved = sum_moved (λ a. weight t.nodes (one_for m) a) (λ a. weight after.nodes (one_for m) a) p (one_for m n) d (one_for m n) (g.inodes + 1) p_in d_in (weights (one_for m)) in
        omega (arith, moved)

    free_shape : IsShape g after.nodes
    free_shape = file_names_change g t.nodes after.nodes shape
        (λ m h. shape.inside m (sym (some m) ∙ h))
        (λ a b l. some b ∙ elim (cases_eq b n) [
          | inl e ↦ ap (λ x. is_some (t.nodes x)) e ∙ ap is_some there
          | inr e ↦ shape.targets a b (
              let w = weights (one_for b) a in
              let zero = none_for_other b n (λ x. e (sym x)) in
              let x = only_nothing p (one_for b n) a zero in
              let y = only_nothing d (one_for b n) a zero in
              omega (arith, w, x, y, l))
        ])
        kind parent
        (λ w vanishes m.
        let zero = vanishes n n_file in
        let is_moved = weights w m in
        let x = only_nothing p (w n) m zero in
        let y = only_nothing d (w n) m zero in
        omega (arith, is_moved, x, y))
        (λ m h. links m)
        (λ m h. links m ∙ shape.file_links m h ∙ sym (totals m))

    free_agree : NodesAgree g after.nodes
    free_agree = shaped_agree g after.nodes free_shape
        (moved_fit g t tree now small old new from to n node there found named (grown_fits g is after d d_in (kind d ∙ d_is) fits))
        (λ m. let same = links m in let few = links_fit g t.nodes tree.nodes m in omega (arith, same, few))

    pub file_moved : IsTree g after
    file_moved = tree_over g t after (moved_over g t tree now small old new from to n node there found) tree free_agree
        (λ i h opened. (some i ∙ h, kind i))
        (λ m x e none. nameless_open g t tree m (sym (some m) ∙ ap is_some e) (sym (links m) ∙ ap links_of e ∙ none))

  -- To the place of file q.
  module _ (q : ℕ) (differs : n ≢ q) (taken : inode_of new.names new.name ≡ Some q) (q_some : IsTrue (is_some (t.nodes q))) (q_file : kind_of (t.nodes q) ≡ false) where
    abbrev lost : Tree
    lost = on_node after q (with_link_lost now)

    abbrev final : Tree
    final = without_nameless lost q

    has_link : 1 ≤ links_of (t.nodes q)
    has_link =
        let has = weigh_found (one_for q) (names_of (t.nodes d)) new.name q (ap (λ es. inode_of es new.name) (place_names t new to) ∙ taken) in
        let one = one_for_itself q in
        let part = part_below (λ a. weight t.nodes (one_for q) a) (g.inodes + 1) d d_in in
        let due = shape.file_links q q_file in
        omega (arith, has, one, part, due)

    lost_some : (m : ℕ) → is_some (lost.nodes m) ≡ is_some (t.nodes m)
    lost_some m = view_kept is_some after q (with_link_lost now) (λ _. refl) m ∙ some m

    lost_kind : (m : ℕ) → kind_of (lost.nodes m) ≡ kind_of (t.nodes m)
    lost_kind m = view_kept kind_of after q (with_link_lost now) (λ _. refl) m ∙ kind m

    lost_parent : (m : ℕ) → parent_of (lost.nodes m) ≡ parent_of (t.nodes m)
    lost_parent m = view_kept parent_of after q (with_link_lost now) (λ _. refl) m ∙ parent m

    lost_links : (m : ℕ) → links_of (t.nodes m) ≡ links_of (lost.nodes m) + only_at q 1 m
    lost_links m =
        sym (links m) ∙ view_lost links_of after q (with_link_lost now) 1 (some q ∙ q_some)
        (λ x e. let has = has_link in let same = links q in let here : links_of (after.nodes q) ≡ x.links = ap links_of e in omega (arith, has, same, here)) m

    lost_weight : (w : ℕ → ℕ) (m : ℕ) → weight lost.nodes w m ≡ weight after.nodes w m
    lost_weight w m = view_kept (λ o. weigh w (names_of o)) after q (with_link_lost now) (λ _. refl) m

    lost_weights : (w : ℕ → ℕ) (m : ℕ) → weight lost.nodes w m + only_at p (w n) m + only_at d (w q) m ≡ weight t.nodes w m + only_at d (w n) m
    lost_weights w m = ap (λ x. x + only_at p (w n) m + only_at d (w q) m) (lost_weight w m) ∙ replaced_weights g t tree now small old new from to n node there found q differs taken w m

    lost_totals : (m : ℕ) → total g lost.nodes (one_for m) + one_for m q ≡ total g t.nodes (one_for m)
    lost_totals m =
        let f : ℕ → ℕ = λ a. weight lost.nodes (one_for m) a + only_at d (one_for m q) a in
        let a = sum_gained (λ a. weight lost.nodes (one_for m) a) f d (one_for m q) (g.inodes + 1) d_in (λ x. refl) in
        let b = sum_moved (λ a. weight t.nodes (one_for m) a) f p (one_for m n) d (one_for m n) (g.inodes + 1) p_in d_in
        (λ x. let w = lost_weights (one_for m) x in omega (arith, w)) in
        omega (arith, a, b)

    lost_shape : IsShape g lost.nodes
    lost_shape = file_names_change g t.nodes lost.nodes shape
        (λ m h. shape.inside m (sym (lost_some m) ∙ h))
        (λ a b l. lost_some b ∙ elim (cases_eq b n) [
          | inl e ↦ ap (λ x. is_some (t.nodes x)) e ∙ ap is_some there
          | inr e ↦ shape.targets a b (
              let w = lost_weights (one_for b) a in
              let zero = none_for_other b n (λ x. e (sym x)) in
              let y = only_nothing d (one_for b n) a zero in
              omega (arith, w, y, l))
        ])
        lost_kind lost_parent
        (λ w vanishes m.
        let zero = vanishes n n_file in
        let is_moved = lost_weights w m in
        let x = only_nothing p (w n) m zero in
        let y = only_nothing d (w n) m zero in
        let z = only_nothing d (w q) m (vanishes q q_file) in
        omega (arith, is_moved, x, y, z))
        (λ m h.
        let same = lost_links m in
        let none = only_elsewhere q 1 m (λ e. false_not_true (sym q_file ∙ ap (λ x. kind_of (t.nodes x)) (sym e) ∙ h)) in
        omega (arith, same, none))
        (λ m h.
        let same = lost_links m in
        let due = shape.file_links m h in
        let all = lost_totals m in
        let one = only_one q m in
        omega (arith, same, due, all, one))

    d_not_q : d ≢ q
    d_not_q e = false_not_true (sym q_file ∙ ap (λ x. kind_of (t.nodes x)) (sym e) ∙ d_is)

    module _ (fits : zones_used g final ≤ data_zones g) where
      size : 64 * (weight after.nodes (λ _. 1) d + 2) ≤ most_size
      size =
          let same_node = nameless_elsewhere lost q d d_not_q in
          let grown = grown_fits g is final d d_in (ap kind_of same_node ∙ lost_kind d ∙ d_is) fits in
          let same = ap (λ o. weigh (λ _. 1) (names_of o)) same_node ∙ lost_weight (λ _. 1) d in
          omega (arith, grown, same)

      lost_agree : NodesAgree g lost.nodes
      lost_agree = shaped_agree g lost.nodes lost_shape
          (fits_on g after q (with_link_lost now) (moved_fit g t tree now small old new from to n node there found named size)
          (λ x e fit. record {
            permissions = fit.permissions;
            links = omega arith;
            uid = fit.uid;
            gid = fit.gid;
            atime = fit.atime;
            mtime = fit.mtime;
            ctime = small;
            body = fit.body;
            target = fit.target;
          }))
          (λ m. let same = lost_links m in let few = links_fit g t.nodes tree.nodes m in omega (arith, same, few))

      pub file_moved_onto : IsTree g final
      file_moved_onto = without_nameless_is_tree g lost q
          (tree_but_over g t lost (over_on_node t after q _ (moved_over g t tree now small old new from to n node there found)) tree lost_agree
          (λ i h opened. (lost_some i ∙ h, lost_kind i)) q
          (λ m x e at none. nameless_open g t tree m (sym (lost_some m) ∙ ap is_some at)
          (let same = lost_links m in let zero : links_of (lost.nodes m) ≡ 0 = ap links_of at ∙ none in let other = only_elsewhere q 1 m e in omega (arith, same, zero, other))))
