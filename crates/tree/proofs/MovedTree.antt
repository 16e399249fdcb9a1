-- A directory that moves leaves a tree a tree, whether or not it takes an empty one's name.
use Rattle.std.proofs.Common.{◌≡◌, ◌≢◌, ◌<◌, ◌≤◌, ◌+◌, ◌*◌, ◌^◌, ℕ, true, false, refl, sym, ap, subst, ◌∙◌, arith}
use mathlib.Core.Logic.{inl, inr}
use Rattle.std.specs.Prelude.{Option, None, Some, is_some, IsTrue, not, ◌&&◌, ◌==◌, nat_le}
use Rattle.std.proofs.lemmas.Bool.{cases_eq, and_cases, leb-false, eqb-true, not-false}
use Rattle.lemmas.proofs.Bools.{false_not_true}
use Rattle.layout.specs.declared.Geometry.{Geometry}
use Rattle.layout.specs.Places.{IsGeometry}
use Rattle.lemmas.specs.Sums.{one_if}
use Rattle.tree.specs.Names.{is_name, inode_of}
use Rattle.tree.specs.Tree.{Node, Tree, is_dir, names_of, parent_of, with_node, on_node, is_open, most_links, most_size}
use Rattle.tree.specs.IsTree.{NodesAgree, IsTree, above}
use Rattle.tree.specs.Space.{zones_used, data_zones}
use Rattle.tree.specs.Walk.{Place}
use Rattle.tree.specs.Changes.{fewer_links}
use Rattle.tree.specs.NameCalls.{without_entry, without_moved, with_moved}
use Rattle.lemmas.proofs.Maps.{put-same, put-other}
use Rattle.tree.proofs.Places.{IsPlace}
use Rattle.tree.proofs.Weights.{weigh}
use Rattle.tree.proofs.Totals.{one_for, only_few, none_for_other, only_at, only_here, only_elsewhere, only_nothing}
use Rattle.tree.proofs.Shapes.{kind_of, links_of, weight, IsShape, shape_of, links_fit, shaped_agree, is_there, has_names}
use Rattle.tree.proofs.NewDirectory.{directory_inside}
use Rattle.tree.proofs.GoneDirectory.{way}
use Rattle.tree.proofs.MovedDirectory.{moved_directory}
use Rattle.tree.proofs.Growth.{grown_fits}
use Rattle.tree.proofs.Views.{view_kept, view_lost, fits_on, fits_gone}
use Rattle.tree.proofs.TreeOver.{over_with_node, over_on_node, nameless_open, tree_over}
use Rattle.tree.proofs.Gone.{gone_apart, gone_some, gone_kind, gone_parent, gone_links, gone_weights, gone_node, gone_shape}
use Rattle.tree.proofs.Moved.{moved_some, moved_kind, moved_parent, moved_under, moved_links, moved_weights, replaced_weights, moved_fit, moved_over, named_in_p, d_directory}

module _ (g : Geometry) (is : IsGeometry g) (t : Tree) (tree : IsTree g t) (now : ℕ) (small : now < 2 ^ 32) (old new : Place) (from : IsPlace t old) (to : IsPlace t new)
    (n : ℕ) (node : Node) (there : t.nodes n ≡ Some node) (found : inode_of old.names old.name ≡ Some n) (directory : is_dir node ≡ true) (named : is_name new.name ≡ true)
    (not_below : (k : ℕ) → above t.nodes k new.directory ≢ n) where
  abbrev p : ℕ
  p = old.directory

  abbrev d : ℕ
  d = new.directory

  abbrev after : Tree
  after = with_moved (without_moved t now old node) now new n node

  shape : IsShape g t.nodes
  shape = shape_of g t.nodes tree.nodes

  n_directory : kind_of (t.nodes n) ≡ true
  n_directory = ap kind_of there ∙ directory

  in_p : 1 ≤ weight t.nodes (one_for n) p
  in_p = named_in_p g t tree now small old new from to n node there found

  p_directory : kind_of (t.nodes p) ≡ true
  p_directory = has_names (one_for n) (t.nodes p) in_p

  d_is : kind_of (t.nodes d) ≡ true
  d_is = d_directory g t tree now small old new from to n node there found

  d_in : d < g.inodes + 1
  d_in = directory_inside g t.nodes shape d d_is

  some : (m : ℕ) → is_some (after.nodes m) ≡ is_some (t.nodes m)
  some = moved_some g t tree now small old new from to n node there found

  kind : (m : ℕ) → kind_of (after.nodes m) ≡ kind_of (t.nodes m)
  kind = moved_kind g t tree now small old new from to n node there found

  links : (m : ℕ) → links_of (after.nodes m) + only_at p 1 m ≡ links_of (t.nodes m) + only_at d 1 m
  links m =
      subst (λ k. links_of (after.nodes m) + only_at p k m ≡ links_of (t.nodes m) + only_at d k m) (ap one_if directory)
      (moved_links g t tree now small old new from to n node there found m)

  -- a directory has two links at least
  two_links : (m : ℕ) → kind_of (t.nodes m) ≡ true → 2 ≤ links_of (t.nodes m)
  two_links m h = let due = shape.directory_links m h in omega (arith, due)

  -- a node that had one link less than was taken from p
  was_nameless : (m x : ℕ) → x ≡ 0 → x + only_at p 1 m ≡ links_of (t.nodes m) → IsTrue (is_some (t.nodes m)) → IsTrue (is_open t m)
  was_nameless m x zero same h = nameless_open g t tree m h (elim (cases_eq m p) [
    | inl e ↦
        let one = only_here p 1 m e in
        let two = two_links m (ap (λ k. kind_of (t.nodes k)) e ∙ p_directory) in
        absurd (omega (arith, zero, same, one, two))
    | inr e ↦ let none = only_elsewhere p 1 m e in omega (arith, zero, same, none)
  ])

  -- To a place where nothing stands.
  module _ (free : inode_of new.names new.name ≡ None) (parent : Node) (parent_there : t.nodes d ≡ Some parent)
      (room : (is_dir node && not (p == d) && nat_le most_links parent.links) ≡ false) (fits : zones_used g after ≤ data_zones g) where
    free_shape : IsShape g after.nodes
    free_shape = moved_directory g t.nodes after.nodes shape p d n n_directory d_is in_p not_below some kind
        (moved_parent g t tree now small old new from to n node there found)
        (moved_under g t tree now small old new from to n node there found n_directory)
        (moved_weights g t tree now small old new from to n node there found free)
        links

    has_room : p ≢ d → links_of (t.nodes d) < most_links
    has_room e =
        let few : links_of (t.nodes d) ≡ parent.links = ap links_of parent_there in
        elim (and_cases (is_dir node && not (p == d)) (nat_le most_links parent.links) room) [
          | inl no_move ↦ elim (and_cases (is_dir node) (not (p == d)) no_move) [
            | inl file ↦ absurd (false_not_true (sym file ∙ directory))
            | inr same ↦ absurd (e (eqb-true p d (not-false (p == d) same)))
          ]
          | inr below ↦ let less = leb-false most_links parent.links below in omega (arith, few, less)
        ]

    few_links : (m : ℕ) → links_of (after.nodes m) ≤ most_links
    few_links m =
        let same = links m in
        let few = links_fit g t.nodes tree.nodes m in
        elim (cases_eq m d) [
          | inr other ↦ let none = only_elsewhere d 1 m other in omega (arith, same, few, none)
          | inl here ↦ let one = only_here d 1 m here in elim (cases_eq p d) [
            | inl e ↦ let one_p = only_here p 1 m (here ∙ sym e) in omega (arith, same, few, one, one_p)
            | inr e ↦ let less = has_room e in let at_d = ap (λ k. links_of (t.nodes k)) here in omega (arith, same, one, less, at_d)
          ]
        ]

    agree : NodesAgree g after.nodes
    agree = shaped_agree g after.nodes free_shape
        (moved_fit g t tree now small old new from to n node there found named (grown_fits g is after d d_in (kind d ∙ d_is) fits))
        few_links

    pub directory_moved : IsTree g after
    directory_moved = tree_over g t after (moved_over g t tree now small old new from to n node there found) tree agree
        (λ i h opened. (some i ∙ h, kind i))
        (λ m x e none.
        let zero : links_of (after.nodes m) ≡ 0 = ap links_of e ∙ none in
        let same = links m in
        let h = sym (some m) ∙ ap is_some e in
        elim (cases_eq m d) [
          | inr other ↦ let nothing = only_elsewhere d 1 m other in was_nameless m (links_of (after.nodes m)) zero (omega (arith, same, nothing)) h
          | inl here ↦
              let two = two_links m (ap (λ k. kind_of (t.nodes k)) here ∙ d_is) in
              let at_p = only_few p 1 m in
              absurd (omega (arith, zero, same, two, at_p))
        ])

  -- To the place of q, an empty directory.
  module _ (q : ℕ) (differs : n ≢ q) (taken : inode_of new.names new.name ≡ Some q) (q_directory : kind_of (t.nodes q) ≡ true)
      (empty : (w : ℕ → ℕ) → weight t.nodes w q ≡ 0) (closed : is_open t q ≡ false) where
    abbrev lower : Tree
    lower = on_node after d (fewer_links 1)

    abbrev final : Tree
    final = with_node lower q None

    -- the tree in which q alone is gone
    abbrev without : Tree
    without = with_node (on_node (without_entry t now new) d (fewer_links 1)) q None

    d_not_q : d ≢ q
    d_not_q = gone_apart g t tree now small new to q taken q_directory empty

    p_not_q : p ≢ q
    p_not_q e = let none = ap (weight t.nodes (one_for n)) e ∙ empty (one_for n) in let has = in_p in absurd (omega (arith, none, has))

    at_q : final.nodes q ≡ None
    at_q = put-same lower.nodes q None

    at_q_without : without.nodes q ≡ None
    at_q_without = gone_node g t tree now small new to q taken q_directory empty

    other : (m : ℕ) → m ≢ q → final.nodes m ≡ lower.nodes m
    other m e = put-other lower.nodes q None m e

    final_some : (m : ℕ) → m ≢ q → is_some (final.nodes m) ≡ is_some (t.nodes m)
    final_some m e = ap is_some (other m e) ∙ view_kept is_some after d (fewer_links 1) (λ _. refl) m ∙ some m

    final_kind : (m : ℕ) → m ≢ q → kind_of (final.nodes m) ≡ kind_of (t.nodes m)
    final_kind m e = ap kind_of (other m e) ∙ view_kept kind_of after d (fewer_links 1) (λ _. refl) m ∙ kind m

    kept_parent : (m : ℕ) → m ≢ q → parent_of (final.nodes m) ≡ parent_of (after.nodes m)
    kept_parent m e = ap parent_of (other m e) ∙ view_kept parent_of after d (fewer_links 1) (λ _. refl) m

    -- what is the same elsewhere is the same everywhere, since q is gone from both
    both_gone : {X : Type 0} (v : Option Node → X) → ((m : ℕ) → m ≢ q → v (final.nodes m) ≡ v (without.nodes m)) → (m : ℕ) → v (final.nodes m) ≡ v (without.nodes m)
    both_gone v same m = elim (cases_eq m q) [
      | inl e ↦ ap (λ k. v (final.nodes k)) e ∙ ap v at_q ∙ sym (ap (λ k. v (without.nodes k)) e ∙ ap v at_q_without)
      | inr e ↦ same m e
    ]

    lower_weight : (w : ℕ → ℕ) (m : ℕ) → weight lower.nodes w m ≡ weight after.nodes w m
    lower_weight w m = view_kept (λ o. weigh w (names_of o)) after d (fewer_links 1) (λ _. refl) m

    weights : (w : ℕ → ℕ) (m : ℕ) → weight final.nodes w m + only_at p (w n) m ≡ weight without.nodes w m + only_at d (w n) m
    weights w m = elim (cases_eq m q) [
      | inl e ↦
          let a : weight final.nodes w m ≡ 0 = ap (weight final.nodes w) e ∙ ap (λ o. weigh w (names_of o)) at_q in
          let b : weight without.nodes w m ≡ 0 = ap (weight without.nodes w) e ∙ ap (λ o. weigh w (names_of o)) at_q_without in
          let x = only_elsewhere p (w n) m (λ h. p_not_q (sym h ∙ e)) in
          let y = only_elsewhere d (w n) m (λ h. d_not_q (sym h ∙ e)) in
          omega (arith, a, b, x, y)
      | inr e ↦
          let a = ap (λ o. weigh w (names_of o)) (other m e) in
          let b = lower_weight w m in
          let c = replaced_weights g t tree now small old new from to n node there found q differs taken w m in
          let x = gone_weights g t tree now small new to q taken q_directory empty w m in
          omega (arith, a, b, c, x)
    ]

    lower_links : (m : ℕ) → links_of (after.nodes m) ≡ links_of (lower.nodes m) + only_at d 1 m
    lower_links m = view_lost links_of after d (fewer_links 1) 1 (some d ∙ is_there (t.nodes d) d_is)
        (λ x e.
        let two = two_links d d_is in
        let same = links d in
        let one = only_here d 1 d refl in
        let at_p = only_few p 1 d in
        let here : links_of (after.nodes d) ≡ x.links = ap links_of e in
        omega (arith, two, same, one, at_p, here)) m

    -- against the tree before
    links_before : (m : ℕ) → m ≢ q → links_of (final.nodes m) + only_at p 1 m ≡ links_of (t.nodes m)
    links_before m e = let a = ap links_of (other m e) in let b = lower_links m in let c = links m in omega (arith, a, b, c)

    -- against the tree without q
    links_without : (m : ℕ) → links_of (final.nodes m) + only_at p 1 m ≡ links_of (without.nodes m) + only_at d 1 m
    links_without m = elim (cases_eq m q) [
      | inl e ↦
          let a : links_of (final.nodes m) ≡ 0 = ap (λ k. links_of (final.nodes k)) e ∙ ap links_of at_q in
          let b : links_of (without.nodes m) ≡ 0 = ap (λ k. links_of (without.nodes k)) e ∙ ap links_of at_q_without in
          let x = only_elsewhere p 1 m (λ h. p_not_q (sym h ∙ e)) in
          let y = only_elsewhere d 1 m (λ h. d_not_q (sym h ∙ e)) in
          omega (arith, a, b, x, y)
      | inr e ↦ let a = links_before m e in let b = gone_links g t tree now small new to q taken q_directory empty m e in omega (arith, a, b)
    ]

    d_kept : kind_of (without.nodes d) ≡ true
    d_kept = gone_kind g t tree now small new to q taken q_directory empty d d_not_q ∙ d_is

    still_in_p : 1 ≤ weight without.nodes (one_for n) p
    still_in_p =
        let was = in_p in
        let less = gone_weights g t tree now small new to q taken q_directory empty (one_for n) p in
        let none = only_nothing d (one_for n q) p (none_for_other n q (λ e. differs (sym e))) in
        omega (arith, was, less, none)

    still_not_below : (k : ℕ) → above without.nodes k d ≢ n
    still_not_below k e = not_below k (
        sym (way g t.nodes without.nodes shape d q q_directory d_is at_q_without empty
        (gone_some g t tree now small new to q taken q_directory empty)
        (gone_kind g t tree now small new to q taken q_directory empty)
        (gone_parent g t tree now small new to q taken q_directory empty)
        (gone_weights g t tree now small new to q taken q_directory empty)
        (gone_links g t tree now small new to q taken q_directory empty) k d d_not_q d_is) ∙ e)

    final_shape : IsShape g final.nodes
    final_shape = moved_directory g without.nodes final.nodes (gone_shape g t tree now small new to q taken q_directory empty) p d n
        (gone_kind g t tree now small new to q taken q_directory empty n differs ∙ n_directory) d_kept still_in_p still_not_below
        (both_gone is_some (λ m e. final_some m e ∙ sym (gone_some g t tree now small new to q taken q_directory empty m e)))
        (both_gone kind_of (λ m e. final_kind m e ∙ sym (gone_kind g t tree now small new to q taken q_directory empty m e)))
        (λ m not_n. elim (cases_eq m q) [
          | inl e ↦ ap (λ k. parent_of (final.nodes k)) e ∙ ap parent_of at_q ∙ sym (ap (λ k. parent_of (without.nodes k)) e ∙ ap parent_of at_q_without)
          | inr e ↦
              kept_parent m e ∙ moved_parent g t tree now small old new from to n node there found m not_n
              ∙ sym (gone_parent g t tree now small new to q taken q_directory empty m e)
        ])
        (kept_parent n differs ∙ moved_under g t tree now small old new from to n node there found n_directory)
        weights links_without

    few_final : (m : ℕ) → links_of (final.nodes m) ≤ most_links
    few_final m = elim (cases_eq m q) [
      | inl e ↦ let none : links_of (final.nodes m) ≡ 0 = ap (λ k. links_of (final.nodes k)) e ∙ ap links_of at_q in omega (arith, none)
      | inr e ↦ let same = links_before m e in let few = links_fit g t.nodes tree.nodes m in omega (arith, same, few)
    ]

    module _ (fits : zones_used g final ≤ data_zones g) where
      size : 64 * (weight after.nodes (λ _. 1) d + 2) ≤ most_size
      size =
          let grown = grown_fits g is final d d_in (final_kind d d_not_q ∙ d_is) fits in
          let same = ap (λ o. weigh (λ _. 1) (names_of o)) (other d d_not_q) ∙ lower_weight (λ _. 1) d in
          omega (arith, grown, same)

      final_agree : NodesAgree g final.nodes
      final_agree = shaped_agree g final.nodes final_shape
          (fits_gone g lower.nodes q (fits_on g after d (fewer_links 1) (moved_fit g t tree now small old new from to n node there found named size) (λ x e fit. fit)))
          few_final

      pub directory_moved_onto : IsTree g final
      directory_moved_onto = tree_over g t final
          (over_with_node t lower q None (over_on_node t after d _ (moved_over g t tree now small old new from to n node there found))) tree final_agree
          (λ i h opened.
          let e : i ≢ q = λ x. false_not_true (sym (ap (is_open t) x ∙ closed) ∙ opened) in
          (final_some i e ∙ h, final_kind i e))
          (λ m x at none.
          let e : m ≢ q = λ s. false_not_true (sym (ap is_some (ap final.nodes s ∙ at_q)) ∙ ap is_some at) in
          was_nameless m (links_of (final.nodes m)) (ap links_of at ∙ none) (links_before m e) (sym (final_some m e) ∙ ap is_some at))
