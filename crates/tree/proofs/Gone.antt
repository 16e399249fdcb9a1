-- An empty directory that goes leaves a tree a tree.
use Rattle.std.proofs.Common.{◌≡◌, ◌≢◌, ◌<◌, ◌≤◌, ◌+◌, ◌^◌, ℕ, true, false, refl, sym, ap, ◌∙◌, arith, [], ◌∷◌, length}
use mathlib.Core.Logic.{inl, inr}
use Rattle.std.specs.Prelude.{Option, None, Some, is_some, IsTrue}
use Rattle.std.proofs.lemmas.Bool.{cases_eq, eqb-true}
use Rattle.lemmas.proofs.Bools.{false_not_true}
use Rattle.layout.specs.declared.Geometry.{Geometry}
use Rattle.tree.specs.Names.{Names, inode_of, without_name}
use Rattle.tree.specs.Tree.{Node, Tree, names_of, parent_of, with_node, on_node, is_open, most_links}
use Rattle.tree.specs.IsTree.{NodesAgree, IsTree}
use Rattle.tree.specs.Walk.{Place}
use Rattle.tree.specs.Changes.{fewer_links}
use Rattle.tree.specs.NameCalls.{without_entry, is_empty}
use Rattle.lemmas.proofs.Maps.{put-same, put-other}
use Rattle.tree.proofs.Places.{IsPlace}
use Rattle.tree.proofs.Weights.{weigh}
use Rattle.tree.proofs.Totals.{one_for, one_for_itself, only_at, only_here, only_elsewhere, weigh_found}
use Rattle.tree.proofs.Shapes.{kind_of, links_of, weight, IsShape, AllFit, shape_of, all_fit, links_fit, shaped_agree, is_there}
use Rattle.tree.proofs.GoneDirectory.{gone_directory}
use Rattle.tree.proofs.Views.{view_kept, view_lost, fits_gone, fits_on, some_named, kind_named, parent_named, links_named, weight_without, fits_without}
use Rattle.tree.proofs.TreeOver.{over_itself, over_with_node, over_on_node, nameless_open, tree_over, place_kind, place_names}

-- no names weigh nothing
no_weight : (w : ℕ → ℕ) (es : Names) → length es ≡ 0 → weigh w es ≡ 0
no_weight w [] h = refl
no_weight w (e ∷ es) h = absurd (omega (arith, h))

-- the names of an empty directory weigh nothing
pub empty_weighs : (t : Tree) (n : ℕ) (node : Node) → t.nodes n ≡ Some node → is_empty node ≡ true → (w : ℕ → ℕ) → weight t.nodes w n ≡ 0
empty_weighs t n node there empty w = ap (λ o. weigh w (names_of o)) there ∙ no_weight w (names_of (Some node)) (eqb-true (length (names_of (Some node))) 0 empty)

module _ (g : Geometry) (t : Tree) (tree : IsTree g t) (now : ℕ) (small : now < 2 ^ 32) (place : Place) (at : IsPlace t place)
    (n : ℕ) (found : inode_of place.names place.name ≡ Some n) (n_directory : kind_of (t.nodes n) ≡ true) (empty : (w : ℕ → ℕ) → weight t.nodes w n ≡ 0) where
  abbrev d : ℕ
  d = place.directory

  abbrev L : Names → Names
  L = λ names. without_name names place.name

  abbrev left : Tree
  left = without_entry t now place

  abbrev lower : Tree
  lower = on_node left d (fewer_links 1)

  abbrev after : Tree
  after = with_node lower n None

  old : IsShape g t.nodes
  old = shape_of g t.nodes tree.nodes

  fit : AllFit g t.nodes
  fit = all_fit g t.nodes tree.nodes

  d_directory : kind_of (t.nodes d) ≡ true
  d_directory = place_kind t place at

  is_found : inode_of (names_of (t.nodes d)) place.name ≡ Some n
  is_found = ap (λ es. inode_of es place.name) (place_names t place at) ∙ found

  pub gone_apart : d ≢ n
  gone_apart e =
      let has = weigh_found (one_for n) (names_of (t.nodes d)) place.name n is_found in
      let one = one_for_itself n in
      let none = ap (weight t.nodes (one_for n)) e ∙ empty (one_for n) in
      absurd (omega (arith, has, one, none))

  kept : {X : Type 0} (v : Option Node → X) → ((node : Node) → v (Some (fewer_links 1 node)) ≡ v (Some node)) → (m : ℕ) → v (lower.nodes m) ≡ v (left.nodes m)
  kept v same = view_kept v left d (fewer_links 1) same

  other : (m : ℕ) → m ≢ n → after.nodes m ≡ lower.nodes m
  other m e = put-other lower.nodes n None m e

  pub gone_some : (m : ℕ) → m ≢ n → is_some (after.nodes m) ≡ is_some (t.nodes m)
  gone_some m e = ap is_some (other m e) ∙ kept is_some (λ _. refl) m ∙ some_named t d now L m

  pub gone_kind : (m : ℕ) → m ≢ n → kind_of (after.nodes m) ≡ kind_of (t.nodes m)
  gone_kind m e = ap kind_of (other m e) ∙ kept kind_of (λ _. refl) m ∙ kind_named t d now L m

  pub gone_parent : (m : ℕ) → m ≢ n → parent_of (after.nodes m) ≡ parent_of (t.nodes m)
  gone_parent m e = ap parent_of (other m e) ∙ kept parent_of (λ _. refl) m ∙ parent_named t d now L m

  two_links : 2 ≤ links_of (left.nodes d)
  two_links = let same = links_named t d now L d in let due = old.directory_links d d_directory in omega (arith, same, due)

  pub gone_links : (m : ℕ) → m ≢ n → links_of (t.nodes m) ≡ links_of (after.nodes m) + only_at d 1 m
  gone_links m e =
      sym (links_named t d now L m)
      ∙ view_lost links_of left d (fewer_links 1) 1 (some_named t d now L d ∙ is_there (t.nodes d) d_directory)
      (λ node q. let two = two_links in let is : links_of (left.nodes d) ≡ node.links = ap links_of q in omega (arith, two, is)) m
      ∙ ap (λ o. links_of o + only_at d 1 m) (sym (other m e))

  pub gone_weights : (w : ℕ → ℕ) (m : ℕ) → weight t.nodes w m ≡ weight after.nodes w m + only_at d (w n) m
  gone_weights w m =
      let less = weight_without g t now place n fit d_directory is_found w m in
      let same = kept (λ o. weigh w (names_of o)) (λ _. refl) m in
      elim (cases_eq m n) [
        | inl e ↦
            let none = ap (weight t.nodes w) e ∙ empty w in
            let here : weight after.nodes w m ≡ 0 = ap (weight after.nodes w) e ∙ ap (λ o. weigh w (names_of o)) (put-same lower.nodes n None) in
            let apart = only_elsewhere d (w n) m (λ q. gone_apart (sym q ∙ e)) in
            omega (arith, none, here, apart)
        | inr e ↦ let here = ap (λ o. weigh w (names_of o)) (other m e) in omega (arith, less, same, here)
      ]

  pub gone_node : after.nodes n ≡ None
  gone_node = put-same lower.nodes n None

  pub gone_shape : IsShape g after.nodes
  gone_shape = gone_directory g t.nodes after.nodes old d n n_directory d_directory gone_node empty gone_some gone_kind gone_parent gone_weights gone_links

  pub gone_fit : AllFit g after.nodes
  gone_fit = fits_gone g lower.nodes n (fits_on g left d (fewer_links 1) (fits_without g t now place n fit d_directory is_found small) (λ node e x. x))

  pub gone_few : (m : ℕ) → links_of (after.nodes m) ≤ most_links
  gone_few m = elim (cases_eq m n) [
    | inl e ↦ let none : links_of (after.nodes m) ≡ 0 = ap (λ k. links_of (after.nodes k)) e ∙ ap links_of gone_node in omega (arith, none)
    | inr e ↦ let is = gone_links m e in let was = links_fit g t.nodes tree.nodes m in omega (arith, is, was)
  ]

  pub gone_agree : NodesAgree g after.nodes
  gone_agree = shaped_agree g after.nodes gone_shape gone_fit gone_few

  nameless : (m : ℕ) (node : Node) → after.nodes m ≡ Some node → node.links ≡ 0 → IsTrue (is_open t m)
  nameless m node e none =
      let zero : links_of (after.nodes m) ≡ 0 = ap links_of e ∙ none in
      let q : m ≢ n = λ is. false_not_true (sym (ap is_some (ap after.nodes is ∙ gone_node)) ∙ ap is_some e) in
      let is = gone_links m q in
      nameless_open g t tree m (sym (gone_some m q) ∙ ap is_some e) (elim (cases_eq m d) [
        | inl here ↦
            let one = only_here d 1 m here in
            let was = ap (λ k. links_of (t.nodes k)) here in
            let due = old.directory_links d d_directory in
            absurd (omega (arith, is, zero, one, was, due))
        | inr there ↦ let nothing = only_elsewhere d 1 m there in omega (arith, is, zero, nothing)
      ])

  pub gone_is_tree : is_open t n ≡ false → IsTree g after
  gone_is_tree closed = tree_over g t after (over_with_node t lower n None (over_on_node t left d _ (over_on_node t t d _ (over_itself t)))) tree gone_agree
      (λ i there opened.
      let e : i ≢ n = λ q. false_not_true (sym (ap (is_open t) q ∙ closed) ∙ opened) in
      (gone_some i e ∙ there, gone_kind i e))
      nameless
