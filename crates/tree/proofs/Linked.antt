-- One name more of a file, or of a new one, leaves a tree a tree.
use Rattle.std.proofs.Common.{◌≡◌, ◌≢◌, ◌<◌, ◌≤◌, ◌+◌, ◌^◌, ℕ, true, false, refl, sym, ap, ◌∙◌, arith, []}
use mathlib.Core.Logic.{inl, inr}
use Rattle.std.specs.Prelude.{Option, None, Some, is_some, IsTrue}
use Rattle.std.proofs.lemmas.Bool.{cases_eq}
use Rattle.lemmas.proofs.Bools.{false_not_true}
use Rattle.layout.specs.declared.Geometry.{Geometry}
use Rattle.layout.specs.Places.{IsGeometry}
use Rattle.tree.specs.Names.{is_name, inode_of, with_name}
use Rattle.tree.specs.Tree.{Node, Tree, is_dir, names_of, parent_of, with_node, is_open, most_links}
use Rattle.tree.specs.IsTree.{IsNode, NodesAgree, IsTree}
use Rattle.tree.specs.Space.{zones_used, data_zones}
use Rattle.tree.specs.Walk.{Place}
use Rattle.tree.specs.NameCalls.{with_entry}
use Rattle.lemmas.proofs.Maps.{put-same, put-other}
use Rattle.tree.proofs.Freed.{no_names}
use Rattle.tree.proofs.Weights.{weigh}
use Rattle.tree.proofs.OpenFiles.{alike_put}
use Rattle.tree.proofs.Places.{IsPlace}
use Rattle.tree.proofs.Totals.{one_for, only_one, none_for_other, only_at, only_here, only_elsewhere, only_nothing, sum_gained}
use Rattle.tree.proofs.Shapes.{kind_of, links_of, weight, total, IsShape, shape_of, all_fit, links_fit, shaped_agree, no_parent_of}
use Rattle.tree.proofs.NewDirectory.{directory_inside}
use Rattle.tree.proofs.FileNames.{file_names_change}
use Rattle.tree.proofs.Growth.{grown_fits}
use Rattle.tree.proofs.Views.{put_gained, fits_put, some_named, kind_named, parent_named, links_named, weight_with, fits_with}
use Rattle.tree.proofs.TreeOver.{IsOver, over_itself, over_with_node, over_on_node, nameless_open, tree_over, place_kind, place_names}

-- what is no directory has no names
pub no_names_of : (o : Option Node) → kind_of o ≡ false → names_of o ≡ []
no_names_of None h = refl
no_names_of (Some node) h = no_names node h

-- the tree after it, over the same open files, and its node n, which is a file
pub record IsLinked (g : Geometry) (t after : Tree) (n : ℕ) : Type 0 where
  pub is_tree : IsTree g after
  pub over : IsOver t after
  pub some : IsTrue (is_some (after.nodes n))
  pub file : kind_of (after.nodes n) ≡ false

module _ (g : Geometry) (is_geometry : IsGeometry g) (t : Tree) (tree : IsTree g t) (now : ℕ) (small : now < 2 ^ 32) (place : Place) (at : IsPlace t place)
    (free : inode_of place.names place.name ≡ None) (named : is_name place.name ≡ true)
    (n : ℕ) (from : 1 ≤ n) (to : n ≤ g.inodes) (file : kind_of (t.nodes n) ≡ false)
    (N : Node) (N_file : is_dir N ≡ false) (N_fits : IsNode g (record N { links = 0 })) (N_links : N.links ≡ links_of (t.nodes n) + 1) (few : N.links ≤ most_links) where
  abbrev d : ℕ
  d = place.directory

  abbrev middle : Tree
  middle = with_node t n (Some N)

  abbrev after : Tree
  after = with_entry middle now place n

  F : IsShape g t.nodes
  F = shape_of g t.nodes tree.nodes

  some_other : (m : ℕ) → m ≢ n → is_some (after.nodes m) ≡ is_some (t.nodes m)
  some_other m e = some_named middle d now (λ names. with_name names place.name n) m ∙ ap is_some (put-other t.nodes n (Some N) m e)

  some_n : (m : ℕ) → m ≡ n → IsTrue (is_some (after.nodes m))
  some_n m e = some_named middle d now (λ names. with_name names place.name n) m ∙ ap (λ k. is_some (middle.nodes k)) e ∙ ap is_some (put-same t.nodes n (Some N))

  some_kept : (m : ℕ) → IsTrue (is_some (t.nodes m)) → IsTrue (is_some (after.nodes m))
  some_kept m h = elim (cases_eq m n) [ inl e ↦ some_n m e | inr e ↦ some_other m e ∙ h ]

  kind_middle : (m : ℕ) → kind_of (middle.nodes m) ≡ kind_of (t.nodes m)
  kind_middle = alike_put kind_of t.nodes n (Some N) (N_file ∙ sym file)

  kind : (m : ℕ) → kind_of (after.nodes m) ≡ kind_of (t.nodes m)
  kind m = kind_named middle d now (λ names. with_name names place.name n) m ∙ kind_middle m

  parent : (m : ℕ) → parent_of (after.nodes m) ≡ parent_of (t.nodes m)
  parent m =
      parent_named middle d now (λ names. with_name names place.name n) m
      ∙ alike_put parent_of t.nodes n (Some N) (no_parent_of (Some N) N_file ∙ sym (no_parent_of (t.nodes n) file)) m

  names_middle : (m : ℕ) → names_of (middle.nodes m) ≡ names_of (t.nodes m)
  names_middle = alike_put names_of t.nodes n (Some N) (no_names_of (Some N) N_file ∙ sym (no_names_of (t.nodes n) file))

  links : (m : ℕ) → links_of (after.nodes m) ≡ links_of (t.nodes m) + only_at n 1 m
  links m = links_named middle d now (λ names. with_name names place.name n) m ∙ put_gained links_of t.nodes n (Some N) 1 N_links m

  d_directory : kind_of (t.nodes d) ≡ true
  d_directory = place_kind t place at

  d_in_middle : kind_of (middle.nodes d) ≡ true
  d_in_middle = kind_middle d ∙ d_directory

  weights : (w : ℕ → ℕ) (m : ℕ) → weight after.nodes w m ≡ weight t.nodes w m + only_at d (w n) m
  weights w m =
      weight_with middle now place n d_in_middle (ap (λ es. inode_of es place.name) (names_middle d ∙ place_names t place at) ∙ free) w m
      ∙ ap (λ es. weigh w es + only_at d (w n) m) (names_middle m)

  d_in : d < g.inodes + 1
  d_in = directory_inside g t.nodes F d d_directory

  totals : (m : ℕ) → total g after.nodes (one_for m) ≡ total g t.nodes (one_for m) + one_for m n
  totals m = sum_gained (λ a. weight t.nodes (one_for m) a) (λ a. weight after.nodes (one_for m) a) d (one_for m n) (g.inodes + 1) d_in (weights (one_for m))

  not_n : (m : ℕ) → kind_of (t.nodes m) ≡ true → m ≢ n
  not_n m h e = false_not_true (sym file ∙ ap (λ k. kind_of (t.nodes k)) (sym e) ∙ h)

  shape : IsShape g after.nodes
  shape = file_names_change g t.nodes after.nodes F
      (λ m h. elim (cases_eq m n) [ inl e ↦ (omega (arith, from, e), omega (arith, to, e)) | inr e ↦ F.inside m (sym (some_other m e) ∙ h) ])
      (λ a b l. elim (cases_eq b n) [
        | inl e ↦ some_n b e
        | inr e ↦ some_kept b (F.targets a b (
            let is = weights (one_for b) a in
            let none = only_nothing d (one_for b n) a (none_for_other b n (λ q. e (sym q))) in
            omega (arith, is, none, l)))
      ])
      kind parent
      (λ w vanishes m. let is = weights w m in let none = only_nothing d (w n) m (vanishes n file) in omega (arith, is, none))
      (λ m h. let is = links m in let none = only_elsewhere n 1 m (not_n m h) in omega (arith, is, none))
      (λ m h. let is = links m in let was = F.file_links m h in let one = only_one n m in let all = totals m in omega (arith, is, was, one, all))

  links_few : (m : ℕ) → links_of (after.nodes m) ≤ most_links
  links_few m = elim (cases_eq m n) [
    | inl e ↦ let is = links m in let here = only_here n 1 m e in let was = ap (λ k. links_of (t.nodes k)) e in omega (arith, is, here, was, N_links, few)
    | inr e ↦ let is = links m in let none = only_elsewhere n 1 m e in let was = links_fit g t.nodes tree.nodes m in omega (arith, is, none, was)
  ]

  module _ (fits : zones_used g after ≤ data_zones g) where
    agree : NodesAgree g after.nodes
    agree = shaped_agree g after.nodes shape
        (fits_with middle now place n d_in_middle g small named (grown_fits g is_geometry after d d_in (kind d ∙ d_directory) fits)
        (fits_put g t.nodes n N N_fits (all_fit g t.nodes tree.nodes)))
        links_few

    nameless : (m : ℕ) (node : Node) → after.nodes m ≡ Some node → node.links ≡ 0 → IsTrue (is_open t m)
    nameless m node e none =
        let is = links m in
        let zero : links_of (after.nodes m) ≡ 0 = ap links_of e ∙ none in
        elim (cases_eq m n) [
          | inl q ↦ let one = only_here n 1 m q in absurd (omega (arith, is, zero, one))
          | inr q ↦ nameless_open g t tree m (sym (some_other m q) ∙ ap is_some e) (omega (arith, is, zero))
        ]

    over : IsOver t after
    over = over_on_node t middle d _ (over_with_node t t n (Some N) (over_itself t))

    pub linked : IsLinked g t after n
    linked = record {
      is_tree = tree_over g t after over tree agree (λ i some opened. (some_kept i some, kind i)) nameless;
      over = over;
      some = some_n n refl;
      file = kind n ∙ file;
    }
