-- A new directory leaves a tree a tree.
use Rattle.std.proofs.Common.{◌≡◌, ◌≢◌, ◌<◌, ◌≤◌, ◌+◌, ◌*◌, ◌^◌, ℕ, true, refl, sym, ap, ◌∙◌, arith}
use mathlib.Core.Logic.{inl, inr}
use Rattle.std.specs.Prelude.{Option, Some, is_some, IsTrue}
use Rattle.std.proofs.lemmas.Bool.{cases_eq}
use Rattle.lemmas.proofs.Bools.{false_not_true}
use Rattle.layout.specs.declared.Geometry.{Geometry}
use Rattle.layout.specs.Places.{IsGeometry}
use Rattle.tree.specs.declared.User.{User}
use Rattle.tree.specs.Names.{Names, inode_of, with_name}
use Rattle.tree.specs.Tree.{Node, Tree, names_of, parent_of, with_node, on_node, is_open, most_links, most_permissions, most_size}
use Rattle.tree.specs.IsTree.{IsNode, NodesAgree, IsTree}
use Rattle.tree.specs.Space.{zones_used, data_zones}
use Rattle.tree.specs.Walk.{Place}
use Rattle.tree.specs.Changes.{new_node, empty_directory, more_links}
use Rattle.tree.specs.NameCalls.{with_entry}
use Rattle.lemmas.proofs.Maps.{put-same, put-other}
use Rattle.tree.proofs.OpenFiles.{alike_put}
use Rattle.tree.proofs.Weights.{weigh}
use Rattle.tree.proofs.Totals.{only_at, only_here, only_elsewhere}
use Rattle.tree.proofs.Shapes.{kind_of, links_of, weight, IsShape, shape_of, all_fit, links_fit, shaped_agree, is_there}
use Rattle.tree.proofs.NewDirectory.{directory_inside, new_directory}
use Rattle.tree.proofs.Growth.{grown_fits}
use Rattle.tree.proofs.Outcomes.{IsFree}
use Rattle.tree.proofs.NewPlaces.{IsNewPlace}
use Rattle.tree.proofs.Views.{view_kept, view_gained, fits_put, fits_on, some_named, kind_named, parent_named, links_named, weight_with, fits_with}
use Rattle.tree.proofs.TreeOver.{over_itself, over_with_node, over_on_node, nameless_open, tree_over, place_kind, place_names}

module _ (g : Geometry) (is_geometry : IsGeometry g) (t : Tree) (tree : IsTree g t) (now : ℕ) (small : now < 2 ^ 32)
    (user : User) (uid : user.uid < 2 ^ 16) (gid : user.gid < 2 ^ 16) (mode : ℕ) (mode_fits : mode ≤ most_permissions)
    (place : Place) (new : IsNewPlace t place) (n : ℕ) (inode : IsFree g t n) (few : links_of (t.nodes place.directory) < most_links) where
  abbrev d : ℕ
  d = place.directory

  abbrev N : Node
  N = new_node now user mode 2 (empty_directory d)

  abbrev middle : Tree
  middle = with_node t n (Some N)

  abbrev F : Names → Names
  F = λ names. with_name names place.name n

  abbrev entered : Tree
  entered = with_entry middle now place n

  abbrev after : Tree
  after = on_node entered d (more_links 1)

  old : IsShape g t.nodes
  old = shape_of g t.nodes tree.nodes

  d_directory : kind_of (t.nodes d) ≡ true
  d_directory = place_kind t place new.at

  d_in : d < g.inodes + 1
  d_in = directory_inside g t.nodes old d d_directory

  apart : d ≢ n
  apart e = false_not_true (sym (ap kind_of (ap t.nodes e ∙ inode.nothing)) ∙ d_directory)

  d_in_middle : kind_of (middle.nodes d) ≡ true
  d_in_middle = ap kind_of (put-other t.nodes n (Some N) d apart) ∙ d_directory

  -- what the new link of d, and its new name, leave
  kept : {X : Type 0} (v : Option Node → X) → ((node : Node) → v (Some (more_links 1 node)) ≡ v (Some node)) → (m : ℕ) → v (after.nodes m) ≡ v (entered.nodes m)
  kept v same = view_kept v entered d (more_links 1) same

  some : (m : ℕ) → is_some (after.nodes m) ≡ is_some (middle.nodes m)
  some m = kept is_some (λ _. refl) m ∙ some_named middle d now F m

  kind : (m : ℕ) → kind_of (after.nodes m) ≡ kind_of (middle.nodes m)
  kind m = kept kind_of (λ _. refl) m ∙ kind_named middle d now F m

  parent : (m : ℕ) → parent_of (after.nodes m) ≡ parent_of (middle.nodes m)
  parent m = kept parent_of (λ _. refl) m ∙ parent_named middle d now F m

  links : (m : ℕ) → links_of (after.nodes m) ≡ links_of (middle.nodes m) + only_at d 1 m
  links m =
      view_gained links_of entered d (more_links 1) 1 (some_named middle d now F d ∙ is_there (middle.nodes d) d_in_middle) (λ node e. refl) m
      ∙ ap (λ l. l + only_at d 1 m) (links_named middle d now F m)

  at_n : (m : ℕ) → m ≡ n → middle.nodes m ≡ Some N
  at_n m e = ap middle.nodes e ∙ put-same t.nodes n (Some N)

  other : (m : ℕ) → m ≢ n → middle.nodes m ≡ t.nodes m
  other m e = put-other t.nodes n (Some N) m e

  names_middle : (m : ℕ) → names_of (middle.nodes m) ≡ names_of (t.nodes m)
  names_middle = alike_put names_of t.nodes n (Some N) (sym (ap names_of inode.nothing))

  weights : (w : ℕ → ℕ) (m : ℕ) → weight after.nodes w m ≡ weight t.nodes w m + only_at d (w n) m
  weights w m =
      kept (λ o. weigh w (names_of o)) (λ _. refl) m
      ∙ weight_with middle now place n d_in_middle (ap (λ es. inode_of es place.name) (names_middle d ∙ place_names t place new.at) ∙ new.free) w m
      ∙ ap (λ es. weigh w es + only_at d (w n) m) (names_middle m)

  links_of_n : links_of (after.nodes n) ≡ 2
  links_of_n = let is = links n in let none = only_elsewhere d 1 n (λ e. apart (sym e)) in let two = ap links_of (at_n n refl) in omega (arith, is, none, two)

  links_of_other : (m : ℕ) → m ≢ n → links_of (after.nodes m) ≡ links_of (t.nodes m) + only_at d 1 m
  links_of_other m e = links m ∙ ap (λ o. links_of o + only_at d 1 m) (other m e)

  shape : IsShape g after.nodes
  shape = new_directory g t.nodes after.nodes old d n inode.nothing inode.from inode.to d_directory
      (λ m e. some m ∙ ap is_some (other m e))
      (λ m e. kind m ∙ ap kind_of (other m e)) (kind n ∙ ap kind_of (at_n n refl))
      (λ m e. parent m ∙ ap parent_of (other m e)) (parent n ∙ ap parent_of (at_n n refl))
      weights links_of_other links_of_n

  links_few : (m : ℕ) → links_of (after.nodes m) ≤ most_links
  links_few m = elim (cases_eq m n) [
    | inl e ↦ let two = ap (λ k. links_of (after.nodes k)) e ∙ links_of_n in omega (arith, two)
    | inr e ↦ let is = links_of_other m e in elim (cases_eq m d) [
      | inl q ↦ let one = only_here d 1 m q in let was = ap (λ k. links_of (t.nodes k)) q in omega (arith, is, one, was, few)
      | inr q ↦ let none = only_elsewhere d 1 m q in let was = links_fit g t.nodes tree.nodes m in omega (arith, is, none, was)
    ]
  ]

  N_fits : IsNode g (record N { links = 0 })
  N_fits = record {
    permissions = mode_fits;
    links = omega arith;
    uid = uid;
    gid = gid;
    atime = small;
    mtime = small;
    ctime = small;
    body = record { size = omega arith; names = refl; sorted = refl };
    target = λ h. absurd (false_not_true h);
  }

  module _ (fits : zones_used g after ≤ data_zones g) where
    size : 64 * (weight entered.nodes (λ _. 1) d + 2) ≤ most_size
    size =
        let grown = grown_fits g is_geometry after d d_in (kind d ∙ d_in_middle) fits in
        let same = kept (λ o. weigh (λ _. 1) (names_of o)) (λ _. refl) d in
        omega (arith, grown, same)

    agree : NodesAgree g after.nodes
    agree = shaped_agree g after.nodes shape
        (fits_on g entered d (more_links 1)
        (fits_with middle now place n d_in_middle g small new.is_named size (fits_put g t.nodes n N N_fits (all_fit g t.nodes tree.nodes)))
        (λ node e fit. fit))
        links_few

    nameless : (m : ℕ) (node : Node) → after.nodes m ≡ Some node → node.links ≡ 0 → IsTrue (is_open t m)
    nameless m node e none =
        let zero : links_of (after.nodes m) ≡ 0 = ap links_of e ∙ none in
        elim (cases_eq m n) [
          | inl q ↦ let two = ap (λ k. links_of (after.nodes k)) q ∙ links_of_n in absurd (omega (arith, zero, two))
          | inr q ↦ nameless_open g t tree m (sym (some m ∙ ap is_some (other m q)) ∙ ap is_some e) (let is = links_of_other m q in omega (arith, is, zero))
        ]

    pub made_is_tree : IsTree g after
    made_is_tree = tree_over g t after
        (over_on_node t entered d _ (over_on_node t middle d _ (over_with_node t t n (Some N) (over_itself t)))) tree agree
        (λ i there opened.
        let e : i ≢ n = λ q. false_not_true (sym (ap is_some (ap t.nodes q ∙ inode.nothing)) ∙ there) in
        (some i ∙ ap is_some (other i e) ∙ there, kind i ∙ ap kind_of (other i e)))
        nameless
