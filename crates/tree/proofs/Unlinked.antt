-- A file that loses a name leaves a tree a tree, whether or not it goes.
use Rattle.std.proofs.Common.{◌≡◌, ◌≤◌, ◌<◌, ◌+◌, ◌^◌, ℕ, true, false, refl, sym, ap, ◌∙◌, arith}
use Rattle.std.specs.Prelude.{Some, is_some, IsTrue}
use Rattle.lemmas.proofs.Bools.{false_not_true}
use Rattle.layout.specs.declared.Geometry.{Geometry}
use Rattle.tree.specs.declared.Call.TheVariants.{Unlink}
use Rattle.tree.specs.Names.{Names, inode_of, without_name}
use Rattle.tree.specs.Tree.{Tree, names_of, parent_of, on_node}
use Rattle.tree.specs.IsTree.{NodesAgree, IsTree}
use Rattle.tree.specs.Walk.{Place}
use Rattle.tree.specs.Changes.{with_link_lost, without_nameless}
use Rattle.tree.specs.NameCalls.{without_entry}
use Rattle.tree.specs.Effects.{user_of}
use Rattle.tree.specs.Keeps.{UnlinkKeeps}
use Rattle.tree.proofs.Places.{IsPlace, is_place}
use Rattle.tree.proofs.Weights.{weigh}
use Rattle.tree.proofs.Freed.{part_below, without_nameless_is_tree}
use Rattle.tree.proofs.Totals.{one_for, one_for_itself, only_at, only_elsewhere, only_nothing, only_one, sum_gained, weigh_found}
use Rattle.tree.proofs.Shapes.{kind_of, links_of, weight, total, IsShape, AllFit, shape_of, all_fit, links_fit, shaped_agree}
use Rattle.tree.proofs.NewDirectory.{directory_inside}
use Rattle.tree.proofs.FileNames.{file_names_change}
use Rattle.tree.proofs.Views.{view_kept, view_lost, fits_on, some_named, kind_named, parent_named, links_named, weight_without, fits_without}
use Rattle.tree.proofs.TreeOver.{over_itself, over_on_node, nameless_open, tree_but_over, place_kind, place_names}
use Rattle.tree.proofs.NodeOutcomes.{unlink_each}
use Rattle.tree.proofs.Keeping.{Keeps, keeps_closed, in_session}

module _ (g : Geometry) (t : Tree) (tree : IsTree g t) (now : ℕ) (small : now < 2 ^ 32) (place : Place) (at : IsPlace t place)
    (n : ℕ) (found : inode_of place.names place.name ≡ Some n) (there : IsTrue (is_some (t.nodes n))) (file : kind_of (t.nodes n) ≡ false) where
  abbrev d : ℕ
  d = place.directory

  abbrev L : Names → Names
  L = λ names. without_name names place.name

  abbrev left : Tree
  left = without_entry t now place

  abbrev after : Tree
  after = on_node left n (with_link_lost now)

  old : IsShape g t.nodes
  old = shape_of g t.nodes tree.nodes

  fit : AllFit g t.nodes
  fit = all_fit g t.nodes tree.nodes

  d_directory : kind_of (t.nodes d) ≡ true
  d_directory = place_kind t place at

  d_in : d < g.inodes + 1
  d_in = directory_inside g t.nodes old d d_directory

  is_found : inode_of (names_of (t.nodes d)) place.name ≡ Some n
  is_found = ap (λ es. inode_of es place.name) (place_names t place at) ∙ found

  -- the node has a link to lose
  has_link : 1 ≤ links_of (left.nodes n)
  has_link =
      let has = weigh_found (one_for n) (names_of (t.nodes d)) place.name n is_found in
      let one = one_for_itself n in
      let part = part_below (λ a. weight t.nodes (one_for n) a) (g.inodes + 1) d d_in in
      let due = old.file_links n file in
      let same = links_named t d now L n in
      omega (arith, has, one, part, due, same)

  some : (m : ℕ) → is_some (after.nodes m) ≡ is_some (t.nodes m)
  some m = view_kept is_some left n (with_link_lost now) (λ _. refl) m ∙ some_named t d now L m

  kind : (m : ℕ) → kind_of (after.nodes m) ≡ kind_of (t.nodes m)
  kind m = view_kept kind_of left n (with_link_lost now) (λ _. refl) m ∙ kind_named t d now L m

  parent : (m : ℕ) → parent_of (after.nodes m) ≡ parent_of (t.nodes m)
  parent m = view_kept parent_of left n (with_link_lost now) (λ _. refl) m ∙ parent_named t d now L m

  links : (m : ℕ) → links_of (t.nodes m) ≡ links_of (after.nodes m) + only_at n 1 m
  links m =
      sym (links_named t d now L m)
      ∙ view_lost links_of left n (with_link_lost now) 1 (some_named t d now L n ∙ there)
      (λ node e. let has = has_link in let here : links_of (left.nodes n) ≡ node.links = ap links_of e in omega (arith, has, here)) m

  weights : (w : ℕ → ℕ) (m : ℕ) → weight t.nodes w m ≡ weight after.nodes w m + only_at d (w n) m
  weights w m =
      weight_without g t now place n fit d_directory is_found w m
      ∙ ap (λ x. x + only_at d (w n) m) (sym (view_kept (λ o. weigh w (names_of o)) left n (with_link_lost now) (λ _. refl) m))

  totals : (m : ℕ) → total g t.nodes (one_for m) ≡ total g after.nodes (one_for m) + one_for m n
  totals m = sum_gained (λ a. weight after.nodes (one_for m) a) (λ a. weight t.nodes (one_for m) a) d (one_for m n) (g.inodes + 1) d_in (weights (one_for m))

  shape : IsShape g after.nodes
  shape = file_names_change g t.nodes after.nodes old
      (λ m h. old.inside m (sym (some m) ∙ h))
      (λ a b l. some b ∙ old.targets a b (let w = weights (one_for b) a in omega (arith, w, l)))
      kind parent
      (λ w vanishes m. let is = weights w m in let none = only_nothing d (w n) m (vanishes n file) in omega (arith, is, none))
      (λ m h.
      let is = links m in
      let none = only_elsewhere n 1 m (λ e. false_not_true (sym file ∙ ap (λ k. kind_of (t.nodes k)) (sym e) ∙ h)) in
      omega (arith, is, none))
      (λ m h. let is = links m in let was = old.file_links m h in let one = only_one n m in let all = totals m in omega (arith, is, was, one, all))

  agree : NodesAgree g after.nodes
  agree = shaped_agree g after.nodes shape
      (fits_on g left n (with_link_lost now) (fits_without g t now place n fit d_directory is_found small)
      (λ node e x. record {
        permissions = x.permissions;
        links = omega arith;
        uid = x.uid;
        gid = x.gid;
        atime = x.atime;
        mtime = x.mtime;
        ctime = small;
        body = x.body;
        target = x.target;
      }))
      (λ m. let is = links m in let few = links_fit g t.nodes tree.nodes m in omega (arith, is, few))

  pub unlinked_is_tree : IsTree g (without_nameless after n)
  unlinked_is_tree = without_nameless_is_tree g after n
      (tree_but_over g t after (over_on_node t left n _ (over_on_node t t d _ (over_itself t))) tree agree
      (λ i h opened. (some i ∙ h, kind i)) n
      (λ m node e is none. nameless_open g t tree m (sym (some m) ∙ ap is_some is)
      (let same = links m in let zero : links_of (after.nodes m) ≡ 0 = ap links_of is ∙ none in let other = only_elsewhere n 1 m e in omega (arith, same, zero, other))))

-- unlink
pub unlink_keeps : UnlinkKeeps
unlink_keeps g t who now path small tree = in_session g t who now (Unlink path) tree (λ _.
    unlink_each t (user_of who) now (Keeps g t) (keeps_closed g t tree) path (λ n node place is.
    unlinked_is_tree g t tree now small place (is_place t (user_of who) is.parts place is.walked) n is.found (ap is_some is.there) (ap kind_of is.there ∙ is.file)))
