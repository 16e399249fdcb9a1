-- The nodes after a node moved from one place to another.
use Rattle.std.proofs.Common.{◌≡◌, ◌≢◌, ◌<◌, ◌≤◌, ◌+◌, ◌*◌, ◌^◌, ℕ, true, false, refl, sym, ap, ◌∙◌, arith}
use mathlib.Core.Logic.{inl, inr}
use Rattle.std.specs.Prelude.{Option, None, Some, is_some}
use Rattle.std.specs.Ordering.{eq_by_cmp}
use Rattle.std.proofs.lemmas.Bool.{cases_eq, cases_Bool}
use Rattle.std.specs.Cmp.Lexicographic.{nat_list_cmp_total}
use Rattle.std.specs.FinMap.Entries.{find_tied}
use Rattle.lemmas.proofs.Options.{some_same}
use Rattle.lemmas.proofs.Bools.{false_not_true, is_equal}
use Rattle.layout.specs.declared.Geometry.{Geometry}
use Rattle.lemmas.specs.Sums.{one_if}
use Rattle.tree.specs.Names.{Name, Names, name_cmp, is_name, inode_of, with_name, without_name}
use Rattle.tree.specs.Tree.{Body, is_file, is_directory, Node, Tree, is_dir, names_of, parent_of, on_node, most_size}
use Rattle.tree.specs.IsTree.{IsNode, IsTree}
use Rattle.tree.specs.Walk.{Place}
use Rattle.tree.specs.Changes.{with_ctime, with_names, with_parent, more_links, fewer_links}
use Rattle.tree.specs.NameCalls.{with_entry, without_entry, without_moved, with_moved}
use Rattle.lemmas.proofs.Maps.{not_nothing}
use Rattle.tree.proofs.Places.{IsPlace, found_without}
use Rattle.tree.proofs.Weights.{weigh}
use Rattle.tree.proofs.Totals.{one_for, one_for_itself, only_at, weigh_found}
use Rattle.tree.proofs.Entries.{other_name}
use Rattle.tree.proofs.Shapes.{kind_of, links_of, weight, IsShape, AllFit, shape_of, all_fit, is_there}
use Rattle.tree.proofs.Views.{view_kept, view_gained, view_lost, on_node_at, on_node_elsewhere, fits_on, some_named, kind_named, parent_named, links_named, weight_with, weight_over, weight_without, fits_with, fits_without}
use Rattle.tree.proofs.TreeOver.{IsOver, over_itself, over_on_node, place_kind, place_names}

-- the parent of a directory under another changes nothing else
kind_in : (now d : ℕ) (node : Node) (body : Body) → kind_of (Some (with_ctime now (with_parent d (record node { body = body })))) ≡ kind_of (Some (record node { body = body }))
kind_in now d node (is_file f) = refl
kind_in now d node (is_directory x) = refl

-- its links
links_in : (now d : ℕ) (node : Node) (body : Body) → links_of (Some (with_ctime now (with_parent d (record node { body = body })))) ≡ links_of (Some (record node { body = body }))
links_in now d node (is_file f) = refl
links_in now d node (is_directory x) = refl

-- its names
weigh_in : (w : ℕ → ℕ) (now d : ℕ) (node : Node) (body : Body)
    → weigh w (names_of (Some (with_ctime now (with_parent d (record node { body = body }))))) ≡ weigh w (names_of (Some (record node { body = body })))
weigh_in w now d node (is_file f) = refl
weigh_in w now d node (is_directory x) = refl

-- its parent is the new one
under : (now d : ℕ) (node : Node) (body : Body) → kind_of (Some (record node { body = body })) ≡ true → parent_of (Some (with_ctime now (with_parent d (record node { body = body })))) ≡ d
under now d node (is_file f) h = absurd (false_not_true h)
under now d node (is_directory x) h = refl

-- it fits
under_fits : (g : Geometry) (now d : ℕ) → now < 2 ^ 32 → (node : Node) (body : Body) → IsNode g (record node { links = 0; body = body })
    → IsNode g (record (with_ctime now (with_parent d (record node { body = body }))) { links = 0 })
under_fits g now d small node (is_file f) fit = record {
  permissions = fit.permissions;
  links = omega arith;
  uid = fit.uid;
  gid = fit.gid;
  atime = fit.atime;
  mtime = fit.mtime;
  ctime = small;
  body = fit.body;
  target = fit.target;
}
under_fits g now d small node (is_directory x) fit = record {
  permissions = fit.permissions;
  links = omega arith;
  uid = fit.uid;
  gid = fit.gid;
  atime = fit.atime;
  mtime = fit.mtime;
  ctime = small;
  body = record { size = fit.body.size; names = fit.body.names; sorted = fit.body.sorted };
  target = fit.target;
}

-- a directory without a name has the names without it
names_left : (now : ℕ) (name : Name) (body : Body) (node : Node)
    → names_of (Some (with_names now (λ names. without_name names name) (record node { body = body }))) ≡ without_name (names_of (Some (record node { body = body }))) name
names_left now name (is_file f) node = refl
names_left now name (is_directory d) node = refl

module _ (g : Geometry) (t : Tree) (tree : IsTree g t) (now : ℕ) (small : now < 2 ^ 32) (old new : Place) (from : IsPlace t old) (to : IsPlace t new)
    (n : ℕ) (node : Node) (there : t.nodes n ≡ Some node) (found : inode_of old.names old.name ≡ Some n) where
  abbrev p : ℕ
  p = old.directory

  abbrev d : ℕ
  d = new.directory

  abbrev k : ℕ
  k = one_if (is_dir node)

  abbrev left : Tree
  left = without_entry t now old

  abbrev out : Tree
  out = without_moved t now old node

  abbrev entered : Tree
  entered = with_entry out now new n

  abbrev linked : Tree
  linked = on_node entered d (more_links k)

  abbrev after : Tree
  after = with_moved out now new n node

  abbrev L : Names → Names
  L = λ names. without_name names old.name

  abbrev M : Names → Names
  M = λ names. with_name names new.name n

  shape : IsShape g t.nodes
  shape = shape_of g t.nodes tree.nodes

  fit : AllFit g t.nodes
  fit = all_fit g t.nodes tree.nodes

  p_directory : kind_of (t.nodes p) ≡ true
  p_directory = place_kind t old from

  pub d_directory : kind_of (t.nodes d) ≡ true
  d_directory = place_kind t new to

  is_found : inode_of (names_of (t.nodes p)) old.name ≡ Some n
  is_found = ap (λ es. inode_of es old.name) (place_names t old from) ∙ found

  pub named_in_p : 1 ≤ weight t.nodes (one_for n) p
  named_in_p = let has = weigh_found (one_for n) (names_of (t.nodes p)) old.name n is_found in let one = one_for_itself n in omega (arith, has, one)

  -- a view that no step changes
  kept_out : {X : Type 0} (v : Option Node → X) → ((x : Node) → v (Some (fewer_links k x)) ≡ v (Some x)) → (m : ℕ) → v (out.nodes m) ≡ v (left.nodes m)
  kept_out v same = view_kept v left p (fewer_links k) same

  kept_in : {X : Type 0} (v : Option Node → X) → ((x : Node) → v (Some (more_links k x)) ≡ v (Some x)) → (m : ℕ) → v (linked.nodes m) ≡ v (entered.nodes m)
  kept_in v same = view_kept v entered d (more_links k) same

  pub moved_some : (m : ℕ) → is_some (after.nodes m) ≡ is_some (t.nodes m)
  moved_some m =
      view_kept is_some linked n (λ x. with_ctime now (with_parent d x)) (λ _. refl) m
      ∙ kept_in is_some (λ _. refl) m ∙ some_named out d now M m ∙ kept_out is_some (λ _. refl) m ∙ some_named t p now L m

  kind_linked : (m : ℕ) → kind_of (linked.nodes m) ≡ kind_of (t.nodes m)
  kind_linked m = kept_in kind_of (λ _. refl) m ∙ kind_named out d now M m ∙ kept_out kind_of (λ _. refl) m ∙ kind_named t p now L m

  kind_out : (m : ℕ) → kind_of (out.nodes m) ≡ kind_of (t.nodes m)
  kind_out m = kept_out kind_of (λ _. refl) m ∙ kind_named t p now L m

  pub moved_kind : (m : ℕ) → kind_of (after.nodes m) ≡ kind_of (t.nodes m)
  moved_kind m = view_kept kind_of linked n (λ x. with_ctime now (with_parent d x)) (λ x. kind_in now d x x.body) m ∙ kind_linked m

  pub moved_parent : (m : ℕ) → m ≢ n → parent_of (after.nodes m) ≡ parent_of (t.nodes m)
  moved_parent m e =
      ap parent_of (on_node_elsewhere linked n (λ x. with_ctime now (with_parent d x)) m e)
      ∙ kept_in parent_of (λ _. refl) m ∙ parent_named out d now M m ∙ kept_out parent_of (λ _. refl) m ∙ parent_named t p now L m

  pub moved_under : kind_of (t.nodes n) ≡ true → parent_of (after.nodes n) ≡ d
  moved_under h = by_node (linked.nodes n) refl (kind_linked n ∙ h)
    where
      by_node : (o : Option Node) → linked.nodes n ≡ o → kind_of o ≡ true → parent_of (after.nodes n) ≡ d
      by_node None e q = absurd (false_not_true q)
      by_node (Some x) e q = ap parent_of (on_node_at linked n (λ y. with_ctime now (with_parent d y)) x e) ∙ under now d x x.body q

  few_enough : k ≤ links_of (left.nodes p)
  few_enough =
      let same = links_named t p now L p in
      let due = shape.directory_links p p_directory in
      elim (cases_Bool (is_dir node)) [
        | inl yes_dir ↦ let one : k ≡ 1 = ap one_if yes_dir in omega (arith, same, due, one)
        | inr no_dir ↦ let none : k ≡ 0 = ap one_if no_dir in omega (arith, none)
      ]

  pub moved_links : (m : ℕ) → links_of (after.nodes m) + only_at p k m ≡ links_of (t.nodes m) + only_at d k m
  moved_links m =
      let a = view_kept links_of linked n (λ x. with_ctime now (with_parent d x)) (λ x. links_in now d x x.body) m in
      let b = view_gained links_of entered d (more_links k) k (some_named out d now M d ∙ is_there (out.nodes d) (kind_out d ∙ d_directory)) (λ x e. refl) m in
      let c = links_named out d now M m in
      let e = view_lost links_of left p (fewer_links k) k (some_named t p now L p ∙ is_there (t.nodes p) p_directory)
      (λ x q. let few = few_enough in let is : links_of (left.nodes p) ≡ x.links = ap links_of q in omega (arith, few, is)) m in
      let f = links_named t p now L m in
      omega (arith, a, b, c, e, f)

  weight_out : (w : ℕ → ℕ) (m : ℕ) → weight t.nodes w m ≡ weight out.nodes w m + only_at p (w n) m
  weight_out w m =
      weight_without g t now old n fit p_directory is_found w m
      ∙ ap (λ x. x + only_at p (w n) m) (sym (kept_out (λ o. weigh w (names_of o)) (λ _. refl) m))

  weight_last : (w : ℕ → ℕ) (m : ℕ) → weight after.nodes w m ≡ weight entered.nodes w m
  weight_last w m =
      view_kept (λ o. weigh w (names_of o)) linked n (λ x. with_ctime now (with_parent d x)) (λ x. weigh_in w now d x x.body) m
      ∙ kept_in (λ o. weigh w (names_of o)) (λ _. refl) m

  -- the names of p without the old one, and of each other directory as before
  names_out_p : names_of (out.nodes p) ≡ without_name (names_of (t.nodes p)) old.name
  names_out_p =
      let x = from.node in
      kept_out names_of (λ _. refl) p ∙ ap names_of (on_node_at t p (with_names now L) x from.there) ∙ names_left now old.name x.body x
      ∙ ap (λ o. without_name (names_of o) old.name) (sym from.there)

  names_out_other : (m : ℕ) → m ≢ p → names_of (out.nodes m) ≡ names_of (t.nodes m)
  names_out_other m e = kept_out names_of (λ _. refl) m ∙ ap names_of (on_node_elsewhere t p (with_names now L) m e)

  fit_out : AllFit g out.nodes
  fit_out = fits_on g left p (fewer_links k) (fits_without g t now old n fit p_directory is_found small) (λ x e f. f)

  out_directory : kind_of (out.nodes d) ≡ true
  out_directory = kind_out d ∙ d_directory

  -- Nothing stands at the new place.
  module _ (free : inode_of new.names new.name ≡ None) where
    still_free : inode_of (names_of (out.nodes d)) new.name ≡ None
    still_free = elim (cases_eq d p) [
      | inl e ↦
          ap (λ m. inode_of (names_of (out.nodes m)) new.name) e ∙ ap (λ es. inode_of es new.name) names_out_p
          ∙ none_without (names_of (t.nodes p)) (ap (λ m. inode_of (names_of (t.nodes m)) new.name) (sym e) ∙ was_free)
      | inr e ↦ ap (λ es. inode_of es new.name) (names_out_other d e) ∙ was_free
    ]
      where
        was_free : inode_of (names_of (t.nodes d)) new.name ≡ None
        was_free = ap (λ es. inode_of es new.name) (place_names t new to) ∙ free

        none_or : (es : Names) (o : Option ℕ) → inode_of (without_name es old.name) new.name ≡ o → inode_of es new.name ≡ None → o ≡ None
        none_or es None e h = refl
        none_or es (Some x) e h = absurd (not_nothing x (sym h ∙ found_without es old.name new.name x e))

        none_without : (es : Names) → inode_of es new.name ≡ None → inode_of (without_name es old.name) new.name ≡ None
        none_without es h = none_or es (inode_of (without_name es old.name) new.name) refl h

    pub moved_weights : (w : ℕ → ℕ) (m : ℕ) → weight after.nodes w m + only_at p (w n) m ≡ weight t.nodes w m + only_at d (w n) m
    moved_weights w m =
        let a = weight_last w m in
        let b = weight_with out now new n out_directory still_free w m in
        let c = weight_out w m in
        omega (arith, a, b, c)

  -- Node q stands at the new place.
  module _ (q : ℕ) (differs : n ≢ q) (taken : inode_of new.names new.name ≡ Some q) where
    was_taken : inode_of (names_of (t.nodes d)) new.name ≡ Some q
    was_taken = ap (λ es. inode_of es new.name) (place_names t new to) ∙ taken

    other_names : d ≡ p → eq_by_cmp name_cmp old.name new.name ≡ false
    other_names e = elim (cases_Bool (eq_by_cmp name_cmp old.name new.name)) [
      | inr f ↦ f
      | inl tie ↦ absurd (differs (some_same n q (
          sym is_found ∙ sym (same_found tie) ∙ ap (λ m. inode_of (names_of (t.nodes m)) new.name) (sym e) ∙ was_taken)))
    ]
      where
        same_found : eq_by_cmp name_cmp old.name new.name ≡ true → inode_of (names_of (t.nodes p)) new.name ≡ inode_of (names_of (t.nodes p)) old.name
        same_found tie = find_tied name_cmp nat_list_cmp_total old.name new.name (is_equal (name_cmp old.name new.name) tie) (names_of (t.nodes p))

    still_taken : inode_of (names_of (out.nodes d)) new.name ≡ Some q
    still_taken = elim (cases_eq d p) [
      | inl e ↦
          ap (λ m. inode_of (names_of (out.nodes m)) new.name) e ∙ ap (λ es. inode_of es new.name) names_out_p
          ∙ other_name (names_of (t.nodes p)) old.name new.name (other_names e)
          ∙ ap (λ m. inode_of (names_of (t.nodes m)) new.name) (sym e) ∙ was_taken
      | inr e ↦ ap (λ es. inode_of es new.name) (names_out_other d e) ∙ was_taken
    ]

    pub replaced_weights : (w : ℕ → ℕ) (m : ℕ) → weight after.nodes w m + only_at p (w n) m + only_at d (w q) m ≡ weight t.nodes w m + only_at d (w n) m
    replaced_weights w m =
        let a = weight_last w m in
        let b = weight_over out now new n out_directory g fit_out q still_taken w m in
        let c = weight_out w m in
        omega (arith, a, b, c)

  -- each node fits
  pub moved_fit : is_name new.name ≡ true → 64 * (weight after.nodes (λ _. 1) d + 2) ≤ most_size → AllFit g after.nodes
  moved_fit named size =
      fits_on g linked n (λ x. with_ctime now (with_parent d x))
      (fits_on g entered d (more_links k)
      (fits_with out now new n out_directory g small named (let same = weight_last (λ _. 1) d in omega (arith, same, size)) fit_out)
      (λ x e f. f))
      (λ x e f. under_fits g now d small x x.body f)

  pub moved_over : IsOver t after
  moved_over =
      over_on_node t linked n _ (over_on_node t entered d _ (over_on_node t out d _ (over_on_node t left p _ (over_on_node t t p _ (over_itself t)))))
