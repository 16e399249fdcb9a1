-- What a change of one node leaves, and adds or takes, in all nodes.
use Rattle.std.proofs.Common.{◌≡◌, ◌≢◌, ◌<◌, ◌≤◌, ◌+◌, ◌*◌, ◌^◌, ℕ, true, refl, sym, ap, subst, ◌∙◌, arith, length}
use mathlib.Core.Logic.{inl, inr}
use Rattle.std.specs.Prelude.{Option, None, Some, is_some, IsTrue}
use Rattle.std.proofs.lemmas.Bool.{cases_eq}
use Rattle.lemmas.proofs.Bools.{false_not_true, to_T}
use Rattle.layout.specs.declared.Geometry.{Geometry}
use Rattle.lemmas.specs.Sums.{put}
use Rattle.tree.specs.Names.{Names, is_name, inode_of, with_name, without_name}
use Rattle.tree.specs.Tree.{Body, Directory, is_file, is_directory, Node, Tree, names_of, parent_of, with_node, on_node, most_size}
use Rattle.tree.specs.IsTree.{IsNode}
use Rattle.tree.specs.Walk.{Place}
use Rattle.tree.specs.Changes.{with_names, with_body}
use Rattle.tree.specs.NameCalls.{with_entry, without_entry}
use Rattle.lemmas.proofs.Maps.{put-same, put-other, not_nothing}
use Rattle.tree.proofs.OpenFiles.{alike_put, of_put}
use Rattle.tree.proofs.Places.{without_name_fits}
use Rattle.tree.proofs.Weights.{weigh, weigh_with_name, weigh_without_name}
use Rattle.tree.proofs.Totals.{only_at, only_here, only_elsewhere, weigh_one}
use Rattle.tree.proofs.Entries.{with_name_fits, weigh_with_name_over}
use Rattle.tree.proofs.Shapes.{Nodes, is_there, kind_of, links_of, weight, AllFit}

-- Any map with one place changed.

-- what is put has x more
pub put_gained : {X : Type 0} (v : X → ℕ) (map : ℕ → X) (n : ℕ) (o : X) (x : ℕ) → v o ≡ v (map n) + x → (m : ℕ) → v (put map n o m) ≡ v (map m) + only_at n x m
put_gained v map n o x h m = elim (cases_eq m n) [
  | inl e ↦
      let is = ap (λ k. v (put map n o k)) e ∙ ap v (put-same map n o) in
      let was = ap (λ k. v (map k)) e in
      let here = only_here n x m e in
      omega (arith, is, was, here, h)
  | inr d ↦ let same = ap v (put-other map n o m d) in let none = only_elsewhere n x m d in omega (arith, same, none)
]

-- what is put has x less
pub put_lost : {X : Type 0} (v : X → ℕ) (map : ℕ → X) (n : ℕ) (o : X) (x : ℕ) → v (map n) ≡ v o + x → (m : ℕ) → v (map m) ≡ v (put map n o m) + only_at n x m
put_lost v map n o x h m = elim (cases_eq m n) [
  | inl e ↦
      let is = ap (λ k. v (put map n o k)) e ∙ ap v (put-same map n o) in
      let was = ap (λ k. v (map k)) e in
      let here = only_here n x m e in
      omega (arith, is, was, here, h)
  | inr d ↦ let same = ap v (put-other map n o m d) in let none = only_elsewhere n x m d in omega (arith, same, none)
]

-- A node changed by f.

-- a node that is there is changed
pub on_node_there : (t : Tree) (n : ℕ) (f : Node → Node) (node : Node) → t.nodes n ≡ Some node → on_node t n f ≡ with_node t n (Some (f node))
on_node_there t n f node h = ap (λ o. elim o [ None ↦ t | Some x ↦ with_node t n (Some (f x)) ]) h

-- and nothing else
on_node_missing : (t : Tree) (n : ℕ) (f : Node → Node) → t.nodes n ≡ None → on_node t n f ≡ t
on_node_missing t n f h = ap (λ o. elim o [ None ↦ t | Some x ↦ with_node t n (Some (f x)) ]) h

-- what holds of the tree as it is, and of the tree with the changed node, holds of `on_node`
pub on_node_is : (t : Tree) (n : ℕ) (f : Node → Node) (P : Tree → Type 0) → P t → ((node : Node) → t.nodes n ≡ Some node → P (with_node t n (Some (f node)))) → P (on_node t n f)
on_node_is t n f P missing there = by_node (t.nodes n) refl
  where
    by_node : (o : Option Node) → t.nodes n ≡ o → P (on_node t n f)
    by_node None e = subst P (sym (on_node_missing t n f e)) missing
    by_node (Some node) e = subst P (sym (on_node_there t n f node e)) (there node e)

-- what f leaves of each node, it leaves of all
pub view_kept : {X : Type 0} (v : Option Node → X) (t : Tree) (n : ℕ) (f : Node → Node) → ((node : Node) → v (Some (f node)) ≡ v (Some node))
    → (m : ℕ) → v ((on_node t n f).nodes m) ≡ v (t.nodes m)
view_kept v t n f same m =
    on_node_is t n f (λ u. v (u.nodes m) ≡ v (t.nodes m)) refl (λ node e. alike_put v t.nodes n (Some (f node)) (same node ∙ sym (ap v e)) m)

-- what f adds to the node
pub view_gained : (v : Option Node → ℕ) (t : Tree) (n : ℕ) (f : Node → Node) (x : ℕ) → IsTrue (is_some (t.nodes n))
    → ((node : Node) → t.nodes n ≡ Some node → v (Some (f node)) ≡ v (Some node) + x) → (m : ℕ) → v ((on_node t n f).nodes m) ≡ v (t.nodes m) + only_at n x m
view_gained v t n f x some more m = by_node (t.nodes n) refl some
  where
    by_node : (o : Option Node) → t.nodes n ≡ o → IsTrue (is_some o) → v ((on_node t n f).nodes m) ≡ v (t.nodes m) + only_at n x m
    by_node None e some = absurd (false_not_true some)
    by_node (Some node) e some =
        ap (λ u. v (u.nodes m)) (on_node_there t n f node e)
        ∙ put_gained v t.nodes n (Some (f node)) x (more node e ∙ ap (λ o. v o + x) (sym e)) m

-- what f takes from the node
pub view_lost : (v : Option Node → ℕ) (t : Tree) (n : ℕ) (f : Node → Node) (x : ℕ) → IsTrue (is_some (t.nodes n))
    → ((node : Node) → t.nodes n ≡ Some node → v (Some node) ≡ v (Some (f node)) + x) → (m : ℕ) → v (t.nodes m) ≡ v ((on_node t n f).nodes m) + only_at n x m
view_lost v t n f x some less m = by_node (t.nodes n) refl some
  where
    by_node : (o : Option Node) → t.nodes n ≡ o → IsTrue (is_some o) → v (t.nodes m) ≡ v ((on_node t n f).nodes m) + only_at n x m
    by_node None e some = absurd (false_not_true some)
    by_node (Some node) e some =
        put_lost v t.nodes n (Some (f node)) x (ap v e ∙ less node e) m
        ∙ ap (λ u. v (u.nodes m) + only_at n x m) (sym (on_node_there t n f node e))

-- the changed node
pub on_node_at : (t : Tree) (n : ℕ) (f : Node → Node) (node : Node) → t.nodes n ≡ Some node → (on_node t n f).nodes n ≡ Some (f node)
on_node_at t n f node e = ap (λ u. u.nodes n) (on_node_there t n f node e) ∙ put-same t.nodes n (Some (f node))

-- the others
pub on_node_elsewhere : (t : Tree) (n : ℕ) (f : Node → Node) (m : ℕ) → m ≢ n → (on_node t n f).nodes m ≡ t.nodes m
on_node_elsewhere t n f m d = on_node_is t n f (λ u. u.nodes m ≡ t.nodes m) refl (λ node e. put-other t.nodes n (Some (f node)) m d)

-- Each node fits after a change.

-- a node that fits is put
pub fits_put : (g : Geometry) (nodes : Nodes) (n : ℕ) (node : Node) → IsNode g (record node { links = 0 }) → AllFit g nodes → AllFit g (put nodes n (Some node))
fits_put g nodes n node fits old = of_put nodes n node (λ m x. IsNode g (record x { links = 0 })) fits (λ m x d e. old m x e)

-- a node goes
pub fits_gone : (g : Geometry) (nodes : Nodes) (n : ℕ) → AllFit g nodes → AllFit g (put nodes n None)
fits_gone g nodes n old m x e = elim (cases_eq m n) [
  | inl is ↦ absurd (not_nothing x (sym (ap (put nodes n None) is ∙ put-same nodes n None) ∙ e))
  | inr d ↦ old m x (sym (put-other nodes n None m d) ∙ e)
]

-- a node is changed, and fits
pub fits_on : (g : Geometry) (t : Tree) (n : ℕ) (f : Node → Node) → AllFit g t.nodes
    → ((node : Node) → t.nodes n ≡ Some node → IsNode g (record node { links = 0 }) → IsNode g (record (f node) { links = 0 })) → AllFit g (on_node t n f).nodes
fits_on g t n f old fits = on_node_is t n f (λ u. AllFit g u.nodes) old (λ node e. fits_put g t.nodes n (f node) (fits node e (old n node e)) old)

-- A directory whose names are changed by F.

-- what a change of names leaves
names_kept : {X : Type 0} (v : Option Node → X) (now : ℕ) (F : Names → Names)
    → ((node : Node) (d : Directory) → v (Some (with_body now (is_directory (record d { names = F d.names })) node)) ≡ v (Some (record node { body = is_directory d })))
    → (body : Body) (node : Node) → v (Some (with_names now F (record node { body = body }))) ≡ v (Some (record node { body = body }))
names_kept v now F h (is_file f) node = refl
names_kept v now F h (is_directory d) node = h node d

module _ (t : Tree) (d now : ℕ) (F : Names → Names) where
  pub some_named : (m : ℕ) → is_some ((on_node t d (with_names now F)).nodes m) ≡ is_some (t.nodes m)
  some_named = view_kept is_some t d (with_names now F) (λ node. refl)

  pub kind_named : (m : ℕ) → kind_of ((on_node t d (with_names now F)).nodes m) ≡ kind_of (t.nodes m)
  kind_named = view_kept kind_of t d (with_names now F) (λ node. names_kept kind_of now F (λ x y. refl) node.body node)

  pub parent_named : (m : ℕ) → parent_of ((on_node t d (with_names now F)).nodes m) ≡ parent_of (t.nodes m)
  parent_named = view_kept parent_of t d (with_names now F) (λ node. names_kept parent_of now F (λ x y. refl) node.body node)

  pub links_named : (m : ℕ) → links_of ((on_node t d (with_names now F)).nodes m) ≡ links_of (t.nodes m)
  links_named = view_kept links_of t d (with_names now F) (λ node. names_kept links_of now F (λ x y. refl) node.body node)

-- A name more, or the same name of another node.
module _ (t : Tree) (now : ℕ) (place : Place) (n : ℕ) (directory : kind_of (t.nodes place.directory) ≡ true) where
  abbrev F : Names → Names
  F = λ names. with_name names place.name n

  more_in : (w : ℕ → ℕ) (body : Body) (node : Node) → kind_of (Some (record node { body = body })) ≡ true → inode_of (names_of (Some (record node { body = body }))) place.name ≡ None
      → weigh w (names_of (Some (with_names now F (record node { body = body })))) ≡ weigh w (names_of (Some (record node { body = body }))) + w n
  more_in w (is_file f) node k h = absurd (false_not_true k)
  more_in w (is_directory d) node k h = weigh_with_name w place.name n d.names h

  pub weight_with : inode_of (names_of (t.nodes place.directory)) place.name ≡ None
      → (w : ℕ → ℕ) (m : ℕ) → weight (with_entry t now place n).nodes w m ≡ weight t.nodes w m + only_at place.directory (w n) m
  weight_with free w =
      view_gained (λ o. weigh w (names_of o)) t place.directory (with_names now F) (w n) (is_there _ directory)
      (λ node e. more_in w node.body node (ap kind_of (sym e) ∙ directory) (ap (λ o. inode_of (names_of o) place.name) (sym e) ∙ free))

  pub fits_with : (g : Geometry) → now < 2 ^ 32 → is_name place.name ≡ true → 64 * (weight (with_entry t now place n).nodes (λ _. 1) place.directory + 2) ≤ most_size
      → AllFit g t.nodes → AllFit g (with_entry t now place n).nodes
  fits_with g small named size old = fits_on g t place.directory (with_names now F) old (λ node e fits. in_body node.body node e fits)
    where
      in_body : (body : Body) (node : Node) → t.nodes place.directory ≡ Some (record node { body = body }) → IsNode g (record node { links = 0; body = body })
          → IsNode g (record (with_names now F (record node { body = body })) { links = 0 })
      in_body (is_file f) node e fits = fits
      in_body (is_directory d) node e fits =
          let count : weight (with_entry t now place n).nodes (λ _. 1) place.directory ≡ length (with_name d.names place.name n) =
          ap (λ o. weigh (λ _. 1) (names_of o)) (on_node_at t place.directory (with_names now F) (record node { body = is_directory d }) e) ∙ weigh_one (with_name d.names place.name n) in
          record {
            permissions = fits.permissions;
            links = omega arith;
            uid = fits.uid;
            gid = fits.gid;
            atime = fits.atime;
            mtime = small;
            ctime = small;
            body = with_name_fits d place.name n named (omega (arith, count, size)) fits.body;
            target = fits.target;
          }

  over_in : (g : Geometry) (w : ℕ → ℕ) (q : ℕ) (body : Body) (node : Node) → IsNode g (record node { links = 0; body = body }) → kind_of (Some (record node { body = body })) ≡ true
      → inode_of (names_of (Some (record node { body = body }))) place.name ≡ Some q
      → weigh w (names_of (Some (with_names now F (record node { body = body })))) + w q ≡ weigh w (names_of (Some (record node { body = body }))) + w n
  over_in g w q (is_file f) node fits k h = absurd (false_not_true k)
  over_in g w q (is_directory d) node fits k h = weigh_with_name_over w place.name n q d.names (to_T _ fits.body.sorted) h

  pub weight_over : (g : Geometry) → AllFit g t.nodes → (q : ℕ) → inode_of (names_of (t.nodes place.directory)) place.name ≡ Some q
      → (w : ℕ → ℕ) (m : ℕ) → weight (with_entry t now place n).nodes w m + only_at place.directory (w q) m ≡ weight t.nodes w m + only_at place.directory (w n) m
  weight_over g fits q taken w m = by_node (t.nodes place.directory) refl directory
    where
      by_node : (o : Option Node) → t.nodes place.directory ≡ o → kind_of o ≡ true
          → weight (with_entry t now place n).nodes w m + only_at place.directory (w q) m ≡ weight t.nodes w m + only_at place.directory (w n) m
      by_node None e k = absurd (false_not_true k)
      by_node (Some node) e k =
          let over = over_in g w q node.body node (fits place.directory node e) k (ap (λ o. inode_of (names_of o) place.name) (sym e) ∙ taken) in
          let at_place = ap (λ o. weigh w (names_of o)) (on_node_at t place.directory (with_names now F) node e) in
          let was = ap (λ o. weigh w (names_of o)) e in
          elim (cases_eq m place.directory) [
            | inl is ↦
                let a = ap (weight (with_entry t now place n).nodes w) is in
                let b = ap (weight t.nodes w) is in
                let c = only_here place.directory (w q) m is in
                let x = only_here place.directory (w n) m is in
                omega (arith, over, at_place, was, a, b, c, x)
            | inr is ↦
                let a = ap (λ o. weigh w (names_of o)) (on_node_elsewhere t place.directory (with_names now F) m is) in
                let c = only_elsewhere place.directory (w q) m is in
                let x = only_elsewhere place.directory (w n) m is in
                omega (arith, a, c, x)
          ]

-- A name less.
module _ (g : Geometry) (t : Tree) (now : ℕ) (place : Place) (n : ℕ) (fits : AllFit g t.nodes) (directory : kind_of (t.nodes place.directory) ≡ true)
    (found : inode_of (names_of (t.nodes place.directory)) place.name ≡ Some n) where
  abbrev L : Names → Names
  L = λ names. without_name names place.name

  less_in : (w : ℕ → ℕ) (body : Body) (node : Node) → IsNode g (record node { links = 0; body = body }) → inode_of (names_of (Some (record node { body = body }))) place.name ≡ Some n
      → weigh w (names_of (Some (record node { body = body }))) ≡ weigh w (names_of (Some (with_names now L (record node { body = body })))) + w n
  less_in w (is_file f) node fit h = absurd (not_nothing n h)
  less_in w (is_directory d) node fit h = weigh_without_name w place.name n d.names fit.body.sorted h

  pub weight_without : (w : ℕ → ℕ) (m : ℕ) → weight t.nodes w m ≡ weight (without_entry t now place).nodes w m + only_at place.directory (w n) m
  weight_without w =
      view_lost (λ o. weigh w (names_of o)) t place.directory (with_names now L) (w n) (is_there _ directory)
      (λ node e. less_in w node.body node (fits place.directory node e) (ap (λ o. inode_of (names_of o) place.name) (sym e) ∙ found))

  pub fits_without : now < 2 ^ 32 → AllFit g (without_entry t now place).nodes
  fits_without small = fits_on g t place.directory (with_names now L) fits (λ node e fit. in_body node.body node fit)
    where
      in_body : (body : Body) (node : Node) → IsNode g (record node { links = 0; body = body }) → IsNode g (record (with_names now L (record node { body = body })) { links = 0 })
      in_body (is_file f) node fit = fit
      in_body (is_directory d) node fit = record {
        permissions = fit.permissions;
        links = omega arith;
        uid = fit.uid;
        gid = fit.gid;
        atime = fit.atime;
        mtime = small;
        ctime = small;
        body = without_name_fits d place.name fit.body;
        target = fit.target;
      }
