-- What changes of one node leave of all kinds.
use Rattle.std.proofs.Common.{◌≡◌, ◌≢◌, ◌≤◌, ℕ, true, false, refl, sym, ap, subst, ◌∙◌}
use mathlib.Core.Logic.{inl, inr}
use Rattle.std.specs.Prelude.{Option, None, Some, is_some, IsTrue, Bool}
use Rattle.std.proofs.lemmas.Bool.{cases_eq}
use Rattle.lemmas.proofs.Bools.{false_not_true}
use Rattle.tree.specs.Names.{Names}
use Rattle.tree.specs.Tree.{Body, is_file, is_directory, Node, Tree, with_node, on_node}
use Rattle.tree.specs.Changes.{with_names, with_parent}
use Rattle.tree.specs.NameCalls.{with_entry, without_entry}
use Rattle.tree.specs.Walk.{Place}
use Rattle.lemmas.proofs.Maps.{put-same, put-other}
use Rattle.tree.proofs.Views.{view_kept}
use Rattle.fuse_nodes.specs.Files.{kind, links}

-- all kinds are kept but, maybe, where nothing stood
abbrev pub Kept : Tree → Tree → ℕ → Type 0
Kept t u n = kind (u.nodes n) ≡ kind (t.nodes n)

-- a node put where one of its kind stood
pub put_kept : (t : Tree) (m : ℕ) (node old : Node) → t.nodes m ≡ Some old → kind (Some node) ≡ kind (Some old) → (n : ℕ) → Kept t (with_node t m (Some node)) n
put_kept t m node old there same n = elim (cases_eq n m) [
  | inl e ↦ ap (λ k. kind ((with_node t m (Some node)).nodes k)) e ∙ ap kind (put-same t.nodes m (Some node)) ∙ same ∙ ap kind (sym there) ∙ ap (λ k. kind (t.nodes k)) (sym e)
  | inr d ↦ ap kind (put-other t.nodes m (Some node) n d)
]

-- what is put elsewhere, or nothing
pub elsewhere : (t : Tree) (m : ℕ) (o : Option Node) (n : ℕ) → n ≢ m → Kept t (with_node t m o) n
elsewhere t m o n d = ap kind (put-other t.nodes m o n d)

-- a number where nothing stood is another one
pub is_other : (t : Tree) (n m : ℕ) → IsTrue (is_some (t.nodes n)) → t.nodes m ≡ None → n ≢ m
is_other t n m some none e = false_not_true (sym (ap is_some (ap t.nodes e ∙ none)) ∙ some)

-- a change that leaves kinds
pub on_kept : (t : Tree) (m : ℕ) (f : Node → Node) → ((node : Node) → kind (Some (f node)) ≡ kind (Some node)) → (n : ℕ) → Kept t (on_node t m f) n
on_kept t m f same n = view_kept kind t m f same n

-- names
names_in : (now : ℕ) (f : Names → Names) (body : Body) (node : Node) → kind (Some (with_names now f (record node { body = body }))) ≡ kind (Some (record node { body = body }))
names_in now f (is_file file) node = refl
names_in now f (is_directory d) node = refl

pub names_kept : (now : ℕ) (f : Names → Names) (node : Node) → kind (Some (with_names now f node)) ≡ kind (Some node)
names_kept now f node = names_in now f node.body node

-- a parent
parent_in : (p : ℕ) (body : Body) (node : Node) → kind (Some (with_parent p (record node { body = body }))) ≡ kind (Some (record node { body = body }))
parent_in p (is_file file) node = refl
parent_in p (is_directory d) node = refl

pub parent_kept : (p : ℕ) (node : Node) → kind (Some (with_parent p node)) ≡ kind (Some node)
parent_kept p node = parent_in p node.body node

-- an entry more, and one less
pub entry_kept : (t : Tree) (now : ℕ) (place : Place) (m n : ℕ) → Kept t (with_entry t now place m) n
entry_kept t now place m n = on_kept t place.directory _ (names_kept now _) n

pub less_kept : (t : Tree) (now : ℕ) (place : Place) (n : ℕ) → Kept t (without_entry t now place) n
less_kept t now place n = on_kept t place.directory _ (names_kept now _) n

-- The links of all nodes, likewise.

links_in : (now : ℕ) (f : Names → Names) (body : Body) (node : Node) → links (Some (with_names now f (record node { body = body }))) ≡ node.links
links_in now f (is_file file) node = refl
links_in now f (is_directory d) node = refl

pub links_names : (now : ℕ) (f : Names → Names) (node : Node) → links (Some (with_names now f node)) ≡ links (Some node)
links_names now f node = links_in now f node.body node

links_parent_in : (p : ℕ) (body : Body) (node : Node) → links (Some (with_parent p (record node { body = body }))) ≡ node.links
links_parent_in p (is_file file) node = refl
links_parent_in p (is_directory d) node = refl

pub links_parent : (p : ℕ) (node : Node) → links (Some (with_parent p node)) ≡ links (Some node)
links_parent p node = links_parent_in p node.body node

pub links_on : (t : Tree) (m : ℕ) (f : Node → Node) → ((node : Node) → links (Some (f node)) ≡ links (Some node)) → (n : ℕ) → links ((on_node t m f).nodes n) ≡ links (t.nodes n)
links_on t m f same n = view_kept links t m f same n
