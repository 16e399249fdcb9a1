-- A tree whose nodes alone changed.
use Rattle.std.proofs.Common.{◌≡◌, ◌≢◌, ℕ, true, refl, sym, ap, subst, ◌∙◌}
use Rattle.std.specs.Prelude.{Option, None, Some, is_some, IsTrue}
use Rattle.std.proofs.lemmas.Bool.{eq-eqb}
use Rattle.lemmas.proofs.Bools.{false_not_true}
use Rattle.layout.specs.declared.Geometry.{Geometry}
use Rattle.tree.specs.Tree.{Node, OpenFile, Tree, names_of, with_node, on_node, opens, is_open, most_open_files}
use Rattle.tree.specs.IsTree.{NodesAgree, OpenFilesAgree, IsTree}
use Rattle.tree.specs.Walk.{Place}
use Rattle.tree.proofs.Search.{found_below}
use Rattle.tree.proofs.Freed.{IsTreeBut}
use Rattle.tree.proofs.Places.{IsPlace}
use Rattle.tree.proofs.Shapes.{kind_of, links_of}
use Rattle.tree.proofs.Views.{on_node_is}

-- the open files and the descriptors are the same
pub record IsOver (t u : Tree) : Type 0 where
  pub files : u.open_files ≡ t.open_files
  pub descriptors : u.descriptors ≡ t.descriptors

-- the tree itself
pub over_itself : (t : Tree) → IsOver t t
over_itself t = record { files = refl; descriptors = refl }

-- a node put
pub over_with_node : (t u : Tree) (n : ℕ) (o : Option Node) → IsOver t u → IsOver t (with_node u n o)
over_with_node t u n o over = record { files = over.files; descriptors = over.descriptors }

-- a node changed
pub over_on_node : (t u : Tree) (n : ℕ) (f : Node → Node) → IsOver t u → IsOver t (on_node u n f)
over_on_node t u n f over = on_node_is u n f (IsOver t) over (λ node e. record { files = over.files; descriptors = over.descriptors })

-- a node without a link is open
pub nameless_open : (g : Geometry) (t : Tree) → IsTree g t → (m : ℕ) → IsTrue (is_some (t.nodes m)) → links_of (t.nodes m) ≡ 0 → IsTrue (is_open t m)
nameless_open g t tree m some none = by_node (t.nodes m) refl some none
  where
    by_node : (o : Option Node) → t.nodes m ≡ o → IsTrue (is_some o) → links_of o ≡ 0 → IsTrue (is_open t m)
    by_node None e some none = absurd (false_not_true some)
    by_node (Some node) e some none = tree.nameless m node e none

-- an open file's node is open
pub is_open_by : (g : Geometry) (t : Tree) → IsTree g t → (k : ℕ) (o : OpenFile) → t.open_files k ≡ Some o → IsTrue (is_open t o.inode)
is_open_by g t tree k o e =
    found_below (λ j. opens o.inode (t.open_files j)) most_open_files k (tree.open_files.numbers k (ap is_some e)) (ap (opens o.inode) e ∙ eq-eqb o.inode o.inode refl)

module _ (g : Geometry) (t u : Tree) (over : IsOver t u) (tree : IsTree g t) (agree : NodesAgree g u.nodes)
    (open_kept : (i : ℕ) → IsTrue (is_some (t.nodes i)) → IsTrue (is_open t i) → IsTrue (is_some (u.nodes i)) × (kind_of (u.nodes i) ≡ kind_of (t.nodes i))) where
  abbrev same : Tree
  same = record t { nodes = u.nodes }

  is_same : same ≡ u
  is_same = λ i. record { nodes = u.nodes; open_files = sym over.files i; descriptors = sym over.descriptors i }

  open_files_over : OpenFilesAgree u
  open_files_over = subst OpenFilesAgree is_same (record {
    numbers = tree.open_files.numbers;
    each = λ k o e.
        let was = tree.open_files.each k o e in
        let kept = open_kept o.inode was.node (is_open_by g t tree k o e) in
        record { node = kept.0; position = was.position; flags = was.flags; not_a_directory = λ w. kept.1 ∙ was.not_a_directory w };
    descriptors = tree.open_files.descriptors;
    in_use = tree.open_files.in_use;
  })

  open_over : (m : ℕ) → is_open same m ≡ is_open u m
  open_over m = ap (λ x. is_open x m) is_same

  pub tree_over : ((m : ℕ) (node : Node) → u.nodes m ≡ Some node → node.links ≡ 0 → IsTrue (is_open t m)) → IsTree g u
  tree_over nameless = record {
    nodes = agree;
    open_files = open_files_over;
    nameless = λ m node e none. sym (open_over m) ∙ nameless m node e none;
  }

  pub tree_but_over : (n : ℕ) → ((m : ℕ) (node : Node) → m ≢ n → u.nodes m ≡ Some node → node.links ≡ 0 → IsTrue (is_open t m)) → IsTreeBut g u n
  tree_but_over n nameless = record {
    nodes = agree;
    open_files = open_files_over;
    nameless = λ m node e none d. sym (open_over m) ∙ nameless m node d e none;
  }

-- a place's directory
pub place_kind : (t : Tree) (place : Place) → IsPlace t place → kind_of (t.nodes place.directory) ≡ true
place_kind t place at = ap kind_of at.there ∙ ap (λ b. kind_of (Some (record at.node { body = b }))) at.body

-- a place's names
pub place_names : (t : Tree) (place : Place) → IsPlace t place → names_of (t.nodes place.directory) ≡ place.names
place_names t place at = ap names_of at.there ∙ ap (λ b. names_of (Some (record at.node { body = b }))) at.body ∙ at.names
