-- A node that changes and keeps its links, its names and its parent leaves a tree a tree.
use Rattle.std.proofs.Common.{◌≡◌, ◌≢◌, ◌+◌, ℕ, zero, suc, refl, sym, ap, subst, ◌∙◌, [], ◌∷◌}
use mathlib.Core.Logic.{inl, inr}
use Rattle.std.specs.Prelude.{Option, Some, is_some, IsTrue, if◌then◌else◌}
use Rattle.std.proofs.lemmas.Bool.{cases_eq}
use Rattle.lemmas.proofs.Options.{some_same}
use Rattle.layout.specs.declared.Geometry.{Geometry}
use Rattle.lemmas.specs.Sums.{put, one_if}
use Rattle.tree.specs.Names.{Names, inode_of}
use Rattle.tree.specs.Tree.{Node, Tree, is_dir, is_dir_at, names_of, parent_of, with_node, is_open}
use Rattle.tree.specs.IsTree.{IsNode, IsPlaced, NodesAgree, IsTree, names_to, all_names_to, subdirectories, above, links_due}
use Rattle.lemmas.proofs.Maps.{put-same, put-other, same_sum}

module _ (g : Geometry) (nodes : ℕ → Option Node) (n : ℕ) (node other : Node) (there : nodes n ≡ Some node)
    (same_kind : is_dir other ≡ is_dir node) (same_names : names_of (Some other) ≡ names_of (Some node))
    (same_parent : parent_of (Some other) ≡ parent_of (Some node)) (same_links : other.links ≡ node.links) where
  abbrev new : ℕ → Option Node
  new = put nodes n (Some other)

  at_n : (m : ℕ) → m ≡ n → new m ≡ Some other
  at_n m e = ap new e ∙ put-same nodes n (Some other)

  elsewhere : (m : ℕ) → m ≢ n → new m ≡ nodes m
  elsewhere m d = put-other nodes n (Some other) m d

  alike : {X : Type 0} (f : Option Node → X) → f (Some other) ≡ f (Some node) → (m : ℕ) → f (new m) ≡ f (nodes m)
  alike f h m = elim (cases_eq m n) [
    | inl e ↦ ap f (at_n m e) ∙ h ∙ sym (ap f (ap nodes e ∙ there))
    | inr d ↦ ap f (elsewhere m d)
  ]

  pub some_alike : (m : ℕ) → is_some (new m) ≡ is_some (nodes m)
  some_alike m = alike is_some refl m

  pub dir_alike : (m : ℕ) → is_dir_at new m ≡ is_dir_at nodes m
  dir_alike m = alike (λ o. is_dir_at (λ _. o) 0) same_kind m

  names_alike : (m : ℕ) → names_of (new m) ≡ names_of (nodes m)
  names_alike m = alike names_of same_names m

  parent_alike : (m : ℕ) → parent_of (new m) ≡ parent_of (nodes m)
  parent_alike m = alike parent_of same_parent m

  all_names_alike : (m : ℕ) → all_names_to g new m ≡ all_names_to g nodes m
  all_names_alike m = same_sum _ _ _ (λ k _. ap (names_to m) (names_alike k))

  subdirectories_alike : (es : Names) → subdirectories new es ≡ subdirectories nodes es
  subdirectories_alike [] = refl
  subdirectories_alike (e ∷ es) = λ i. one_if (dir_alike e.1 i) + subdirectories_alike es i

  above_alike : (k m : ℕ) → above new k m ≡ above nodes k m
  above_alike zero m = refl
  above_alike (suc k) m = ap (above new k) (parent_alike m) ∙ above_alike k (parent_of (nodes m))

  due_alike : (m : ℕ) (x : Node) → links_due g new m x ≡ links_due g nodes m x
  due_alike m x = λ i. if is_dir x then 2 + subdirectories_alike (names_of (Some x)) i else all_names_alike m i

  -- what the old nodes have, and the new node has, all new nodes have
  of_each : (P : ℕ → Node → Type 0) → P n other → ((m : ℕ) (x : Node) → nodes m ≡ Some x → P m x)
      → (m : ℕ) (x : Node) → new m ≡ Some x → P m x
  of_each P p old m x e = elim (cases_eq m n) [
    | inl is ↦ subst (P m) (some_same _ _ (sym (at_n m is) ∙ e)) (subst (λ k. P k other) (sym is) p)
    | inr d ↦ old m x (sym (elsewhere m d) ∙ e)
  ]

  placed_alike : (m : ℕ) → IsPlaced g nodes m → IsPlaced g new m
  placed_alike m p = record {
    one_name = all_names_alike m ∙ p.one_name;
    in_parent = ap (λ q. names_to m (names_of (new q))) (parent_alike m) ∙ ap (names_to m) (names_alike (parent_of (nodes m))) ∙ p.in_parent;
    reached = (p.reached.0, above_alike p.reached.0 m ∙ p.reached.1);
  }

  due_of_other : links_due g nodes n other ≡ links_due g nodes n node
  due_of_other = λ i. if same_kind i then 2 + subdirectories nodes (same_names i) else all_names_to g nodes n

  pub agree : NodesAgree g nodes → IsNode g other → NodesAgree g new
  agree old fits = record {
    inside = λ m h. old.inside m (sym (some_alike m) ∙ h);
    each = of_each (λ m x. IsNode g x) fits old.each;
    targets = λ a b name h. some_alike b ∙ old.targets a b name (ap (λ es. inode_of es name) (sym (names_alike a)) ∙ h);
    root = dir_alike 1 ∙ old.root;
    root_parent = parent_alike 1 ∙ old.root_parent;
    root_name = all_names_alike 1 ∙ old.root_name;
    placed = λ m d h. placed_alike m (old.placed m d (sym (dir_alike m) ∙ h));
    links = of_each (λ m x. x.links ≡ links_due g new m x)
        (same_links ∙ old.links n node there ∙ sym due_of_other ∙ sym (due_alike n other))
        (λ m x e. old.links m x e ∙ sym (due_alike m x));
  }

-- the tree with that node
pub kept : (g : Geometry) (t : Tree) (n : ℕ) (node other : Node) → t.nodes n ≡ Some node
    → is_dir other ≡ is_dir node → names_of (Some other) ≡ names_of (Some node) → parent_of (Some other) ≡ parent_of (Some node)
    → other.links ≡ node.links → IsNode g other → IsTree g t → IsTree g (with_node t n (Some other))
kept g t n node other there kind names parent links fits tree = record {
  nodes = agree g t.nodes n node other there kind names parent links tree.nodes fits;
  open_files = record {
    numbers = tree.open_files.numbers;
    each = λ k o h. let old = tree.open_files.each k o h in record {
      node = some_alike g t.nodes n node other there kind names parent links o.inode ∙ old.node;
      position = old.position;
      flags = old.flags;
      not_a_directory = λ w. dir_alike g t.nodes n node other there kind names parent links o.inode ∙ old.not_a_directory w;
    };
    descriptors = tree.open_files.descriptors;
    in_use = tree.open_files.in_use;
  };
  nameless = of_each g t.nodes n node other there kind names parent links
      (λ m x. x.links ≡ 0 → IsTrue (is_open t m))
      (λ h. tree.nameless n node there (sym links ∙ h))
      tree.nameless;
}
