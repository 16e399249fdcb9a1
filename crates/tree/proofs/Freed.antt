-- A file without a name that isn't open is freed.
use Rattle.std.proofs.Common.{◌≡◌, ◌≢◌, ◌<◌, ◌≤◌, ◌+◌, ℕ, zero, suc, true, false, refl, sym, ap, ◌∙◌, arith, [], ◌∷◌}
use mathlib.Core.Logic.{inl, inr}
use Rattle.std.specs.Prelude.{Option, None, Some, is_some, not, ◌&&◌, ◌==◌, IsTrue, if◌then◌else◌}
use Rattle.std.specs.Ordering.{eq_by_cmp}
use Rattle.std.proofs.lemmas.Bool.{cases_eq, cases_Bool, cond-true, cond-false, cond_both, and_parts, and_cases, eqb-true, eq-eqb, not-true, not-false}
use Rattle.lemmas.proofs.Bools.{false_not_true}
use Rattle.lemmas.proofs.Options.{some_same}
use Rattle.layout.specs.declared.Geometry.{Geometry}
use Rattle.lemmas.specs.Sums.{put, sum_below, one_if}
use Rattle.tree.specs.Names.{Name, Names, name_cmp, inode_of}
use Rattle.tree.specs.Tree.{Body, is_file, is_directory, Node, Tree, is_dir, is_dir_at, names_of, parent_of, with_node, opens, is_open, most_open_files}
use Rattle.tree.specs.IsTree.{IsPlaced, NodesAgree, OpenFilesAgree, IsTree, names_to, all_names_to, subdirectories, above, links_due}
use Rattle.tree.specs.Changes.{has_no_link, without_nameless}
use Rattle.lemmas.proofs.Maps.{put-same, put-other, same_sum, not_nothing}
use Rattle.tree.proofs.Search.{found_below}
use Rattle.tree.proofs.OpenFiles.{alike_put}

-- a part of a sum
pub part_below : (f : ℕ → ℕ) (n k : ℕ) → k < n → f k ≤ sum_below f n
unfolding sum_below
part_below f zero k l = absurd (omega arith)
part_below f (suc n) k l = elim (cases_eq k n) [
  | inl e ↦ let h : f k ≡ f n = ap f e in omega arith
  | inr d ↦ let h = part_below f n k (omega arith) in omega arith
]

-- a name that is found counts
pub found_counts : (es : Names) (name : Name) (n : ℕ) → inode_of es name ≡ Some n → 1 ≤ names_to n es
found_counts [] name n h = absurd (not_nothing n h)
found_counts (e ∷ es) name n h = elim (cases_Bool (eq_by_cmp name_cmp name e.0)) [
  | inl t ↦
      let is : e.1 ≡ n = some_same _ _ (sym (cond-true (eq_by_cmp name_cmp name e.0) (Some e.1) (inode_of es name) t) ∙ h) in
      let one : one_if (e.1 == n) ≡ 1 = cond-true (e.1 == n) 1 0 (eq-eqb e.1 n is) in
      omega arith
  | inr f ↦ let rest = found_counts es name n (sym (cond-false (eq_by_cmp name_cmp name e.0) (Some e.1) (inode_of es name) f) ∙ h) in omega arith
]

-- a node that is no directory has no names
no_names_in : (body : Body) (node : Node) → node.body ≡ body → is_dir node ≡ false → names_of (Some node) ≡ []
no_names_in (is_file f) node e h = ap (λ b. names_of (Some (record node { body = b }))) e
no_names_in (is_directory d) node e h = absurd (false_not_true (sym h ∙ ap (λ b. is_dir (record node { body = b })) e))

-- a file has no names and no parent
pub no_names : (node : Node) → is_dir node ≡ false → names_of (Some node) ≡ []
no_names node h = no_names_in node.body node refl h

-- a node that is no directory has no parent
no_parent_in : (body : Body) (node : Node) → node.body ≡ body → is_dir node ≡ false → parent_of (Some node) ≡ 0
no_parent_in (is_file f) node e h = ap (λ b. parent_of (Some (record node { body = b }))) e
no_parent_in (is_directory d) node e h = absurd (false_not_true (sym h ∙ ap (λ b. is_dir (record node { body = b })) e))

-- a file has no parent
pub no_parent : (node : Node) → is_dir node ≡ false → parent_of (Some node) ≡ 0
no_parent node h = no_parent_in node.body node refl h

-- Nodes with the same names, parents and kinds have the same links due and the same places.
module _ (g : Geometry) (old new : ℕ → Option Node) (same_names : (m : ℕ) → names_of (new m) ≡ names_of (old m))
    (same_parent : (m : ℕ) → parent_of (new m) ≡ parent_of (old m)) (same_kind : (m : ℕ) → is_dir_at new m ≡ is_dir_at old m) where
  pub all_names_alike : (m : ℕ) → all_names_to g new m ≡ all_names_to g old m
  all_names_alike m = same_sum _ _ _ (λ k _. ap (names_to m) (same_names k))

  pub subdirectories_alike : (es : Names) → subdirectories new es ≡ subdirectories old es
  subdirectories_alike [] = refl
  subdirectories_alike (e ∷ es) = λ i. one_if (same_kind e.1 i) + subdirectories_alike es i

  pub above_alike : (k m : ℕ) → above new k m ≡ above old k m
  above_alike zero m = refl
  above_alike (suc k) m = ap (above new k) (same_parent m) ∙ above_alike k (parent_of (old m))

  pub due_alike : (m : ℕ) (x : Node) → links_due g new m x ≡ links_due g old m x
  due_alike m x = λ i. if is_dir x then 2 + subdirectories_alike (names_of (Some x)) i else all_names_alike m i

  pub placed_alike : (m : ℕ) → IsPlaced g old m → IsPlaced g new m
  placed_alike m p = record {
    one_name = all_names_alike m ∙ p.one_name;
    in_parent = ap (λ q. names_to m (names_of (new q))) (same_parent m) ∙ ap (names_to m) (same_names (parent_of (old m))) ∙ p.in_parent;
    reached = (p.reached.0, above_alike p.reached.0 m ∙ p.reached.1);
  }

-- Node n goes, a file without a name.
module _ (g : Geometry) (nodes : ℕ → Option Node) (n : ℕ) (node : Node) (there : nodes n ≡ Some node) (nameless : node.links ≡ 0) (old : NodesAgree g nodes) where
  abbrev new : ℕ → Option Node
  new = put nodes n None

  pub is_no_directory : is_dir node ≡ false
  is_no_directory = elim (cases_Bool (is_dir node)) [
    | inl t ↦ let due : node.links ≡ 2 + subdirectories nodes (names_of (Some node)) = old.links n node there ∙ cond-true (is_dir node) _ _ t in absurd (omega arith)
    | inr f ↦ f
  ]

  no_name : all_names_to g nodes n ≡ 0
  no_name = sym (old.links n node there ∙ cond-false (is_dir node) _ _ is_no_directory) ∙ nameless

  names_freed : (m : ℕ) → names_of (new m) ≡ names_of (nodes m)
  names_freed m = alike_put names_of nodes n None (sym (ap names_of there ∙ no_names node is_no_directory)) m

  parent_freed : (m : ℕ) → parent_of (new m) ≡ parent_of (nodes m)
  parent_freed m = alike_put parent_of nodes n None (sym (ap parent_of there ∙ no_parent node is_no_directory)) m

  pub kind_freed : (m : ℕ) → is_dir_at new m ≡ is_dir_at nodes m
  kind_freed m = alike_put (λ o. is_dir_at (λ _. o) 0) nodes n None (sym (ap (λ o. is_dir_at (λ _. o) 0) there ∙ is_no_directory)) m

  -- what is left was there, and isn't n
  pub left : (m : ℕ) → IsTrue (is_some (new m)) → (m ≢ n) × (new m ≡ nodes m)
  left m h = elim (cases_eq m n) [
    | inl e ↦ absurd (false_not_true (sym (ap (λ k. is_some (new k)) e ∙ ap is_some (put-same nodes n None)) ∙ h))
    | inr d ↦ (d, put-other nodes n None m d)
  ]

  pub left_node : (m : ℕ) (x : Node) → new m ≡ Some x → (m ≢ n) × (nodes m ≡ Some x)
  left_node m x h = let is = left m (ap is_some h) in (is.0, sym is.1 ∙ h)

  has_names_inside : (a b : ℕ) (name : Name) → inode_of (names_of (nodes a)) name ≡ Some b → a < g.inodes + 1
  has_names_inside a b name h = inside (nodes a) refl h
    where
      inside : (o : Option Node) → nodes a ≡ o → inode_of (names_of o) name ≡ Some b → a < g.inodes + 1
      inside None e q = absurd (not_nothing b q)
      inside (Some x) e q = let within = (old.inside a (ap is_some e)).1 in omega (arith, within)

  pub freed : NodesAgree g new
  freed = record {
    inside = λ m h. old.inside m (ap is_some (sym (left m h).1) ∙ h);
    each = λ m x h. old.each m x (left_node m x h).1;
    targets = λ a b name h.
        let was : inode_of (names_of (nodes a)) name ≡ Some b = ap (λ es. inode_of es name) (sym (names_freed a)) ∙ h in
        ap is_some (put-other nodes n None b (λ e.
        let counts = found_counts (names_of (nodes a)) name b was in
        let part = part_below (λ m. names_to b (names_of (nodes m))) (g.inodes + 1) a (has_names_inside a b name was) in
        let none : all_names_to g nodes b ≡ 0 = ap (all_names_to g nodes) e ∙ no_name in
        absurd (omega (arith, counts, part, none)))) ∙ old.targets a b name was;
    root = kind_freed 1 ∙ old.root;
    root_parent = parent_freed 1 ∙ old.root_parent;
    root_name = all_names_alike g nodes new names_freed parent_freed kind_freed 1 ∙ old.root_name;
    placed = λ m d h. placed_alike g nodes new names_freed parent_freed kind_freed m (old.placed m d (sym (kind_freed m) ∙ h));
    links = λ m x h. old.links m x (left_node m x h).1 ∙ sym (due_alike g nodes new names_freed parent_freed kind_freed m x);
  }

-- all of a tree, but that node n may be nameless and not open
pub record IsTreeBut (g : Geometry) (t : Tree) (n : ℕ) : Type 0 where
  pub nodes : NodesAgree g t.nodes
  pub open_files : OpenFilesAgree t
  pub nameless : (m : ℕ) (node : Node) → t.nodes m ≡ Some node → node.links ≡ 0 → m ≢ n → IsTrue (is_open t m)

-- a node without a link is there
nameless_node : (o : Option Node) → has_no_link o ≡ true → (node : Node) × (o ≡ Some node) × (node.links ≡ 0)
nameless_node None h = absurd (false_not_true h)
nameless_node (Some node) h = (node, refl, eqb-true node.links 0 h)

-- what is a tree but for a nameless node is one without it
pub without_nameless_is_tree : (g : Geometry) (t : Tree) (n : ℕ) → IsTreeBut g t n → IsTree g (without_nameless t n)
without_nameless_is_tree g t n tree = cond_both (has_no_link (t.nodes n) && not (is_open t n)) (with_node t n None) t (IsTree g) goes stays
  where
    goes : (has_no_link (t.nodes n) && not (is_open t n)) ≡ true → IsTree g (with_node t n None)
    goes h =
        let parts = and_parts (has_no_link (t.nodes n)) (not (is_open t n)) h in
        let it = nameless_node (t.nodes n) parts.0 in
        let closed = not-true (is_open t n) parts.1 in
        record {
          nodes = freed g t.nodes n it.0 it.1 it.2 tree.nodes;
          open_files = record {
            numbers = tree.open_files.numbers;
            each = λ k o e. let was = tree.open_files.each k o e in record {
              node = ap is_some (put-other t.nodes n None o.inode (λ is.
                  false_not_true (sym closed ∙ found_below (λ j. opens n (t.open_files j)) most_open_files k
                  (tree.open_files.numbers k (ap is_some e)) (ap (opens n) e ∙ eq-eqb o.inode n is)))) ∙ was.node;
              position = was.position;
              flags = was.flags;
              not_a_directory = λ w. kind_freed g t.nodes n it.0 it.1 it.2 tree.nodes o.inode ∙ was.not_a_directory w;
            };
            descriptors = tree.open_files.descriptors;
            in_use = tree.open_files.in_use;
          };
          nameless = λ m x e l. let is = left_node g t.nodes n it.0 it.1 it.2 tree.nodes m x e in tree.nameless m x is.1 l is.0;
        }

    named : (m : ℕ) (x : Node) → t.nodes m ≡ Some x → x.links ≡ 0 → m ≡ n → has_no_link (t.nodes n) ≡ true
    named m x e l is = ap (λ k. has_no_link (t.nodes k)) (sym is) ∙ ap has_no_link e ∙ eq-eqb x.links 0 l

    stays : (has_no_link (t.nodes n) && not (is_open t n)) ≡ false → IsTree g t
    stays h = record {
      nodes = tree.nodes;
      open_files = tree.open_files;
      nameless = λ m x e l. elim (cases_eq m n) [
        | inl is ↦ elim (and_cases (has_no_link (t.nodes n)) (not (is_open t n)) h) [
          | inl has ↦ absurd (false_not_true (sym has ∙ named m x e l is))
          | inr opened ↦ ap (is_open t) is ∙ not-false (is_open t n) opened
        ]
        | inr d ↦ tree.nameless m x e l d
      ];
    }
