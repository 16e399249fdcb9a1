-- The shape of a tree: what its nodes' names, parents, kinds and links have to do with one another, by sums of weights.
use Rattle.std.proofs.Common.{◌≡◌, ◌≢◌, ◌≤◌, ◌+◌, ℕ, Bool, true, false, refl, sym, ap, subst, ◌∙◌, arith}
use mathlib.Core.Logic.{inl, inr}
use Rattle.std.specs.Prelude.{Option, None, Some, is_some, IsTrue}
use Rattle.std.proofs.lemmas.Bool.{cases_eq, cases_Bool, cond-true, cond-false}
use Rattle.lemmas.proofs.Bools.{false_not_true}
use Rattle.layout.specs.declared.Geometry.{Geometry}
use Rattle.lemmas.specs.Sums.{sum_below, one_if}
use Rattle.tree.specs.Names.{Name, inode_of}
use Rattle.tree.specs.Tree.{Body, is_file, is_directory, Node, is_dir, is_dir_at, names_of, parent_of, most_links}
use Rattle.tree.specs.IsTree.{IsDirectory, IsBody, IsNode, NodesAgree, names_to, all_names_to, subdirectories, above, links_due}
use Rattle.lemmas.proofs.Maps.{same_sum}
use Rattle.tree.proofs.Weights.{weigh, names_weigh, subdirectories_weigh}
use Rattle.tree.proofs.Freed.{no_names, no_parent}
use Rattle.tree.proofs.Totals.{one_for, one_for_itself, weigh_found, name_found, sum_of_none}

-- nodes by their numbers
abbrev pub Nodes : Type 0
Nodes = ℕ → Option Node

-- what may be a directory, and None is none
abbrev pub kind_of : Option Node → Bool
kind_of o = is_dir_at (λ _. o) 0

-- the links of a node, and 0 of none
abbrev pub links_of : Option Node → ℕ
links_of None = 0
links_of (Some node) = node.links

-- the weight of a directory's names
abbrev pub weight : Nodes → (ℕ → ℕ) → ℕ → ℕ
weight nodes w a = weigh w (names_of (nodes a))

-- the weight of the names of all directories
abbrev pub total : Geometry → Nodes → (ℕ → ℕ) → ℕ
total g nodes w = sum_below (λ a. weight nodes w a) (g.inodes + 1)

-- 1 for each directory
abbrev pub one_for_each : Nodes → ℕ → ℕ
one_for_each nodes k = one_if (kind_of (nodes k))

pub record IsShape (g : Geometry) (nodes : Nodes) : Type 0 where
  pub inside : (n : ℕ) → IsTrue (is_some (nodes n)) → (1 ≤ n) × (n ≤ g.inodes)
  pub targets : (a b : ℕ) → 1 ≤ weight nodes (one_for b) a → IsTrue (is_some (nodes b))
  pub root : kind_of (nodes 1) ≡ true
  pub root_parent : parent_of (nodes 1) ≡ 1
  pub root_name : total g nodes (one_for 1) ≡ 0
  pub one_name : (n : ℕ) → n ≢ 1 → kind_of (nodes n) ≡ true → total g nodes (one_for n) ≡ 1
  pub in_parent : (n : ℕ) → n ≢ 1 → kind_of (nodes n) ≡ true → weight nodes (one_for n) (parent_of (nodes n)) ≡ 1
  pub reached : (n : ℕ) → kind_of (nodes n) ≡ true → (k : ℕ) × (above nodes k n ≡ 1)
  pub directory_links : (n : ℕ) → kind_of (nodes n) ≡ true → links_of (nodes n) ≡ 2 + weight nodes (one_for_each nodes) n
  pub file_links : (n : ℕ) → kind_of (nodes n) ≡ false → links_of (nodes n) ≡ total g nodes (one_for n)

-- each node fits, whatever its links
abbrev pub AllFit : Geometry → Nodes → Type 0
AllFit g nodes = (n : ℕ) (node : Node) → nodes n ≡ Some node → IsNode g (record node { links = 0 })

-- a node that fits, fits whatever its links
pub fits_without_links : (g : Geometry) (node : Node) → IsNode g node → IsNode g (record node { links = 0 })
fits_without_links g node fits = record {
  permissions = fits.permissions;
  links = omega arith;
  uid = fits.uid;
  gid = fits.gid;
  atime = fits.atime;
  mtime = fits.mtime;
  ctime = fits.ctime;
  body = fits.body;
  target = fits.target;
}

-- and fits with links within the limit
pub fits_with_links : (g : Geometry) (node : Node) → IsNode g (record node { links = 0 }) → node.links ≤ most_links → IsNode g node
fits_with_links g node fits links = record {
  permissions = fits.permissions;
  links = links;
  uid = fits.uid;
  gid = fits.gid;
  atime = fits.atime;
  mtime = fits.mtime;
  ctime = fits.ctime;
  body = fits.body;
  target = fits.target;
}

-- names to a node are a sum of weights
pub totals_alike : (g : Geometry) (nodes : Nodes) (n : ℕ) → all_names_to g nodes n ≡ total g nodes (one_for n)
totals_alike g nodes n = same_sum (λ m. names_to n (names_of (nodes m))) (λ a. weight nodes (one_for n) a) (g.inodes + 1) (λ k _. names_weigh n (names_of (nodes k)))

-- What is no directory has no names and no parent; a directory is there.

-- what is no directory has no names
pub nothing_in : (w : ℕ → ℕ) (o : Option Node) → kind_of o ≡ false → weigh w (names_of o) ≡ 0
nothing_in w None h = refl
nothing_in w (Some node) h = ap (weigh w) (no_names node h)

-- nor a parent
pub no_parent_of : (o : Option Node) → kind_of o ≡ false → parent_of o ≡ 0
no_parent_of None h = refl
no_parent_of (Some node) h = no_parent node h

-- a directory is there
pub is_there : (o : Option Node) → kind_of o ≡ true → IsTrue (is_some o)
is_there None h = absurd (false_not_true h)
is_there (Some node) h = refl

-- what has names is a directory
pub has_names : (w : ℕ → ℕ) (o : Option Node) → 1 ≤ weigh w (names_of o) → kind_of o ≡ true
has_names w o l = elim (cases_Bool (kind_of o)) [ inl t ↦ t | inr f ↦ let none = nothing_in w o f in absurd (omega (arith, l, none)) ]

-- a name that counts is found
pub directory_sorted : (g : Geometry) (node : Node) → IsNode g node → (name : ℕ) → 1 ≤ weigh (one_for name) (names_of (Some node)) → (q : Name) × (inode_of (names_of (Some node)) q ≡ Some name)
directory_sorted g node fits n l = by_body node.body node refl fits l
  where
    by_body : (body : Body) (x : Node) → x.body ≡ body → IsNode g x → 1 ≤ weigh (one_for n) (names_of (Some x)) → (q : Name) × (inode_of (names_of (Some x)) q ≡ Some n)
    by_body (is_file f) x e fit l =
        let none : weigh (one_for n) (names_of (Some x)) ≡ 0 = ap (λ b. weigh (one_for n) (names_of (Some (record x { body = b })))) e in
        absurd (omega (arith, l, none))
    by_body (is_directory d) x e fit l =
        let is : names_of (Some x) ≡ d.names = ap (λ b. names_of (Some (record x { body = b }))) e in
        let directory : IsDirectory d = subst (IsBody g) e fit.body in
        let found = name_found d.names n directory.sorted (subst (λ es. 1 ≤ weigh (one_for n) es) is l) in
        (found.0, ap (λ es. inode_of es found.0) is ∙ found.1)

-- The nodes of a tree have this shape.
module _ (g : Geometry) (nodes : Nodes) (agree : NodesAgree g nodes) where
  target : (a b : ℕ) (o : Option Node) → nodes a ≡ o → 1 ≤ weigh (one_for b) (names_of o) → IsTrue (is_some (nodes b))
  target a b None e l = absurd (omega (arith, l))
  target a b (Some node) e l =
      let found = directory_sorted g node (agree.each a node e) b l in
      agree.targets a b found.0 (ap (λ o. inode_of (names_of o) found.0) e ∙ found.1)

  links_in : (n : ℕ) (o : Option Node) → nodes n ≡ o → kind_of o ≡ true → links_of o ≡ 2 + weight nodes (one_for_each nodes) n
  links_in n None e h = absurd (false_not_true h)
  links_in n (Some node) e h =
      let due = agree.links n node e ∙ cond-true (is_dir node) _ _ h in
      let a = subdirectories_weigh nodes (names_of (Some node)) in
      let b : weight nodes (one_for_each nodes) n ≡ weigh (one_for_each nodes) (names_of (Some node)) = ap (λ o. weigh (one_for_each nodes) (names_of o)) e in
      omega (arith, due, a, b)

  no_name : (n a : ℕ) → nodes n ≡ None → weight nodes (one_for n) a ≡ 0
  no_name n a e = none_or (weight nodes (one_for n) a) (λ l. false_not_true (sym (ap is_some e) ∙ target a n (nodes a) refl l))
    where
      none_or : (k : ℕ) → (1 ≤ k → ⊥) → k ≡ 0
      none_or k never = elim (cases_eq k 0) [ inl z ↦ z | inr d ↦ absurd (never (omega (arith, d))) ]

  file_links_in : (n : ℕ) (o : Option Node) → nodes n ≡ o → kind_of o ≡ false → links_of o ≡ total g nodes (one_for n)
  file_links_in n None e h = sym (sum_of_none (λ a. weight nodes (one_for n) a) (g.inodes + 1) (λ a. no_name n a e))
  file_links_in n (Some node) e h = agree.links n node e ∙ cond-false (is_dir node) _ _ h ∙ totals_alike g nodes n

  pub shape_of : IsShape g nodes
  shape_of = record {
    inside = agree.inside;
    targets = λ a b l. target a b (nodes a) refl l;
    root = agree.root;
    root_parent = agree.root_parent;
    root_name = sym (totals_alike g nodes 1) ∙ agree.root_name;
    one_name = λ n d h. sym (totals_alike g nodes n) ∙ (agree.placed n d h).one_name;
    in_parent = λ n d h. sym (names_weigh n (names_of (nodes (parent_of (nodes n))))) ∙ (agree.placed n d h).in_parent;
    reached = λ n h. elim (cases_eq n 1) [ inl e ↦ (0, e) | inr d ↦ (agree.placed n d h).reached ];
    directory_links = λ n h. links_in n (nodes n) refl h;
    file_links = λ n h. file_links_in n (nodes n) refl h;
  }

  pub all_fit : AllFit g nodes
  all_fit n node e = fits_without_links g node (agree.each n node e)

  pub links_fit : (n : ℕ) → links_of (nodes n) ≤ most_links
  links_fit n = by_node (nodes n) refl
    where
      by_node : (o : Option Node) → nodes n ≡ o → links_of o ≤ most_links
      by_node None e = omega arith
      by_node (Some node) e = (agree.each n node e).links

-- Nodes of this shape, each of which fits, agree.
pub shaped_agree : (g : Geometry) (nodes : Nodes) → IsShape g nodes → AllFit g nodes → ((n : ℕ) → links_of (nodes n) ≤ most_links) → NodesAgree g nodes
shaped_agree g nodes shape fits few_links = record {
  inside = shape.inside;
  each = λ n node e. fits_with_links g node (fits n node e) (subst (λ o. links_of o ≤ most_links) e (few_links n));
  targets = λ a b name h.
      shape.targets a b (let found = weigh_found (one_for b) (names_of (nodes a)) name b h in let one = one_for_itself b in omega (arith, found, one));
  root = shape.root;
  root_parent = shape.root_parent;
  root_name = totals_alike g nodes 1 ∙ shape.root_name;
  placed = λ n d h. record {
    one_name = totals_alike g nodes n ∙ shape.one_name n d h;
    in_parent = names_weigh n (names_of (nodes (parent_of (nodes n)))) ∙ shape.in_parent n d h;
    reached = shape.reached n h;
  };
  links = λ n node e. elim (cases_Bool (is_dir node)) [
    | inl t ↦
        let due = sym (ap links_of e) ∙ shape.directory_links n (ap kind_of e ∙ t) in
        let a = subdirectories_weigh nodes (names_of (Some node)) in
        let b : weight nodes (one_for_each nodes) n ≡ weigh (one_for_each nodes) (names_of (Some node)) = ap (λ o. weigh (one_for_each nodes) (names_of o)) e in
        let is : links_due g nodes n node ≡ 2 + subdirectories nodes (names_of (Some node)) = cond-true (is_dir node) _ _ t in
        let links : links_of (Some node) ≡ node.links = refl in
        omega (arith, due, a, b, is, links)
    | inr f ↦ sym (ap links_of e) ∙ shape.file_links n (ap kind_of e ∙ f) ∙ sym (totals_alike g nodes n) ∙ sym (cond-false (is_dir node) _ _ f)
  ];
}
