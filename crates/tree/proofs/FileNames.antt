-- Where only names of files change, and their links with them, the shape of a tree stays.
use Rattle.std.proofs.Common.{◌≡◌, ◌≤◌, ◌+◌, ℕ, zero, suc, true, false, sym, ap, ◌∙◌, refl}
use Rattle.std.specs.Prelude.{is_some, IsTrue}
use Rattle.lemmas.proofs.Bools.{false_not_true}
use Rattle.layout.specs.declared.Geometry.{Geometry}
use Rattle.lemmas.specs.Sums.{one_if}
use Rattle.tree.specs.Tree.{names_of, parent_of}
use Rattle.tree.specs.IsTree.{above}
use Rattle.lemmas.proofs.Maps.{same_sum}
use Rattle.tree.proofs.Totals.{one_for, none_for_other, weigh_same}
use Rattle.tree.proofs.Shapes.{Nodes, kind_of, links_of, weight, total, one_for_each, IsShape}

module _ (g : Geometry) (old new : Nodes) (shape : IsShape g old)
    (inside : (m : ℕ) → IsTrue (is_some (new m)) → (1 ≤ m) × (m ≤ g.inodes))
    (targets : (a b : ℕ) → 1 ≤ weight new (one_for b) a → IsTrue (is_some (new b)))
    (kind : (m : ℕ) → kind_of (new m) ≡ kind_of (old m)) (parent : (m : ℕ) → parent_of (new m) ≡ parent_of (old m))
    (weights : (w : ℕ → ℕ) → ((k : ℕ) → kind_of (old k) ≡ false → w k ≡ 0) → (m : ℕ) → weight new w m ≡ weight old w m)
    (directories : (m : ℕ) → kind_of (old m) ≡ true → links_of (new m) ≡ links_of (old m))
    (files : (m : ℕ) → kind_of (old m) ≡ false → links_of (new m) ≡ total g new (one_for m)) where
  of_directory : (n : ℕ) → kind_of (old n) ≡ true → (m : ℕ) → weight new (one_for n) m ≡ weight old (one_for n) m
  of_directory n h = weights (one_for n) (λ k f. none_for_other n k (λ e. false_not_true (sym f ∙ ap (λ j. kind_of (old j)) e ∙ h)))

  total_kept : (n : ℕ) → kind_of (old n) ≡ true → total g new (one_for n) ≡ total g old (one_for n)
  total_kept n h = same_sum (λ a. weight new (one_for n) a) (λ a. weight old (one_for n) a) (g.inodes + 1) (λ k _. of_directory n h k)

  above_kept : (k m : ℕ) → above new k m ≡ above old k m
  above_kept zero m = refl
  above_kept (suc k) m = ap (above new k) (parent m) ∙ above_kept k (parent_of (old m))

  subdirectories_kept : (n : ℕ) → weight new (one_for_each new) n ≡ weight old (one_for_each old) n
  subdirectories_kept n =
      weigh_same (one_for_each new) (one_for_each old) (λ k. ap one_if (kind k)) (names_of (new n))
      ∙ weights (one_for_each old) (λ k f. ap one_if f) n

  pub file_names_change : IsShape g new
  file_names_change = record {
    inside = inside;
    targets = targets;
    root = kind 1 ∙ shape.root;
    root_parent = parent 1 ∙ shape.root_parent;
    root_name = total_kept 1 shape.root ∙ shape.root_name;
    one_name = λ n d h. let was = sym (kind n) ∙ h in total_kept n was ∙ shape.one_name n d was;
    in_parent = λ n d h.
        let was = sym (kind n) ∙ h in
        ap (weight new (one_for n)) (parent n) ∙ of_directory n was (parent_of (old n)) ∙ shape.in_parent n d was;
    reached = λ n h. let way = shape.reached n (sym (kind n) ∙ h) in (way.0, above_kept way.0 n ∙ way.1);
    directory_links = λ n h. let was = sym (kind n) ∙ h in directories n was ∙ shape.directory_links n was ∙ ap (λ s. 2 + s) (sym (subdirectories_kept n));
    file_links = λ n h. files n (sym (kind n) ∙ h);
  }
