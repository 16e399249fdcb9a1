-- A directory that moves to a place that isn't below it: the shape of a tree stays.
use Rattle.std.proofs.Common.{◌≡◌, ◌≢◌, ◌≤◌, ◌<◌, ◌+◌, ℕ, zero, suc, true, sym, ap, ◌∙◌, refl, arith}
use mathlib.Core.Logic.{inl, inr}
use Rattle.std.specs.Prelude.{is_some}
use Rattle.std.proofs.lemmas.Bool.{cases_eq}
use Rattle.lemmas.proofs.Bools.{false_not_true}
use Rattle.layout.specs.declared.Geometry.{Geometry}
use Rattle.lemmas.specs.Sums.{one_if}
use Rattle.tree.specs.Tree.{names_of, parent_of}
use Rattle.tree.specs.IsTree.{above}
use Rattle.tree.proofs.Freed.{part_below}
use Rattle.tree.proofs.Totals.{one_for, one_for_itself, none_for_other, only_at, only_here, only_elsewhere, only_nothing, weigh_same, sum_moved, two_parts}
use Rattle.tree.proofs.Shapes.{Nodes, kind_of, links_of, weight, total, one_for_each, IsShape, is_there, has_names}
use Rattle.tree.proofs.NewDirectory.{directory_inside}

module _ (g : Geometry) (old new : Nodes) (shape : IsShape g old) (p d n : ℕ)
    (n_directory : kind_of (old n) ≡ true) (d_directory : kind_of (old d) ≡ true)
    (is_named : 1 ≤ weight old (one_for n) p) (not_below : (k : ℕ) → above old k d ≢ n)
    (some : (m : ℕ) → is_some (new m) ≡ is_some (old m)) (kind : (m : ℕ) → kind_of (new m) ≡ kind_of (old m))
    (parent : (m : ℕ) → m ≢ n → parent_of (new m) ≡ parent_of (old m)) (parent_n : parent_of (new n) ≡ d)
    (weights : (w : ℕ → ℕ) (m : ℕ) → weight new w m + only_at p (w n) m ≡ weight old w m + only_at d (w n) m)
    (links : (m : ℕ) → links_of (new m) + only_at p 1 m ≡ links_of (old m) + only_at d 1 m) where
  p_directory : kind_of (old p) ≡ true
  p_directory = has_names (one_for n) (old p) is_named

  p_in : p < g.inodes + 1
  p_in = directory_inside g old shape p p_directory

  d_in : d < g.inodes + 1
  d_in = directory_inside g old shape d d_directory

  totals : (m : ℕ) → total g new (one_for m) ≡ total g old (one_for m)
  totals m =
      let moved = sum_moved (λ a. weight old (one_for m) a) (λ a. weight new (one_for m) a) p (one_for m n) d (one_for m n) (g.inodes + 1) p_in d_in (weights (one_for m)) in
      omega (arith, moved)

  not_root : n ≢ 1
  not_root e =
      let part = part_below (λ a. weight old (one_for n) a) (g.inodes + 1) p p_in in
      let a = ap (λ k. total g old (one_for k)) e in
      let b = shape.root_name in
      absurd (omega (arith, part, a, b, is_named))

  one : total g old (one_for n) ≡ 1
  one = shape.one_name n not_root n_directory

  -- p is the only directory with a name of n
  only_there : (a : ℕ) → a ≢ p → weight old (one_for n) a ≡ 0
  only_there a e = elim (cases_eq (weight old (one_for n) a) 0) [
    | inl z ↦ z
    | inr some ↦
        let a_in = directory_inside g old shape a (has_names (one_for n) (old a) (omega (arith, some))) in
        let both = two_parts (λ m. weight old (one_for n) m) (g.inodes + 1) a p a_in p_in e in
        let all = one in
        absurd (omega (arith, both, all, some, is_named))
  ]

  is_parent : parent_of (old n) ≡ p
  is_parent = elim (cases_eq (parent_of (old n)) p) [
    | inl e ↦ e
    | inr e ↦ let none = only_there (parent_of (old n)) e in let has = shape.in_parent n not_root n_directory in absurd (omega (arith, none, has))
  ]

  weight_of_other : (m a : ℕ) → m ≢ n → weight new (one_for m) a ≡ weight old (one_for m) a
  weight_of_other m a e =
      let x = weights (one_for m) a in
      let none = none_for_other m n (λ q. e (sym q)) in
      let y = only_nothing p (one_for m n) a none in
      let z = only_nothing d (one_for m n) a none in
      omega (arith, x, y, z)

  stands_in_d : weight new (one_for n) d ≡ 1
  stands_in_d =
      let x = weights (one_for n) d in
      let here = only_here d (one_for n n) d refl in
      let itself = one_for_itself n in
      elim (cases_eq d p) [
        | inl e ↦
            let there = only_here p (one_for n n) d e in
            let was = ap (weight old (one_for n)) (e ∙ sym is_parent) ∙ shape.in_parent n not_root n_directory in
            omega (arith, x, here, itself, there, was)
        | inr e ↦
            let there = only_elsewhere p (one_for n n) d e in
            let was = only_there d e in
            omega (arith, x, here, itself, there, was)
      ]

  -- a way that doesn't pass n stays
  above_kept : (k m : ℕ) → ((j : ℕ) → above old j m ≢ n) → above new k m ≡ above old k m
  above_kept zero m never = refl
  above_kept (suc k) m never = ap (above new k) (parent m (never 0)) ∙ above_kept k (parent_of (old m)) (λ j. never (suc j))

  way_of_moved : (k : ℕ) × (above new k n ≡ 1)
  way_of_moved =
      let up = shape.reached d d_directory in
      (suc up.0, ap (above new up.0) parent_n ∙ above_kept up.0 d not_below ∙ up.1)

  -- a way that passed n goes on from there by the new place
  way : (k m : ℕ) → above old k m ≡ 1 → (j : ℕ) × (above new j m ≡ 1)
  way zero m h = (0, h)
  way (suc k) m h = elim (cases_eq m n) [
    | inl e ↦ (way_of_moved.0, ap (above new way_of_moved.0) e ∙ way_of_moved.1)
    | inr e ↦ let rest = way k (parent_of (old m)) h in (suc rest.0, ap (above new rest.0) (parent m e) ∙ rest.1)
  ]

  subdirectories : (m : ℕ) → weight new (one_for_each new) m + only_at p 1 m ≡ weight old (one_for_each old) m + only_at d 1 m
  subdirectories m =
      let same = weigh_same (one_for_each new) (one_for_each old) (λ k. ap one_if (kind k)) (names_of (new m)) in
      let here : one_for_each old n ≡ 1 = ap one_if n_directory in
      (λ i. same i + only_at p (sym here i) m) ∙ weights (one_for_each old) m ∙ (λ i. weight old (one_for_each old) m + only_at d (here i) m)

  pub moved_directory : IsShape g new
  moved_directory = record {
    inside = λ m h. shape.inside m (sym (some m) ∙ h);
    targets = λ a b l. some b ∙ elim (cases_eq b n) [
      | inl e ↦ ap (λ k. is_some (old k)) e ∙ is_there (old n) n_directory
      | inr e ↦ shape.targets a b (let same = weight_of_other b a e in omega (arith, same, l))
    ];
    root = kind 1 ∙ shape.root;
    root_parent = parent 1 (λ e. not_root (sym e)) ∙ shape.root_parent;
    root_name = totals 1 ∙ shape.root_name;
    one_name = λ m other h. totals m ∙ shape.one_name m other (sym (kind m) ∙ h);
    in_parent = λ m other h. elim (cases_eq m n) [
      | inl e ↦ ap (λ k. weight new (one_for k) (parent_of (new k))) e ∙ ap (weight new (one_for n)) parent_n ∙ stands_in_d
      | inr e ↦ ap (weight new (one_for m)) (parent m e) ∙ weight_of_other m (parent_of (old m)) e ∙ shape.in_parent m other (sym (kind m) ∙ h)
    ];
    reached = λ m h. let old_way = shape.reached m (sym (kind m) ∙ h) in way old_way.0 m old_way.1;
    directory_links = λ m h.
        let a = shape.directory_links m (sym (kind m) ∙ h) in
        let b = links m in
        let c = subdirectories m in
        omega (arith, a, b, c);
    file_links = λ m h.
        let file = sym (kind m) ∙ h in
        let x = only_elsewhere d 1 m (λ q. false_not_true (sym file ∙ ap (λ k. kind_of (old k)) q ∙ d_directory)) in
        let y = only_elsewhere p 1 m (λ q. false_not_true (sym file ∙ ap (λ k. kind_of (old k)) q ∙ p_directory)) in
        let was = shape.file_links m file in
        let is = links m in
        let same = totals m in
        omega (arith, x, y, was, is, same);
  }
