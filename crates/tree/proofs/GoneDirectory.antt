-- An empty directory that goes, with its name: the shape of a tree stays.
use Rattle.std.proofs.Common.{◌≡◌, ◌≢◌, ◌≤◌, ◌<◌, ◌+◌, ℕ, zero, suc, true, sym, ap, ◌∙◌, refl, arith}
use mathlib.Core.Logic.{inl, inr}
use Rattle.std.specs.Prelude.{None, is_some}
use Rattle.std.proofs.lemmas.Bool.{cases_eq}
use Rattle.lemmas.proofs.Bools.{false_not_true}
use Rattle.layout.specs.declared.Geometry.{Geometry}
use Rattle.lemmas.specs.Sums.{one_if}
use Rattle.tree.specs.Tree.{names_of, parent_of}
use Rattle.tree.specs.IsTree.{above}
use Rattle.tree.proofs.Freed.{part_below}
use Rattle.tree.proofs.Totals.{one_for, one_for_itself, none_for_other, only_at, only_here, only_elsewhere, only_nothing, weigh_off, sum_gained}
use Rattle.tree.proofs.Shapes.{Nodes, kind_of, links_of, weight, total, one_for_each, IsShape, has_names}
use Rattle.tree.proofs.NewDirectory.{directory_inside}

module _ (g : Geometry) (old new : Nodes) (shape : IsShape g old) (d n : ℕ)
    (n_directory : kind_of (old n) ≡ true) (d_directory : kind_of (old d) ≡ true) (gone : new n ≡ None) (empty : (w : ℕ → ℕ) → weight old w n ≡ 0)
    (some : (m : ℕ) → m ≢ n → is_some (new m) ≡ is_some (old m)) (kind : (m : ℕ) → m ≢ n → kind_of (new m) ≡ kind_of (old m))
    (parent : (m : ℕ) → m ≢ n → parent_of (new m) ≡ parent_of (old m))
    (weights : (w : ℕ → ℕ) (m : ℕ) → weight old w m ≡ weight new w m + only_at d (w n) m)
    (links : (m : ℕ) → m ≢ n → links_of (old m) ≡ links_of (new m) + only_at d 1 m) where
  d_in : d < g.inodes + 1
  d_in = directory_inside g old shape d d_directory

  has_name : 1 ≤ weight old (one_for n) d
  has_name = let a = weights (one_for n) d in let b = only_here d (one_for n n) d refl in let c = one_for_itself n in omega (arith, a, b, c)

  pub named_total : 1 ≤ total g old (one_for n)
  named_total = let part = part_below (λ a. weight old (one_for n) a) (g.inodes + 1) d d_in in let one = has_name in omega (arith, part, one)

  pub not_root : n ≢ 1
  not_root e = let a = ap (λ k. total g old (one_for k)) e in let b = shape.root_name in let c = named_total in absurd (omega (arith, a, b, c))

  apart : d ≢ n
  apart e = let a = ap (weight old (one_for n)) e in let b = empty (one_for n) in let c = has_name in absurd (omega (arith, a, b, c))

  totals : (m : ℕ) → total g old (one_for m) ≡ total g new (one_for m) + one_for m n
  totals m = sum_gained (λ a. weight new (one_for m) a) (λ a. weight old (one_for m) a) d (one_for m n) (g.inodes + 1) d_in (weights (one_for m))

  totals_of_other : (m : ℕ) → m ≢ n → total g new (one_for m) ≡ total g old (one_for m)
  totals_of_other m e = let a = totals m in let b = none_for_other m n (λ q. e (sym q)) in omega (arith, a, b)

  weight_of_other : (m a : ℕ) → m ≢ n → weight new (one_for m) a ≡ weight old (one_for m) a
  weight_of_other m a e = let x = weights (one_for m) a in let y = only_nothing d (one_for m n) a (none_for_other m n (λ q. e (sym q))) in omega (arith, x, y)

  no_name_left : total g new (one_for n) ≡ 0
  no_name_left = let a = totals n in let b = one_for_itself n in let c = shape.one_name n not_root n_directory in omega (arith, a, b, c)

  no_name_in : (a : ℕ) → weight new (one_for n) a ≡ 0
  no_name_in a = elim (cases_eq (weight new (one_for n) a) 0) [
    | inl z ↦ z
    | inr e ↦
        let more = weights (one_for n) a in
        let within = directory_inside g old shape a (has_names (one_for n) (old a) (omega (arith, more, e))) in
        let part = part_below (λ m. weight new (one_for n) m) (g.inodes + 1) a within in
        let none = no_name_left in
        absurd (omega (arith, part, none, e))
  ]

  left : (m : ℕ) → kind_of (new m) ≡ true → (m ≢ n) × (kind_of (old m) ≡ true)
  left m h =
      let d : m ≢ n = λ e. false_not_true (sym (ap kind_of (ap new e ∙ gone)) ∙ h) in
      (d, sym (kind m d) ∙ h)

  -- the parent of a directory isn't n, and is a directory
  parent_stays : (m : ℕ) → kind_of (old m) ≡ true → (parent_of (old m) ≢ n) × (kind_of (old (parent_of (old m))) ≡ true)
  parent_stays m h = elim (cases_eq m 1) [
    | inl e ↦
        let up = ap (λ k. parent_of (old k)) e ∙ shape.root_parent in
        ((λ q. not_root (sym q ∙ up)), ap (λ k. kind_of (old k)) up ∙ shape.root)
    | inr e ↦
        let one = shape.in_parent m e h in (
          (λ q. let none = empty (one_for m) in let here = ap (weight old (one_for m)) q in absurd (omega (arith, one, none, here))),
          has_names (one_for m) (old (parent_of (old m))) (omega (arith, one)),
        )
  ]

  pub way : (k m : ℕ) → m ≢ n → kind_of (old m) ≡ true → above new k m ≡ above old k m
  way zero m e h = refl
  way (suc k) m e h = let up = parent_stays m h in ap (above new k) (parent m e) ∙ way k (parent_of (old m)) up.0 up.1

  subdirectories : (m : ℕ) → weight old (one_for_each old) m ≡ weight new (one_for_each new) m + only_at d 1 m
  subdirectories m =
      let same = weigh_off (one_for_each old) (one_for_each new) n (λ k e. ap one_if (sym (kind k e))) (names_of (new m)) (no_name_in m) in
      weights (one_for_each old) m ∙ (λ i. same i + only_at d (one_if (n_directory i)) m)

  pub gone_directory : IsShape g new
  gone_directory = record {
    inside = λ m h. shape.inside m (sym (some m (λ e. false_not_true (sym (ap is_some (ap new e ∙ gone)) ∙ h))) ∙ h);
    targets = λ a b l. elim (cases_eq b n) [
      | inl e ↦ let none = no_name_in a in let here = ap (λ k. weight new (one_for k) a) e in absurd (omega (arith, none, here, l))
      | inr e ↦ some b e ∙ shape.targets a b (let same = weight_of_other b a e in omega (arith, same, l))
    ];
    root = kind 1 (λ e. not_root (sym e)) ∙ shape.root;
    root_parent = parent 1 (λ e. not_root (sym e)) ∙ shape.root_parent;
    root_name = totals_of_other 1 (λ e. not_root (sym e)) ∙ shape.root_name;
    one_name = λ m other h. let was = left m h in totals_of_other m was.0 ∙ shape.one_name m other was.1;
    in_parent = λ m other h.
        let was = left m h in
        ap (weight new (one_for m)) (parent m was.0) ∙ weight_of_other m (parent_of (old m)) was.0 ∙ shape.in_parent m other was.1;
    reached = λ m h. let was = left m h in let old_way = shape.reached m was.1 in (old_way.0, way old_way.0 m was.0 was.1 ∙ old_way.1);
    directory_links = λ m h.
        let was = left m h in
        let a = shape.directory_links m was.1 in
        let b = links m was.0 in
        let c = subdirectories m in
        omega (arith, a, b, c);
    file_links = λ m h. elim (cases_eq m n) [
      | inl e ↦ ap (λ k. links_of (new k)) e ∙ ap links_of gone ∙ sym no_name_left ∙ ap (λ k. total g new (one_for k)) (sym e)
      | inr e ↦
          let file = sym (kind m e) ∙ h in
          let none = only_elsewhere d 1 m (λ q. false_not_true (sym file ∙ ap (λ k. kind_of (old k)) q ∙ d_directory)) in
          let was = shape.file_links m file in
          let is = links m e in
          let same = totals_of_other m e in
          omega (arith, none, was, is, same)
    ];
  }
