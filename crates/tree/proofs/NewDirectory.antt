-- A new directory, with a name in another: the shape of a tree stays.
use Rattle.std.proofs.Common.{◌≡◌, ◌≢◌, ◌≤◌, ◌<◌, ◌+◌, ℕ, suc, true, false, sym, ap, ◌∙◌, refl, arith}
use mathlib.Core.Logic.{inl, inr}
use Rattle.std.specs.Prelude.{None, is_some}
use Rattle.std.proofs.lemmas.Bool.{cases_eq, cases_Bool}
use Rattle.lemmas.proofs.Bools.{false_not_true}
use Rattle.layout.specs.declared.Geometry.{Geometry}
use Rattle.lemmas.specs.Sums.{one_if}
use Rattle.tree.specs.Tree.{names_of, parent_of}
use Rattle.tree.specs.IsTree.{above}
use Rattle.tree.proofs.Weights.{weigh}
use Rattle.tree.proofs.Ways.{way_kept}
use Rattle.tree.proofs.Totals.{one_for, one_for_itself, none_for_other, only_at, only_here, only_elsewhere, only_nothing, weigh_off, sum_gained, sum_of_none}
use Rattle.tree.proofs.Shapes.{Nodes, kind_of, links_of, weight, total, one_for_each, IsShape, is_there, no_parent_of}

-- a number at which nothing is has no name
pub unnamed_number : (g : Geometry) (nodes : Nodes) → IsShape g nodes → (n a : ℕ) → nodes n ≡ None → weight nodes (one_for n) a ≡ 0
unnamed_number g nodes shape n a none = elim (cases_eq (weight nodes (one_for n) a) 0) [
  | inl z ↦ z
  | inr d ↦ absurd (false_not_true (sym (ap is_some none) ∙ shape.targets a n (omega (arith, d))))
]

-- number 0 is no directory
pub nothing_at_zero : (g : Geometry) (nodes : Nodes) → IsShape g nodes → kind_of (nodes 0) ≡ false
nothing_at_zero g nodes shape = elim (cases_Bool (kind_of (nodes 0))) [
  | inl t ↦ let within = (shape.inside 0 (is_there (nodes 0) t)).0 in absurd (omega (arith, within))
  | inr f ↦ f
]

-- a directory has a number of the volume
pub directory_inside : (g : Geometry) (nodes : Nodes) → IsShape g nodes → (n : ℕ) → kind_of (nodes n) ≡ true → n < g.inodes + 1
directory_inside g nodes shape n h = let within = (shape.inside n (is_there (nodes n) h)).1 in omega (arith, within)

module _ (g : Geometry) (old new : Nodes) (shape : IsShape g old) (d n : ℕ)
    (free : old n ≡ None) (from : 1 ≤ n) (to : n ≤ g.inodes) (d_directory : kind_of (old d) ≡ true)
    (some : (m : ℕ) → m ≢ n → is_some (new m) ≡ is_some (old m))
    (kind : (m : ℕ) → m ≢ n → kind_of (new m) ≡ kind_of (old m)) (kind_n : kind_of (new n) ≡ true)
    (parent : (m : ℕ) → m ≢ n → parent_of (new m) ≡ parent_of (old m)) (parent_n : parent_of (new n) ≡ d)
    (weights : (w : ℕ → ℕ) (m : ℕ) → weight new w m ≡ weight old w m + only_at d (w n) m)
    (links : (m : ℕ) → m ≢ n → links_of (new m) ≡ links_of (old m) + only_at d 1 m) (links_n : links_of (new n) ≡ 2) where
  is_other : (m : ℕ) → kind_of (old m) ≡ true → m ≢ n
  is_other m h e = false_not_true (sym (ap kind_of (ap old e ∙ free)) ∙ h)

  is_new_or_old : (m : ℕ) → m ≢ n → kind_of (new m) ≡ true → kind_of (old m) ≡ true
  is_new_or_old m e h = sym (kind m e) ∙ h

  d_in : d < g.inodes + 1
  d_in = directory_inside g old shape d d_directory

  totals : (m : ℕ) → total g new (one_for m) ≡ total g old (one_for m) + one_for m n
  totals m = sum_gained (λ a. weight old (one_for m) a) (λ a. weight new (one_for m) a) d (one_for m n) (g.inodes + 1) d_in (weights (one_for m))

  totals_of_other : (m : ℕ) → m ≢ n → total g new (one_for m) ≡ total g old (one_for m)
  totals_of_other m e = let a = totals m in let b = none_for_other m n (λ q. e (sym q)) in omega (arith, a, b)

  no_name_before : total g old (one_for n) ≡ 0
  no_name_before = sum_of_none (λ a. weight old (one_for n) a) (g.inodes + 1) (λ a. unnamed_number g old shape n a free)

  weight_of_other : (m a : ℕ) → m ≢ n → weight new (one_for m) a ≡ weight old (one_for m) a
  weight_of_other m a e = let x = weights (one_for m) a in let y = only_nothing d (one_for m n) a (none_for_other m n (λ q. e (sym q))) in omega (arith, x, y)

  way : (m : ℕ) → kind_of (old m) ≡ true → (k : ℕ) × (above new k m ≡ 1)
  way m h =
      let old_way = shape.reached m h in
      (old_way.0, way_kept old new n free (no_parent_of (old 0) (nothing_at_zero g old shape)) parent old_way.0 m old_way.1)

  way_of_new : (k : ℕ) × (above new k n ≡ 1)
  way_of_new = let up = way d d_directory in (suc up.0, ap (above new up.0) parent_n ∙ up.1)

  -- the new directory adds to the subdirectories of d alone
  subdirectories : (m : ℕ) → weight new (one_for_each new) m ≡ weight old (one_for_each old) m + only_at d 1 m
  subdirectories m =
      let same = weigh_off (one_for_each new) (one_for_each old) n (λ k e. ap one_if (kind k e)) (names_of (old m)) (unnamed_number g old shape n m free) in
      weights (one_for_each new) m ∙ (λ i. same i + only_at d (one_if (kind_n i)) m)

  pub new_directory : IsShape g new
  new_directory = record {
    inside = λ m h. elim (cases_eq m n) [ inl e ↦ (omega (arith, e, from), omega (arith, e, to)) | inr e ↦ shape.inside m (sym (some m e) ∙ h) ];
    targets = λ a b l. elim (cases_eq b n) [
      | inl e ↦ is_there (new b) (ap (λ k. kind_of (new k)) e ∙ kind_n)
      | inr e ↦ some b e ∙ shape.targets a b (let same = weight_of_other b a e in omega (arith, same, l))
    ];
    root = kind 1 (is_other 1 shape.root) ∙ shape.root;
    root_parent = parent 1 (is_other 1 shape.root) ∙ shape.root_parent;
    root_name = totals_of_other 1 (is_other 1 shape.root) ∙ shape.root_name;
    one_name = λ m not_root h. elim (cases_eq m n) [
      | inl e ↦ ap (λ k. total g new (one_for k)) e ∙ totals n ∙ (λ i. no_name_before i + one_for_itself n i)
      | inr e ↦ totals_of_other m e ∙ shape.one_name m not_root (is_new_or_old m e h)
    ];
    in_parent = λ m not_root h. elim (cases_eq m n) [
      | inl e ↦
          ap (λ k. weight new (one_for k) (parent_of (new k))) e ∙ ap (weight new (one_for n)) parent_n ∙ weights (one_for n) d
          ∙ (λ i. unnamed_number g old shape n d free i + (only_here d (one_for n n) d refl ∙ one_for_itself n) i)
      | inr e ↦ ap (weight new (one_for m)) (parent m e) ∙ weight_of_other m (parent_of (old m)) e ∙ shape.in_parent m not_root (is_new_or_old m e h)
    ];
    reached = λ m h. elim (cases_eq m n) [
      | inl e ↦ (way_of_new.0, ap (above new way_of_new.0) e ∙ way_of_new.1)
      | inr e ↦ way m (is_new_or_old m e h)
    ];
    directory_links = λ m h. elim (cases_eq m n) [
      | inl e ↦
          let is = ap (λ k. links_of (new k)) e ∙ links_n in
          let none = subdirectories m in
          let a : weight old (one_for_each old) m ≡ 0 = ap (λ o. weigh (one_for_each old) (names_of o)) (ap old e ∙ free) in
          let b = only_elsewhere d 1 m (λ q. is_other d d_directory (sym q ∙ e)) in
          omega (arith, is, none, a, b)
      | inr e ↦
          let was = shape.directory_links m (is_new_or_old m e h) in
          let is = links m e in
          let more = subdirectories m in
          omega (arith, was, is, more)
    ];
    file_links = λ m h. elim (cases_eq m n) [
      | inl e ↦ absurd (false_not_true (sym h ∙ ap (λ k. kind_of (new k)) e ∙ kind_n))
      | inr e ↦
          let file = sym (kind m e) ∙ h in
          let none = only_elsewhere d 1 m (λ q. false_not_true (sym file ∙ ap (λ k. kind_of (old k)) q ∙ d_directory)) in
          let was = shape.file_links m file in
          let is = links m e in
          let same = totals_of_other m e in
          omega (arith, none, was, is, same)
    ];
  }
