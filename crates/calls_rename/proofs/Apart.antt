-- What moves is neither of the two directories, and its name is one.
use Rattle.std.proofs.Common.{◌≡◌, ◌≢◌, ◌≤◌, ◌+◌, ℕ, zero, suc, true, false, [], ◌∷◌, Option, Some, refl, sym, ap, ◌∙◌, arith}
use mathlib.Core.Logic.{inl, inr}
use Rattle.std.specs.Prelude.{is_some, ◌&&◌}
use Rattle.std.specs.List.{list_all}
use Rattle.std.specs.Ordering.{eq_by_cmp}
use Rattle.std.proofs.lemmas.Bool.{and_cases, and_parts, cases_Bool, cases_eq, cond-false}
use Rattle.lemmas.proofs.Bools.{false_not_true}
use Rattle.layout.specs.declared.Geometry.{Geometry}
use Rattle.tree.specs.Names.{Name, Names, inode_of, is_name, name_cmp}
use Rattle.tree.specs.Tree.{Body, Node, Tree, is_dir, is_directory, is_file, most_size, names_of, parent_of, size_of}
use Rattle.tree.specs.IsTree.{IsBody, IsTree, above}
use Rattle.tree.specs.NameCalls.{is_within}
use Rattle.tree.proofs.Freed.{part_below}
use Rattle.tree.proofs.Totals.{one_for, one_for_itself, two_parts, weigh_found}
use Rattle.tree.proofs.Shapes.{IsShape, kind_of, shape_of, total, weight}
use Rattle.tree.proofs.NewDirectory.{directory_inside}
use Rattle.tree.proofs.Pigeonhole.{never_above}
use Rattle.volume.proofs.Entries.{same_by_cmp}

-- a name that is found among names is one
pub found_is_name : (name : Name) (es : Names) → list_all (λ e. is_name e.0) es ≡ true → is_some (inode_of es name) ≡ true → is_name name ≡ true
found_is_name name [] all found = absurd (false_not_true found)
found_is_name name (e ∷ es) all found =
    let parts = and_parts (is_name e.0) (list_all (λ x. is_name x.0) es) all in
    elim (cases_Bool (eq_by_cmp name_cmp name e.0)) [
      | inl tie ↦ ap is_name (same_by_cmp name e.0 tie) ∙ parts.0
      | inr differ ↦ found_is_name name es parts.1 (sym (ap is_some (cond-false (eq_by_cmp name_cmp name e.0) (Some e.1) (inode_of es name) differ)) ∙ found)
    ]

-- of a directory too
pub name_in : (g : Geometry) (x : Node) (b : Body) (name : Name) → IsBody g b → is_some (inode_of (names_of (Some (record x { body = b }))) name) ≡ true → is_name name ≡ true
name_in g x (is_file f) name is found = absurd (false_not_true found)
name_in g x (is_directory d) name is found = found_is_name name d.names is.names found

-- a body's size is within the limit
pub size_fits : (g : Geometry) (b : Body) → IsBody g b → size_of b ≤ most_size
size_fits g (is_file f) is = is.size
size_fits g (is_directory d) is = is.size

module _ (g : Geometry) (t : Tree) (tree : IsTree g t) where
  shape : IsShape g t.nodes
  shape = shape_of g t.nodes tree.nodes

  -- the parent of the root is itself
  stays : (n k : ℕ) → parent_of (t.nodes n) ≡ n → above t.nodes k n ≡ n
  stays n zero e = refl
  stays n (suc k) e = ap (above t.nodes k) e ∙ stays n k e

  -- no directory has its own name
  pub not_in_itself : (n : ℕ) (x : Node) (name : Name) → t.nodes n ≡ Some x → is_dir x ≡ true → inode_of (names_of (Some x)) name ≢ Some n
  not_in_itself n x name there kind leads =
      let directory : kind_of (t.nodes n) ≡ true = ap kind_of there ∙ kind in
      let inside = directory_inside g t.nodes shape n directory in
      let found = weigh_found (one_for n) (names_of (t.nodes n)) name n (ap (λ (o : Option Node). inode_of (names_of o) name) there ∙ leads) in
      let one = one_for_itself n in
      let here : 1 ≤ weight t.nodes (one_for n) n = omega (arith, found, one) in
      elim (cases_eq n 1) [
        | inl root ↦
            let part = part_below (λ a. weight t.nodes (one_for n) a) (g.inodes + 1) n inside in
            let a = ap (λ k. total g t.nodes (one_for k)) root in
            let b = shape.root_name in
            absurd (omega (arith, part, a, b, here))
        | inr other ↦
            let all = shape.one_name n other directory in
            let in_parent = shape.in_parent n other directory in
            elim (cases_eq (parent_of (t.nodes n)) n) [
              | inl e ↦ let up = shape.reached n directory in absurd (other (sym (stays n up.0 e) ∙ up.1))
              | inr e ↦
                  let up = parent_of (t.nodes n) in
                  let up_directory = Rattle.tree.proofs.Shapes.has_names (one_for n) (t.nodes up) (omega (arith, in_parent)) in
                  let both = two_parts (λ a. weight t.nodes (one_for n) a) (g.inodes + 1) up n (directory_inside g t.nodes shape up up_directory) inside e in
                  absurd (omega (arith, both, all, in_parent, here))
            ]
      ]

  -- what moves isn't the directory that has it
  pub not_its_place : (n p : ℕ) (x : Node) (name : Name) → t.nodes p ≡ Some x → is_dir x ≡ true → inode_of (names_of (Some x)) name ≡ Some n → n ≢ p
  not_its_place n p x name there kind leads e = not_in_itself p x name there kind (leads ∙ ap Some e)

  -- nor one that doesn't lie below it
  pub not_its_goal : (n d : ℕ) (x y : Node) → t.nodes d ≡ Some x → is_dir x ≡ true → t.nodes n ≡ Some y → (is_dir y && is_within g t d n) ≡ false → n ≢ d
  not_its_goal n d x y there kind n_there apart e =
      let same : Some y ≡ Some x = sym n_there ∙ ap t.nodes e ∙ there in
      let y_kind : is_dir y ≡ true = ap kind_of same ∙ kind in
      elim (and_cases (is_dir y) (is_within g t d n) apart) [
        | inl file ↦ false_not_true (sym file ∙ y_kind)
        | inr out ↦ never_above g t shape d n (ap kind_of there ∙ kind) out 0 (sym e)
      ]
