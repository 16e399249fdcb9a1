-- The place that a parent walk finds, and a directory without one of its names.
use Rattle.std.proofs.Common.{◌≡◌, ℕ, Bool, true, refl, sym, ap, subst, ◌∙◌, arith, [], ◌∷◌, cond}
use mathlib.Core.Logic.{inl, inr}
use Rattle.std.specs.Prelude.{Option, None, Some, Ok, Err, not}
use Rattle.std.specs.List.{list_all}
use Rattle.std.specs.Ordering.{eq_by_cmp, is_eq}
use Rattle.std.specs.Cmp.{alike_right}
use Rattle.std.specs.Cmp.Lexicographic.{nat_list_cmp_total}
use Rattle.std.specs.FinMap.Entries.{is_sorted-where_key, length_without, find-where_key}
use Rattle.std.proofs.lemmas.Bool.{cases_Bool, cond-true, cond-false, and_parts, and_from, cond_both}
use Rattle.lemmas.proofs.Bools.{from_T, to_T}
use Rattle.errno.specs.declared.Errno.TheVariants.{ENOTDIR, EACCES, ENOENT}
use Rattle.tree.specs.declared.User.{User}
use Rattle.tree.specs.Names.{Name, Names, name_cmp, is_name, inode_of, without_name}
use Rattle.tree.specs.Tree.{Body, Directory, is_file, is_directory, Node, Tree}
use Rattle.tree.specs.IsTree.{IsDirectory}
use Rattle.tree.specs.Refusals.{◌>>=◌}
use Rattle.tree.specs.Walk.{enter, may_access, to_search, walk_parts, parent_walk, parent_way, Place, last_part, Way}
use Rattle.lemmas.proofs.Maps.{not_nothing}
use Rattle.tree.proofs.Steps.{not_refused, ok_is, both_steps}

-- a place's directory, and its names
pub record IsPlace (t : Tree) (place : Place) : Type 0 where
  pub node : Node
  pub directory : Directory
  pub there : t.nodes place.directory ≡ Some node
  pub body : node.body ≡ is_directory directory
  pub names : directory.names ≡ place.names

record Entered (o : Option Node) (names : Names) : Type 0 where
  node : Node
  directory : Directory
  there : o ≡ Some node
  body : node.body ≡ is_directory directory
  same : directory.names ≡ names

-- a directory that is entered, by its body
entered_body : (user : User) (body : Body) (node : Node) (dir : ℕ × Names) → node.body ≡ body → enter user (Some node) ≡ Ok dir → Entered (Some node) dir.1
entered_body user (is_file f) node dir e h = absurd (not_refused ENOTDIR dir (sym (ap (λ b. enter user (Some (record node { body = b }))) e) ∙ h))
entered_body user (is_directory d) node dir e h =
    let is : cond (may_access user node to_search) (Ok (d.parent, d.names)) (Err EACCES) ≡ Ok dir = sym (ap (λ b. enter user (Some (record node { body = b }))) e) ∙ h in
    elim (cases_Bool (may_access user node to_search)) [
      | inl ay ↦ record {
        node = node;
        directory = d;
        there = refl;
        body = e;
        same = ap (λ x. x.1) (ok_is (d.parent, d.names) dir (Ok (d.parent, d.names)) refl (sym (cond-true (may_access user node to_search) (Ok (d.parent, d.names)) (Err EACCES) ay) ∙ is));
      }
      | inr nay ↦ absurd (not_refused EACCES dir (sym (cond-false (may_access user node to_search) (Ok (d.parent, d.names)) (Err EACCES) nay) ∙ is))
    ]

-- a directory that is entered
entered : (user : User) (o : Option Node) (dir : ℕ × Names) → enter user o ≡ Ok dir → Entered o dir.1
entered user None dir h = absurd (not_refused ENOENT dir h)
entered user (Some node) dir h = entered_body user node.body node dir refl h

-- a place that a parent walk finds
pub is_place : (t : Tree) (user : User) (parts : Way) (place : Place) → parent_walk t user parts ≡ Ok place → IsPlace t place
is_place t user parts place h =
    let first = both_steps (walk_parts t user (parent_way parts)) (λ here. enter user (t.nodes here) >>= λ dir. Ok (record { directory = here; names = dir.1; name = last_part parts.parts })) place h in
    let second = both_steps (enter user (t.nodes first.0)) (λ dir. Ok (record { directory = first.0; names = dir.1; name = last_part parts.parts })) place first.2 in
    let found = entered user (t.nodes first.0) second.0 second.1 in
    subst (IsPlace t) (ok_is _ place (Ok (record { directory = first.0; names = second.0.1; name = last_part parts.parts })) refl second.2)
    (record { node = found.node; directory = found.directory; there = found.there; body = found.body; names = found.same })

-- all names that are left can be names
all_left : (name : Name) (es : Names) → list_all (λ e. is_name e.0) es ≡ true → list_all (λ e. is_name e.0) (without_name es name) ≡ true
all_left name [] h = refl
all_left name (e ∷ es) h =
    let parts = and_parts (is_name e.0) (list_all (λ x. is_name x.0) es) h in
    let rest = all_left name es parts.1 in
    cond_both (not (eq_by_cmp name_cmp name e.0)) (e ∷ without_name es name) (without_name es name) (λ xs. list_all (λ x. is_name x.0) xs ≡ true)
    (λ _. and_from (is_name e.0) _ parts.0 rest) (λ _. rest)

-- a directory without a name fits
pub without_name_fits : (d : Directory) (name : Name) → IsDirectory d → IsDirectory (record d { names = without_name d.names name })
without_name_fits d name old = record {
  size = let l = length_without name_cmp nat_list_cmp_total name d.names (to_T _ old.sorted) in let s = old.size in omega (arith, l, s);
  names = all_left name d.names old.names;
  sorted = from_T _ (is_sorted-where_key name_cmp _ d.names (to_T _ old.sorted));
}

-- what is found without a name was found with it
pub found_without : (es : Names) (name q : Name) (m : ℕ) → inode_of (without_name es name) q ≡ Some m → inode_of es q ≡ Some m
found_without es name q m h =
    let p : Name → Bool = λ x. not (eq_by_cmp name_cmp name x) in
    let is : cond (p q) (inode_of es q) None ≡ Some m =
    sym (find-where_key name_cmp p q (λ x tie. ap (λ r. not (is_eq r)) (sym (alike_right nat_list_cmp_total q x name tie))) es) ∙ h in
    elim (cases_Bool (p q)) [
      | inl ay ↦ sym (cond-true (p q) (inode_of es q) None ay) ∙ is
      | inr nay ↦ absurd (not_nothing m (sym (cond-false (p q) (inode_of es q) None nay) ∙ is))
    ]
