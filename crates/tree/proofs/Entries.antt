-- A directory with one name more, or with another node under a name.
use Rattle.std.proofs.Common.{◌≡◌, ◌≤◌, ◌+◌, ◌*◌, ℕ, true, false, refl, sym, ap, ◌∙◌, arith, [], ◌∷◌, length, cond}
use mathlib.Core.Logic.{inl, inr}
use Rattle.std.specs.Prelude.{T, None, Some, not}
use Rattle.std.specs.List.{list_all}
use Rattle.std.specs.Ordering.{eq_by_cmp, is_eq}
use Rattle.std.specs.declared.cmp.Ordering.TheVariants.{Less, Equal, Greater}
use Rattle.std.specs.Cmp.{alike_right, tied_itself}
use Rattle.std.specs.Cmp.Lexicographic.{nat_list_cmp_total}
use Rattle.std.specs.FinMap.Entries.{by_order, is_sorted, find-where_key, is_sorted-where_key}
use Rattle.std.proofs.lemmas.Cmp.{eq_by_cmp_equiv}
use Rattle.std.proofs.lemmas.Bool.{cases_Bool, cond-true, cond-false, and_from, and_parts, not_from_false, not_from_true}
use Rattle.lemmas.proofs.Bools.{from_T, to_T}
use Rattle.tree.specs.Names.{Name, Names, name_cmp, is_name, inode_of, with_name, without_name}
use Rattle.tree.specs.Tree.{Directory, most_size}
use Rattle.tree.specs.IsTree.{IsDirectory}
use Rattle.tree.proofs.Names.{inode_of-with_name, sorted-with_name, same_names}
use Rattle.tree.proofs.Weights.{weigh, weigh_with_name, weigh_without_name}

-- all names can be names, with the new one
all_with : (name : Name) (n : ℕ) (es : Names) → is_name name ≡ true → list_all (λ e. is_name e.0) es ≡ true → list_all (λ e. is_name e.0) (with_name es name n) ≡ true
all_with name n [] h all = and_from (is_name name) true h refl
all_with name n (e ∷ es) h all =
    let parts = and_parts (is_name e.0) (list_all (λ x. is_name x.0) es) all in
    elim (name_cmp name e.0) as (λ r. list_all (λ x. is_name x.0) (by_order r ((name, n) ∷ e ∷ es) ((e.0, n) ∷ es) (e ∷ with_name es name n)) ≡ true) [
      | Less ↦ and_from (is_name name) _ h all
      | Equal ↦ all
      | Greater ↦ and_from (is_name e.0) _ parts.0 (all_with name n es h parts.1)
    ]

-- a directory with one name more fits
pub with_name_fits : (d : Directory) (name : Name) (n : ℕ) → is_name name ≡ true → 64 * (length (with_name d.names name n) + 2) ≤ most_size → IsDirectory d
    → IsDirectory (record d { names = with_name d.names name n })
with_name_fits d name n named size old = record {
  size = size;
  names = all_with name n d.names named old.names;
  sorted = from_T _ (sorted-with_name d.names name n (to_T _ old.sorted));
}

-- what the names without one answer
inode_of-without_name : (es : Names) (name q : Name) → inode_of (without_name es name) q ≡ cond (not (eq_by_cmp name_cmp name q)) (inode_of es q) None
inode_of-without_name es name q =
    find-where_key name_cmp (λ x. not (eq_by_cmp name_cmp name x)) q (λ x tie. ap (λ r. not (is_eq r)) (sym (alike_right nat_list_cmp_total q x name tie))) es

-- a name that was taken away isn't found
pub gone_name : (es : Names) (name : Name) → inode_of (without_name es name) name ≡ None
gone_name es name =
    inode_of-without_name es name name
    ∙ cond-false (not (eq_by_cmp name_cmp name name)) (inode_of es name) None (not_from_true _ (ap is_eq (tied_itself nat_list_cmp_total name)))

-- another name is found as before
pub other_name : (es : Names) (name q : Name) → eq_by_cmp name_cmp name q ≡ false → inode_of (without_name es name) q ≡ inode_of es q
other_name es name q d = inode_of-without_name es name q ∙ cond-true (not (eq_by_cmp name_cmp name q)) (inode_of es q) None (not_from_false _ d)

-- a name put in place of an old one is the old one taken away and the new one put
replaced_is : (es : Names) (name : Name) (n : ℕ) → T (is_sorted name_cmp es) → with_name es name n ≡ with_name (without_name es name) name n
replaced_is es name n s =
    same_names (with_name es name n) (with_name (without_name es name) name n)
    (sorted-with_name es name n s)
    (sorted-with_name (without_name es name) name n (is_sorted-where_key name_cmp _ es s))
    (λ q. inode_of-with_name es name n q ∙ alike q ∙ sym (inode_of-with_name (without_name es name) name n q))
  where
    alike : (q : Name) → cond (eq_by_cmp name_cmp q name) (Some n) (inode_of es q) ≡ cond (eq_by_cmp name_cmp q name) (Some n) (inode_of (without_name es name) q)
    alike q = elim (cases_Bool (eq_by_cmp name_cmp q name)) [
      | inl t ↦ cond-true _ (Some n) (inode_of es q) t ∙ sym (cond-true _ (Some n) (inode_of (without_name es name) q) t)
      | inr f ↦
          cond-false _ (Some n) (inode_of es q) f
          ∙ sym (other_name es name q ((eq_by_cmp_equiv nat_list_cmp_total).symm name q ∙ f))
          ∙ sym (cond-false _ (Some n) (inode_of (without_name es name) q) f)
    ]

-- a name that was there, of node m, and is of n now
pub weigh_with_name_over : (w : ℕ → ℕ) (name : Name) (n m : ℕ) (es : Names) → T (is_sorted name_cmp es) → inode_of es name ≡ Some m
    → weigh w (with_name es name n) + w m ≡ weigh w es + w n
weigh_with_name_over w name n m es s h =
    let a = ap (weigh w) (replaced_is es name n s) in
    let b = weigh_with_name w name n (without_name es name) (gone_name es name) in
    let c = weigh_without_name w name m es (from_T _ s) h in
    omega (arith, a, b, c)
