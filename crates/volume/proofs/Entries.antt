-- A row of entries with different names against the map that it makes.
use Rattle.std.proofs.Common.{◌≡◌, ◌≢◌, ◌<◌, ◌+◌, ℕ, zero, suc, [], ◌∷◌, length, Bool, true, false, refl, sym, ap, ◌∙◌, cond, arith}
use mathlib.Core.Logic.{inl, inr}
use Rattle.std.specs.Prelude.{None, Some, IsTrue, is_some}
use Rattle.std.specs.List.{list_all}
use Rattle.std.specs.declared.cmp.Ordering.TheVariants.{Less, Equal, Greater}
use Rattle.std.specs.Ordering.{eq_by_cmp, is_eq}
use Rattle.std.specs.Cmp.{tied_itself}
use Rattle.std.specs.Cmp.Lexicographic.{nat_list_cmp_total}
use Rattle.std.specs.FinMap.{slice_cmp-IsAntisymmetric, nat_cmp-IsAntisymmetric}
use Rattle.std.specs.FinMap.Entries.{length-put, find-put, by_order, is_sorted, is_sorted-put}
use Rattle.std.proofs.lemmas.Bool.{cases_eq, cases_Bool, and_parts, and_from, cond-true, cond-false}
use Rattle.lemmas.proofs.Options.{some_same}
use Rattle.lemmas.proofs.Bools.{from_T, is_equal, to_T}
use Rattle.lemmas.specs.Sums.{count_below, sum_below, one_if}
use Rattle.tree.specs.Names.{Name, Names, name_cmp, inode_of, with_name}

-- the first k entries as a map, where entry e has that name and leads to that inode
unfoldable pub collected : (ℕ → Name) → (ℕ → ℕ) → ℕ → Names
collected name target zero = []
collected name target (suc k) = with_name (collected name target k) (name k) (target k)

-- how many names lead to an inode that passes
abbrev pub tally : (ℕ → Bool) → Names → ℕ
tally p [] = 0
tally p (e ∷ es) = one_if (p e.1) + tally p es

-- what a map answers with one name more
asked_with_name : (names : Names) (name : Name) (n : ℕ) (q : Name) → inode_of (with_name names name n) q ≡ cond (eq_by_cmp name_cmp q name) (Some n) (inode_of names q)
asked_with_name names name n q = find-put name_cmp nat_list_cmp_total q name n names

-- a map in order stays in order
sorted_with_name : (names : Names) (name : Name) (n : ℕ) → IsTrue (is_sorted name_cmp names) → IsTrue (is_sorted name_cmp (with_name names name n))
sorted_with_name names name n s = from_T _ (is_sorted-put name_cmp nat_list_cmp_total name n names (to_T _ s))

-- a map of good names stays one with a good name more
all_with_name : (good : Name → Bool) (name : Name) (n : ℕ) (es : Names) → list_all (λ e. good e.0) es ≡ true → good name ≡ true
    → list_all (λ e. good e.0) (with_name es name n) ≡ true
all_with_name good name n [] all is = and_from (good name) true is refl
all_with_name good name n (e ∷ es) all is =
    let both = and_parts (good e.0) (list_all (λ d. good d.0) es) all in
    elim (name_cmp name e.0) as (λ r. list_all (λ d. good d.0) (by_order r ((name, n) ∷ e ∷ es) ((e.0, n) ∷ es) (e ∷ with_name es name n)) ≡ true) [
      | Less ↦ and_from (good name) _ is all
      | Equal ↦ and_from (good e.0) _ both.0 both.1
      | Greater ↦ and_from (good e.0) _ both.0 (all_with_name good name n es both.1 is)
    ]

-- names that compare as equal are one
pub same_by_cmp : (x y : Name) → eq_by_cmp name_cmp x y ≡ true → x ≡ y
same_by_cmp x y e = slice_cmp-IsAntisymmetric nat_cmp-IsAntisymmetric x y (is_equal (name_cmp x y) e)

-- a name compares as equal to itself
pub cmp_itself : (x : Name) → eq_by_cmp name_cmp x x ≡ true
cmp_itself x = ap is_eq (tied_itself nat_list_cmp_total x)

-- and as not equal to another name
pub cmp_apart : (x y : Name) → x ≢ y → eq_by_cmp name_cmp x y ≡ false
cmp_apart x y d = elim (cases_Bool (eq_by_cmp name_cmp x y)) [
  | inl e ↦ absurd (d (same_by_cmp x y e))
  | inr e ↦ e
]

-- a name that isn't there adds one
pub tally_put : (p : ℕ → Bool) (q : Name) (v : ℕ) (es : Names) → inode_of es q ≡ None → tally p (with_name es q v) ≡ tally p es + one_if (p v)
tally_put p q v [] none = omega arith
tally_put p q v (e ∷ es) none =
    elim (name_cmp q e.0) as (λ r. name_cmp q e.0 ≡ r → tally p (by_order r ((q, v) ∷ e ∷ es) ((e.0, v) ∷ es) (e ∷ with_name es q v)) ≡ one_if (p e.1) + tally p es + one_if (p v)) [
      | Less ↦ λ r. omega arith
      | Equal ↦ λ r. absurd (there r)
      | Greater ↦ λ r. let before = tally_put p q v es (beyond r) in omega arith
    ] refl
  where
    -- a name that compares as equal is there
    there : name_cmp q e.0 ≡ Equal → ⊥
    there r = let f = sym (cond-true (eq_by_cmp name_cmp q e.0) (Some e.1) (inode_of es q) (ap is_eq r)) ∙ none in absurd (cc)

    -- one that comes later isn't in the rest
    beyond : name_cmp q e.0 ≡ Greater → inode_of es q ≡ None
    beyond r = sym (cond-false (eq_by_cmp name_cmp q e.0) (Some e.1) (inode_of es q) (ap is_eq r)) ∙ none

module _ (name : ℕ → Name) (target : ℕ → ℕ) where
  -- the map of the first k entries
  abbrev map_of : ℕ → Names
  map_of k = collected name target k

  -- the map of one entry more
  pub next : (k : ℕ) → map_of (suc k) ≡ with_name (map_of k) (name k) (target k)
  unfolding collected
  next k = refl

  -- the map of no entry
  pub first : map_of 0 ≡ []
  unfolding collected
  first = refl

  -- what the map answers with one entry more
  asked : (k : ℕ) (q : Name) → inode_of (map_of (suc k)) q ≡ cond (eq_by_cmp name_cmp q (name k)) (Some (target k)) (inode_of (map_of k) q)
  asked k q = ap (λ es. inode_of es q) (next k) ∙ asked_with_name (map_of k) (name k) (target k) q

  -- the map is in order
  pub sorted : (k : ℕ) → IsTrue (is_sorted name_cmp (map_of k))
  sorted zero = ap (is_sorted name_cmp) first
  sorted (suc k) = ap (is_sorted name_cmp) (next k) ∙ sorted_with_name (map_of k) (name k) (target k) (sorted k)

  -- a map of good names
  pub all_good : (good : Name → Bool) (k : ℕ) → ((e : ℕ) → e < k → good (name e) ≡ true) → list_all (λ e. good e.0) (map_of k) ≡ true
  all_good good zero each = ap (list_all (λ e. good e.0)) first
  all_good good (suc k) each =
      ap (list_all (λ e. good e.0)) (next k)
      ∙ all_with_name good (name k) (target k) (map_of k) (all_good good k (λ e h. each e (omega arith))) (each k (omega arith))

  -- an entry that has the name and the inode
  pub found_entry : (k : ℕ) (q : Name) (t : ℕ) → inode_of (map_of k) q ≡ Some t → (e : ℕ) × (e < k) × (name e ≡ q) × (target e ≡ t)
  found_entry zero q t is = let none : None ≡ Some t = ap (λ es. inode_of es q) (sym first) ∙ is in absurd (cc)
  found_entry (suc k) q t is = elim (cases_Bool (eq_by_cmp name_cmp q (name k))) [
    | inl e ↦
        let here = sym (cond-true _ (Some (target k)) (inode_of (map_of k) q) e) ∙ sym (asked k q) ∙ is in
        (k, omega arith, sym (same_by_cmp q (name k) e), some_same (target k) t here)
    | inr e ↦
        let before = found_entry k q t (sym (cond-false _ (Some (target k)) (inode_of (map_of k) q) e) ∙ sym (asked k q) ∙ is) in
        (before.0, omega (arith, before.1), before.2, before.3)
  ]

  -- a name that no entry has is not in the map
  pub not_found : (k : ℕ) (q : Name) → ((e : ℕ) → e < k → name e ≢ q) → inode_of (map_of k) q ≡ None
  not_found zero q apart = ap (λ es. inode_of es q) first
  not_found (suc k) q apart =
      asked k q ∙ cond-false _ (Some (target k)) (inode_of (map_of k) q) (cmp_apart q (name k) (λ e. apart k (omega arith) (sym e)))
      ∙ not_found k q (λ e h. apart e (omega arith))

  -- the first k names differ
  abbrev pub Distinct : ℕ → Type 0
  Distinct k = (e f : ℕ) → e < f → f < k → name e ≢ name f

  -- where names differ each entry is in the map
  pub entry_found : (k e : ℕ) → Distinct k → e < k → inode_of (map_of k) (name e) ≡ Some (target e)
  entry_found zero e apart h = absurd (omega arith)
  entry_found (suc k) e apart h = elim (cases_eq e k) [
    | inl same ↦ asked k (name e) ∙ cond-true _ (Some (target k)) (inode_of (map_of k) (name e)) (ap (λ x. eq_by_cmp name_cmp x (name k)) (ap name same) ∙ cmp_itself (name k)) ∙ ap (λ x. Some (target x)) (sym same)
    | inr d ↦ asked k (name e) ∙ cond-false _ (Some (target k)) (inode_of (map_of k) (name e)) (cmp_apart (name e) (name k) (apart e k (omega arith) (omega arith)))
        ∙ entry_found k e (λ a b l h. apart a b l (omega arith)) (omega arith)
  ]

  -- where names differ the next one is not there yet
  fresh : (k : ℕ) → Distinct (suc k) → inode_of (map_of k) (name k) ≡ None
  fresh k apart = not_found k (name k) (λ e h. apart e k h (omega arith))

  -- as many names lead to inodes that pass as entries do
  pub tally_entries : (p : ℕ → Bool) (k : ℕ) → Distinct k → tally p (map_of k) ≡ count_below (λ e. p (target e)) k
  unfolding sum_below
  tally_entries p zero apart = ap (tally p) first
  tally_entries p (suc k) apart =
      let before = tally_entries p k (λ a b l h. apart a b l (omega arith)) in
      let here = ap (tally p) (next k) ∙ tally_put p (name k) (target k) (map_of k) (fresh k apart) in
      omega arith

  -- the map has as many names as there are entries
  pub length_entries : (k : ℕ) → Distinct k → length (map_of k) ≡ k
  length_entries zero apart = ap length first
  length_entries (suc k) apart =
      let before = length_entries k (λ a b l h. apart a b l (omega arith)) in
      let out : is_some (inode_of (map_of k) (name k)) ≡ false = ap is_some (fresh k apart) in
      let here = ap length (next k) ∙ length-put name_cmp nat_list_cmp_total (name k) (target k) (map_of k) (to_T _ (sorted k)) ∙ cond-false _ (length (map_of k)) (length (map_of k) + 1) out in
      omega arith
