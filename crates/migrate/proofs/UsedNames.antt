-- How many names an old directory has.
use Rattle.std.proofs.Common.{◌≡◌, ◌≢◌, ◌<◌, ◌+◌, ℕ, zero, suc, [], length, Bool, true, false, refl, sym, ap, subst, ◌∙◌, arith}
use mathlib.Core.Logic.{inl, inr}
use Rattle.std.specs.Prelude.{None, Some, T, is_some, not}
use Rattle.std.specs.Ordering.{eq_by_cmp}
use Rattle.std.specs.Cmp.Lexicographic.{nat_list_cmp_total}
use Rattle.std.specs.FinMap.Entries.{length-put, is_sorted}
use Rattle.std.proofs.lemmas.Bool.{cases_Bool, cond-true, cond-false}
use Rattle.lemmas.specs.Sums.{sum_below, count_below, one_if}
use Rattle.tree.specs.Names.{Name, Names, name_cmp, inode_of, with_name}
use Rattle.tree.proofs.Names.{inode_of-with_name, sorted-with_name}
use Rattle.volume.proofs.Entries.{cmp_apart}
use Rattle.fsck.specs.Form.{version_2}
use Rattle.fsck.specs.Nodes.{names_in, entry_name, entry_inode, is_dropped}

module _ (f : ℕ → ℕ) where
  -- entry e past the first two is free
  abbrev free : ℕ → Bool
  free e = is_dropped version_2 f (e + 2)

  -- its name
  abbrev name : ℕ → Name
  name e = entry_name version_2 f (e + 2)

  -- the names of the first k
  abbrev names : ℕ → Names
  names k = names_in version_2 f k

  -- none
  none_first : names 0 ≡ []
  unfolding names_in
  none_first = refl

  -- a free entry adds none
  free_next : (k : ℕ) → free k ≡ true → names (suc k) ≡ names k
  unfolding names_in
  free_next k is = cond-true (free k) (names k) _ is

  -- another adds its name
  used_next : (k : ℕ) → free k ≡ false → names (suc k) ≡ with_name (names k) (name k) (entry_inode version_2 f (k + 2))
  unfolding names_in
  used_next k is = cond-false (free k) (names k) _ is

  -- a name that no entry has isn't among them
  not_found : (k : ℕ) (q : Name) → ((e : ℕ) → e < k → free e ≡ false → name e ≢ q) → inode_of (names k) q ≡ None
  not_found zero q apart = ap (λ es. inode_of es q) none_first
  not_found (suc k) q apart =
      let before = not_found k q (λ e h. apart e (omega arith)) in
      elim (cases_Bool (free k)) [
        | inl is ↦ ap (λ es. inode_of es q) (free_next k is) ∙ before
        | inr is ↦
            let n = entry_inode version_2 f (k + 2) in
            ap (λ es. inode_of es q) (used_next k is) ∙ inode_of-with_name (names k) (name k) n q
            ∙ cond-false (eq_by_cmp name_cmp q (name k)) (Some n) (inode_of (names k) q)
            (cmp_apart q (name k) (λ e. apart k (omega arith) is (sym e)))
            ∙ before
      ]

  -- they are in order
  in_order : (k : ℕ) → T (is_sorted name_cmp (names k))
  in_order k = by k
    where
      by : (k : ℕ) → T (is_sorted name_cmp (names k))
      by zero = subst (λ es. T (is_sorted name_cmp es)) (sym none_first) tt
      by (suc k) = elim (cases_Bool (free k)) [
        | inl is ↦ subst (λ es. T (is_sorted name_cmp es)) (sym (free_next k is)) (by k)
        | inr is ↦ subst (λ es. T (is_sorted name_cmp es)) (sym (used_next k is))
            (sorted-with_name (names k) (name k) (entry_inode version_2 f (k + 2)) (by k))
      ]

  -- the names of entries that aren't free differ
  abbrev pub Distinct : ℕ → Type 0
  Distinct k = (e d : ℕ) → e < d → d < k → free e ≡ false → free d ≡ false → name e ≢ name d

  -- there are as many names as entries that aren't free
  pub as_many : (k : ℕ) → Distinct k → length (names k) ≡ count_below (λ e. not (free e)) k
  unfolding sum_below
  as_many zero apart = ap length none_first
  as_many (suc k) apart =
      let before = as_many k (λ e d l h. apart e d l (omega arith)) in
      elim (cases_Bool (free k)) [
        | inl is ↦
            let one : one_if (not (free k)) ≡ 0 = ap (λ b. one_if (not b)) is in
            let here : length (names (suc k)) ≡ length (names k) = ap length (free_next k is) in
            omega arith
        | inr is ↦
            let one : one_if (not (free k)) ≡ 1 = ap (λ b. one_if (not b)) is in
            let n = entry_inode version_2 f (k + 2) in
            let fresh : is_some (inode_of (names k) (name k)) ≡ false = ap is_some
            (not_found k (name k) (λ e h o. apart e k h (omega arith) o is)) in
            let here : length (names (suc k)) ≡ length (names k) + 1
            = ap length (used_next k is) ∙ length-put name_cmp nat_list_cmp_total (name k) n (names k) (in_order k)
            ∙ cond-false (is_some (inode_of (names k) (name k))) (length (names k)) (length (names k) + 1) fresh in
            omega arith
      ]
