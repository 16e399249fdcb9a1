-- The entries of a moved directory.
use Rattle.std.proofs.Common.{◌≡◌, ◌<◌, ◌≤◌, ◌+◌, ◌-◌, ◌*◌, ℕ, zero, suc, List, length, take, drop, slice_index, Bool, true, false, refl}
use Rattle.std.proofs.Common.{sym, ap, ◌∙◌, arith}
use mathlib.Core.Logic.{inl, inr}
use Rattle.std.specs.Prelude.{not}
use Rattle.std.proofs.lemmas.Bool.{cases_Bool, cases_lt}
use Rattle.std.proofs.lemmas.List.{get_or-take, get_or-drop}
use Rattle.lemmas.specs.Sums.{sum_below, count_below, one_if}
use Rattle.volume.specs.Nodes as nodes_3
use Rattle.fsck.specs.Form.{version_2}
use Rattle.fsck.specs.Nodes as nodes_2
use Rattle.fsck.specs.Nodes.{is_dropped}
use Rattle.fsck.proofs.Counts.{no_sum}
use Rattle.migrate.specs.Written.{AreEntries, kept_of}
use Rattle.migrate.proofs.Laid.{sum_next, sum_front, two_first}
use Rattle.migrate.proofs.Names.{none_yet, one_free, one_more, number_same, name_same}

-- the number of its place leads back to each that passes
pub nth : (p : ℕ → Bool) (n k : ℕ) → k < count_below p n → (e : ℕ) × (e < n) × (p e ≡ true) × (count_below p e ≡ k)
unfolding sum_below
nth p zero k h = absurd (omega arith)
nth p (suc n) k h = elim (cases_lt k (count_below p n)) [
  | inl low ↦ let r = nth p n k low in (r.0, omega (arith, r.1), r.2, r.3)
  | inr high ↦ elim (cases_Bool (p n)) [
    | inl is ↦ let one : one_if (p n) ≡ 1 = ap one_if is in (n, omega arith, is, omega arith)
    | inr out ↦ let none : one_if (p n) ≡ 0 = ap one_if out in absurd (omega arith)
  ]
]

module _ (f hb : ℕ → ℕ) (count : ℕ) (bytes : List ℕ) (entries : AreEntries f count bytes)
    (moved : (q : ℕ) → q < length bytes → hb q ≡ slice_index bytes q) where
  -- whether an entry is kept
  abbrev kept : ℕ → Bool
  kept e = not (is_dropped version_2 f e)

  -- the 64 bytes of an entry that is
  abbrev wide : ℕ → List ℕ
  wide e = take 64 (drop (64 * kept_of f e) bytes)

  -- there are more entries before a later one
  pub kept_less : (e d : ℕ) → e < d → is_dropped version_2 f e ≡ false → kept_of f e < kept_of f d
  kept_less e d h used =
      let one : one_if (kept e) ≡ 1 = ap (λ b. one_if (not b)) used in
      let next = sum_next (λ e. one_if (kept e)) e in
      let most = sum_front (λ e. one_if (kept e)) (e + 1) d (omega arith) in
      omega arith

  -- they are read in the new directory
  pub read : (e : ℕ) → e < count → is_dropped version_2 f e ≡ false → (a : ℕ) → a < 64 → slice_index (wide e) a ≡ hb (64 * kept_of f e + a)
  read e h used a l =
      let size = entries.size in
      let less = kept_less e count h used in
      get_or-take 64 (drop (64 * kept_of f e) bytes) a 0 l ∙ get_or-drop (64 * kept_of f e) bytes a 0
      ∙ sym (moved (64 * kept_of f e + a) (omega arith))

  -- the inode number of such an entry
  pub number_kept : (e : ℕ) → e < count → is_dropped version_2 f e ≡ false
      → nodes_2.entry_inode version_2 f e ≡ nodes_3.entry_inode hb (kept_of f e)
  number_kept e h used = number_same f hb e (kept_of f e) (wide e) (wide e) (entries.each e h used) (read e h used) refl

  -- its name
  pub name_kept : (e : ℕ) → e < count → is_dropped version_2 f e ≡ false
      → nodes_2.entry_name version_2 f e ≡ nodes_3.entry_name hb (kept_of f e)
  name_kept e h used = name_same f hb e (kept_of f e) (wide e) (wide e) (entries.each e h used) (read e h used) refl

  -- the first two are kept
  pub kept_two : (j : ℕ) → kept_of f (j + 2) ≡ count_below (λ e. kept (e + 2)) j + 2
  kept_two j = two_first kept j refl refl

  pub kept_one : kept_of f 1 ≡ 1
  unfolding sum_below
  kept_one = refl

  -- the names are the same
  pub names_kept : (j : ℕ) → j + 2 ≤ count → nodes_2.names_in version_2 f j ≡ nodes_3.names_in hb (kept_of f (j + 2) - 2)
  names_kept zero h =
      let two = kept_two 0 in
      let none : count_below (λ e. kept (e + 2)) 0 ≡ 0 = no_sum (λ e. one_if (kept (e + 2))) in
      none_yet f hb ∙ ap (nodes_3.names_in hb) (let e : 0 ≡ kept_of f (0 + 2) - 2 = omega arith in e)
  names_kept (suc j) h =
      let before = names_kept j (omega arith) in
      let next = sum_next (λ e. one_if (kept e)) (j + 2) in
      let same : suc j + 2 ≡ j + 2 + 1 = omega arith in
      let all : kept_of f (suc j + 2) ≡ kept_of f (j + 2 + 1) = ap (kept_of f) same in
      let two = kept_two j in
      elim (cases_Bool (is_dropped version_2 f (j + 2))) [
        | inl free ↦
            let none : one_if (kept (j + 2)) ≡ 0 = ap (λ b. one_if (not b)) free in
            one_free f j free ∙ before ∙ ap (nodes_3.names_in hb) (let e : kept_of f (j + 2) - 2 ≡ kept_of f (suc j + 2) - 2
            = omega arith in e)
        | inr used ↦
            let one : one_if (kept (j + 2)) ≡ 1 = ap (λ b. one_if (not b)) used in
            let back : kept_of f (j + 2) ≡ kept_of f (j + 2) - 2 + 2 = omega arith in
            one_more f hb j (kept_of f (j + 2) - 2) used
            (name_kept (j + 2) (omega arith) used ∙ ap (nodes_3.entry_name hb) back)
            (number_kept (j + 2) (omega arith) used ∙ ap (nodes_3.entry_inode hb) back) before
            ∙ ap (nodes_3.names_in hb) (let e : suc (kept_of f (j + 2) - 2) ≡ kept_of f (suc j + 2) - 2 = omega arith in e)
      ]
