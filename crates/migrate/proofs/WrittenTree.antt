-- The findings on names and links in a written volume are those in the old one.
use Rattle.std.proofs.Common.{◌≡◌, ◌<◌, ◌≤◌, ◌+◌, ◌-◌, ℕ, zero, suc, List, length, slice_index, Bool, true, false, refl, ap, ◌∙◌, arith}
use mathlib.Core.Logic.{inl, inr}
use Rattle.std.specs.Prelude.{not, ◌==◌, nat_le}
use Rattle.std.proofs.lemmas.Bool.{cases_Bool, eqb-true, and_parts}
use Rattle.lemmas.specs.Sums.{sum_below, count_below, one_if}
use Rattle.volume.specs.Nodes as nodes_3
use Rattle.volume.specs.Nodes.{file_byte, is_marked, is_directory_mode}
use Rattle.fsck.specs.Form.{version_2}
use Rattle.fsck.specs.Nodes as nodes_2
use Rattle.fsck.specs.Nodes.{entry_count_of, is_dropped}
use Rattle.migrate.specs.Written.{AreEntries, kept_of}
use Rattle.migrate.proofs.Laid.{sum_next}
use Rattle.migrate.proofs.WrittenEntries.{number_kept, kept_two}

-- what an entry that is free leads to
free_zero : (f : ℕ → ℕ) (e : ℕ) → is_dropped version_2 f e ≡ true → nodes_2.entry_inode version_2 f e ≡ 0
free_zero f e free = eqb-true (nodes_2.entry_inode version_2 f e) 0 (and_parts (nat_le 2 e) (nodes_2.entry_inode version_2 f e == 0) free).1

-- the entries past the first two that pass are as many, where a free one doesn't
pub count_kept : (f hb : ℕ → ℕ) (count : ℕ) (bytes : List ℕ) → AreEntries f count bytes
    → ((q : ℕ) → q < length bytes → hb q ≡ slice_index bytes q) → (q : ℕ → Bool) → q 0 ≡ false → (j : ℕ) → j + 2 ≤ count
    → count_below (λ e. q (nodes_2.entry_inode version_2 f (e + 2))) j
    ≡ count_below (λ e. q (nodes_3.entry_inode hb (e + 2))) (kept_of f (j + 2) - 2)
unfolding sum_below
count_kept f hb count bytes entries moved q none zero h =
    let two = kept_two f hb count bytes entries moved 0 in
    let nothing : count_below (λ e. not (is_dropped version_2 f (e + 2))) 0 ≡ 0 = refl in
    ap (count_below (λ e. q (nodes_3.entry_inode hb (e + 2)))) (let e : 0 ≡ kept_of f (0 + 2) - 2 = omega arith in e)
count_kept f hb count bytes entries moved q none (suc j) h =
    let before = count_kept f hb count bytes entries moved q none j (omega arith) in
    let next = sum_next (λ e. one_if (not (is_dropped version_2 f e))) (j + 2) in
    let same : suc j + 2 ≡ j + 2 + 1 = omega arith in
    let all : kept_of f (suc j + 2) ≡ kept_of f (j + 2 + 1) = ap (kept_of f) same in
    let two = kept_two f hb count bytes entries moved j in
    let new : ℕ → ℕ = count_below (λ e. q (nodes_3.entry_inode hb (e + 2))) in
    elim (cases_Bool (is_dropped version_2 f (j + 2))) [
      | inl free ↦
          let drops : one_if (not (is_dropped version_2 f (j + 2))) ≡ 0 = ap (λ b. one_if (not b)) free in
          let here : one_if (q (nodes_2.entry_inode version_2 f (j + 2))) ≡ 0
          = ap (λ t. one_if (q t)) (free_zero f (j + 2) free) ∙ ap one_if none in
          let there : new (kept_of f (suc j + 2) - 2) ≡ new (kept_of f (j + 2) - 2)
          = ap new (let e : kept_of f (suc j + 2) - 2 ≡ kept_of f (j + 2) - 2 = omega arith in e) in
          omega arith
      | inr used ↦
          let keeps : one_if (not (is_dropped version_2 f (j + 2))) ≡ 1 = ap (λ b. one_if (not b)) used in
          let k : ℕ = kept_of f (j + 2) - 2 in
          let back : kept_of f (j + 2) ≡ k + 2 = omega arith in
          let here : one_if (q (nodes_2.entry_inode version_2 f (j + 2))) ≡ one_if (q (nodes_3.entry_inode hb (k + 2)))
          = ap (λ t. one_if (q t)) (number_kept f hb count bytes entries moved (j + 2) (omega arith) used
          ∙ ap (nodes_3.entry_inode hb) back) in
          let there : new (kept_of f (suc j + 2) - 2) ≡ new (suc k)
          = ap new (let e : kept_of f (suc j + 2) - 2 ≡ suc k = omega arith in e) in
          omega arith
    ]
