-- Where directories stand, and link counts.
use Rattle.std.proofs.Common.{◌≡◌, ◌≢◌, ◌<◌, ◌≤◌, ◌+◌, ℕ, List, slice_index, Bool, true, false, refl, sym, ap, subst, ◌∙◌, cond, arith}
use mathlib.Core.Logic.{inl, inr}
use Rattle.std.specs.Prelude.{min, not, ◌&&◌, ◌||◌, ◌==◌, nat_lt}
use Rattle.std.proofs.lemmas.Bool.{cases_eq, cases_lt, cases_Bool, cond-true, cond-false, eq-eqb, ne_eqb, lt-ltb}
use Rattle.std.proofs.lemmas.Bool.{le-ltb, and_parts, or_left, or_right}
use Rattle.lemmas.specs.Sums.{one_if}
use Rattle.tree.specs.Tree.{most_links}
use Rattle.volume.specs.Nodes.{is_marked}
use Rattle.volume.specs.Entries.{is_directory_inode}
use Rattle.fsck.specs.Entries.{target_at}
use Rattle.fsck.specs.Findings.{names_in_of, all_names_of, is_reached, is_parent, is_misplaced, links_of}
use Rattle.fsck.specs.Findings.{has_bad_links}
use Rattle.volume.proofs.Sums.{sum_same}
use Rattle.image.specs.declared.Image.{Image}
use Rattle.image.proofs.Contents.{g, v, inside}
use Rattle.fsck.specs.Form.{EntryForm}
use Rattle.fsck.specs.Named.{AreNamed}

module _ (form : EntryForm) (i : Image) where
  -- who names is a directory
  names_low : (m n : ℕ) → 0 < names_in_of form (g i) (v i) m n → m < (g i).inodes + 1
  names_low m n some = elim (cases_Bool (is_directory_inode (g i) (v i) m)) [
    | inl is ↦ inside i m (and_parts (is_marked (g i) (v i) m) _ is).0
    | inr out ↦ let none : names_in_of form (g i) (v i) m n ≡ 0 = cond-false (is_directory_inode (g i) (v i) m) _ 0 out in
        absurd (omega arith)
  ]

  module _ (named namer : List ℕ) (are : AreNamed form i named namer) (n : ℕ) (low : n < (g i).inodes + 1) where
    -- the parent of a directory that is named once is who names it
    pub home_is : all_names_of form (g i) (v i) n ≡ one_if (not (n == 1)) → (m : ℕ)
        → (cond (n == 1) (m == 1) (m == slice_index namer n)) ≡ is_parent form (g i) (v i) n m
    home_is once m = elim (cases_eq n 1) [
      | inl e ↦ let t = eq-eqb n 1 e in cond-true (n == 1) (m == 1) _ t ∙ sym (cond-true (n == 1) (m == 1) _ t)
      | inr d ↦
          let t = ne_eqb n 1 d in
          let one : all_names_of form (g i) (v i) n ≡ 1 = once ∙ ap (λ b. one_if (not b)) t in
          let p = slice_index namer n in
          let some = are.noted n low (omega arith) in
          cond-false (n == 1) (m == 1) (m == p) t ∙ elim (cases_eq m p) [
            | inl e ↦
                let P : ℕ → Type 0 = λ k. 0 < names_in_of form (g i) (v i) k n in
                eq-eqb m p e ∙ sym (lt-ltb 0 (names_in_of form (g i) (v i) m n) (subst P (sym e) some))
            | inr other ↦ ne_eqb m p other ∙ sym (elim (cases_lt 0 (names_in_of form (g i) (v i) m n)) [
              | inl more ↦ absurd (other (sum_same (λ k. names_in_of form (g i) (v i) k n) ((g i).inodes + 1) m p (omega arith)
                  (names_low m n more) (names_low p n some) more some))
              | inr none ↦ le-ltb 0 (names_in_of form (g i) (v i) m n) none
            ])
          ] ∙ sym (cond-false (n == 1) (m == 1) (nat_lt 0 (names_in_of form (g i) (v i) m n)) t)
    ]

    -- the three ways to be misplaced, and none of them
    module _ (directory : is_directory_inode (g i) (v i) n ≡ true) where
      -- it isn't reached
      pub unreached : is_reached form (g i) (v i) (g i).inodes n ≡ false → true ≡ is_misplaced form (g i) (v i) n
      unreached out =
          let a = not (is_reached form (g i) (v i) (g i).inodes n) in
          let b = not (all_names_of form (g i) (v i) n == one_if (not (n == 1))) in
          let c = not (is_parent form (g i) (v i) n (target_at form (g i) (v i) n 1)) in
          sym (ap (λ d. d && (a || b || c)) directory ∙ or_left (a || b) c (or_left a b (ap not out)))

      -- it is named other than once
      pub not_once : all_names_of form (g i) (v i) n ≢ one_if (not (n == 1)) → true ≡ is_misplaced form (g i) (v i) n
      not_once other =
          let a = not (is_reached form (g i) (v i) (g i).inodes n) in
          let b = not (all_names_of form (g i) (v i) n == one_if (not (n == 1))) in
          let c = not (is_parent form (g i) (v i) n (target_at form (g i) (v i) n 1)) in
          sym (ap (λ d. d && (a || b || c)) directory ∙ or_left (a || b) c
          (or_right a b (ap not (ne_eqb (all_names_of form (g i) (v i) n) (one_if (not (n == 1))) other))))

      -- else it stands where its .. says, or not
      pub by_home : is_reached form (g i) (v i) (g i).inodes n ≡ true → all_names_of form (g i) (v i) n ≡ one_if (not (n == 1))
          → (m : ℕ) → m ≡ target_at form (g i) (v i) n 1
          → not (cond (n == 1) (m == 1) (m == slice_index namer n)) ≡ is_misplaced form (g i) (v i) n
      by_home is once m e =
          let c = not (is_parent form (g i) (v i) n (target_at form (g i) (v i) n 1)) in
          ap not (home_is once m) ∙ ap (λ m. not (is_parent form (g i) (v i) n m)) e
          ∙ sym (λ j. directory j && (not (is j) || not (eq-eqb (all_names_of form (g i) (v i) n) (one_if (not (n == 1)))
          once j) || c))

  -- a small number is a count up to 32768 where it is the count
  pub capped : (a n : ℕ) → a ≤ 32767 → (a == min 32768 n) ≡ (a == n)
  capped a n low = elim (cases_eq a n) [
    | inl e ↦ eq-eqb a (min 32768 n) (omega arith) ∙ sym (eq-eqb a n e)
    | inr d ↦ ne_eqb a (min 32768 n) (λ e. d (omega arith)) ∙ sym (ne_eqb a n d)
  ]

  module _ (n : ℕ) (marked : is_marked (g i) (v i) n ≡ true) where
    -- the link count
    abbrev links : ℕ
    links = ((v i).inodes n).links

    -- none
    pub no_links : links ≡ 0 → true ≡ has_bad_links form (g i) (v i) n
    no_links e =
        let a = not (links == links_of form (g i) (v i) n) in
        sym (ap (λ d. d && (a || (links == 0) || nat_lt most_links links)) marked
        ∙ or_left (a || (links == 0)) (nat_lt most_links links) (or_right a (links == 0) (eq-eqb links 0 e)))

    -- too many
    pub many_links : most_links < links → true ≡ has_bad_links form (g i) (v i) n
    many_links h =
        let a = not (links == links_of form (g i) (v i) n) in
        sym (ap (λ d. d && (a || (links == 0) || nat_lt most_links links)) marked
        ∙ or_right (a || (links == 0)) (nat_lt most_links links) (lt-ltb most_links links h))

    -- else it is the count that it should be, or another
    pub other_links : links ≢ 0 → links ≤ most_links → (wanted : ℕ) → (links == wanted) ≡ (links == links_of form (g i) (v i) n)
        → not (links == wanted) ≡ has_bad_links form (g i) (v i) n
    other_links some few wanted same =
        let a = not (links == links_of form (g i) (v i) n) in
        let nothing : (b : Bool) → b ≡ b || false || false = λ b. elim b as (λ b. b ≡ b || false || false) [ true ↦ refl | false ↦ refl ] in
        ap not same ∙ nothing a ∙ sym (λ j. marked j && (a || ne_eqb links 0 some j || le-ltb most_links links few j))
