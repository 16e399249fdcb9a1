-- Counting names step by step.
use Rattle.std.proofs.Common.{◌≡◌, ◌≢◌, ◌<◌, ◌≤◌, ◌+◌, ◌-◌, ℕ, zero, suc, List, length, set, get_or, slice_index, Bool, true, false, refl, sym, ap, subst, ◌∙◌, cond, arith, add-one}
use mathlib.Core.Logic.{inl, inr}
use Rattle.std.specs.Prelude.{min, ◌==◌}
use Rattle.std.proofs.lemmas.Bool.{cases_eq, cases_lt, cond-true, cond-false, eq-eqb, ne_eqb}
use Rattle.std.proofs.lemmas.List.{length-set, get_or-set_same, get_or-set_other, set_past}
use Rattle.lemmas.specs.Sums.{sum_below, count_below, one_if}
use Rattle.fsck.specs.Named.{AreNamedMore}

-- nothing more
pub named_none : (n : ℕ) (more : ℕ → ℕ) (a b : List ℕ) → ((m : ℕ) → slice_index a m ≤ 32768) → ((m : ℕ) → more m ≡ 0) → AreNamedMore n more a b a b
named_none n more a b most none = record {
  named_size = refl;
  namer_size = refl;
  counted = λ m h. omega (arith, most m, none m);
  noted = λ m h some. absurd (omega (arith, none m));
  kept = λ m h _. refl;
}

-- one count and another of the same directory
pub named_more : (n : ℕ) (f h both : ℕ → ℕ) (a x b y c z : List ℕ) → ((m : ℕ) → both m ≡ f m + h m)
    → AreNamedMore n f a x b y → AreNamedMore n h b y c z → AreNamedMore n both a x c z
named_more n f h both a x b y c z sum first second = record {
  named_size = second.named_size ∙ first.named_size;
  namer_size = second.namer_size ∙ first.namer_size;
  counted = λ m l. let inside : m < length b = omega (arith, first.named_size) in omega (arith, first.counted m l, second.counted m inside, sum m);
  noted = λ m l some.
      let inside : m < length b = omega (arith, first.named_size) in
      elim (cases_lt 0 (h m)) [
        | inl now ↦ second.noted m inside now
        | inr none ↦ second.kept m inside (omega arith) ∙ first.noted m l (omega (arith, sum m))
      ];
  kept = λ m l none.
      let inside : m < length b = omega (arith, first.named_size) in
      let all = sum m in
      second.kept m inside (omega arith) ∙ first.kept m l (omega arith);
}

-- the same count
pub named_same : (n : ℕ) (f h : ℕ → ℕ) (a x b y : List ℕ) → ((m : ℕ) → h m ≡ f m) → AreNamedMore n f a x b y → AreNamedMore n h a x b y
named_same n f h a x b y same named = record {
  named_size = named.named_size;
  namer_size = named.namer_size;
  counted = λ m l. omega (arith, named.counted m l, same m);
  noted = λ m l some. named.noted m l (omega (arith, same m));
  kept = λ m l none. named.kept m l (sym (same m) ∙ none);
}

-- one name
pub named_one : (n place count : ℕ) (a x : List ℕ) → place < length a → length x ≡ length a → count ≡ min 32768 (get_or a place 0 + 1)
    → ((m : ℕ) → slice_index a m ≤ 32768) → AreNamedMore n (λ k. one_if (place == k)) a x (set a place count) (set x place n)
named_one n place count a x h sizes is most = record {
  named_size = length-set a place count;
  namer_size = length-set x place n;
  counted = λ m l. elim (cases_eq place m) [
    | inl e ↦
        let one : one_if (place == m) ≡ 1 = ap one_if (eq-eqb place m e) in
        let there : get_or (set a place count) m 0 ≡ count = ap (λ k. get_or (set a place count) k 0) (sym e) ∙ get_or-set_same a place count 0 h in
        let same : get_or a place 0 ≡ get_or a m 0 = ap (λ k. get_or a k 0) e in
        omega arith
    | inr d ↦
        let none : one_if (place == m) ≡ 0 = ap one_if (ne_eqb place m d) in
        let there = get_or-set_other a place m count 0 (λ e. d (sym e)) in
        let low = most m in
        omega arith
  ];
  noted = λ m l some. elim (cases_eq place m) [
    | inl e ↦ ap (λ k. get_or (set x place n) k 0) (sym e) ∙ get_or-set_same x place n 0 (omega arith)
    | inr d ↦ let none : one_if (place == m) ≡ 0 = ap one_if (ne_eqb place m d) in absurd (omega arith)
  ];
  kept = λ m l none. elim (cases_eq place m) [
    | inl e ↦ let one : one_if (place == m) ≡ 1 = ap one_if (eq-eqb place m e) in absurd (omega arith)
    | inr d ↦ get_or-set_other x place m n 0 (λ e. d (sym e))
  ];
}

-- a name of no inode
pub named_past : (n place : ℕ) (a x : List ℕ) → length a ≤ place → ((m : ℕ) → slice_index a m ≤ 32768) → AreNamedMore n (λ k. one_if (place == k)) a x a x
named_past n place a x far most = record {
  named_size = refl;
  namer_size = refl;
  counted = λ m l. let none : one_if (place == m) ≡ 0 = ap one_if (ne_eqb place m (λ e. absurd (omega arith))) in omega (arith, most m);
  noted = λ m l some. let none : one_if (place == m) ≡ 0 = ap one_if (ne_eqb place m (λ e. absurd (omega arith))) in absurd (omega arith);
  kept = λ m l _. refl;
}

-- the counts stay small
pub most_one : (place count : ℕ) (a : List ℕ) → count ≤ 32768 → ((m : ℕ) → slice_index a m ≤ 32768) → (m : ℕ) → slice_index (set a place count) m ≤ 32768
most_one place count a low most m = elim (cases_lt place (length a)) [
  | inl h ↦ elim (cases_eq m place) [
    | inl e ↦ let there : get_or (set a place count) m 0 ≡ count = ap (λ k. get_or (set a place count) k 0) e ∙ get_or-set_same a place count 0 h in omega arith
    | inr d ↦ let there = get_or-set_other a place m count 0 d in omega (arith, most m)
  ]
  | inr far ↦ let same = ap (λ xs. get_or xs m 0) (set_past a place count far) in omega (arith, most m)
]

-- one more
pub sum_more : (f : ℕ → ℕ) (n : ℕ) → sum_below f (n + 1) ≡ sum_below f n + f n
unfolding sum_below
sum_more f n = ap (sum_below f) (add-one n)

-- none
pub no_sum : (f : ℕ → ℕ) → sum_below f 0 ≡ 0
unfolding sum_below
no_sum f = refl
