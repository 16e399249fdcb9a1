-- Names in entries, and names that are the same.
use Rattle.std.proofs.Common.{◌≡◌, ◌<◌, ◌≤◌, ◌+◌, ◌*◌, ℕ, zero, suc, Bool, true, false, List, [], ◌∷◌, length, take, drop, get_or, refl, sym, ap, subst, ◌∙◌, arith, add-zero}
use Rattle.std.specs.Prelude.{◌==◌, if◌then◌else◌}
use Rattle.std.specs.Bool.{Decides}
use Rattle.std.specs.Ordering.{eq_by_cmp}
use Rattle.std.proofs.lemmas.Bool.{cond-true, cond-false, eq-eqb}
use Rattle.std.proofs.lemmas.List.{drop_more}
use Rattle.tree.specs.Names.{Name, name_cmp}
use Rattle.volume.proofs.Entries.{same_by_cmp, cmp_itself}
use Rattle.volume.specs.Nodes.{entry_name, text_in}

-- names compare as equal exactly where they are the same
pub same_decides : (x y : Name) → Decides (eq_by_cmp name_cmp x y) (x ≡ y)
same_decides x y = (same_by_cmp x y, λ e. ap (λ (z : Name). eq_by_cmp name_cmp x z) (sym e) ∙ cmp_itself x)

-- a text has at most so many bytes, and they stand there
pub text_stands : (xs : List ℕ) (m at : ℕ) → at + m ≤ length xs
    → (length (text_in (λ p. get_or xs p 0) m at) ≤ m)
    × (take (length (text_in (λ p. get_or xs p 0) m at)) (drop at xs) ≡ text_in (λ p. get_or xs p 0) m at)
text_stands xs zero at low = (omega arith, refl)
text_stands xs (suc m) at low =
    let within : at < length xs = omega (arith, low) in
    let rest : List ℕ = text_in (λ p. get_or xs p 0) m (suc at) in
    let behind = text_stands xs m (suc at) (omega (arith, low)) in
    let whole = stands m (get_or xs at 0 == 0) (get_or xs at 0) rest (drop (suc at) xs) behind.0 behind.1 in
    (whole.0, ap (take (length (text_in (λ p. get_or xs p 0) (suc m) at))) (drop_more xs at 0 within ∙ ap (λ (p : ℕ). get_or xs at 0 ∷ drop p xs) (one_on at)) ∙ whole.1)
  where
    stands : (m : ℕ) (b : Bool) (x : ℕ) (rest ys : List ℕ) → length rest ≤ m → take (length rest) ys ≡ rest
        → (length (if b then [] else (x ∷ rest)) ≤ suc m) × (take (length (if b then [] else (x ∷ rest))) (x ∷ ys) ≡ (if b then [] else (x ∷ rest)))
    stands m true x rest ys few same = (omega arith, refl)
    stands m false x rest ys few same = (omega (arith, few), ap (λ (l : List ℕ). x ∷ l) same)

    one_on : (a : ℕ) → a + 1 ≡ suc a
    one_on a = omega arith

-- so a name of an entry is short, and the bytes there begin with it
pub names_stand : (xs : List ℕ) (e : ℕ) (name : Name) → 64 * e + 64 ≤ length xs → name ≡ entry_name (λ p. get_or xs p 0) e
    → (length name ≤ 60) × (take (length name) (drop (64 * e + 4) xs) ≡ name)
names_stand xs e name low is =
    let there = text_stands xs 60 (64 * e + 4) (omega (arith, low)) in
    subst (λ (n : Name). (length n ≤ 60) × (take (length n) (drop (64 * e + 4) xs) ≡ n)) (sym is) there

-- the bytes before the first zero byte are the text
pub text_is : (xs : List ℕ) (m at n : ℕ) → at + m ≤ length xs → n ≤ m → ((j : ℕ) → j < n → (get_or xs (at + j) 0 == 0) ≡ false)
    → (n < m → get_or xs (at + n) 0 ≡ 0) → take n (drop at xs) ≡ text_in (λ p. get_or xs p 0) m at
text_is xs zero at zero low few before here = refl
text_is xs zero at (suc n) low few before here = absurd (omega (arith, few))
text_is xs (suc m) at zero low few before here =
    sym (cond-true (get_or xs at 0 == 0) [] _ (eq-eqb _ 0 (ap (λ (p : ℕ). get_or xs p 0) (sym (add-zero at)) ∙ here (omega arith))))
text_is xs (suc m) at (suc n) low few before here =
    let within : at < length xs = omega (arith, low) in
    ap (take (suc n)) (drop_more xs at 0 within)
    ∙ ap (λ (ys : List ℕ). get_or xs at 0 ∷ ys)
    (ap (λ (p : ℕ). take n (drop p xs)) (one_on at)
    ∙ text_is xs m (suc at) n (omega (arith, low)) (omega (arith, few)) (λ j l. ap (λ (p : ℕ). get_or xs p 0 == 0) (moved at j) ∙ before (suc j) (omega (arith, l)))
    (λ l. ap (λ (p : ℕ). get_or xs p 0) (moved at n) ∙ here (omega (arith, l))))
    ∙ sym (cond-false (get_or xs at 0 == 0) [] _ (ap (λ (p : ℕ). get_or xs p 0 == 0) (sym (add-zero at)) ∙ before zero (omega arith)))
  where
    one_on : (a : ℕ) → a + 1 ≡ suc a
    one_on a = omega arith

    moved : (a j : ℕ) → suc a + j ≡ a + suc j
    moved a j = omega arith
