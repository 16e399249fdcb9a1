-- Looking for an entry from the front of a list.
use Rattle.std.proofs.Common.{◌≡◌, ℕ, suc, zero, ◌+◌, ◌<◌, ◌≤◌, List, [], ◌∷◌, length, take, get_or, Bool, true, false, cond, refl, sym, ◌∙◌, ap, arith, Option, Some, None}
use Rattle.std.proofs.lemmas.Iterator.Adapters.{position_from-zero}
use Rattle.std.specs.List.{position_from}
use Rattle.std.specs.Prelude.{position}
use Rattle.reissue.specs.declared.pending.Pending.{Pending}

-- nothing stands only where the test fails
cond_none : (b : Bool) (n : ℕ) (o : Option ℕ) → cond b (Some n) o ≡ None → (b ≡ false) × (o ≡ None)
cond_none true n o e = cc
cond_none false n o e = (refl, e)

-- none so far, but the next
here : (test : Pending → Bool) (n : ℕ) (xs : List Pending) (i w : ℕ) (d : Pending) → i < w → w ≤ length xs
    → position_from test n (take i xs) ≡ None → test (get_or xs i d) ≡ true → position_from test n (take w xs) ≡ Some (n + i)
here test n [] i w d lt le e f = absurd (omega arith)
here test n (x ∷ xs) zero (suc w) d lt le e f = rw f (ap (λ (k : ℕ). Some k) (omega arith))
here test n (x ∷ xs) zero zero d lt le e f = absurd (omega arith)
here test n (x ∷ xs) (suc i) zero d lt le e f = absurd (omega arith)
here test n (x ∷ xs) (suc i) (suc w) d lt le e f =
    let h = cond_none (test x) n (position_from test (n + 1) (take i xs)) e in
    rw h.0 (here test (n + 1) xs i w d (omega arith) (omega arith) h.1 f ∙ ap (λ (k : ℕ). Some k) (omega arith))

-- the first that passes, among the leading ones
pub position_here : (test : Pending → Bool) (xs : List Pending) (i w : ℕ) (d : Pending) → i < w → w ≤ length xs
    → position test (take i xs) ≡ None → test (get_or xs i d) ≡ true → position test (take w xs) ≡ Some i
position_here test xs i w d lt le e f =
    position_from-zero test (take w xs) ∙ here test 0 xs i w d lt le (sym (position_from-zero test (take i xs)) ∙ e) f
    ∙ ap (λ (k : ℕ). Some k) (omega arith)

-- the one that is found passes, counted from n on
passes : (test : Pending → Bool) (n : ℕ) (xs : List Pending) (w at : ℕ) (d : Pending) → position_from test n (take w xs) ≡ Some at
    → (i : ℕ) × (at ≡ n + i) × (test (get_or xs i d) ≡ true)
passes test n [] zero at d e = cc
passes test n [] (suc w) at d e = cc
passes test n (x ∷ xs) zero at d e = cc
passes test n (x ∷ xs) (suc w) at d e = by (λ h. passes test (n + 1) xs w at d h) (test x) refl e where
  by : (position_from test (n + 1) (take w xs) ≡ Some at → (i : ℕ) × (at ≡ n + 1 + i) × (test (get_or xs i d) ≡ true))
      → (b : Bool) → test x ≡ b → cond b (Some n) (position_from test (n + 1) (take w xs)) ≡ Some at
      → (i : ℕ) × (at ≡ n + i) × (test (get_or (x ∷ xs) i d) ≡ true)
  by more true t h = let same : n ≡ at = cc in (0, omega arith, t)
  by more false t h = let r = more h in (suc r.0, omega (arith, r.1), r.2)

-- the one that is found passes
pub position_passes : (test : Pending → Bool) (xs : List Pending) (w at : ℕ) (d : Pending) → position test (take w xs) ≡ Some at
    → test (get_or xs at d) ≡ true
position_passes test xs w at d e =
    let r = passes test 0 xs w at d (sym (position_from-zero test (take w xs)) ∙ e) in
    let same : at ≡ r.0 = omega (arith, r.1) in
    rw same r.2
