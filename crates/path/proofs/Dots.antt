-- Names of one and two bytes.
use Rattle.std.proofs.Common.{◌≡◌, ◌≢◌, ℕ, Bool, true, false, List, [], ◌∷◌, length, get_or, refl, arith, ap, ◌∙◌}
use Rattle.std.specs.Prelude.{◌==◌, ◌&&◌}
use Rattle.lemmas.proofs.Bools.{and_with_false}
use Rattle.tree.specs.Names.{same_name, dot, dot_dot}

-- a name of another length than one isn't .
pub no_dot : (xs : List ℕ) → length xs ≢ 1 → same_name xs dot ≡ false
no_dot [] h = refl
no_dot (x ∷ []) h = absurd (h refl)
no_dot (x ∷ y ∷ ys) h = and_with_false (x == 46)

-- nor of another than two ..
pub no_dot_dot : (xs : List ℕ) → length xs ≢ 2 → same_name xs dot_dot ≡ false
no_dot_dot [] h = refl
no_dot_dot (x ∷ []) h = and_with_false (x == 46)
no_dot_dot (x ∷ y ∷ []) h = absurd (h refl)
no_dot_dot (x ∷ y ∷ z ∷ zs) h = ap (λ (b : Bool). (x == 46) && b) (and_with_false (y == 46)) ∙ and_with_false (x == 46)

-- of two bytes, both are dots
pub two_dots : (xs : List ℕ) → length xs ≡ 2 → same_name xs dot_dot ≡ ((get_or xs 0 0 == 46) && ((get_or xs 1 0 == 46) && true))
two_dots [] h = absurd (omega (arith, h))
two_dots (x ∷ []) h = absurd (omega (arith, h))
two_dots (x ∷ y ∷ []) h = refl
two_dots (x ∷ y ∷ z ∷ zs) h = absurd (omega (arith, h))
