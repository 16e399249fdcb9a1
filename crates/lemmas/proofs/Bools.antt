-- Truth values: conjunctions, disjunctions, negations.
use Rattle.std.proofs.Common.{◌≡◌, ◌⊎◌, Bool, true, false, ◌&&◌, ◌||◌, not, refl, sym, subst, inl, inr, T, ap, ◌∙◌}
use Rattle.std.proofs.Common.{Ordering, Less, Equal, Greater, is_eq}

pub and_left : (a b : Bool) → (a && b) ≡ true → a ≡ true
and_left true b h = refl
and_left false b h = cc

pub and_right : (a b : Bool) → (a && b) ≡ true → b ≡ true
and_right true b h = h
and_right false b h = cc

pub and_both : (a b : Bool) → a ≡ true → b ≡ true → (a && b) ≡ true
and_both true b h i = i
and_both false b h i = cc

pub or_left : (a b : Bool) → a ≡ true → (a || b) ≡ true
or_left true b h = refl
or_left false b h = cc

pub or_right : (a b : Bool) → b ≡ true → (a || b) ≡ true
or_right true b h = refl
or_right false b h = h

pub or_cases : (a b : Bool) → (a || b) ≡ true → (a ≡ true) ⊎ (b ≡ true)
or_cases true b h = inl refl
or_cases false b h = inr h

pub or_neither : (b c : Bool) → b ≡ false → c ≡ false → (b || c) ≡ false
or_neither true c h i = cc
or_neither false c h i = i

pub or_false_right : (a b : Bool) → (a || b) ≡ false → b ≡ false
or_false_right true b h = cc
or_false_right false b h = h

pub and_with_false : (b : Bool) → (b && false) ≡ false
and_with_false true = refl
and_with_false false = refl

pub and_false_by_right : (a b : Bool) → b ≡ false → (a && b) ≡ false
and_false_by_right true b h = h
and_false_by_right false b h = refl

pub and_false_right : (a b : Bool) → (a && b) ≡ false → a ≡ true → b ≡ false
and_false_right true b h i = h
and_false_right false b h i = cc

pub and_or_neither : (a b r : Bool) → b ≡ false → r ≡ false → ((a && b) || r) ≡ false
and_or_neither true b r h i = ap (λ (x : Bool). x || r) h ∙ i
and_or_neither false b r h i = i

pub not_false : (b : Bool) → not b ≡ false → b ≡ true
not_false true h = refl
not_false false h = sym h

pub is_false : (b : Bool) → (b ≡ true → ⊥) → b ≡ false
is_false true h = absurd (h refl)
is_false false h = refl

pub true_not_false : ◌≡◌ {A = Bool} true false → ⊥
true_not_false h = cc

pub false_not_true : false ≡ true → ⊥
false_not_true h = cc

pub from_clash : {X : Type 0} → true ≡ false → X
from_clash h = absurd (true_not_false h)

pub to_T : (b : Bool) → b ≡ true → T b
to_T b h = subst T (sym h) tt

pub from_T : (b : Bool) → T b → b ≡ true
from_T true h = refl
from_T false h = absurd h

pub is_equal : (r : Ordering) → is_eq r ≡ true → r ≡ Equal
is_equal Less h = absurd (false_not_true h)
is_equal Equal h = refl
is_equal Greater h = absurd (false_not_true h)
