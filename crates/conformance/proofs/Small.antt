-- Lists, tests and numbers.
use Rattle.std.proofs.Common.{◌≡◌, ℕ, List, [], ◌∷◌, ◌++◌, Bool, true, false, refl, sym, ap, subst, arith, ◌⊎◌, inl, inr}
use Rattle.std.proofs.lemmas.Bool.Decides.{nat_tests}
use Rattle.std.specs.Prelude.{◌&&◌, ◌||◌, ◌==◌}
use Rattle.message.specs.declared.BlockRequest.{BlockRequest}
use Rattle.records.specs.Open.{IsIn}
use Rattle.schedule.specs.Groups.{Each}

pub number_is : (n m : ℕ) → (n == m) ≡ true → n ≡ m
number_is n m h = grind (arith, nat_tests, h)

pub none_more : {A : Type 0} (xs : List A) → xs ≡ xs ++ []
none_more [] = refl
none_more {A = A} (x ∷ xs) = ap (λ (l : List A). x ∷ l) (none_more xs)

pub each_push : {A : Type 0} (P : A → Type 0) (xs : List A) (x : A) → P x → Each P xs → Each P (xs ++ x ∷ [])
each_push P [] x is h = (is, tt)
each_push P (y ∷ xs) x is h = (h.0, each_push P xs x is h.1)

pub each_on : {A : Type 0} (P Q : A → Type 0) (xs : List A) → ((x : A) → P x → Q x) → Each P xs → Each Q xs
each_on P Q [] on h = tt
each_on P Q (x ∷ xs) on h = (on x h.0, each_on P Q xs on h.1)

pub each_with : {A : Type 0} (P Q R : A → Type 0) (xs : List A) → ((x : A) → P x → Q x → R x) → Each P xs → Each Q xs → Each R xs
each_with P Q R [] on p q = tt
each_with P Q R (x ∷ xs) on p q = (on x p.0 q.0, each_with P Q R xs on p.1 q.1)

pub each_in : (P : BlockRequest → Type 0) (r : BlockRequest) (rs : List BlockRequest) → IsIn r rs → Each P rs → P r
each_in P r [] is h = absurd is
each_in P r (q ∷ rs) (inl e) h = subst (λ (x : BlockRequest). P x) (sym e) h.0
each_in P r (q ∷ rs) (inr is) h = each_in P r rs is h.1
