-- Options and results.
use Rattle.std.proofs.Common.{◌≡◌, ℕ, Bool, true, false, cond, refl, Option, Some, None, Result, Ok, Err, IfOk}
use Rattle.std.specs.Prelude.{is_none}
use Rattle.lemmas.proofs.Bools.{false_not_true}

pub none_from : {A : Type 0} (o : Option A) → is_none o ≡ true → o ≡ None
none_from None h = refl
none_from (Some x) h = absurd (false_not_true h)

pub some_same : {X : Type 0} (x y : X) → Some x ≡ Some y → x ≡ y
some_same x y h = cc

pub ok_same : {A E : Type 0} {x y : A} → ◌≡◌ {A = Result A E} (Ok x) (Ok y) → x ≡ y
ok_same h = cc

pub if_ok : {A E : Type 0} (P Q : A → Type 0) (result : Result A E) → ((a : A) → P a → Q a) → IfOk result P → IfOk result Q
if_ok P Q (Ok a) f h = f a h
if_ok P Q (Err e) f h = tt

pub cond_some : (b : Bool) (m n : ℕ) → cond b (Some m) None ≡ Some n → (b ≡ true) × (m ≡ n)
cond_some true m n h = (refl, cc)
cond_some false m n h = cc

pub cond_none : {X Y : Type 0} (b : Bool) (x : X) (y : Y) (o : Option X) (p : Option Y) → (o ≡ None → p ≡ None)
    → cond b (Some x) o ≡ None → cond b (Some y) p ≡ None
cond_none true x y o p f h = cc
cond_none false x y o p f h = f h
