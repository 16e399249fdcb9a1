-- What is said of a put at its ok is said at the ok that it is answered.
use Rattle.std.proofs.Common.{◌≡◌, subst, sym}
use Rattle.std.specs.Prelude.{Result, Ok, Err, IfErr, OnOk}

pub at_answer : {E F : Type 0} (P : Type 0) (errno : E → F) (put : Result (Unit {0}) E) (answer : Result (Unit {0}) F)
    → OnOk put (answer ≡ Ok tt) → IfErr put (λ error. answer ≡ Err (errno error)) → OnOk put P → OnOk answer P
at_answer P errno (Ok done) answer same other p = subst (λ a. OnOk a P) (sym same) p
at_answer P errno (Err error) answer same other p = subst (λ a. OnOk a P) (sym other) tt
