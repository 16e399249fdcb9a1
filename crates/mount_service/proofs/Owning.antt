-- Which session of a connection made a call.
use Rattle.std.proofs.Common.{◌≡◌, ◌∙◌, ℕ, zero, suc, Bool, List, [], ◌∷◌, refl, subst, sym, ap}
use Rattle.std.specs.Prelude.{⊤, Option, Some, None, slice_get, slice_index_or, slice_set}
use Rattle.layout.specs.declared.Geometry.{Geometry}
use Rattle.tree.specs.declared.Call.{Call}
use Rattle.tree.specs.declared.Outcome.{Outcome}
use Rattle.records.specs.Marks.{Mark}
use Rattle.records.specs.Opening.{Opening}
use Rattle.records.specs.Session.{SessionState}
use Rattle.archive.specs.Behind.{Puts}
use Rattle.mount_service.specs.Spoken.{IsAnswered, IsOwnAnswer, Users, users}

or_else : {X : Type 0} → X → Option X → X
or_else d None = d
or_else d (Some x) = x

is_there : {X : Type 0} → Option X → Type 0
is_there None = ⊥
is_there (Some x) = ⊤

-- the item at a place is the one that an index leads to
pub found : {X : Type 0} (xs : List X) (i : ℕ) (d it : X) → slice_get xs i ≡ Some it → d ≡ slice_index_or xs i d → it ≡ d
unfolding is_there or_else
found [] i d it same value = absurd (subst is_there (sym same) tt)
found (x ∷ xs) zero d it same value = sym (ap (or_else d) same) ∙ sym value
found (x ∷ xs) (suc i) d it same value = found xs i d it same value

-- the session at this place, which an index leads to, made the call
pub own_answer : {A : Type 0} (puts : Puts A) (g : Geometry) (v : Opening) (sessions : List SessionState) (met : List Mark) (kept : Bool)
    (session now : ℕ) (call : Call) (outcome : Outcome) (place : ℕ) (given after : SessionState)
    → (it : SessionState) × (slice_get sessions place ≡ Some it) × (it.knows.number ≡ session)
    → given ≡ slice_index_or sessions place given → IsAnswered puts g v kept given now call outcome after
    → IsOwnAnswer puts g v (users sessions met kept) session now call outcome (users (slice_set sessions place after) met kept)
own_answer puts g v sessions met kept session now call outcome place given after (it, is, number) value answered = record {
  place = place;
  before = it;
  after = after;
  is = is;
  number = number;
  answered = subst (λ s. IsAnswered puts g v kept s now call outcome after) (sym (found sessions place given it is value)) answered;
  others = refl;
}
