use Rattle.std.specs.Prelude.{◌≡◌, ◌≢◌, ◌<◌, ℕ, Some, slice_get}
use Rattle.records.specs.Session.{SessionState}
use Rattle.mount_service.proofs.sessions.place_of.Given as goal

-- no session before this place has the number
abbrev pub invariant-loop-place : goal.invariant-loop-place
invariant-loop-place g l =
    (i : ℕ) (it : SessionState) → i < l.place → slice_get l.sessions i ≡ Some it → it.knows.number ≢ l.number
