-- How bodies end.
use Rattle.std.proofs.Common.{◌≡◌, sym, ap, subst, ◌∙◌}
use Rattle.std.specs.Prelude.{Result, Err, IsErrAnd}
use Rattle.std.proofs.lemmas.Result.{err_from_is_err_and}
use Rattle.block_store.specs.declared.Halt.{Halt}
use Rattle.block_store.specs.declared.Halt.TheVariants as halt
use Rattle.block_store.specs.Halts.{Ends}

-- a call that is left because one that it made wasn't well
pub ends_exit : {X Y : Type 0} (s : Result Y Halt) (h : Halt) (P : X → Type 0) (Q : Y → Type 0) (S T : Type 0)
    → IsErrAnd s (λ y. y ≡ h) → (T → S) → Ends (Err h) P S → Ends s Q T
ends_exit s h P Q S T left k p = let e = err_from_is_err_and s left in subst (λ y. Ends y Q T) (sym (e.1 ∙ ap (λ y. Err y) e.2)) (by h p)
  where
    by : (h : Halt) → Ends (Err h) P S → Ends (Err h) Q T
    by (halt.Cut c) p = tt
    by halt.Unsound p = λ t. p (k t)
