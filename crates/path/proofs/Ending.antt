-- How calls on a tree follow each other.
use Rattle.std.proofs.Common.{◌≡◌, sym, ap, subst, ◌∙◌}
use Rattle.std.specs.Prelude.{Result, Ok, Err, IsErrAnd}
use Rattle.std.proofs.lemmas.Result.{err_from_is_err_and}
use Rattle.errno.specs.declared.Errno.{Errno}
use Rattle.block_store.specs.declared.Cut.{Cut}
use Rattle.block_store.specs.declared.Halt.{Halt}
use Rattle.block_store.specs.declared.Halt.TheVariants as halt
use Rattle.block_store.specs.Halts.{Ends, cut_off}
use Rattle.path.specs.declared.stop.Stop.{Stop}
use Rattle.path.specs.declared.stop.Stop.TheVariants as stop
use Rattle.path.specs.Stops.{Answers, halted}

-- what follows of what was answered
pub answers_as : {X : Type 0} (s : Result X Stop) (P Q : Result X Errno → Type 0) → ((r : Result X Errno) → P r → Q r) → Answers s P → Answers s Q
answers_as (Ok x) P Q h p = h (Ok x) p
answers_as (Err (stop.Refused e)) P Q h p = h (Err e) p
answers_as (Err (stop.Halted (halt.Cut c))) P Q h p = tt
answers_as (Err (stop.Halted halt.Unsound)) P Q h p = p

-- a call that is left because one that it made ended early
pub answers_exit : {X Y : Type 0} (s : Result Y Stop) (why : Stop) (P : Result X Errno → Type 0) (Q : Result Y Errno → Type 0)
    → IsErrAnd s (λ y. y ≡ why) → ((e : Errno) → P (Err e) → Q (Err e)) → Answers (Err why) P → Answers s Q
answers_exit s why P Q left h p = let e = err_from_is_err_and s left in subst (λ y. Answers y Q) (sym (e.1 ∙ ap (λ y. Err y) e.2)) (by why p)
  where
    by : (why : Stop) → Answers (Err why) P → Answers (Err why) Q
    by (stop.Refused e) p = h e p
    by (stop.Halted (halt.Cut c)) p = tt
    by (stop.Halted halt.Unsound) p = p

-- nothing is said of a call that was cut
pub answers_cut : {Y : Type 0} (s : Result Y Stop) (c : Cut) (Q : Result Y Errno → Type 0) → IsErrAnd s (λ y. y ≡ halted (cut_off c)) → Answers s Q
answers_cut s c Q left = let e = err_from_is_err_and s left in subst (λ y. Answers y Q) (sym (e.1 ∙ ap (λ y. Err y) e.2)) tt

-- and one that is left because a call on the volume was halted says what that did
pub answers_halted : {X Y : Type 0} (s : Result Y Stop) (h : Halt) (P : X → Type 0) (S : Type 0) (Q : Result Y Errno → Type 0)
    → IsErrAnd s (λ y. y ≡ halted h) → S → Ends {X = X} (Err h) P S → Answers s Q
answers_halted {X = X} s h P S Q left sound ends = let e = err_from_is_err_and s left in
    subst (λ y. Answers y Q) (sym (e.1 ∙ ap (λ y. Err y) e.2)) (by h ends)
  where
    by : (h : Halt) → Ends {X = X} (Err h) P S → Answers (Err (halted h)) Q
    by (halt.Cut c) ends = tt
    by halt.Unsound ends = ends sound
