-- How calls on volumes follow each other.
use Rattle.std.proofs.Common.{◌≡◌, sym, ap, subst, ◌∙◌}
use Rattle.std.specs.Prelude.{Result, Err, IsErrAnd}
use Rattle.std.proofs.lemmas.Result.{err_from_is_err_and}
use Rattle.layout.specs.declared.Geometry.{Geometry}
use Rattle.volume.specs.Reading.{Disk}
use Rattle.volume.specs.Pieces.{Pieces, pieces}
use Rattle.block_store.specs.declared.Halt.{Halt}
use Rattle.block_store.specs.declared.Halt.TheVariants as halt
use Rattle.block_store.specs.declared.Cut.{Cut}
use Rattle.block_store.specs.Halts.{Ends, cut_off}
use Rattle.block_store.specs.Volume.{Alters}
use Rattle.block_store.specs.World.{World, IsWorld, Turns, Reads}
use Rattle.block_store.proofs.Turns.{turns_then, reads_then}

-- a call that is left because one that it made wasn't well
pub ends_exit : {X Y : Type 0} (s : Result Y Halt) (h : Halt) (P : X → Type 0) (Q : Y → Type 0) (S T : Type 0)
    → IsErrAnd s (λ y. y ≡ h) → (T → S) → Ends (Err h) P S → Ends s Q T
ends_exit s h P Q S T left k p = let e = err_from_is_err_and s left in subst (λ y. Ends y Q T) (sym (e.1 ∙ ap (λ y. Err y) e.2)) (by h p)
  where
    by : (h : Halt) → Ends (Err h) P S → Ends (Err h) Q T
    by (halt.Cut c) p = tt
    by halt.Unsound p = λ t. p (k t)

-- a call that is left because one on blocks was cut
pub ends_cut_exit : {Y : Type 0} (s : Result Y Halt) (c : Cut) (Q : Y → Type 0) (T : Type 0) → IsErrAnd s (λ y. y ≡ cut_off c) → Ends s Q T
ends_cut_exit s c Q T left = let e = err_from_is_err_and s left in subst (λ y. Ends y Q T) (sym (e.1 ∙ ap (λ y. Err y) e.2)) tt

-- pieces that were changed, changed again
pub alters_over : (g : Geometry) (F : Pieces → Pieces) (u : Pieces) (d e f : Disk) → Alters g u d e → Alters g (F (pieces g e)) e f → Alters g (F u) d f
alters_over g F u d e f x y = record { pieces = y.pieces ∙ ap F x.pieces; head = λ b h. y.head b h ∙ x.head b h }

-- pieces that were read and changed
pub alters_read : (g : Geometry) (F : Pieces → Pieces) (d e f : Disk) → e ≡ d → Alters g (F (pieces g e)) e f → Alters g (F (pieces g d)) d f
alters_read g F d e f same y = subst (λ (x : Disk). Alters g (F (pieces g x)) x f) same y

-- three calls
pub turns_three : {B : Type 0} (w : World B) → IsWorld w → (a b c e : B) (R S T U : Disk → Disk → Type 0) → ((d m f h : Disk) → R d m → S m f → T f h → U d h)
    → Turns w a b R → Turns w b c S → Turns w c e T → Turns w a e U
turns_three w k a b c e R S T U all x y z =
    turns_then w k a c e (λ d f. (m : Disk) × R d m × S m f) T U (λ d f h p t. all d p.0 f h p.1 p.2 t)
    (turns_then w k a b c R S (λ d f. (m : Disk) × R d m × S m f) (λ d m f r s. (m, r, s)) x y) z

-- three reads
pub reads_three : {B : Type 0} (w : World B) → IsWorld w → (a b c e : B) (P Q R S : Disk → Type 0) → ((d : Disk) → P d → Q d → R d → S d)
    → Reads w a b P → Reads w b c Q → Reads w c e R → Reads w a e S
reads_three w k a b c e P Q R S all x y z =
    reads_then w k a c e (λ d. P d × Q d) R S (λ d p r. all d p.0 p.1 r) (reads_then w k a b c P Q (λ d. P d × Q d) (λ d p q. (p, q)) x y) z
