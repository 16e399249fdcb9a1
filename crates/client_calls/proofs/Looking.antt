-- Client calls that only look.
use Rattle.std.proofs.Common.{◌≡◌, Bool, true, false, refl, sym, subst}
use Rattle.std.specs.Prelude.{IsTrue, not, ◌&&◌}
use Rattle.std.proofs.lemmas.Bool.{and_parts}
use Rattle.layout.specs.declared.Geometry.{Geometry}
use Rattle.tree.specs.declared.Who.{Who}
use Rattle.tree.specs.declared.Call.{Call}
use Rattle.tree.specs.Tree.{Tree}
use Rattle.volume.specs.Reading.{Disk}
use Rattle.volume.specs.Holds.{HoldsVolume}
use Rattle.records.specs.Settled.{only_looks}
use Rattle.descriptors.specs.Files.{Files, HasFiles}
use Rattle.block_store.specs.World.{World, Turns}
use Rattle.block_store.proofs.Turns.{turns_as}
use Rattle.client_calls.specs.Calls.{OnlyLooks}

module _ {B : Type 0} (w : World B) (g : Geometry) (who : Who) (f : Files) (a b : B) where
  -- a call that does nothing else
  pub it_looks : (call : Call) (R : Disk → Disk → Type 0) → Turns w a b R → w.looks a b → OnlyLooks w g who call f a b
  it_looks call R x looks = turns_as w a b R (λ d e. (t : Tree) → HoldsVolume g d t → HasFiles f t → IsTrue (only_looks t who call) → w.looks a b)
      (λ d e p t holds files only. looks) x

  -- a call of this kind, that looks where it is said to
  pub kind_looks : (k call : Call) → k ≡ call → (R : Disk → Disk → Type 0) → Turns w a b R
      → ((t : Tree) → IsTrue (only_looks t who call) → w.looks a b) → OnlyLooks w g who k f a b
  kind_looks k call kind R x looks = subst (λ (z : Call). OnlyLooks w g who z f a b) (sym kind)
      (turns_as w a b R (λ d e. (t : Tree) → HoldsVolume g d t → HasFiles f t → IsTrue (only_looks t who call) → w.looks a b)
      (λ d e p t holds files only. looks t only) x)

  -- and where its own clause says so
  pub kind_is : (k call : Call) → k ≡ call → OnlyLooks w g who call f a b → OnlyLooks w g who k f a b
  kind_is k call kind x = subst (λ (z : Call). OnlyLooks w g who z f a b) (sym kind) x

-- no call that isn't said to look
pub it_changes : {X : Type 0} → false ≡ true → X
it_changes e = absurd (subst said (sym e) tt)
  where
    said : Bool → Type 0
    said true = Unit {0}
    said false = ⊥

-- what isn't so
pub not_so : (b : Bool) → not b ≡ true → b ≡ false
not_so true e = it_changes e
not_so false e = refl

-- an open that makes and empties no file
pub no_make : (makes empties : Bool) → (not makes && not empties) ≡ true → makes ≡ false
no_make makes empties e = not_so makes (and_parts (not makes) (not empties) e).0

pub no_empty : (makes empties : Bool) → (not makes && not empties) ≡ true → empties ≡ false
no_empty makes empties e = not_so empties (and_parts (not makes) (not empties) e).1
