-- How the promises of a step follow from what it did.
use Rattle.std.specs.Prelude.{ℕ, ◌≡◌, List, Option, Some}
use Rattle.std.proofs.Common.{inl, inr, refl, sym, subst}
use Rattle.media.specs.Contents.{MediaState}
use Rattle.message.specs.declared.Kind.{Kind}
use Rattle.message.specs.declared.Kind.TheVariants.{Read, Write}
use Rattle.bdev.specs.declared.Step.{Step}
use Rattle.bdev.specs.DriverState.{DriverState, Work}
use Rattle.bdev.specs.Promises.{StepKeeps, StepsAt, MovesBytes, MovesSector, Says, BearsBytes}
use Rattle.modeldisk.specs.Transfer.{Transfers}

-- a step with a request in work that moved nothing
pub StepKeeps-still : (b : DriverState) (m : MediaState) (g : ℕ) (step : Step) (a : DriverState) (w : Work)
    → b.work ≡ Some w → a.ranges ≡ b.ranges → a.last ≡ b.last → Says b w step a → StepKeeps b m g step a m
StepKeeps-still b m g step a w is ranges last says = record {
  same_ranges = ranges;
  same_last = last;
  steps = let P : Option Work → Type 0 = λ o. StepsAt b o m g step a m in
      subst P (sym is) (w, inl (record { same_work = refl; same_media = refl }), says);
}

-- a step that moved a sector of the request in work
pub StepKeeps-moved : (b : DriverState) (m : MediaState) (g : ℕ) (step : Step) (a : DriverState) (m' : MediaState) (w w' : Work)
    → b.work ≡ Some w → a.ranges ≡ b.ranges → a.last ≡ b.last → MovesSector b w m g w' m' → Says b w' step a → StepKeeps b m g step a m'
StepKeeps-moved b m g step a m' w w' is ranges last moves says = record {
  same_ranges = ranges;
  same_last = last;
  steps = let P : Option Work → Type 0 = λ o. StepsAt b o m g step a m' in
      subst P (sym is) (w', inr moves, says);
}

-- what a transfer does is what the promise asks of a moved sector
pub moves_bytes : (kind : Kind) (w : Work) (m : MediaState) (g s k : ℕ) (w' : Work) (m' : MediaState)
    → Transfers kind w.request.bytes w.got m g s k w'.got m' → MovesBytes kind w m g s k w' m'
moves_bytes Read w m g s k w' m' h = h
moves_bytes Write w m g s k w' m' h = h.1

-- an answer with the bytes that a read has bears them
pub bears_own : (kind : Kind) (got : List ℕ) (n : ℕ) → BearsBytes kind got got n
bears_own Read got n = λ k less. refl
bears_own Write got n = tt
