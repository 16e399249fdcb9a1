-- Drivers that are ready took nothing.
use Rattle.std.proofs.Common.{◌≡◌, ℕ, [], ◌∷◌, Bool, true, false}
use Rattle.std.proofs.lemmas.List.Elements.{All-head, All-tail}
use Rattle.std.specs.Prelude.{◌&&◌, ◌==◌, not, if◌then◌else◌, Option, Some, None}
use Rattle.bdev.specs.DriverState.{DriverState, range_of, range_while_fresh}
use Rattle.records.specs.Opening.{Opening}
use Rattle.synchronous_driver.specs.Inline.{IsReady}
use Rattle.conformance.specs.Took.{TookNothing}
use Rattle.conformance.specs.TookLaws.{ReadyAreNew}
use Rattle.conformance.proofs.Small.{number_is}

unused : (d : DriverState) (minor : ℕ) (range : ℕ × ℕ) → range_while_fresh d minor ≡ Some range → d.last ≡ 0
unused d minor range ready = number_is d.last 0 (by (d.last == 0) (not d.failed) (range_of d.ranges minor) ready) where
  by : (b c : Bool) (found : Option (ℕ × ℕ)) → (if b && c then found else None) ≡ Some range → b ≡ true
  by true c found h = cc
  by false c found h = cc

ready_new : (v : Opening) (d : DriverState) → IsReady v d → TookNothing d
ready_new v d ready = record { driver = ready.driver; unused = unused d v.minor (v.first, v.count) ready.ready }

pub ready_are_new : ReadyAreNew
ready_are_new v [] ready = tt
ready_are_new v (d ∷ supply) ready =
    (ready_new v d (All-head (IsReady v) d supply ready), ready_are_new v supply (All-tail (IsReady v) d supply ready))
