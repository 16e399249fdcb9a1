-- One sector of a request.
use Rattle.std.specs.Prelude.{ℕ, ◌≡◌, ◌≢◌, Bool, true, false, List}
use Rattle.media.specs.Contents.{MediaState, sector, written, accepts}
use Rattle.message.specs.declared.Kind.{Kind}
use Rattle.message.specs.declared.Kind.TheVariants.{Read, Write}
use Rattle.bdev.specs.DriverState.{chunk}

-- sector s is read into the k-th 512 bytes of what a read has, or gets the k-th 512 bytes of a write; g is the generation
abbrev pub Transfers : Kind → List ℕ → List ℕ → MediaState → ℕ → ℕ → ℕ → List ℕ → MediaState → Type 0
Transfers Read own got m g s k got' m' = (m' ≡ m) × (chunk k got' ≡ sector m s) × ((i : ℕ) → i ≢ k → chunk i got' ≡ chunk i got)
Transfers Write own got m g s k got' m' = (got' ≡ got) × (m' ≡ written m g s (chunk k own))

-- it is where the media accept it; else nothing changes
abbrev pub TransfersIf : Bool → Kind → List ℕ → List ℕ → MediaState → ℕ → ℕ → ℕ → List ℕ → MediaState → Type 0
TransfersIf true kind own got m g s k got' m' = (accepts m g s ≡ true) × Transfers kind own got m g s k got' m'
TransfersIf false kind own got m g s k got' m' = (accepts m g s ≡ false) × (got' ≡ got) × (m' ≡ m)
