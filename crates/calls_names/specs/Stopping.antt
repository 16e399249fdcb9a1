-- What a body does that may stop early.
use Rattle.std.specs.Prelude.{Result, Ok, Err}
use Rattle.layout.specs.declared.Geometry.{Geometry}
use Rattle.tree.specs.Tree.{Tree}
use Rattle.tree.specs.Answers.{Answer, Effect, refused}
use Rattle.volume.specs.Reading.{Disk}
use Rattle.block_store.specs.declared.Halt.TheVariants as halt
use Rattle.path.specs.declared.stop.Stop.{Stop}
use Rattle.path.specs.declared.stop.Stop.TheVariants as stop
use Rattle.calls_attributes.specs.Does.{Does, IsHeld}

-- A body does this where it gives an answer or refuses, or it is cut off; that the volume isn't sound it says of none that holds a tree.
abbrev pub MeetsOrStops : {X : Type 0} → Geometry → (Tree → Effect) → (X → Answer) → Result X Stop
    → (Tree → Type 0) → (Tree → Type 0) → Disk → Disk → Type 0
MeetsOrStops g effect answer (Ok x) Before After d e = Does g effect (answer x) Before After d e
MeetsOrStops g effect answer (Err (stop.Refused errno)) Before After d e = Does g effect (refused errno) Before After d e
MeetsOrStops g effect answer (Err (stop.Halted (halt.Cut c))) Before After d e = Unit {0}
MeetsOrStops g effect answer (Err (stop.Halted halt.Unsound)) Before After d e = IsHeld g Before d → ⊥
