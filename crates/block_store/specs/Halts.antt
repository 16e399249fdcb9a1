-- How a call on a volume ended.
use Rattle.std.specs.Prelude.{ℕ, Result, Ok, Err}
use Rattle.block_store.specs.declared.Cut.{Cut}
use Rattle.block_store.specs.declared.Cut.TheVariants as cut
use Rattle.block_store.specs.declared.Halt.{Halt}
use Rattle.block_store.specs.declared.Halt.TheVariants as halt
use Rattle.block_store.specs.World.{World}

-- why a call was cut
abbrev pub cut_number : Cut → ℕ
cut_number cut.Eio = 1
cut_number cut.LinkEnded = 2

-- a call that was cut for this
abbrev pub cut_off : Cut → Halt
cut_off c = halt.Cut c

-- a call that ended early was cut for this, or the volume isn't sound
abbrev pub IsHalt : {B : Type 0} → World B → B → Halt → Type 0
IsHalt w b (halt.Cut c) = w.over b c
IsHalt w b halt.Unsound = Unit {0}

-- how a call on a volume ended: well, as said; cut off; or the volume wasn't sound
abbrev pub Ends : {X : Type 0} → Result X Halt → (X → Type 0) → Type 0 → Type 0
Ends (Ok x) P S = P x
Ends (Err (halt.Cut c)) P S = Unit {0}
Ends (Err halt.Unsound) P S = S → ⊥
