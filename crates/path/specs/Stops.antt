-- How a call on a tree ended.
use Rattle.std.specs.Prelude.{Result, Ok, Err}
use Rattle.errno.specs.declared.Errno.{Errno}
use Rattle.block_store.specs.declared.Halt.{Halt}
use Rattle.block_store.specs.declared.Halt.TheVariants as halt
use Rattle.block_store.specs.World.{World}
use Rattle.block_store.specs.Halts.{IsHalt}
use Rattle.path.specs.declared.stop.Stop.{Stop}
use Rattle.path.specs.declared.stop.Stop.TheVariants as stop

-- a call that was refused for this
abbrev pub refused : Errno → Stop
refused e = stop.Refused e

-- a call that was halted for this
abbrev pub halted : Halt → Stop
halted h = stop.Halted h

-- a call that ended early was refused, or cut for this, or the volume isn't sound
abbrev pub IsStop : {B : Type 0} → World B → B → Stop → Type 0
IsStop w b (stop.Refused e) = Unit {0}
IsStop w b (stop.Halted h) = IsHalt w b h

-- of a refusal this is said
abbrev pub IfRefused : Stop → (Errno → Type 0) → Type 0
IfRefused (stop.Refused e) P = P e
IfRefused (stop.Halted h) P = Unit {0}

-- what a call answered on a sound volume: a value or a refusal, of which this is said; or it was cut off
abbrev pub Answers : {X : Type 0} → Result X Stop → (Result X Errno → Type 0) → Type 0
Answers (Ok x) P = P (Ok x)
Answers (Err (stop.Refused e)) P = P (Err e)
Answers (Err (stop.Halted (halt.Cut c))) P = Unit {0}
Answers (Err (stop.Halted halt.Unsound)) P = ⊥
