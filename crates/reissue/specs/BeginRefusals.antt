-- The numbers of refusals.
use Rattle.std.specs.Prelude.{ℕ}
use Rattle.reissue.specs.declared.ask.BeginRefusal.{BeginRefusal}
use Rattle.reissue.specs.declared.ask.BeginRefusal.TheVariants as begin

-- why a request wasn't begun
abbrev pub begin_refusal_number : BeginRefusal → ℕ
begin_refusal_number begin.TableFull = 1
begin_refusal_number begin.BlockPending = 2
