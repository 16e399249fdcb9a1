use Rattle.std.proofs.Common.{◌+◌, ◌-◌, List, ℕ, map, drop}
use Rattle.redo.specs.Plans.{unit_writes}
use Rattle.redo.proofs.Left.{Left}
use Rattle.redo.proofs.parts.write_units.Given as goal

abbrev pub invariant-loop-done : goal.invariant-loop-done
invariant-loop-done g l =
    let all : List (List ℕ) = map (λ (w : ℕ × List ℕ). w.1) (g.P.Puts.puts l.changes) in
    Left (unit_writes l.fn.first all) (g.S.Storage.known l.fn.storage) (g.S.Storage.known l.storage) (unit_writes (l.fn.first + l.done) (drop l.done all))

abbrev pub decreases-loop-done : goal.decreases-loop-done
decreases-loop-done g l = l.count - l.done
