use Rattle.std.proofs.Common.{◌≡◌, length, map, take, drop}
use Rattle.redo.proofs.parts.write_run.Given as goal

abbrev pub invariant-loop-i : goal.invariant-loop-i
invariant-loop-i g l = record {
  long : length l.units ≡ 16;
  taken : take l.i l.units ≡ take l.i (drop l.from (map (λ w. w.1) (g.P.Puts.puts l.changes)));
}
