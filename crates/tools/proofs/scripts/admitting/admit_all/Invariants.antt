use Rattle.std.proofs.Common.{◌≡◌, map, take}
use Rattle.std.specs.Prelude.{All}
use Rattle.call_text.specs.Said.{said}
use Rattle.tools.specs.Turns.{IsUnplayed, asked}
use Rattle.tools.specs.Vouched.{Vouched}
use Rattle.tools.proofs.scripts.admitting.admit_all.Given as goal

-- the sessions so far, in the order of the scripts
abbrev pub invariant-loop-script : goal.invariant-loop-script
invariant-loop-script g l = record {
  unplayed : All (λ turn. IsUnplayed (Vouched g.L.Link.truth g.N.ServiceParameters.geometry g.N.ServiceParameters.opening) turn.client.0) l.turns.items;
  asked : map (asked (λ s. s.0)) l.turns.items ≡ map said (take l.script-index l.scripts);
}
