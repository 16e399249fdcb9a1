use Rattle.std.proofs.Common.{◌≡◌, ◌∷◌, [], ◌++◌, rules}
use Rattle.tools.specs.Turns.{IsUnplayed}
use Rattle.tools.specs.Vouched.{Vouched}
use Rattle.tools.proofs.Admits.{each_more, asked_more}
use Rattle.tools.proofs.scripts.admitting.admit_all.Goals as goal

pub loop-script-preserved : goal.loop-script-preserved
loop-script-preserved g c =
    let old = c.loop-script.turns.items in
    let new = c.push.new.self.items in
    let turn = c.in_ok-turn.turn in
    let items : new ≡ old ++ turn ∷ [] = search rules in
    record {
      unplayed = each_more old new turn (λ t. IsUnplayed (Vouched g.L.Link.truth g.N.ServiceParameters.geometry g.N.ServiceParameters.opening) t.client.0) items
          c.loop-script.invariant.unplayed c.in_ok-turn.ensures.admitted.0;
      asked = asked_more old new turn (λ s. s.0) c.args.scripts.now c.loop-script.script-index c.script-item.result c.loop-script-test.true
          c.script-item.is items
          c.loop-script.invariant.asked c.in_ok-turn.ensures.admitted.1;
    }
