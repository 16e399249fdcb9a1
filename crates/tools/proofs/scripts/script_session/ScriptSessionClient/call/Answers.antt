use Rattle.tools.proofs.Calls.{ends_mine, call_vouched, cut_ended}
use Rattle.tools.proofs.scripts.script_session.ScriptSessionClient.call.Goals as goal

pub returns : goal.returns
returns g c = record {
  goes_on = c.call.ensures.keeps.goes_on;
  mine = ends_mine c.call.result _ c.args.now c.args.call.now _ _ c.call.ensures.keeps.ends;
  vouched = call_vouched g.L.Link.truth g.N.ServiceParameters.geometry g.N.ServiceParameters.opening _ _ _ _ c.call.result _ c.call.ensures.keeps
      c.call.ensures.volume c.call.ensures.sound
      c.call.ensures.guaranteed;
  cut = cut_ended _ _ _ _ _ c.call.ensures.cut;
}
