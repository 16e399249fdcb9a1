use Rattle.tools.proofs.Calls.{made_unplayed}
use Rattle.tools.proofs.scripts.admitting.admit.Goals as goal

pub returns-clause-admitted : goal.returns-clause-admitted
returns-clause-admitted g c =
    let made = c.in_ok-session.ensures.made in (
      made_unplayed g.L.Link.truth g.N.ServiceParameters.geometry g.N.ServiceParameters.opening _ _ c.in_ok-session.session (g.L.Recorder.marks made.line) made.made
          made.whole c.in_ok-session.ensures.sound
          c.in_ok-session.ensures.volume c.in_ok-session.ensures.guaranteed,
      λ i. (made.made.user i, made.made.group i, c.in_ok-calls.ensures i),
    )
