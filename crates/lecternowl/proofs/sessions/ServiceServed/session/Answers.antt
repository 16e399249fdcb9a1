use Rattle.lecternowl.proofs.ServedLaws.{all_opened}
use Rattle.lecternowl.proofs.sessions.ServiceServed.session.Goals as goal

pub returns-clause-made : goal.returns-clause-made
returns-clause-made g c =
    all_opened g.L.Link _ _ _ _ _ g.N.ServiceParameters.geometry g.N.ServiceParameters.opening c.args.uid c.args.gid c.session.result
    c.session.ensures.made c.session.ensures.guaranteed c.session.ensures.volume c.session.ensures.sound
