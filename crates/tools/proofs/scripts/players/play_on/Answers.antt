use Rattle.tools.proofs.Records.{are_served}
use Rattle.tools.proofs.scripts.players.play_on.Goals as goal

pub returns-in-Ok-clause-served : goal.returns-in-Ok-clause-served
returns-in-Ok-clause-served g c =
    are_served g.L.Link g.N.ServiceParameters.geometry g.N.ServiceParameters.opening _ _ _ _ _ c.in_ok-sessions.ensures.played c.in-Ok.ensures
