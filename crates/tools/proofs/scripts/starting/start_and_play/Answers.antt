use Rattle.std.proofs.Common.{map}
use Rattle.std.specs.Prelude.{IfOk}
use Rattle.call_text.specs.Said.{said}
use Rattle.service_start.specs.Spent.{IsSpent}
use Rattle.service_start.proofs.Servable.{has_served}
use Rattle.tools.proofs.Records.{came_as, unserved_as}
use Rattle.tools.specs.Served.{AreServed}
use Rattle.tools.proofs.scripts.starting.start_and_play.Goals as goal

pub returns-clause-played : goal.returns-clause-played
returns-clause-played g c =
    has_served g.N.ServiceParameters.opening.media c.args.setup.now (map g.D.BlockDriver.state c.args.supply.items)
    c.args.checked.prepared.range g.N.ServiceParameters.opening g.N.ServiceParameters.geometry c.args.checked.clean.geometry
    (λ h v o. IfOk o (λ came. AreServed IsSpent h v (map said c.args.scripts.now) came.sessions.items came.last_sync came.image.items))
    c.open_and_play.result c.requires.at_hand.opening c.requires.at_hand.prepared c.requires.clean.sizes c.requires.clean.holds
    (came_as _ IsSpent (c.cut_once_spent.ensures.ended g.N.ServiceParameters.opening) g.N.ServiceParameters.geometry
    g.N.ServiceParameters.opening (map said c.args.scripts.now) c.open_and_play.result c.open_and_play.ensures.played)

pub returns-clause-unserved : goal.returns-clause-unserved
returns-clause-unserved g c =
    unserved_as _ _ g.N.ServiceParameters.opening IsSpent (c.cut_once_spent.ensures.ended g.N.ServiceParameters.opening)
    c.open_and_play.result c.open_and_play.ensures.unserved
