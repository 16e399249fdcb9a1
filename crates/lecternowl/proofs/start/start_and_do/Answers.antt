use Rattle.std.proofs.Common.{map}
use Rattle.std.specs.Prelude.{IfOk}
use Rattle.service_start.specs.Spent.{IsSpent}
use Rattle.service_start.proofs.Servable.{has_served}
use Rattle.lecternowl.proofs.ServedLaws.{done_as, undone_as}
use Rattle.lecternowl.specs.Serving.{AreKept}
use Rattle.lecternowl.proofs.start.start_and_do.Goals as goal

pub returns-clause-done : goal.returns-clause-done
returns-clause-done g c =
    has_served g.N.ServiceParameters.opening.media c.args.setup.now (map g.D.BlockDriver.state c.args.supply.items)
    c.args.checked.prepared.range g.N.ServiceParameters.opening g.N.ServiceParameters.geometry c.args.checked.clean.geometry
    (λ h v o. IfOk o (AreKept IsSpent g.A.Archive.puts h v c.args.tasks.items c.args.keeping.archive))
    c.open_and_do.result c.requires.at_hand.opening c.requires.at_hand.prepared c.requires.clean.sizes c.requires.clean.holds
    (done_as _ IsSpent (c.cut_once_spent.ensures.ended g.N.ServiceParameters.opening) g.A.Archive.puts g.N.ServiceParameters.geometry
    g.N.ServiceParameters.opening c.args.tasks.items c.args.keeping.archive c.open_and_do.result c.open_and_do.ensures.done)

pub returns-clause-undone : goal.returns-clause-undone
returns-clause-undone g c =
    undone_as _ IsSpent (c.cut_once_spent.ensures.ended g.N.ServiceParameters.opening) c.open_and_do.result c.open_and_do.ensures.undone
