use Rattle.std.proofs.Common.{ℕ, List, map, subst}
use Rattle.std.specs.Prelude.{IfOk}
use Rattle.service_start.specs.Servable.{HasServed}
use Rattle.service_start.specs.Spent.{IsSpent}
use Rattle.lecternowl.specs.Serving.{AreKept}
use Rattle.lecternowl.proofs.start.start.Goals as goal

-- the media's bytes are the image's
pub returns-clause-done : goal.returns-clause-done
returns-clause-done g c =
    subst (λ (l : List ℕ). HasServed l c.args.setup.now (map g.D.BlockDriver.state c.args.supply.items) (λ h v.
    IfOk c.in_ok-start_and_do.field-0 (AreKept IsSpent g.A.Archive.puts h v c.args.tasks.items c.args.keeping.archive)))
    c.in_ok-checked.ensures.bytes c.in_ok-start_and_do.ensures.done
