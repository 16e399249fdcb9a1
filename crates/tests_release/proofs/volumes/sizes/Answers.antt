use Rattle.std.proofs.Common.{sym, ◌∙◌}
use Rattle.layout.proofs.Parsed.{geometry_fits}
use Rattle.tests_release.proofs.volumes.sizes.Goals as goal

pub returns-in-Ok : goal.returns-in-Ok
returns-in-Ok c = (geometry_fits c.args.image.now c.in-Ok.geometry (sym c.parse.ensures ∙ c.in-Ok.is)).0
