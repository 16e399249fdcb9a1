use Rattle.std.proofs.Common.{sym, subst}
use Rattle.layout.specs.declared.Geometry.{Geometry}
use Rattle.layout.proofs.Parsed.{geometry_fits}
use Rattle.records.specs.Mount.{OpenKeeps}
use Rattle.volume_mount.specs.Checked.{bytes_at}
use Rattle.volume_mount.specs.OverLink.{serving_over}
use Rattle.shared_server.proofs.HeldLaws.{held_at_first}
use Rattle.service_start.proofs.Servable.{opened_as}
use Rattle.service_start.proofs.opened.opened_server.Goals as goal

pub open-requires-clause-sizes : goal.open-requires-clause-sizes
open-requires-clause-sizes g c =
    (geometry_fits (bytes_at g.N.ServiceParameters.opening) c.args.clean.geometry c.requires.clean.holds.parsed).0

pub returns-in-Ok-clause-held : goal.returns-in-Ok-clause-held
returns-in-Ok-clause-held g c =
    held_at_first _ _ _ _ _ _ _ _ c.in-Ok.server c.args.link c.args.minor c.args.frames c.in-Ok.ensures.link c.in-Ok.ensures.ready
    (λ call. tt)
    c.requires.fresh.told c.requires.fresh.marks
    (subst (λ (h : Geometry). OpenKeeps h c.args.minor c.args.frames (g.L.Link.history c.args.link) (serving_over g.L.Link c.in-Ok.server))
    c.requires.clean.sizes c.in-Ok.ensures.opens)
    (sym c.requires.fresh.minor) c.requires.fresh.drivers c.requires.fresh.truth c.requires.clean.holds.tree
    (opened_as g.N.ServiceParameters c.args.clean.geometry c.requires.clean)
