use Rattle.std.proofs.Common.{sym, subst}
use Rattle.layout.specs.declared.Geometry.{Geometry}
use Rattle.records.specs.Mount.{OpenKeeps}
use Rattle.volume_mount.specs.OverLink.{serving_over}
use Rattle.shared_server.proofs.HeldLaws.{held_at_first}
use Rattle.service_start.proofs.opened.over.Goals as goal

pub over-requires-clause-held : goal.over-requires-clause-held
over-requires-clause-held g c κs lives =
    held_at_first _ _ _ _ _ _ _ _ c.in-Ok.server c.args.link c.args.minor c.args.frames c.in-Ok.ensures.link c.in-Ok.ensures.ready
    (λ call. tt)
    c.requires.told c.requires.marks
    (subst (λ (h : Geometry). OpenKeeps h c.args.minor c.args.frames (g.L.Link.history c.args.link) (serving_over g.L.Link c.in-Ok.server))
    c.requires.geometry.1 c.in-Ok.ensures.opens)
    (sym c.requires.minor) c.requires.drivers c.requires.truth c.requires.tree.0 c.requires.tree.1
