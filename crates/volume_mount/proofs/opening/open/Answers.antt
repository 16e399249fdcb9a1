use Rattle.volume_mount.proofs.Opened.{idle_over, opens_over}
use Rattle.volume_mount.proofs.opening.open.Goals as goal

pub returns-in-Ok-clause-opens : goal.returns-in-Ok-clause-opens
returns-in-Ok-clause-opens g c =
    let t = c.in-Ok.ensures in
    opens_over g.L.Link c.in-Ok.transfers c.args.link c.args.minor c.args.geometry c.args.frames c.over.result t.link t.agrees t.owes t.pending c.requires.sizes.sized
    c.over.ensures.made c.over.ensures.bad_frames

pub returns-in-Ok-clause-idle : goal.returns-in-Ok-clause-idle
returns-in-Ok-clause-idle g c =
    let t = c.in-Ok.ensures in
    idle_over g.L.Link c.in-Ok.transfers c.args.minor c.args.geometry c.args.frames c.over.result t.pending t.agrees c.over.ensures.made
