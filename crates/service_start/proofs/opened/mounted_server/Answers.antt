use Rattle.std.proofs.Common.{subst, sym}
use Rattle.service_start.specs.Stopped.{IsStopped}
use Rattle.service_start.proofs.Mounts.{holds, mount_stopped, mounted_held}
use Rattle.service_start.proofs.opened.mounted_server.Goals as goal

-- the bounds hold wherever a thread runs, and so here
pub returns-in-Ok-clause-held : goal.returns-in-Ok-clause-held
returns-in-Ok-clause-held g c =
    let recorder = g.met.L.Recorder g.world.𝓛 g.world.𝓜 g.world.𝓡 ((λ s x. x), (λ x. x), (λ x. x), λ x. x) in
    let supplied = g.met.L.Supplied g.world.𝓛 g.world.𝓜 g.world.𝓡 ((λ s x. x), (λ x. x), (λ x. x), λ x. x) in
    mounted_held g.N.ServiceParameters g.L.Link g.L.Supplied.runs_on g.L.Recorder.marks recorder.is_record supplied.keeps_on
    c.args.link c.args.minor c.args.frames c.requires.minor c.requires.truth c.requires.geometry c.in-Ok.server c.in-Ok.ensures.mounted
    c.requires.drivers (λ call. Unit {0}) (λ call. tt)

pub returns-in-Ok-clause-holds : goal.returns-in-Ok-clause-holds
returns-in-Ok-clause-holds g c =
    let recorder = g.met.L.Recorder g.world.𝓛 g.world.𝓜 g.world.𝓡 ((λ s x. x), (λ x. x), (λ x. x), λ x. x) in
    let supplied = g.met.L.Supplied g.world.𝓛 g.world.𝓜 g.world.𝓡 ((λ s x. x), (λ x. x), (λ x. x), λ x. x) in
    holds g.N.ServiceParameters g.L.Link g.L.Supplied.runs_on g.L.Recorder.marks recorder.is_record supplied.keeps_on
    c.args.link c.args.minor c.args.frames c.requires.minor c.requires.truth c.requires.geometry c.in-Ok.server c.in-Ok.ensures.mounted

pub returns-in-Err-clause-refused : goal.returns-in-Err-clause-refused
returns-in-Err-clause-refused g c =
    subst (IsStopped g.N.ServiceParameters.opening c.args.frames) (sym c.refusal_of.ensures)
    (mount_stopped g.L.Link g.N.ServiceParameters.opening c.args.link c.args.minor c.args.frames c.in-Err.refusal c.requires.minor
    c.requires.told c.in-Err.ensures.refused)
