use Rattle.service_start.proofs.Mounts.{mounted_held}
use Rattle.bench_service.proofs.bench_calls.mount_and_measure.Goals as goal

-- the bounds hold wherever a thread runs, and so here
pub over-requires-clause-held : goal.over-requires-clause-held
over-requires-clause-held g c κs lives =
    let recorder = g.met.L.Recorder g.world.𝓛 g.world.𝓜 g.world.𝓡 ((λ s x. x), (λ x. x), (λ x. x), λ x. x) in
    let supplied = g.met.L.Supplied g.world.𝓛 g.world.𝓜 g.world.𝓡 ((λ s x. x), (λ x. x), (λ x. x), λ x. x) in
    mounted_held g.N.ServiceParameters g.L.Link g.L.Supplied.runs_on g.L.Recorder.marks recorder.is_record supplied.keeps_on
    c.args.link c.args.minor c.args.frames c.requires.minor c.requires.truth c.requires.geometry c.in-Ok.server c.in-Ok.ensures.mounted
    c.requires.drivers (λ call. Unit {0}) (λ call. tt)
