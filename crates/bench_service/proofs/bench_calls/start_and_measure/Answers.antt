use Rattle.service_start.proofs.Frames.{frames_fit}
use Rattle.bench_service.proofs.bench_calls.start_and_measure.Goals as goal

pub mount_and_measure-requires-clause-truth : goal.mount_and_measure-requires-clause-truth
mount_and_measure-requires-clause-truth g c κs lives = c.in_ok-board.ensures.truth g.N.ServiceParameters.opening

pub mount_and_measure-requires-clause-frames : goal.mount_and_measure-requires-clause-frames
mount_and_measure-requires-clause-frames g c κs lives =
    frames_fit c.args.setup.now.frames c.requires.prepared.set_up.0.0 c.requires.prepared.set_up.0.1
