use Rattle.std.proofs.Common.{Some}
use Rattle.fuse_server.proofs.Asking.{goes_on, looking, looked_before, on_err}
use Rattle.fuse_server.proofs.talk.Seats.rename_path.Goals as goal

pub returns-in_err-take-clause-asked : goal.returns-in_err-take-clause-asked
returns-in_err-take-clause-asked g c = on_err _ (goes_on c.look.ensures.asked c.in_err-take.ensures.asked)

pub returns-clause-done : goal.returns-clause-done
returns-clause-done g c = looked_before (looking (Some c.in_ok-was.was') c.in_ok-was.ensures.seen) c.in_ok-take.ensures.done
