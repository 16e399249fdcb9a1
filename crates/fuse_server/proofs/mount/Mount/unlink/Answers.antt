use Rattle.fuse_server.proofs.Steps.{no_step, steps_on}
use Rattle.std.proofs.Common.{Some, refl}
use Rattle.fuse_server.proofs.Asking.{goes_on, looking, looking_on, looked_before, on_err, stays}
use Rattle.fuse_server.proofs.Telling.{unlinked_behind}
use Rattle.fuse_server.proofs.mount.Mount.unlink.Goals as goal

pub returns-in_err-hold-clause-asked : goal.returns-in_err-hold-clause-asked
returns-in_err-hold-clause-asked g c = on_err _ (goes_on c.look.ensures.asked c.hold.ensures.asked)

pub returns-in_err-take-clause-asked : goal.returns-in_err-take-clause-asked
returns-in_err-take-clause-asked g c = on_err _ (goes_on (goes_on c.look.ensures.asked c.hold.ensures.asked) c.in_err-take.ensures.asked)

pub returns-clause-behind : goal.returns-clause-behind
returns-clause-behind g c = unlinked_behind c.args.work.reach c.args.name.now c.in_ok-path.path c.in_ok-was.was' c.in_ok-path.ensures.at
    (looked_before (looking_on (looking (Some c.in_ok-was.was') c.in_ok-was.ensures.seen) c.hold.ensures.asked) c.in_ok-take.ensures.done)
    c.lose.ensures.lost

pub returns-in_err-path-clause-asked : goal.returns-in_err-path-clause-asked
returns-in_err-path-clause-asked g c = on_err _ (stays _ _ _ _ _)

pub returns-in_err-was-clause-asked : goal.returns-in_err-was-clause-asked
returns-in_err-was-clause-asked g c = on_err _ c.look.ensures.asked

pub returns-in_err-path-clause-steps : goal.returns-in_err-path-clause-steps
returns-in_err-path-clause-steps g c = no_step refl

pub returns-in_err-was-clause-steps : goal.returns-in_err-was-clause-steps
returns-in_err-was-clause-steps g c = no_step refl

pub returns-in_err-hold-clause-steps : goal.returns-in_err-hold-clause-steps
returns-in_err-hold-clause-steps g c = c.hold.ensures.steps

pub returns-in_err-take-clause-steps : goal.returns-in_err-take-clause-steps
returns-in_err-take-clause-steps g c = c.hold.ensures.steps

pub returns-clause-steps : goal.returns-clause-steps
returns-clause-steps g c = steps_on c.hold.ensures.steps c.lose.ensures.steps
