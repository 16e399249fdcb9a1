use Rattle.std.proofs.Common.{refl}
use Rattle.fuse_server.proofs.Steps.{no_step, steps_on}
use Rattle.fuse_server.proofs.Asking.{goes_on, on_err, stays}
use Rattle.fuse_server.proofs.Telling.{renamed_behind}
use Rattle.fuse_server.proofs.mount.Mount.rename.Goals as goal

pub returns-in_err-moved-clause-asked : goal.returns-in_err-moved-clause-asked
returns-in_err-moved-clause-asked g c = on_err _ (goes_on c.replaced.ensures.asked c.in_err-moved.ensures.asked)

pub returns-clause-behind : goal.returns-clause-behind
returns-clause-behind g c = renamed_behind c.args.work.reach c.args.from.now c.args.to.now c.in_ok-old.old c.in_ok-new.new
    c.in_ok-replaced.replaced c.in_ok-moved.moved c.in_ok-old.ensures.at c.in_ok-new.ensures.at c.in_ok-replaced.ensures.seen
    c.in_ok-moved.ensures.done c.moved.ensures.lost

pub returns-in_err-old-clause-asked : goal.returns-in_err-old-clause-asked
returns-in_err-old-clause-asked g c = on_err _ (stays _ _ _ _ _)

pub returns-in_err-new-clause-asked : goal.returns-in_err-new-clause-asked
returns-in_err-new-clause-asked g c = on_err _ (stays _ _ _ _ _)

pub returns-in_err-replaced-clause-asked : goal.returns-in_err-replaced-clause-asked
returns-in_err-replaced-clause-asked g c = on_err _ c.replaced.ensures.asked

pub returns-in_err-old-clause-steps : goal.returns-in_err-old-clause-steps
returns-in_err-old-clause-steps g c = no_step refl

pub returns-in_err-new-clause-steps : goal.returns-in_err-new-clause-steps
returns-in_err-new-clause-steps g c = no_step refl

pub returns-in_err-replaced-clause-steps : goal.returns-in_err-replaced-clause-steps
returns-in_err-replaced-clause-steps g c = c.replaced.ensures.steps

pub returns-in_err-moved-clause-steps : goal.returns-in_err-moved-clause-steps
returns-in_err-moved-clause-steps g c = c.replaced.ensures.steps

pub returns-clause-steps : goal.returns-clause-steps
returns-clause-steps g c = steps_on c.replaced.ensures.steps c.moved.ensures.steps
