use Rattle.fuse_server.proofs.Steps.{no_step}
use Rattle.fuse_server.proofs.Asking.{goes_on, on_err, by_one, stays}
use Rattle.std.proofs.Common.{refl}
use Rattle.fuse_server.specs.Making.Making.{NewName}
use Rattle.fuse_server.proofs.Telling.{made_behind, shown_alone}
use Rattle.fuse_server.proofs.mount.Mount.link.Goals as goal

pub returns-in_err-entry-clause-asked : goal.returns-in_err-entry-clause-asked
returns-in_err-entry-clause-asked g c = on_err _ (goes_on c.ask_done.ensures.asked c.tell.ensures.asked)

pub returns-clause-behind : goal.returns-clause-behind
returns-clause-behind g c =
    made_behind c.args.work.reach c.args.name.now NewName c.in_ok-entry.entry c.in_ok-new.new c.in_ok-new.ensures.at
    (by_one refl c.in_ok-ask_done.ensures.done) (shown_alone c.in_ok-entry.ensures.shown)
    (λ was. (c.in_ok-old.old, c.in_ok-old.ensures.at, refl))

pub returns-in_err-old-clause-asked : goal.returns-in_err-old-clause-asked
returns-in_err-old-clause-asked g c = on_err _ (stays _ _ _ _ _)

pub returns-in_err-new-clause-asked : goal.returns-in_err-new-clause-asked
returns-in_err-new-clause-asked g c = on_err _ (stays _ _ _ _ _)

pub returns-in_err-ask_done-clause-asked : goal.returns-in_err-ask_done-clause-asked
returns-in_err-ask_done-clause-asked g c = on_err _ c.ask_done.ensures.asked

pub returns-in_err-old-clause-steps : goal.returns-in_err-old-clause-steps
returns-in_err-old-clause-steps g c = no_step refl

pub returns-in_err-new-clause-steps : goal.returns-in_err-new-clause-steps
returns-in_err-new-clause-steps g c = no_step refl

pub returns-in_err-ask_done-clause-steps : goal.returns-in_err-ask_done-clause-steps
returns-in_err-ask_done-clause-steps g c = no_step refl

pub returns-in_err-entry-clause-steps : goal.returns-in_err-entry-clause-steps
returns-in_err-entry-clause-steps g c = c.tell.ensures.steps

pub returns-clause-steps : goal.returns-clause-steps
returns-clause-steps g c = c.tell.ensures.steps
