use Rattle.fuse_server.proofs.Steps.{no_step}
use Rattle.fuse_server.proofs.Asking.{goes_on, on_err, by_one, stays}
use Rattle.std.proofs.Common.{refl}
use Rattle.fuse_server.specs.Making.Making.{NewDirectory}
use Rattle.fuse_server.proofs.Telling.{made_behind, directory_made}
use Rattle.fuse_server.proofs.mount.Mount.mkdir.Goals as goal

pub returns-in_err-entry-clause-asked : goal.returns-in_err-entry-clause-asked
returns-in_err-entry-clause-asked g c = on_err _ (goes_on c.ask_done.ensures.asked c.tell_made.ensures.asked)

pub returns-clause-behind : goal.returns-clause-behind
returns-clause-behind g c =
    made_behind c.args.work.reach c.args.name.now (NewDirectory _ _) c.in_ok-entry.entry c.in_ok-path.path c.in_ok-path.ensures.at
    (by_one refl c.in_ok-ask_done.ensures.done) c.in_ok-entry.ensures.shown
    (directory_made c.args.work.reach c.in_ok-path.path _ _ _ _ c.mode_of-mode.ensures c.in_ok-owner.ensures)

pub returns-in_err-owner-clause-asked : goal.returns-in_err-owner-clause-asked
returns-in_err-owner-clause-asked g c = on_err _ (stays _ _ _ _ _)

pub returns-in_err-path-clause-asked : goal.returns-in_err-path-clause-asked
returns-in_err-path-clause-asked g c = on_err _ (stays _ _ _ _ _)

pub returns-in_err-ask_done-clause-asked : goal.returns-in_err-ask_done-clause-asked
returns-in_err-ask_done-clause-asked g c = on_err _ c.ask_done.ensures.asked

pub returns-in_err-owner-clause-steps : goal.returns-in_err-owner-clause-steps
returns-in_err-owner-clause-steps g c = no_step refl

pub returns-in_err-path-clause-steps : goal.returns-in_err-path-clause-steps
returns-in_err-path-clause-steps g c = no_step refl

pub returns-in_err-ask_done-clause-steps : goal.returns-in_err-ask_done-clause-steps
returns-in_err-ask_done-clause-steps g c = no_step refl

pub returns-in_err-entry-clause-steps : goal.returns-in_err-entry-clause-steps
returns-in_err-entry-clause-steps g c = c.tell_made.ensures.steps

pub returns-clause-steps : goal.returns-clause-steps
returns-clause-steps g c = c.tell_made.ensures.steps
