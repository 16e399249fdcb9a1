use Rattle.fuse_server.proofs.Steps.{no_step, steps_on}
use Rattle.std.proofs.Common.{inr, refl}
use Rattle.fuse_server.proofs.Asking.{goes_on, on_err, by_both, by_one, stays}
use Rattle.fuse_server.specs.Making.Making.{NewFile}
use Rattle.fuse_server.proofs.Telling.{by_open, made_behind, file_made}
use Rattle.fuse_server.proofs.mount.Mount.mknod.Goals as goal

pub returns-in_err-entry-clause-asked : goal.returns-in_err-entry-clause-asked
returns-in_err-entry-clause-asked g c =
    on_err _ (goes_on (goes_on c.make_file.ensures.asked c.close.ensures.asked) c.tell_made.ensures.asked)

pub returns-clause-behind : goal.returns-clause-behind
returns-clause-behind g c =
    made_behind c.args.work.reach c.args.name.now (NewFile _ _) c.in_ok-entry.entry c.in_ok-path.path c.in_ok-path.ensures.at
    (by_both (by_open c.in_ok-made.ensures.made) (by_one refl c.close.ensures.closed.1))
    c.in_ok-entry.ensures.shown
    (file_made c.args.work.reach c.in_ok-path.path _ _ _ _ _ _ _ _ (inr (c.close.ensures.closed.0, refl)) c.mode_of.ensures
    c.in_ok-owner.ensures)

pub returns-in_err-owner-clause-asked : goal.returns-in_err-owner-clause-asked
returns-in_err-owner-clause-asked g c = on_err _ (stays _ _ _ _ _)

pub returns-in_err-path-clause-asked : goal.returns-in_err-path-clause-asked
returns-in_err-path-clause-asked g c = on_err _ (stays _ _ _ _ _)

pub returns-in_err-made-clause-asked : goal.returns-in_err-made-clause-asked
returns-in_err-made-clause-asked g c = on_err _ c.make_file.ensures.asked

pub returns-then-not-is_file-clause-steps : goal.returns-then-not-is_file-clause-steps
returns-then-not-is_file-clause-steps g c = no_step refl

pub returns-in_err-owner-clause-steps : goal.returns-in_err-owner-clause-steps
returns-in_err-owner-clause-steps g c = no_step refl

pub returns-in_err-path-clause-steps : goal.returns-in_err-path-clause-steps
returns-in_err-path-clause-steps g c = no_step refl

pub returns-in_err-made-clause-steps : goal.returns-in_err-made-clause-steps
returns-in_err-made-clause-steps g c = c.make_file.ensures.steps

pub returns-in_err-entry-clause-steps : goal.returns-in_err-entry-clause-steps
returns-in_err-entry-clause-steps g c = steps_on c.make_file.ensures.steps c.tell_made.ensures.steps

pub returns-clause-steps : goal.returns-clause-steps
returns-clause-steps g c = steps_on c.make_file.ensures.steps c.tell_made.ensures.steps

pub returns-then-not-is_file-clause-asked : goal.returns-then-not-is_file-clause-asked
returns-then-not-is_file-clause-asked g c = stays _ _ _ _ _
