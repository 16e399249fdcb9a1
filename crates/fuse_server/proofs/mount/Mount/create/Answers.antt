use Rattle.fuse_server.proofs.Steps.{no_step, steps_on}
use Rattle.std.proofs.Common.{inl, refl}
use Rattle.fuse_server.specs.Reach.{CalledFrom}
use Rattle.fuse_server.proofs.Asking.{goes_on, by_both, by_none, on_err, stays}
use Rattle.fuse_server.specs.Making.Making.{NewFile}
use Rattle.fuse_server.proofs.Telling.{by_open, created_behind, file_made}
use Rattle.fuse_server.proofs.mount.Mount.create.Goals as goal

pub returns-in-Err-clause-asked : goal.returns-in-Err-clause-asked
returns-in-Err-clause-asked g c = goes_on (goes_on c.make_file.ensures.asked c.finish.ensures.asked) c.close.ensures.asked

pub returns-in-Ok-clause-behind : goal.returns-in-Ok-clause-behind
returns-in-Ok-clause-behind g c =
    created_behind c.args.work.reach c.args.name.now (NewFile _ _) c.in-Ok.entry c.in-Ok.opened c.in_ok-path.path c.in_ok-path.ensures.at
    (by_both (by_open c.in_ok-descriptor.ensures.made)
    (by_none (CalledFrom c.args.work.reach g.S.Sessions.called) g.S.Sessions.entered g.S.Sessions.left c.args.work.now
    c.make_file.new.sessions))
    c.in-Ok.ensures.shown
    (file_made c.args.work.reach c.in_ok-path.path _ _ _ _ _ _ _ _ (inl refl) c.mode_of.ensures c.in_ok-owner.ensures)

pub returns-in_err-owner-clause-asked : goal.returns-in_err-owner-clause-asked
returns-in_err-owner-clause-asked g c = on_err _ (stays _ _ _ _ _)

pub returns-in_err-path-clause-asked : goal.returns-in_err-path-clause-asked
returns-in_err-path-clause-asked g c = on_err _ (stays _ _ _ _ _)

pub returns-in_err-descriptor-clause-asked : goal.returns-in_err-descriptor-clause-asked
returns-in_err-descriptor-clause-asked g c = on_err _ c.make_file.ensures.asked

pub returns-in_err-owner-clause-steps : goal.returns-in_err-owner-clause-steps
returns-in_err-owner-clause-steps g c = no_step refl

pub returns-in_err-path-clause-steps : goal.returns-in_err-path-clause-steps
returns-in_err-path-clause-steps g c = no_step refl

pub returns-in_err-descriptor-clause-steps : goal.returns-in_err-descriptor-clause-steps
returns-in_err-descriptor-clause-steps g c = c.make_file.ensures.steps

pub returns-in-Ok-clause-steps : goal.returns-in-Ok-clause-steps
returns-in-Ok-clause-steps g c = steps_on c.make_file.ensures.steps c.finish.ensures.steps

pub returns-in-Err-clause-steps : goal.returns-in-Err-clause-steps
returns-in-Err-clause-steps g c = steps_on c.make_file.ensures.steps c.finish.ensures.steps
