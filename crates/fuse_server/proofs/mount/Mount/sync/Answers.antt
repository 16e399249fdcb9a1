use Rattle.fuse_server.proofs.Steps.{no_step}
use Rattle.std.proofs.Common.{refl}
use Rattle.fuse_server.specs.declared.said.FuseAnswer.TheVariants as answer_of
use Rattle.fuse_server.proofs.Telling.{plainly, synced}
use Rattle.fuse_server.proofs.mount.Mount.sync.Goals as goal

pub returns-in-Ok-done-clause-asked : goal.returns-in-Ok-done-clause-asked
returns-in-Ok-done-clause-asked g c = synced c.args.work.reach c.in-Ok.heard c.in-Ok.ensures.heard (c.in-Ok-done.ensures.done refl)

pub returns-in-Err-done-clause-asked : goal.returns-in-Err-done-clause-asked
returns-in-Err-done-clause-asked g c = plainly c.args.work.reach (answer_of.Refused c.in-Err-done.refused) c.ask.ensures.asked

pub returns-in-Err-clause-asked : goal.returns-in-Err-clause-asked
returns-in-Err-clause-asked g c = plainly c.args.work.reach (answer_of.Refused c.in-Err.refused) c.ask.ensures.asked

pub returns-in-Ok-done-clause-steps : goal.returns-in-Ok-done-clause-steps
returns-in-Ok-done-clause-steps g c = no_step refl

pub returns-in-Err-done-clause-steps : goal.returns-in-Err-done-clause-steps
returns-in-Err-done-clause-steps g c = no_step refl

pub returns-in-Err-clause-steps : goal.returns-in-Err-clause-steps
returns-in-Err-clause-steps g c = no_step refl
