use Rattle.std.proofs.Common.{refl}
use Rattle.fuse_server.proofs.Steps.{no_step}
use Rattle.fuse_server.proofs.Asking.{on_err, stays, goes_on}
use Rattle.fuse_server.proofs.Tries.{written_behind}
use Rattle.fuse_server.proofs.mount.Mount.write.Goals as goal

pub returns-clause-behind : goal.returns-clause-behind
returns-clause-behind g c =
    written_behind c.args.work.reach c.in_ok-descriptor.descriptor c.args.offset c.args.bytes.now c.in_ok-count.count c.written.result
    c.in_ok-descriptor.ensures.own c.in_ok-count.ensures.written c.written.ensures

pub returns-in_err-check_file-clause-asked : goal.returns-in_err-check_file-clause-asked
returns-in_err-check_file-clause-asked g c = on_err _ (stays _ _ _ _ _)

pub returns-in_err-descriptor-clause-asked : goal.returns-in_err-descriptor-clause-asked
returns-in_err-descriptor-clause-asked g c = on_err _ c.descriptor.ensures.asked

pub returns-in_err-count-clause-asked : goal.returns-in_err-count-clause-asked
returns-in_err-count-clause-asked g c = on_err _ (goes_on c.descriptor.ensures.asked c.write_some.ensures.asked)

pub returns-in_err-check_file-clause-steps : goal.returns-in_err-check_file-clause-steps
returns-in_err-check_file-clause-steps g c = no_step refl

pub returns-in_default-clause-steps : goal.returns-in_default-clause-steps
returns-in_default-clause-steps g c = no_step refl

pub returns-in_err-descriptor-clause-steps : goal.returns-in_err-descriptor-clause-steps
returns-in_err-descriptor-clause-steps g c = c.descriptor.ensures.steps

pub returns-in_err-count-clause-steps : goal.returns-in_err-count-clause-steps
returns-in_err-count-clause-steps g c = c.descriptor.ensures.steps

pub returns-clause-steps : goal.returns-clause-steps
returns-clause-steps g c = c.descriptor.ensures.steps

pub returns-in_default-clause-asked : goal.returns-in_default-clause-asked
returns-in_default-clause-asked g c = stays _ _ _ _ _
