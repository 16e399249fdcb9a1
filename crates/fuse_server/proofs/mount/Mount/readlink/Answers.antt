use Rattle.fuse_server.proofs.Steps.{no_step}
use Rattle.fuse_server.proofs.Asking.{on_err, stays}
use Rattle.std.proofs.Common.{◌∙◌, refl}
use Rattle.fuse_server.proofs.Telling.{target_behind}
use Rattle.fuse_server.proofs.mount.Mount.readlink.Goals as goal

pub returns-clause-behind : goal.returns-clause-behind
returns-clause-behind g c = target_behind c.args.work.reach c.in_ok-bytes.bytes c.in_ok-target.target c.in_ok-path.path
    c.in_ok-path.ensures.at
    c.in_ok-target.ensures.seen (c.in_ok-bytes.ensures.items_if_clones_equal (λ x y same. same) ∙ c.bytes_of.ensures)

pub returns-in_err-path-clause-asked : goal.returns-in_err-path-clause-asked
returns-in_err-path-clause-asked g c = on_err _ (stays _ _ _ _ _)

pub returns-in_err-target-clause-asked : goal.returns-in_err-target-clause-asked
returns-in_err-target-clause-asked g c = on_err _ c.target.ensures.asked

pub returns-in_err-bytes-clause-asked : goal.returns-in_err-bytes-clause-asked
returns-in_err-bytes-clause-asked g c = on_err _ c.target.ensures.asked

pub returns-clause-steps : goal.returns-clause-steps
returns-clause-steps g c = no_step refl

pub returns-in_err-path-clause-steps : goal.returns-in_err-path-clause-steps
returns-in_err-path-clause-steps g c = no_step refl

pub returns-in_err-target-clause-steps : goal.returns-in_err-target-clause-steps
returns-in_err-target-clause-steps g c = no_step refl

pub returns-in_err-bytes-clause-steps : goal.returns-in_err-bytes-clause-steps
returns-in_err-bytes-clause-steps g c = no_step refl
