use Rattle.std.proofs.Common.{Some, sym, subst, refl}
use Rattle.fuse_nodes.specs.Known.{Known, known_of}
use Rattle.fuse_nodes.specs.Laws.{IsLost}
use Rattle.fuse_nodes.proofs.Losing.{lost_is_lost}
use Rattle.fuse_server.proofs.Asking.{goes_on, looking, looked_before, on_err, stays}
use Rattle.fuse_server.proofs.Telling.{removed_behind}
use Rattle.fuse_server.proofs.Steps.{step_lost, no_step}
use Rattle.fuse_server.proofs.mount.Mount.rmdir.Goals as goal

pub returns-in_err-take-clause-asked : goal.returns-in_err-take-clause-asked
returns-in_err-take-clause-asked g c = on_err _ (goes_on c.look.ensures.asked c.in_err-take.ensures.asked)

pub returns-clause-behind : goal.returns-clause-behind
returns-clause-behind g c =
    let P : Known → Type 0 = λ k. IsLost k c.in_ok-was.was'.inode in
    removed_behind c.args.work.reach c.args.name.now c.in_ok-path.path c.in_ok-was.was' c.in_ok-path.ensures.at
    (looked_before (looking (Some c.in_ok-was.was') c.in_ok-was.ensures.seen) c.in_ok-take.ensures.done)
    (subst P (sym c.lost.ensures) (lost_is_lost (known_of c.args.self.now.nodes) c.in_ok-was.was'.inode))

pub returns-clause-steps : goal.returns-clause-steps
returns-clause-steps g c = step_lost _ c.lost.ensures

pub returns-in_err-path-clause-asked : goal.returns-in_err-path-clause-asked
returns-in_err-path-clause-asked g c = on_err _ (stays _ _ _ _ _)

pub returns-in_err-was-clause-asked : goal.returns-in_err-was-clause-asked
returns-in_err-was-clause-asked g c = on_err _ c.look.ensures.asked

pub returns-in_err-path-clause-steps : goal.returns-in_err-path-clause-steps
returns-in_err-path-clause-steps g c = no_step refl

pub returns-in_err-was-clause-steps : goal.returns-in_err-was-clause-steps
returns-in_err-was-clause-steps g c = no_step refl

pub returns-in_err-take-clause-steps : goal.returns-in_err-take-clause-steps
returns-in_err-take-clause-steps g c = no_step refl
