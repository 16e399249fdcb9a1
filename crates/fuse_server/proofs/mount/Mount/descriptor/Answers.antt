use Rattle.std.proofs.Common.{refl}
use Rattle.fuse_server.proofs.Steps.{no_step}
use Rattle.fuse_server.proofs.Asking.{stays}
use Rattle.fuse_server.specs.Reach.{CalledFrom}
use Rattle.fuse_server.proofs.Telling.{own_known, own_opened}
use Rattle.fuse_server.proofs.mount.Mount.descriptor.Goals as goal

pub returns-in-Some-clause-own : goal.returns-in-Some-clause-own
returns-in-Some-clause-own g c =
    own_known (CalledFrom c.args.work.reach g.S.Sessions.called) g.S.Sessions.entered g.S.Sessions.left c.args.work.now c.args.sessions.now
    c.args.work.reach c.in-Some.descriptor c.in-Some.is

pub returns-in_ok-path-in-None-clause-own : goal.returns-in_ok-path-in-None-clause-own
returns-in_ok-path-in-None-clause-own g c =
    own_opened (CalledFrom c.args.work.reach g.S.Sessions.called) g.S.Sessions.entered g.S.Sessions.left c.args.work.now c.args.sessions.now
    c.open_node.new.sessions c.args.work.reach c.in_ok-path-in-None.path 0 c.open_node.result c.in-None.is c.in_ok-path-in-None.ensures.at
    c.open_node.ensures.opened

pub returns-in-Some-clause-asked : goal.returns-in-Some-clause-asked
returns-in-Some-clause-asked g c = stays _ _ _ _ _

pub returns-in_err-path-in-None-clause-asked : goal.returns-in_err-path-in-None-clause-asked
returns-in_err-path-in-None-clause-asked g c = stays _ _ _ _ _

pub returns-in_ok-path-in-None-clause-asked : goal.returns-in_ok-path-in-None-clause-asked
returns-in_ok-path-in-None-clause-asked g c = c.open_node.ensures.asked

pub returns-in-Some-clause-steps : goal.returns-in-Some-clause-steps
returns-in-Some-clause-steps g c = no_step refl

pub returns-in_err-path-in-None-clause-steps : goal.returns-in_err-path-in-None-clause-steps
returns-in_err-path-in-None-clause-steps g c = no_step refl

pub returns-in_ok-path-in-None-clause-steps : goal.returns-in_ok-path-in-None-clause-steps
returns-in_ok-path-in-None-clause-steps g c = c.open_node.ensures.steps
