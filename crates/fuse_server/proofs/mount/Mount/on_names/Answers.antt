use Rattle.std.proofs.Common.{refl}
use Rattle.fuse_server.proofs.Steps.{no_step}
use Rattle.fuse_nodes.specs.Known.{known_of}
use Rattle.fuse_server.specs.Reach.{CalledFrom}
use Rattle.fuse_server.specs.Telling.{telling}
use Rattle.fuse_server.proofs.Asking.{stays}
use Rattle.fuse_server.proofs.KindLaws.{unknown_for}
use Rattle.fuse_server.proofs.Telling.{unknown_behind}
use Rattle.fuse_server.proofs.mount.Mount.on_names.Goals as goal

pub returns-in_default-clause-told : goal.returns-in_default-clause-told
returns-in_default-clause-told g c = unknown_for (known_of c.args.self.now.nodes) c.args.message.now.request

pub returns-in_default-clause-behind : goal.returns-in_default-clause-behind
returns-in_default-clause-behind g c = unknown_behind c.args.work.reach (telling c.args.work.now c.args.message.now)
    (stays (CalledFrom c.args.work.reach g.S.Sessions.called) g.S.Sessions.entered g.S.Sessions.left c.args.work.now c.args.sessions.now)

pub returns-in-Unlink-clause-asked : goal.returns-in-Unlink-clause-asked
returns-in-Unlink-clause-asked g c = c.unlink.ensures.asked

pub returns-in-Rmdir-clause-asked : goal.returns-in-Rmdir-clause-asked
returns-in-Rmdir-clause-asked g c = c.rmdir.ensures.asked

pub returns-in-Link-clause-asked : goal.returns-in-Link-clause-asked
returns-in-Link-clause-asked g c = c.link.ensures.asked

pub returns-in-Rename-clause-asked : goal.returns-in-Rename-clause-asked
returns-in-Rename-clause-asked g c = c.rename.ensures.asked

pub returns-in-Rename2-clause-asked : goal.returns-in-Rename2-clause-asked
returns-in-Rename2-clause-asked g c = c.rename-in-Rename2.ensures.asked

pub returns-in-Unlink-clause-steps : goal.returns-in-Unlink-clause-steps
returns-in-Unlink-clause-steps g c = c.unlink.ensures.steps

pub returns-in-Rmdir-clause-steps : goal.returns-in-Rmdir-clause-steps
returns-in-Rmdir-clause-steps g c = c.rmdir.ensures.steps

pub returns-in-Link-clause-steps : goal.returns-in-Link-clause-steps
returns-in-Link-clause-steps g c = c.link.ensures.steps

pub returns-in-Rename-clause-steps : goal.returns-in-Rename-clause-steps
returns-in-Rename-clause-steps g c = c.rename.ensures.steps

pub returns-in-Rename2-clause-steps : goal.returns-in-Rename2-clause-steps
returns-in-Rename2-clause-steps g c = c.rename-in-Rename2.ensures.steps

pub returns-in_default-clause-steps : goal.returns-in_default-clause-steps
returns-in_default-clause-steps g c = no_step refl
