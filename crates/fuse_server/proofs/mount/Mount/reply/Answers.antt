use Rattle.std.proofs.Common.{arith}
use Rattle.std.specs.Prelude.{vec_capacity}
use Rattle.fuse_server.specs.Answering.{MayHearFrom}
use Rattle.fuse_nodes.specs.Known.{known_of}
use Rattle.fuse_server.proofs.Answering.{told, no_room}
use Rattle.std.proofs.Common.{refl}
use Rattle.fuse_server.proofs.Steps.{no_step}
use Rattle.fuse_server.proofs.mount.Mount.reply.Goals as goal

pub returns-in-Ok-clause-told : goal.returns-in-Ok-clause-told
returns-in-Ok-clause-told g c =
    told (MayHearFrom g.S.Sessions.called g.S.Sessions.entered g.S.Sessions.left c.args.now) c.args.now
    (known_of c.args.self.now.nodes) (known_of c.said_to-said.new.self.nodes) c.args.bytes.now c.args.head.unique
    (vec_capacity c.args.out.now)
    c.args.sessions.now
    c.args.out.now.items c.reserve.new.self.items c.said_to-said.new.sessions
    c.send.new.out.items c.said_to-said.result c.reserve.ensures.items c.said_to-said.ensures.said
    c.send.ensures

pub returns-in-Err-clause-told : goal.returns-in-Err-clause-told
returns-in-Err-clause-told g c =
    no_room (MayHearFrom g.S.Sessions.called g.S.Sessions.entered g.S.Sessions.left c.args.now) c.args.now
    (known_of c.args.self.now.nodes) (known_of c.args.self.now.nodes) c.args.bytes.now c.args.head.unique (vec_capacity c.args.out.now)
    c.args.sessions.now
    c.args.out.now.items c.reserve.new.self.items c.refuse.new.out.items c.refuse.result
    c.reserve.ensures.items (omega (arith, c.in-Err.ensures.full, c.args.out.now.ok.0)) c.refuse.ensures.ok

pub returns-in-Err-clause-steps : goal.returns-in-Err-clause-steps
returns-in-Err-clause-steps g c = no_step refl
