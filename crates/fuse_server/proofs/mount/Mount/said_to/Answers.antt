use Rattle.fuse_nodes.specs.Known.{known_of}
use Rattle.fuse_server.specs.Answering.{MayHearFrom}
use Rattle.fuse_server.proofs.Answering.{to_read, to_unread}
use Rattle.fuse_server.proofs.mount.Mount.said_to.Goals as goal

pub returns-in-Ok-clause-said : goal.returns-in-Ok-clause-said
returns-in-Ok-clause-said g c =
    to_read (MayHearFrom g.S.Sessions.called g.S.Sessions.entered g.S.Sessions.left c.args.now) c.args.now (known_of c.args.self.now.nodes)
    (known_of c.said_by.new.self.nodes) c.args.bytes.now c.read.result c.in-Ok.message c.args.sessions.now c.said_by.result
    c.said_by.new.sessions c.reach_of.result c.in-Ok.is c.read.ensures.exact c.reach_of.ensures c.said_by.ensures.told
    c.said_by.ensures.asked

pub returns-in-Err-clause-said : goal.returns-in-Err-clause-said
returns-in-Err-clause-said g c =
    to_unread (MayHearFrom g.S.Sessions.called g.S.Sessions.entered g.S.Sessions.left c.args.now) c.args.now
    (known_of c.args.self.now.nodes)
    (known_of c.args.self.now.nodes) c.args.bytes.now c.read.result _ c.args.sessions.now c.in-Err.is c.read.ensures.exact
