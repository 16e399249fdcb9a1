use Rattle.std.specs.Prelude.{vec_capacity}
use Rattle.fuse_nodes.specs.Known.{known_of}
use Rattle.fuse_server.proofs.Answering.{by_any, stays_empty}
use Rattle.fuse_server.proofs.mount.MountAnswers.answer.Goals as goal

pub returns-clause-ok : goal.returns-clause-ok
returns-clause-ok g c =
    by_any g.S.Sessions.called g.S.Sessions.entered g.S.Sessions.left c.args.now (known_of c.args.self.now.nodes)
    (known_of c.answer.new.self.nodes)
    c.args.bytes.now (vec_capacity c.args.out.now) c.args.sessions.now c.args.out.now.items c.answer.new.sessions
    c.answer.new.out.items c.answer.result c.requires c.answer.ensures.steps c.answer.ensures.answered

pub returns-clause-none : goal.returns-clause-none
returns-clause-none g c =
    stays_empty c.args.sessions.now c.answer.new.sessions c.args.self.now c.answer.new.self c.args.out.now.items c.answer.new.out.items
    c.answer.result c.requires c.answer.ensures.none
