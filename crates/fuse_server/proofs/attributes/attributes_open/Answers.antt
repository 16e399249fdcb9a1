use Rattle.fuse_server.specs.Reach.{CalledFrom}
use Rattle.fuse_server.proofs.Telling.{open_so}
use Rattle.fuse_server.proofs.attributes.attributes_open.Goals as goal

pub returns-clause-behind : goal.returns-clause-behind
returns-clause-behind g c = λ k.
    open_so (CalledFrom c.args.work.reach g.S.Sessions.called) g.S.Sessions.entered g.S.Sessions.left c.args.work.now c.args.sessions.now
    c.calling-heard.new.sessions c.args.work.reach k c.args.descriptor c.calling-heard.result c.attributes.result c.attributes.ensures
    c.calling-heard.ensures.heard
