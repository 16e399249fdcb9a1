use Rattle.fuse_server.specs.Reach.{CalledFrom}
use Rattle.fuse_server.proofs.Asking.{by_entering, enters}
use Rattle.fuse_server.proofs.talk.entering.Goals as goal

pub returns : goal.returns
returns g c =
    by_entering (CalledFrom c.args.work.reach g.S.Sessions.called) g.S.Sessions.entered g.S.Sessions.left c.args.work.now
    c.args.sessions.now c.heard.new.sessions 0 0 c.heard.result
    (enters g.S.Sessions.called g.S.Sessions.entered g.S.Sessions.left c.args.work.now
    c.args.sessions.now c.heard.new.sessions
    c.args.work.reach 0 0 c.heard.result c.heard.ensures)
