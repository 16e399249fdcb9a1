use Rattle.fuse_server.specs.Reach.{CalledFrom}
use Rattle.fuse_server.proofs.Telling.{given_open, node_so}
use Rattle.fuse_server.proofs.talk.Seats.attributes.Goals as goal

pub returns-in-Some-clause-behind : goal.returns-in-Some-clause-behind
returns-in-Some-clause-behind g c = λ k.
    given_open (CalledFrom c.args.work.reach g.S.Sessions.called) g.S.Sessions.entered g.S.Sessions.left c.args.work.now c.args.sessions.now
    c.attributes_open.new.sessions c.args.work.reach k c.in-Some.descriptor c.in-Some.is c.attributes_open.result
    (c.attributes_open.ensures.behind k)

pub returns-clause-behind : goal.returns-clause-behind
returns-clause-behind g c = λ k.
    node_so (CalledFrom c.args.work.reach g.S.Sessions.called) g.S.Sessions.entered g.S.Sessions.left c.args.work.now c.args.sessions.now
    c.look.new.sessions c.args.work.reach k c.in_ok-path.path c.in_ok-path.ensures.at c.look.result c.look.ensures.seen
