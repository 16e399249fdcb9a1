use Rattle.fuse_server.specs.Asking.{Talked}
use Rattle.fuse_server.specs.Reach.{CalledFrom}
use Rattle.fuse_server.proofs.talk.Seats.open_somewhere.Given as goal

abbrev pub invariant-seats : goal.invariant-seats
invariant-seats g l =
    Talked (CalledFrom l.work.reach g.S.Sessions.called) g.S.Sessions.entered g.S.Sessions.left l.work.now l.initial.sessions l.sessions
