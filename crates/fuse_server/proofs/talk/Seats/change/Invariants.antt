use Rattle.talks.specs.Changes.{in_order}
use Rattle.fuse_server.specs.Reach.{CalledFrom}
use Rattle.fuse_server.proofs.Changing.{Changing}
use Rattle.fuse_server.proofs.talk.Seats.change.Given as goal

abbrev pub invariant-changes : goal.invariant-changes
invariant-changes g l =
    Changing (CalledFrom l.work.reach g.S.Sessions.called) g.S.Sessions.entered g.S.Sessions.left l.work.now l.initial.sessions l.path
    (in_order l.fn.changes) (in_order l.left) l._made l.sessions
