use Rattle.std.proofs.Common.{◌≤◌, length}
use Rattle.fuse_server.specs.Reach.{CalledFrom}
use Rattle.fuse_server.specs.Tries.{TriedFor}
use Rattle.fuse_server.proofs.writing.write_some.Given as goal

abbrev pub invariant-tries : goal.invariant-tries
invariant-tries g l =
    TriedFor (CalledFrom l.work.reach g.S.Sessions.called) g.S.Sessions.entered g.S.Sessions.left l.work.now l.initial.sessions l.descriptor
    l.offset l.bytes l.given l.sessions × (length l.given ≤ 65536)

abbrev pub decreases-tries : goal.decreases-tries
decreases-tries g l = length l.given
