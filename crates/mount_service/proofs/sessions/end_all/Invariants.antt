use Rattle.std.proofs.Common.{length}
use Rattle.mount_service.proofs.Meeting.{IsMeeting}
use Rattle.mount_service.proofs.sessions.end_all.Given as goal

-- what was met so far, and what is left
abbrev pub invariant-loop-session : goal.invariant-loop-session
invariant-loop-session g l = IsMeeting l.fn.sessions.items l.fn.own.knows.seen l.sessions.items l.own.knows.seen

-- a session ends in each turn
abbrev pub decreases-loop-session : goal.decreases-loop-session
decreases-loop-session g l = length l.sessions.items
