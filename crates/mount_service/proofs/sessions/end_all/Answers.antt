use Rattle.mount_service.proofs.Meeting.{meeting_last}
use Rattle.mount_service.proofs.sessions.end_all.Goals as goal

pub loop-session-preserved : goal.loop-session-preserved
loop-session-preserved g c =
    meeting_last c.args.sessions.now.items c.args.own.now.knows.seen c.loop-session.sessions.items c.pop.new.self.items c.loop-session.own
    c.in-Some.session c.meet.new.self c.meet.new.other c.in-Some.ensures.items c.meet.ensures c.loop-session.invariant
