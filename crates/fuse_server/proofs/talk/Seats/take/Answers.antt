use Rattle.fuse_server.proofs.Asking.{taken_after, untaken_after}
use Rattle.fuse_server.proofs.talk.Seats.take.Goals as goal

pub returns-clause-asked : goal.returns-clause-asked
returns-clause-asked g c = untaken_after c.taking.new.sessions c.taking.result c.session.ensures.asked c.taking.ensures.asked

pub returns-clause-done : goal.returns-clause-done
returns-clause-done g c =
    taken_after c.taking.new.sessions c.args.call.now c.in_ok-session.session
    c.taking.result c.session.ensures.none c.taking.ensures.done
