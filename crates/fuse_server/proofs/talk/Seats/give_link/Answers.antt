use Rattle.fuse_server.proofs.Asking.{given_after, goes_on}
use Rattle.fuse_server.proofs.talk.Seats.give_link.Goals as goal

pub returns-clause-given : goal.returns-clause-given
returns-clause-given g c =
    given_after c.give_itself.new.sessions c.args.path c.args.owner c.session.ensures.none c.give_itself.result c.give_itself.ensures.given

pub returns-in_err-session-clause-asked : goal.returns-in_err-session-clause-asked
returns-in_err-session-clause-asked g c = c.session.ensures.asked

pub returns-clause-asked : goal.returns-clause-asked
returns-clause-asked g c = (goes_on c.session.ensures.asked c.give_itself.ensures.asked)
