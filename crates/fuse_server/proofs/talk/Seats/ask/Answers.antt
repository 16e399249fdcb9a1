use Rattle.fuse_server.proofs.Asking.{goes_on}
use Rattle.fuse_server.proofs.talk.Seats.ask.Goals as goal

pub returns-clause-asked : goal.returns-clause-asked
returns-clause-asked g c = goes_on c.session.ensures.asked c.calling.ensures.asked

pub returns-clause-heard : goal.returns-clause-heard
returns-clause-heard g c = record {
  session = c.in_ok-session.session;
  before = c.session.new.sessions;
  first = c.session.ensures.none;
  last = c.calling.ensures.heard;
}
