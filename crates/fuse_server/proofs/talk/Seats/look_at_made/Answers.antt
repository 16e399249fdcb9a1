use Rattle.std.proofs.Common.{refl}
use Rattle.fuse_server.proofs.Asking.{goes_on}
use Rattle.fuse_server.proofs.Telling.{looked_by}
use Rattle.fuse_server.proofs.talk.Seats.look_at_made.Goals as goal

pub returns-clause-asked : goal.returns-clause-asked
returns-clause-asked g c = goes_on c.give.ensures.asked c.look.ensures.asked

pub returns-clause-seen : goal.returns-clause-seen
returns-clause-seen g c =
    looked_by c.look.new.sessions c.args.path _ refl c.in_ok-give.ensures.given c.look.result c.look.ensures.seen
