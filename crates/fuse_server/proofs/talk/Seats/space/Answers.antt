use Rattle.tree.specs.declared.Reply.TheVariants as reply
use Rattle.talks.specs.Hearing.{room_in}
use Rattle.fuse_server.proofs.Asking.{replied, room_so}
use Rattle.fuse_server.proofs.talk.Seats.space.Goals as goal

pub returns-clause-seen : goal.returns-clause-seen
returns-clause-seen g c =
    replied room_in (λ a. reply.Space a) room_so c.in_ok-heard.heard c.space.result c.space.ensures c.in_ok-heard.ensures.heard
