use Rattle.tree.specs.declared.Reply.TheVariants as reply
use Rattle.talks.specs.Hearing.{attributes_in}
use Rattle.fuse_server.proofs.Asking.{replied, attributes_so}
use Rattle.fuse_server.proofs.talk.Seats.look.Goals as goal

pub returns-clause-seen : goal.returns-clause-seen
returns-clause-seen g c =
    replied attributes_in (λ a. reply.Inode a) attributes_so c.in_ok-heard.heard c.attributes.result c.attributes.ensures
    c.in_ok-heard.ensures.heard
