use Rattle.tree.specs.declared.Reply.TheVariants as reply
use Rattle.talks.specs.Hearing.{target_in}
use Rattle.fuse_server.proofs.Asking.{replied, target_so}
use Rattle.fuse_server.proofs.talk.Seats.target.Goals as goal

pub returns-clause-seen : goal.returns-clause-seen
returns-clause-seen g c =
    replied target_in (λ a. reply.Target a) target_so c.in_ok-heard.heard c.target.result c.target.ensures c.in_ok-heard.ensures.heard
