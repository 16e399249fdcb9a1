use Rattle.fuse_server.proofs.Asking.{goes_on}
use Rattle.fuse_server.proofs.Telling.{set_behind}
use Rattle.fuse_server.proofs.talk.Seats.set_node.Goals as goal

pub returns-clause-asked : goal.returns-clause-asked
returns-clause-asked g c = goes_on c.change.ensures.asked c.attributes.ensures.asked

pub returns-clause-behind : goal.returns-clause-behind
returns-clause-behind g c = λ k. set_behind c.attributes.new.sessions c.args.work.reach k c.args.changes c.in_ok-path.path
    c.in_ok-path.ensures.at c.in_ok-change.ensures.made c.attributes.result (c.attributes.ensures.behind k)
