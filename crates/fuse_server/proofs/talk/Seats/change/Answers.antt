use Rattle.std.proofs.Common.{◌+◌, refl}
use Rattle.talks.specs.Changes.{in_order}
use Rattle.fuse_server.specs.Reach.{CalledFrom}
use Rattle.fuse_server.proofs.Asking.{goes_on}
use Rattle.fuse_server.proofs.Changing.{all_made, begins, goes_further, none_left}
use Rattle.fuse_server.proofs.talk.Seats.change.Goals as goal

pub changes-init : goal.changes-init
changes-init g c = begins (CalledFrom c.args.work.reach g.S.Sessions.called) g.S.Sessions.entered g.S.Sessions.left c.args.work.now
    c.args.sessions.now c.args.path c.args.changes

pub returns-in_err-ask_done-clause-asked : goal.returns-in_err-ask_done-clause-asked
returns-in_err-ask_done-clause-asked g c = goes_on c.changes.invariant.talked.talked c.ask_done.ensures.asked

pub returns-in_default-clause-made : goal.returns-in_default-clause-made
returns-in_default-clause-made g c = all_made c.in_default.ensures c.changes.invariant

pub changes-preserved : goal.changes-preserved
changes-preserved g c = goes_further (c.changes._made + 1) c.in-Some.change (in_order c.in-Some.more) c.call.result refl c.in-Some.ensures
    c.call.ensures c.changes.invariant c.in_ok-ask_done.ensures.done

pub returns-clause-made : goal.returns-clause-made
returns-clause-made g c =
    all_made (none_left (in_order c.changes.left) c.changes._made c.changes-test.false c.changes.invariant) c.changes.invariant
