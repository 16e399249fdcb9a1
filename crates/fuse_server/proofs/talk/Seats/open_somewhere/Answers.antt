use Rattle.fuse_server.proofs.Asking.{goes_on, opened_after}
use Rattle.fuse_server.proofs.talk.Seats.open_somewhere.Goals as goal

pub returns-in_err-session-clause-asked : goal.returns-in_err-session-clause-asked
returns-in_err-session-clause-asked g c = goes_on c.seats.invariant c.session.ensures.asked

pub returns-then-not-is_full-clause-asked : goal.returns-then-not-is_full-clause-asked
returns-then-not-is_full-clause-asked g c = goes_on (goes_on c.seats.invariant c.session.ensures.asked) c.open_by-opened.ensures.asked

pub returns-then-not-is_full-clause-opened : goal.returns-then-not-is_full-clause-opened
returns-then-not-is_full-clause-opened g c =
    opened_after c.open_by-opened.new.sessions c.args.opening.path c.args.opening.mode c.open_by-opened.result
    (goes_on c.seats.invariant c.session.ensures.asked) c.open_by-opened.ensures.opened

pub seats-preserved : goal.seats-preserved
seats-preserved g c = goes_on (goes_on c.seats.invariant c.session.ensures.asked) c.open_by-opened.ensures.asked
