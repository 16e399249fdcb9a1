use Rattle.fuse_server.proofs.Asking.{goes_on, opened_after}
use Rattle.fuse_server.proofs.mount.Mount.open_path.Goals as goal

pub returns-in_err-make_room-clause-asked : goal.returns-in_err-make_room-clause-asked
returns-in_err-make_room-clause-asked g c = goes_on c.open_somewhere-opened.ensures.asked c.make_room.ensures.asked

pub returns-clause-asked : goal.returns-clause-asked
returns-clause-asked g c = goes_on (goes_on c.open_somewhere-opened.ensures.asked c.make_room.ensures.asked) c.open_somewhere.ensures.asked

pub returns-clause-opened : goal.returns-clause-opened
returns-clause-opened g c =
    opened_after c.open_somewhere.new.sessions c.args.opening.path c.args.opening.mode c.open_somewhere.result
    (goes_on c.open_somewhere-opened.ensures.asked c.make_room.ensures.asked) c.open_somewhere.ensures.opened
