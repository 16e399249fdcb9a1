use Rattle.fuse_server.proofs.Asking.{done_by}
use Rattle.fuse_server.proofs.talk.Seats.ask_done.Goals as goal

pub returns-clause-done : goal.returns-clause-done
returns-clause-done g c = done_by c.in_ok-heard.heard c.done.result c.done.ensures.done c.in_ok-heard.ensures.heard
