use Rattle.ninep_fids.specs.Knowledge.{known_of, file_of}
use Rattle.ninep_server.proofs.Following.{removes_gone}
use Rattle.ninep_server.proofs.naming.Remove.begin.Goals as goal

pub returns-then-taken : goal.returns-then-taken
returns-then-taken c =
    removes_gone (known_of c.args.knows.now) (known_of c.take.new.self) c.args.fid (file_of c.in_ok-taken.taken) c.in_ok-taken.stays _
    c.in_ok-taken.ensures.0 c.if-taken.true c.in_ok-taken.ensures.1 c.in_ok-taken.ensures.2 c.let_go.ensures
