use Rattle.std.proofs.Common.{arith}
use Rattle.fuse_nodes.specs.Known.{known_of}
use Rattle.fuse_server.specs.Reach.{CalledFrom}
use Rattle.fuse_server.specs.Telling.Telling.{Name}
use Rattle.fuse_server.proofs.Asking.{stays}
use Rattle.fuse_server.proofs.Telling.{said_behind, refused_behind, too_long}
use Rattle.fuse_server.proofs.mount.Mount.lookup.Goals as goal

pub returns-in-Ok-clause-asked : goal.returns-in-Ok-clause-asked
returns-in-Ok-clause-asked g c = c.lookup_at.ensures.asked c.args.name.now c.in-Ok.ensures.at

pub returns-in-Err-clause-asked : goal.returns-in-Err-clause-asked
returns-in-Err-clause-asked g c = said_behind (refused_behind c.args.work.reach (Name c.args.name.now) c.in-Err.refused
    (stays (CalledFrom c.args.work.reach g.S.Sessions.called) g.S.Sessions.entered g.S.Sessions.left c.args.work.now c.args.sessions.now))

pub returns-then-name-gt-MAX_NAME-clause-asked : goal.returns-then-name-gt-MAX_NAME-clause-asked
returns-then-name-gt-MAX_NAME-clause-asked g c =
    too_long (CalledFrom c.args.work.reach g.S.Sessions.called) g.S.Sessions.entered g.S.Sessions.left c.args.work.now
    (known_of c.args.self.now.nodes) c.args.sessions.now c.args.work.reach c.args.name.now (omega (arith, c.if-name-gt-MAX_NAME.true))
