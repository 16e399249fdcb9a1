use Rattle.fuse_nodes.specs.Known.{known_of}
use Rattle.talks.specs.Talks.{MayHear}
use Rattle.fuse_server.specs.Reach.{CalledFrom}
use Rattle.fuse_server.specs.declared.said.Said.TheVariants as said
use Rattle.std.proofs.Common.{sym, ◌∙◌}
use Rattle.fuse_server.specs.Making.{asker}
use Rattle.fuse_server.specs.Telling.{telling}
use Rattle.fuse_server.proofs.Telling.{as_other, tells_nothing, plainly}
use Rattle.fuse_server.proofs.mount.Mount.said_of.Goals as goal

pub returns-clause-asked : goal.returns-clause-asked
returns-clause-asked g c =
    as_other (MayHear (CalledFrom c.args.work.reach g.S.Sessions.called) g.S.Sessions.entered g.S.Sessions.left c.args.work.now)
    c.args.work.reach (known_of c.said_plainly.new.self.nodes) c.args.sessions.now (said.Plain c.said_plainly.result) c.said_plainly.new.sessions
    (telling c.args.work.now c.args.message.now)
    (tells_nothing c.args.work.now (asker c.args.message.now) c.args.message.now.request (sym c.tells.ensures ∙ c.if-tells.false))
    (plainly c.args.work.reach c.said_plainly.result c.said_plainly.ensures.asked)
