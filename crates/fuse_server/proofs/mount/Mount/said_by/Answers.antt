use Rattle.talks.specs.Talks.{MayHear}
use Rattle.fuse_server.specs.Reach.{CalledFrom}
use Rattle.std.proofs.Common.{sym, ◌∙◌}
use Rattle.fuse_nodes.specs.Known.{known_of}
use Rattle.fuse_server.specs.Making.{asker}
use Rattle.fuse_server.specs.Telling.{telling}
use Rattle.fuse_server.proofs.KindLaws.{sync_for}
use Rattle.fuse_server.proofs.Telling.{as_other, sync_tells_nothing}
use Rattle.fuse_server.proofs.mount.Mount.said_by.Goals as goal

pub returns-then-asks_sync-clause-asked : goal.returns-then-asks_sync-clause-asked
returns-then-asks_sync-clause-asked g c =
    as_other (MayHear (CalledFrom c.args.work.reach g.S.Sessions.called) g.S.Sessions.entered g.S.Sessions.left c.args.work.now)
    c.args.work.reach (known_of c.sync.new.self.nodes) c.args.sessions.now c.sync.result c.sync.new.sessions
    (telling c.args.work.now c.args.message.now)
    (sync_tells_nothing c.args.work.now (asker c.args.message.now) c.args.message.now.request
    (sym c.asks_sync.ensures ∙ c.if-asks_sync.true)) c.sync.ensures.asked

pub returns-then-asks_sync-clause-told : goal.returns-then-asks_sync-clause-told
returns-then-asks_sync-clause-told g c =
    sync_for (known_of c.sync.new.self.nodes) c.args.message.now.request c.sync.result (sym c.asks_sync.ensures ∙ c.if-asks_sync.true)
    c.sync.ensures.sync
