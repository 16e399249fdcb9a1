use Rattle.talks.specs.Talks.{MayHear}
use Rattle.ninep_fids.specs.Knowledge.{known_of}
use Rattle.ninep_server.specs.Progress.{left_of_next, left_of_turn}
use Rattle.ninep_server.proofs.Turns.{goes_on, syncs}
use Rattle.ninep_server.proofs.Following.{work_carried, work_few, sync_carried, sync_few}
use Rattle.ninep_server.proofs.connection.step.Goals as goal

pub returns-in-Sync-clause-reaches : goal.returns-in-Sync-clause-reaches
returns-in-Sync-clause-reaches g c start reached =
    syncs _ start _ _ c.in-Sync.session c.heard.result c.args.turn _ reached c.heard.ensures c.synced.ensures.told

pub returns-in-Sync-clause-carried : goal.returns-in-Sync-clause-carried
returns-in-Sync-clause-carried g c =
    sync_carried (MayHear g.S.Sessions.called g.S.Sessions.entered g.S.Sessions.left c.args.now) c.args.turn c.in-Sync.session
    (left_of_turn c.synced.result) c.heard.result c.args.sessions.now c.heard.new.sessions (known_of c.args.knows.now) c.in-Sync.is
    c.heard.ensures (c.synced.ensures.left (known_of c.args.knows.now))

pub returns-in-Sync-clause-few : goal.returns-in-Sync-clause-few
returns-in-Sync-clause-few g c n =
    sync_few n c.args.turn c.in-Sync.session (left_of_turn c.synced.result) c.heard.result (known_of c.args.knows.now) c.in-Sync.is
    (c.synced.ensures.left (known_of c.args.knows.now))

pub returns-in-Go-clause-reaches : goal.returns-in-Go-clause-reaches
returns-in-Go-clause-reaches g c start reached =
    goes_on _ start _ _ _ _ c.args.turn _ reached c.heard-heard.ensures c.of.ensures.plain

pub returns-in-Go-clause-carried : goal.returns-in-Go-clause-carried
returns-in-Go-clause-carried g c =
    work_carried (MayHear g.S.Sessions.called g.S.Sessions.entered g.S.Sessions.left c.args.now) c.args.turn c.in-Go.work
    (left_of_next c.hear.result) (left_of_turn c.of.result) c.ask.result c.heard-heard.result c.args.sessions.now
    c.heard-heard.new.sessions (known_of c.args.knows.now) (known_of c.hear.new.knows) c.in-Go.is c.ask.ensures c.heard-heard.ensures
    c.hear.ensures c.of.ensures.left

pub returns-in-Go-clause-few : goal.returns-in-Go-clause-few
returns-in-Go-clause-few g c n =
    work_few n c.args.turn c.in-Go.work (left_of_next c.hear.result) (left_of_turn c.of.result) c.ask.result c.heard-heard.result
    (known_of c.args.knows.now) (known_of c.hear.new.knows) c.in-Go.is c.ask.ensures c.hear.ensures c.of.ensures.left
