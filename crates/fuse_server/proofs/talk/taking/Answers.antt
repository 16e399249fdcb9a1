use Rattle.std.proofs.Common.{inl}
use Rattle.fuse_server.specs.Reach.{CalledFrom}
use Rattle.fuse_server.proofs.Asking.{from_named, taken, untaken}
use Rattle.fuse_server.proofs.talk.taking.Goals as goal

pub returns-clause-asked : goal.returns-clause-asked
returns-clause-asked g c =
    untaken (CalledFrom c.args.work.reach g.S.Sessions.called) g.S.Sessions.entered g.S.Sessions.left c.args.work.now c.args.sessions.now
    c.heard.new.sessions c.args.session c.args.call.now c.heard.result c.done.result c.done.ensures.told
    (from_named g.S.Sessions.called g.S.Sessions.entered g.S.Sessions.left c.args.work.now c.args.sessions.now c.heard.new.sessions
    c.args.work.reach c.args.session c.args.call.now c.heard.result c.requires.planned (inl c.requires.named) c.heard.ensures)

pub returns-clause-done : goal.returns-clause-done
returns-clause-done g c =
    taken (CalledFrom c.args.work.reach g.S.Sessions.called) g.S.Sessions.entered g.S.Sessions.left c.args.work.now c.args.sessions.now
    c.heard.new.sessions c.args.session c.args.call.now c.heard.result c.done.result c.done.ensures.done
    (from_named g.S.Sessions.called g.S.Sessions.entered g.S.Sessions.left c.args.work.now c.args.sessions.now c.heard.new.sessions
    c.args.work.reach c.args.session c.args.call.now c.heard.result c.requires.planned (inl c.requires.named) c.heard.ensures)
