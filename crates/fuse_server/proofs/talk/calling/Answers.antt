use Rattle.std.proofs.Common.{inl}
use Rattle.talks.specs.Talks.{IsDone}
use Rattle.fuse_server.specs.Losing.{takes_name}
use Rattle.talks.specs.declared.ask.Ask.TheVariants as ask
use Rattle.fuse_server.specs.Reach.{CalledFrom}
use Rattle.fuse_server.proofs.Asking.{asks, from_named, never_takes}
use Rattle.fuse_server.proofs.talk.calling.Goals as goal

pub returns-clause-asked : goal.returns-clause-asked
returns-clause-asked g c =
    asks (CalledFrom c.args.work.reach g.S.Sessions.called) g.S.Sessions.entered g.S.Sessions.left c.args.work.now c.args.sessions.now
    (ask.Call c.args.session c.args.call.now) c.heard.result c.heard.new.sessions
    (never_takes (takes_name c.args.call.now) (IsDone c.heard.result) c.requires.quiet)
    (from_named g.S.Sessions.called g.S.Sessions.entered g.S.Sessions.left c.args.work.now c.args.sessions.now c.heard.new.sessions
    c.args.work.reach c.args.session c.args.call.now c.heard.result c.requires.planned (inl c.requires.named) c.heard.ensures)

pub returns-clause-heard : goal.returns-clause-heard
returns-clause-heard g c =
    from_named g.S.Sessions.called g.S.Sessions.entered g.S.Sessions.left c.args.work.now c.args.sessions.now c.heard.new.sessions
    c.args.work.reach c.args.session c.args.call.now c.heard.result c.requires.planned (inl c.requires.named) c.heard.ensures
