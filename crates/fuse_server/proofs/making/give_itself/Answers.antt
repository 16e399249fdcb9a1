use Rattle.std.proofs.Common.{false, refl, sym, ◌∙◌}
use Rattle.tree.specs.declared.Call.TheVariants as call
use Rattle.talks.specs.declared.ask.Ask.TheVariants as ask
use Rattle.fuse_server.specs.Reach.{CalledFrom}
use Rattle.fuse_server.proofs.Asking.{asks, gives_told, goes_on, link_given, never_takes}
use Rattle.fuse_server.proofs.making.give_itself.Goals as goal

pub returns-clause-asked : goal.returns-clause-asked
returns-clause-asked g c = goes_on c.calling-looked.ensures.asked
    (asks (CalledFrom c.args.work.reach g.S.Sessions.called) g.S.Sessions.entered g.S.Sessions.left c.args.work.now
    c.calling-looked.new.sessions (ask.Call c.args.session (call.Chown _ c.args.owner.uid c.args.owner.gid)) c.heard.result
    c.heard.new.sessions (never_takes false _ refl)
    (gives_told g.S.Sessions.called g.S.Sessions.entered g.S.Sessions.left c.args.work.now c.args.sessions.now
    c.calling-looked.new.sessions c.heard.new.sessions c.args.work.reach c.args.session c.args.path _ c.args.owner.uid c.args.owner.gid
    c.calling-looked.result c.heard.result c.in_ok-attributes.attributes c.requires.gives c.requires.named
    (record { start = refl; bytes = refl })
    (sym c.attributes.ensures ∙ c.in_ok-attributes.was) c.calling-looked.ensures.heard c.heard.ensures))

pub returns-clause-given : goal.returns-clause-given
returns-clause-given g c =
    link_given (CalledFrom c.args.work.reach g.S.Sessions.called) g.S.Sessions.entered g.S.Sessions.left c.args.work.now
    c.args.sessions.now c.calling-looked.new.sessions c.heard.new.sessions c.args.session c.args.path _ c.args.owner
    c.calling-looked.result c.heard.result c.in_ok-attributes.attributes c.done.result
    (sym c.attributes.ensures ∙ c.in_ok-attributes.was) c.done.ensures.done refl c.calling-looked.ensures.heard
    (gives_told g.S.Sessions.called g.S.Sessions.entered g.S.Sessions.left c.args.work.now c.args.sessions.now
    c.calling-looked.new.sessions c.heard.new.sessions c.args.work.reach c.args.session c.args.path _ c.args.owner.uid c.args.owner.gid
    c.calling-looked.result c.heard.result c.in_ok-attributes.attributes c.requires.gives c.requires.named
    (record { start = refl; bytes = refl })
    (sym c.attributes.ensures ∙ c.in_ok-attributes.was) c.calling-looked.ensures.heard c.heard.ensures)
