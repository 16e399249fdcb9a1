use Rattle.talks.specs.Talks.{MayHear}
use Rattle.fuse_server.specs.Reach.{CalledFrom}
use Rattle.std.proofs.Common.{sym, subst}
use Rattle.fuse.specs.declared.request.Request.{Request}
use Rattle.fuse_nodes.specs.Known.{known_of}
use Rattle.fuse_server.specs.Kinds.{IsSaidTo}
use Rattle.fuse_server.specs.Making.{asker}
use Rattle.fuse_server.proofs.KindLaws.{lookup_for}
use Rattle.fuse_server.proofs.Telling.{as_lookup, said_behind}
use Rattle.fuse_server.proofs.mount.Mount.said_telling.Goals as goal

pub returns-in-Lookup-clause-asked : goal.returns-in-Lookup-clause-asked
returns-in-Lookup-clause-asked g c =
    as_lookup (MayHear (CalledFrom c.args.work.reach g.S.Sessions.called) g.S.Sessions.entered g.S.Sessions.left c.args.work.now)
    c.args.work.reach (known_of c.lookup.new.self.nodes) c.args.sessions.now c.lookup.result c.lookup.new.sessions c.args.work.now
    (asker c.args.message.now) c.args.message.now.request c.in-Lookup.name c.in-Lookup.is
    c.lookup.ensures.asked

pub returns-in-Lookup-clause-told : goal.returns-in-Lookup-clause-told
returns-in-Lookup-clause-told g c =
    let known = known_of c.lookup.new.self.nodes in
    let P : Request → Type 0 = λ r. IsSaidTo known r c.lookup.result in
    subst P (sym c.in-Lookup.is) (lookup_for known c.in-Lookup.name c.lookup.result c.lookup.ensures.told)

pub returns-in_default-clause-asked : goal.returns-in_default-clause-asked
returns-in_default-clause-asked g c = said_behind c.told_of.ensures.behind
