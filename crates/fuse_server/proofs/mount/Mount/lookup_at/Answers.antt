use Rattle.fuse_server.specs.Telling.Telling.{Name}
use Rattle.fuse_server.proofs.Telling.{said_behind, entry_behind, refused_behind, nothing_there}
use Rattle.fuse_server.proofs.mount.Mount.lookup_at.Goals as goal

pub returns-in-Ok-Some-clause-asked : goal.returns-in-Ok-Some-clause-asked
returns-in-Ok-Some-clause-asked g c = λ name at. said_behind (entry_behind c.args.work.reach name c.in-Ok-Some.entry c.args.path at
    (rw c.in-Ok-Some.field-0-is at c.in-Ok-Some.ensures.shown))

pub returns-in-Ok-None-clause-asked : goal.returns-in-Ok-None-clause-asked
returns-in-Ok-None-clause-asked g c = λ name at. nothing_there c.args.work.reach name c.args.path at
    (rw c.in-Ok-None.field-0-is at c.in-Ok-None.ensures.shown)

pub returns-in-Err-clause-asked : goal.returns-in-Err-clause-asked
returns-in-Err-clause-asked g c = λ name at. said_behind (refused_behind c.args.work.reach (Name name) c.in-Err.refused
    c.find.ensures.asked)
