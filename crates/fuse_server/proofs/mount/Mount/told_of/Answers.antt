use Rattle.fuse_server.specs.Telling.{telling}
use Rattle.fuse_server.proofs.Telling.{refused_behind}
use Rattle.fuse_server.proofs.mount.Mount.told_of.Goals as goal

pub returns-in-Ok-clause-behind : goal.returns-in-Ok-clause-behind
returns-in-Ok-clause-behind g c = c.in-Ok.ensures.behind

pub returns-in-Err-clause-behind : goal.returns-in-Err-clause-behind
returns-in-Err-clause-behind g c = refused_behind c.args.work.reach (telling c.args.work.now c.args.message.now) c.in-Err.refused
    c.in-Err.ensures.asked
