use Rattle.tree.specs.declared.Call.TheVariants as call
use Rattle.fuse_server.specs.Reach.{CalledFrom}
use Rattle.fuse_server.proofs.Asking.{by_session}
use Rattle.fuse_server.proofs.descriptors.close.Goals as goal

pub returns-clause-closed : goal.returns-clause-closed
returns-clause-closed g c = (
  c.calling.result,
  by_session (CalledFrom c.args.work.reach g.S.Sessions.called) g.S.Sessions.entered g.S.Sessions.left c.args.work.now c.args.sessions.now
      c.calling.new.sessions c.args.descriptor.session (call.Close c.args.descriptor.fd) c.calling.result c.calling.ensures.heard,
)
