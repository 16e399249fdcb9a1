use Rattle.std.proofs.Common.{sym}
use Rattle.fuse_nodes.proofs.ChangeLaws.{lost_is}
use Rattle.fuse_nodes.proofs.nodes.Nodes.lost.Goals as goal

pub returns : goal.returns
returns c = lost_is _ _ _ c.args.inode c.in-Some.id (sym c.in-Some.ensures) c.set_gone.ensures c.settle.ensures
