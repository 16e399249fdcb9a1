use Rattle.inode.proofs.laws.root_reply.Goals as goal
use Rattle.inode.proofs.Stat.{root_reply}

pub returns : goal.returns
returns c = root_reply
