use Rattle.std.proofs.Common.{refl}
use Rattle.ninep.proofs.requests.statfs.Goals as goal

pub returns : goal.returns
returns c = c.end.ensures c.args.input _ refl (_, c.u32.ensures, refl)
