use Rattle.std.proofs.Common.{refl}
use Rattle.ninep.proofs.requests.open.Goals as goal

pub returns : goal.returns
returns c = c.end.ensures c.args.input _ refl (_, c.u32.ensures, (_, c.u32-2.ensures, refl))
