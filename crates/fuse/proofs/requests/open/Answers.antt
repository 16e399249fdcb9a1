use Rattle.std.proofs.Common.{refl}
use Rattle.fuse.proofs.requests.open.Goals as goal

pub returns : goal.returns
returns c = c.ended.ensures.plain c.args.input _ refl refl (λ n. refl) (_, c.u32-flags.ensures, (_, c.u32-open_flags.ensures, refl))
