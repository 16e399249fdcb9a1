use Rattle.std.proofs.Common.{refl}
use Rattle.fuse.proofs.requests.destroy.Goals as goal

pub returns : goal.returns
returns c = c.ended.ensures.plain c.args.input _ refl refl (λ n. refl) refl
