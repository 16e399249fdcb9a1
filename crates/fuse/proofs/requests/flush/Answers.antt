use Rattle.std.proofs.Common.{refl}
use Rattle.fuse.proofs.requests.flush.Goals as goal

pub returns : goal.returns
returns c =
    c.ended.ensures.plain c.args.input _ refl refl (λ n. refl)
    (_, c.u64-handle.ensures, (_, c.unused_u32.ensures, (_, c.unused_u32-2.ensures, (_, c.u64-lock_owner.ensures, refl))))
