use Rattle.std.proofs.Common.{refl}
use Rattle.fuse.proofs.requests.release.Goals as goal

pub returns : goal.returns
returns c =
    c.ended.ensures.plain c.args.input _ refl refl (λ n. refl)
    (_, c.u64-handle.ensures, (_, c.u32-flags.ensures, (_, c.u32-release_flags.ensures, (_, c.u64-lock_owner.ensures, refl))))
