use Rattle.std.proofs.Common.{refl}
use Rattle.fuse.proofs.requests.fsync.Goals as goal

pub returns : goal.returns
returns c =
    c.ended.ensures.plain c.args.input _ refl refl (λ n. refl)
    (_, c.u64-handle.ensures, (_, c.u32-fsync_flags.ensures, (_, c.unused_u32.ensures, refl)))
