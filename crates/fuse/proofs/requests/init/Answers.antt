use Rattle.std.proofs.Common.{refl}
use Rattle.fuse.proofs.EndLaws.{always, init_taken}
use Rattle.fuse.proofs.requests.init.Goals as goal

pub returns : goal.returns
returns c =
    c.ended.ensures.with_tail c.args.input _ _ _ refl
    (_, c.u32-major.ensures, (_, c.u32-minor.ensures, (_, c.u32-readahead.ensures, (_, c.u32-flags.ensures, refl))))
    (init_taken _ _ _ _ c.more_of-more.ensures) (always _ _ refl)
