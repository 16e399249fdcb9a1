use Rattle.std.proofs.Common.{refl}
use Rattle.fuse.proofs.requests.rename.Goals as goal

pub returns : goal.returns
returns c =
    c.ended.ensures.plain c.args.input _ refl refl (λ n. refl)
    (_, c.u64-new_directory.ensures, (_, c.name-old_name.ensures, (_, c.name-new_name.ensures, refl)))
