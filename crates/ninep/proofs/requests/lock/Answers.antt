use Rattle.std.proofs.Common.{refl}
use Rattle.ninep.proofs.requests.lock.Goals as goal

pub returns : goal.returns
returns c =
    c.end.ensures c.args.input _ refl (
      _,
      c.u32.ensures,
      (
        _,
        c.u8.ensures,
        (_, c.u32-2.ensures, (_, c.u64.ensures, (_, c.u64-2.ensures, (_, c.u32-3.ensures, (_, c.text.ensures, refl))))),
      ),
    )
