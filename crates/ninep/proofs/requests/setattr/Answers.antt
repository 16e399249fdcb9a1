use Rattle.std.proofs.Common.{refl}
use Rattle.ninep.proofs.requests.setattr.Goals as goal

pub returns : goal.returns
returns c =
    c.end.ensures c.args.input _ refl (
      _,
      c.u32.ensures,
      (
        _,
        c.u32-2.ensures,
        (
          _,
          c.u32-3.ensures,
          (
            _,
            c.u32-4.ensures,
            (
              _,
              c.u32-5.ensures,
              (_, c.u64.ensures, (_, c.u64-2.ensures, (_, c.u64-3.ensures, (_, c.u64-4.ensures, (_, c.u64-5.ensures, refl))))),
            ),
          ),
        ),
      ),
    )
