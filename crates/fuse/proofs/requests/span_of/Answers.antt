use Rattle.std.proofs.Common.{refl}
use Rattle.fuse.proofs.requests.span_of.Goals as goal

pub returns : goal.returns
returns c = (
  _,
  c.u64-handle.ensures,
  (
    _,
    c.u64-offset.ensures,
    (
      _,
      c.u32-count.ensures,
      (
        _,
        c.u32-read_flags.ensures,
        (_, c.u64-lock_owner.ensures, (_, c.u32-flags.ensures, (_, c.unused_u32.ensures, refl))),
      ),
    ),
  ),
)
