use Rattle.std.proofs.Common.{refl}
use Rattle.fuse.proofs.requests.mknod.Goals as goal

pub returns : goal.returns
returns c =
    c.ended.ensures.plain c.args.input _ refl refl (λ n. refl) (
      _,
      c.u32-mode.ensures,
      (
        _,
        c.u32-device.ensures,
        (
          _,
          c.u32-umask.ensures,
          (
            _,
            c.unused_u32.ensures,
            (
              _,
              c.name-name.ensures,
              refl,
            ),
          ),
        ),
      ),
    )
