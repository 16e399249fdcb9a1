use Rattle.std.proofs.Common.{Ok, Err, refl, subst}
use Rattle.fields.specs.Readers.{TakesAll}
use Rattle.fields.proofs.ReaderLaws.{all_taken}
use Rattle.fuse.specs.Requests.{asker_kinds, asker_fields}
use Rattle.fuse.specs.Reading.{asker_at}
use Rattle.fuse.proofs.reading.asker_of.Goals as goal

pub returns-in-Ok : goal.returns-in-Ok
unfolding asker_at
returns-in-Ok c =
    let fields = asker_fields c.u64.result c.u64-2.result c.u32.result c.u32-2.result c.u32-3.result in
    all_taken asker_kinds fields c.args.bytes (Ok c.in-Ok.rest)
    (subst (λ left. TakesAll (Ok c.args.bytes) asker_kinds fields left) c.in-Ok.is (
      _,
      c.u64.ensures,
      (
        _,
        c.u64-2.ensures,
        (
          _,
          c.u32.ensures,
          (
            _,
            c.u32-2.ensures,
            (
              _,
              c.u32-3.ensures,
              (_, c.unused_u32.ensures, refl),
            ),
          ),
        ),
      ),
    ))

pub returns-in-Err : goal.returns-in-Err
unfolding asker_at
returns-in-Err c =
    let fields = asker_fields c.u64.result c.u64-2.result c.u32.result c.u32-2.result c.u32-3.result in
    all_taken asker_kinds fields c.args.bytes (Err c.in-Err.fault)
    (subst (λ left. TakesAll (Ok c.args.bytes) asker_kinds fields left) c.in-Err.is (
      _,
      c.u64.ensures,
      (
        _,
        c.u64-2.ensures,
        (
          _,
          c.u32.ensures,
          (
            _,
            c.u32-2.ensures,
            (
              _,
              c.u32-3.ensures,
              (_, c.unused_u32.ensures, refl),
            ),
          ),
        ),
      ),
    ))
