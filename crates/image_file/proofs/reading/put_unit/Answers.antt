use Rattle.std.proofs.Common.{arith}
use Rattle.image_file.proofs.Bytes.{put_unit_is}
use Rattle.image_file.proofs.reading.put_unit.Goals as goal

pub returns-clause-units : goal.returns-clause-units
returns-clause-units c n =
    put_unit_is c.args.image.now c.args.unit.now c.put_bytes.new.image c.args.number c.min-first.result c.min-count.result (omega arith) c.min-first.ensures c.min-count.ensures c.put_bytes.ensures n
