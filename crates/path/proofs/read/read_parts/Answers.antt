use Rattle.std.proofs.Common.{refl, arith}
use Rattle.tree.specs.Walk.{parts_of}
use Rattle.path.proofs.Splits.{last_is}
use Rattle.path.proofs.read.read_parts.Goals as goal

pub loop-part-init : goal.loop-part-init
loop-part-init c = record { last = last_is (parts_of c.args.bytes.now); counted = omega arith; long = refl; few = omega arith }
