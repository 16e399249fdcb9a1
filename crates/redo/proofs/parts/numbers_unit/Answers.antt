use Rattle.std.proofs.Common.{◌∙◌}
use Rattle.redo.proofs.Writing.{number_next}
use Rattle.redo.proofs.parts.numbers_unit.Goals as goal

pub loop-i-preserved : goal.loop-i-preserved
loop-i-preserved c =
    c.put_bytes.ensures ∙ number_next c.args.numbers.now c.loop-i.unit c.to_be_bytes.result c.loop-i.i c.loop-i-test.true c.requires c.to_be_bytes.ensures c.loop-i.invariant
