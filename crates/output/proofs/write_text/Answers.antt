use Rattle.std.proofs.Common.{◌+◌, arith}
use Rattle.output.proofs.Writes.{front_more, part_of_front}
use Rattle.output.proofs.write_text.Goals as goal

pub loop-at-preserved : goal.loop-at-preserved
loop-at-preserved g c =
    front_more _ _ _ _ _ _ c.loop-at.invariant.0 c.loop-at.invariant.1 c.in-Ok.ensures.bound c.in-Ok.ensures.bytes

pub returns-in-Ok-eq0-clause-err : goal.returns-in-Ok-eq0-clause-err
returns-in-Ok-eq0-clause-err g c =
    part_of_front _ _ _ (c.loop-at.at + c.in-Ok-eq0.field-0) (omega arith)
    (front_more _ _ _ _ _ _ c.loop-at.invariant.0 c.loop-at.invariant.1 c.in-Ok-eq0.ensures.bound c.in-Ok-eq0.ensures.bytes).1
