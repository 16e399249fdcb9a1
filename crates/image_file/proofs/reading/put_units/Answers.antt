use Rattle.std.proofs.Common.{◌+◌, take, refl, ◌∙◌}
use Rattle.std.proofs.lemmas.List.{take_more}
use Rattle.image_file.proofs.Bytes.{unit_itself, units_more}
use Rattle.image_file.proofs.reading.put_units.Goals as goal

pub loop-number-init : goal.loop-number-init
loop-number-init c = record { size = refl; units = λ n. unit_itself c.args.image.now n }

pub loop-number-preserved : goal.loop-number-preserved
loop-number-preserved c =
    let i = c.loop-number.number-index in
    let changes = c.args.changes.now in
    record {
      size = c.put_unit.ensures.size ∙ c.loop-number.invariant.size;
      units = units_more c.args.image.now c.loop-number.image c.put_unit.new.image (take i changes) (take (i + 1) changes) _ c.loop-number.invariant.size
          (take_more changes i _ c.loop-number-test.true) c.loop-number.invariant.units c.put_unit.ensures.units;
    }
