use Rattle.std.proofs.Common.{◌≡◌, ◌<◌, ◌≤◌, ◌+◌, [], ◌∷◌, length, min, arith}
use Rattle.std.proofs.lemmas.Bool.Decides.{nat_tests}
use Rattle.stable.specs.declared.Which.TheVariants.{Log}
use Rattle.stable.specs.Disk.{Write}
use Rattle.redo.proofs.Left.{left_as, step_done, part_stops}
use Rattle.redo.proofs.Writing.{directory_left}
use Rattle.redo.proofs.parts.write_directory.Goals as goal

pub returns-in_err-write : goal.returns-in_err-write
returns-in_err-write g c =
    let ns = c.loop-rest.rest.now in
    let some : 0 < length ns = grind (arith, nat_tests) in
    let mid : c.min.result ≡ min (length ns) 1024 = omega arith in
    part_stops _ (Write Log c.loop-rest.at (c.numbers_unit.result ∷ []) ∷ []) _ _ _ _ c.from_residual.result c.from_residual.ensures.0
    (left_as _ _ _ _ _ (directory_left ns c.split_at.result.0.now c.split_at.result.1.now c.numbers_unit.result c.loop-rest.at c.min.result some mid c.split_at.ensures.front c.split_at.ensures.back c.numbers_unit.ensures) c.loop-rest.invariant.left)
    c.in_err-write.ensures

pub loop-rest-preserved : goal.loop-rest-preserved
loop-rest-preserved g c =
    let ns = c.loop-rest.rest.now in
    let some : 0 < length ns = grind (arith, nat_tests) in
    let mid : c.min.result ≡ min (length ns) 1024 = omega arith in
    record {
      left = step_done _ _ _ _ _ _
          (left_as _ _ _ _ _ (directory_left ns c.split_at.result.0.now c.split_at.result.1.now c.numbers_unit.result c.loop-rest.at c.min.result some mid c.split_at.ensures.front c.split_at.ensures.back c.numbers_unit.ensures) c.loop-rest.invariant.left)
          c.in_ok-write.ensures;
      room = let room : c.loop-rest.at + length ns ≤ c.args.first + length c.args.numbers.now = c.loop-rest.invariant.room in omega (arith, c.split_at.ensures.back_len, mid);
    }
