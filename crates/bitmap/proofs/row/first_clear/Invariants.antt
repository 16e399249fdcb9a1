use Rattle.std.proofs.Common.{◌≤◌, ◌+◌, ◌*◌, ◌/◌}
use Rattle.std.specs.Prelude.{slice_index, min, max}
use Rattle.volume.specs.Reading.{bit_in}
use Rattle.bitmap.specs.Numbers.{AllIn}
use Rattle.bitmap.proofs.row.first_clear.Given as goal

abbrev pub invariant-loop-place : goal.invariant-loop-place
invariant-loop-place l = record {
  all : AllIn (bit_in (slice_index l.bytes)) l.from (max l.from (min l.end (64 * l.place)));
  cost : l.steps + l.from / 64 ≤ l.fn.steps + l.place;
}
