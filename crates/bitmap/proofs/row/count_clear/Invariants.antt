use Rattle.std.proofs.Common.{◌≡◌, ◌≤◌, ◌+◌, ◌*◌, ◌/◌}
use Rattle.std.specs.Prelude.{slice_index, min, max}
use Rattle.volume.specs.Reading.{bit_in}
use Rattle.bitmap.specs.Numbers.{count_free_in}
use Rattle.bitmap.proofs.row.count_clear.Given as goal

abbrev pub invariant-loop-place : goal.invariant-loop-place
invariant-loop-place l = record {
  value : l.clear ≡ count_free_in (bit_in (slice_index l.bytes)) l.from (max l.from (min l.end (64 * l.place)));
  most : l.clear + l.from ≤ max l.from (min l.end (64 * l.place));
  cost : l.words + l.from / 64 ≤ l.place;
}
