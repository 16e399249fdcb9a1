use Rattle.std.proofs.Common.{◌≡◌, ℕ, length, take}
use Rattle.stable.specs.Disk.{put}
use Rattle.changes.specs.Units.{unit_of}
use Rattle.image_file.specs.Images.{within}
use Rattle.image_file.proofs.reading.put_units.Given as goal

abbrev pub invariant-loop-number : goal.invariant-loop-number
invariant-loop-number l = record {
  size : length l.image ≡ length l.fn.image;
  units : (n : ℕ) → unit_of l.image n ≡ within (length l.fn.image) n (put (take l.number-index l.changes) (unit_of l.fn.image) n);
}
