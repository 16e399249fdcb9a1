use Rattle.std.proofs.Common.{◌≤◌, [], length}
use Rattle.stable.specs.Disk.{Contents}
use Rattle.stable.specs.Runs.{Happens, Knows}
use Rattle.image_file.specs.Images.{ShowsImage, units_of}
use Rattle.image_file.proofs.Comparing.{Makes}
use Rattle.image_file.proofs.differing.differing.Given as goal

abbrev pub invariant-loop-n : goal.invariant-loop-n
invariant-loop-n g l = record {
  same : Happens [] (g.S.Storage.known l.fn.storage) (g.S.Storage.known l.storage);
  few : length l.numbers.items ≤ l.n;
  makes : (c : Contents) → Knows (ShowsImage c) (g.S.Storage.known l.fn.storage) → Makes (units_of l.image l.numbers.items) l.n l.image c;
}
