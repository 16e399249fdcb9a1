use Rattle.std.proofs.Common.{length}
use Rattle.media.proofs.partition.+overlap.Given as goal

abbrev pub decreases-overlap : goal.decreases-overlap
decreases-overlap l = length l.entries.now
