use Rattle.std.proofs.Common.{◌-◌}
use Rattle.zone.proofs.places.+find.Given as goal

abbrev pub decreases-find : goal.decreases-find
decreases-find g l = 4 - l.level
