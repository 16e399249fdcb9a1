use Rattle.std.proofs.Common.{◌-◌}
use Rattle.zone.proofs.holding.+release.Given as goal

abbrev pub decreases-release : goal.decreases-release
decreases-release g l = 4 - l.level
