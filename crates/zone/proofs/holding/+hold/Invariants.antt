use Rattle.std.proofs.Common.{◌-◌}
use Rattle.zone.proofs.holding.+hold.Given as goal

abbrev pub decreases-hold : goal.decreases-hold
decreases-hold g l = 4 - l.level
