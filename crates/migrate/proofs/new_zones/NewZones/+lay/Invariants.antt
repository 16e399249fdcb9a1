use Rattle.std.proofs.Common.{◌-◌}
use Rattle.migrate.specs.Pages.{pages_from}
use Rattle.migrate.proofs.Taking.{BlockTo}
use Rattle.migrate.proofs.new_zones.NewZones.+lay.Given as goal

abbrev pub decreases-lay : goal.decreases-lay
decreases-lay l = l.level

abbrev pub invariant-loop-j : goal.invariant-loop-j
invariant-loop-j l = BlockTo (pages_from l.bytes) (l.level - 1) l.page l.j l.fn.self.limit l.self.limit l.numbers
    l.fn.self.image.items l.self.image.items
