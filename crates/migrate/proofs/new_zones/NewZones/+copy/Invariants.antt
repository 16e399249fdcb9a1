use Rattle.std.proofs.Common.{◌-◌}
use Rattle.image.specs.Contents.{contents}
use Rattle.migrate.specs.Pages.{pages_in}
use Rattle.migrate.proofs.Taking.{BlockTo}
use Rattle.migrate.proofs.new_zones.NewZones.+copy.Given as goal

abbrev pub decreases-copy : goal.decreases-copy
decreases-copy l = l.level

abbrev pub invariant-loop-j : goal.invariant-loop-j
invariant-loop-j l = BlockTo (pages_in (contents l.old.image)) (l.level - 1) l.zone l.j l.fn.self.limit l.self.limit l.numbers
    l.fn.self.image.items l.self.image.items
