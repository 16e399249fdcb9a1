use Rattle.image.specs.Entered.{level_of}
use Rattle.migrate.specs.Pages.{first_page, pages_from}
use Rattle.migrate.proofs.Taking.{CopiesTo}
use Rattle.migrate.proofs.moving.moved_directory.Given as goal

abbrev pub invariant-loop-slot : goal.invariant-loop-slot
invariant-loop-slot l = CopiesTo (pages_from l.entries.items) level_of first_page 10 l.slot l.fn.zones.limit l.zones.limit
    l.numbers l.fn.zones.image.items l.zones.image.items
