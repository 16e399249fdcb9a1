use Rattle.volume.specs.Nodes.{slot}
use Rattle.image.specs.Contents.{contents}
use Rattle.image.specs.Entered.{level_of}
use Rattle.migrate.specs.Pages.{pages_in}
use Rattle.migrate.proofs.Taking.{CopiesTo}
use Rattle.migrate.proofs.moving.moved_file.Given as goal

abbrev pub invariant-loop-slot : goal.invariant-loop-slot
invariant-loop-slot l = CopiesTo (pages_in (contents l.old.image)) level_of (slot l.inode) 10 l.slot l.fn.zones.limit l.zones.limit
    l.numbers l.fn.zones.image.items l.zones.image.items
