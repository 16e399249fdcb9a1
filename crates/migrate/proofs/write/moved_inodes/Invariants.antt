use Rattle.migrate.proofs.NewInodes.{NewInodes}
use Rattle.migrate.proofs.write.moved_inodes.Given as goal

abbrev pub invariant-loop-n : goal.invariant-loop-n
invariant-loop-n l = NewInodes l.old.image l.n l.fn.zones.limit l.zones.limit l.fn.zones.image.items l.zones.image.items l.table.items
