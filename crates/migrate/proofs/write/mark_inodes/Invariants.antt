use Rattle.volume.specs.Nodes.{is_marked}
use Rattle.image.specs.Contents.{contents}
use Rattle.migrate.specs.Tables.{Marks}
use Rattle.migrate.proofs.Marked.{below}
use Rattle.migrate.proofs.write.mark_inodes.Given as goal

abbrev pub invariant-loop-n : goal.invariant-loop-n
invariant-loop-n l = Marks 2 (below (is_marked l.old.geometry (contents l.old)) l.n) l.old.geometry.inodes l.fn.image l.image
