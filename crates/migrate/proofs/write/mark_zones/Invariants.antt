use Rattle.std.proofs.Common.{◌+◌, ◌-◌, ◌/◌, length}
use Rattle.std.specs.Prelude.{◌&&◌, nat_le}
use Rattle.migrate.specs.Tables.{Marks}
use Rattle.migrate.proofs.Marked.{below}
use Rattle.migrate.proofs.write.mark_zones.Given as goal

abbrev pub invariant-loop-k : goal.invariant-loop-k
invariant-loop-k l = Marks (2 + l.geometry.inode_map_blocks)
    (below (λ k. nat_le 1 k && nat_le k (length l.fn.image / 1024 - l.geometry.first_zone)) l.k)
    (length l.fn.image / 1024 - l.geometry.first_zone) l.fn.image l.image
