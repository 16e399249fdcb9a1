use Rattle.std.proofs.Common.{◌≡◌, ◌<◌, ◌+◌, ◌*◌, ◌-◌, ℕ, false}
use Rattle.tree.specs.Space.{numbers_in_zone}
use Rattle.image.specs.Spare.{first_place, is_spare}
use Rattle.image.proofs.spare.+is_spare.Given as goal

abbrev pub decreases-is_spare : goal.decreases-is_spare
decreases-is_spare l = l.level

abbrev pub invariant-loop-j : goal.invariant-loop-j
invariant-loop-j l = (j : ℕ) → j < l.j → is_spare l.image l.n (l.level - 1) (first_place (l.level - 1) + (l.index * numbers_in_zone l.image.geometry + j)) ≡ false
