use Rattle.std.proofs.Common.{◌≡◌, ◌<◌, ℕ, false}
use Rattle.image.specs.Entered.{level_of}
use Rattle.image.specs.Spare.{index_of, is_spare}
use Rattle.image.proofs.spare.has_spare_zone.Given as goal

abbrev pub invariant-loop-s : goal.invariant-loop-s
invariant-loop-s l = (s : ℕ) → s < l.s → is_spare l.image l.n (level_of s) (index_of s) ≡ false
