use Rattle.std.proofs.Common.{◌≡◌, ◌<◌, ℕ}
use Rattle.volume.specs.Nodes.{number}
use Rattle.image.specs.Contents.{contents}
use Rattle.image.proofs.spare.has_number.Given as goal

abbrev pub invariant-loop-j : goal.invariant-loop-j
invariant-loop-j l = (j : ℕ) → j < l.j → number (contents l.image) l.zone j ≡ 0
