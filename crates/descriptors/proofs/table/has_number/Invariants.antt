use Rattle.std.proofs.Common.{◌≡◌, false, get_or, None}
use Rattle.lemmas.specs.Sums.{some_below}
use Rattle.tree.specs.Tree.{leads_to}
use Rattle.descriptors.proofs.table.has_number.Given as goal

abbrev pub invariant-loop-fd : goal.invariant-loop-fd
invariant-loop-fd l = some_below (λ fd. leads_to l.number (get_or l.session fd None)) l.fd ≡ false
