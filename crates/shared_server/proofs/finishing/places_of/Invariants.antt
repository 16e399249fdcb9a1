use Rattle.std.proofs.Common.{◌+◌, ◌-◌, ◌/◌}
use Rattle.shared_server.proofs.PieceLaws.{AreUpTo}
use Rattle.shared_server.proofs.finishing.places_of.Given as goal

abbrev pub invariant-loop-next : goal.invariant-loop-next
invariant-loop-next l = AreUpTo l.units l.size l.next l.places.items

abbrev pub decreases-loop-next : goal.decreases-loop-next
decreases-loop-next l = (l.size + 4095) / 4096 - l.next
