use Rattle.std.proofs.Common.{◌≡◌, ◌≤◌, take}
use Rattle.compact_message.specs.Padded.{padded}
use Rattle.compact_message.proofs.end_by_byte.Given as goal

-- zeros were left out
abbrev pub invariant-loop-end : goal.invariant-loop-end
invariant-loop-end l = (l.end ≤ 4096) × (padded (take l.end l.bytes) ≡ l.bytes)

abbrev pub decreases-loop-end : goal.decreases-loop-end
decreases-loop-end l = l.end
