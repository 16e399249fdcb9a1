use Rattle.std.proofs.Common.{ℕ, List, length, reverse}
use Rattle.call_text.specs.declared.scripts.timed.TimedCall.{TimedCall}
use Rattle.reply_text.specs.declared.answers.Played.{Played}
use Rattle.tools.specs.Turns.{AreTaken, HaveSeen, IsTurn}
use Rattle.tools.proofs.Sessions.{Ending}
use Rattle.tools.proofs.scripts.turns.end_each.Given as goal

-- what was met so far, and what is left
abbrev pub invariant-loop-other : goal.invariant-loop-other
invariant-loop-other g l =
    (script : ℕ × ℕ × List TimedCall) (played : Played) (scripts : List (ℕ × ℕ × List TimedCall))
    → IsTurn g.C.Client.vouches g.C.Client.ended script played (g.C.Client.state l.fn.client)
    → AreTaken g.C.Client.vouches g.C.Client.ended g.C.Client.state scripts (reverse l.fn.others.items)
    → HaveSeen g.C.Client.state (reverse l.fn.others.items) (g.C.Client.state l.fn.client).knows.seen
    → Ending g.C.Client.vouches g.C.Client.ended g.C.Client.state script played scripts (g.C.Client.state l.fn.client).knows.seen
    (g.C.Client.state l.client) l.left.items l.all.items

abbrev pub decreases-loop-other : goal.decreases-loop-other
decreases-loop-other g l = length l.left.items
