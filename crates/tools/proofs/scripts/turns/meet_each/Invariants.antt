use Rattle.std.proofs.Common.{ℕ, List, length}
use Rattle.call_text.specs.declared.scripts.timed.TimedCall.{TimedCall}
use Rattle.reply_text.specs.declared.answers.Played.{Played}
use Rattle.tools.specs.Turns.{AreResults, IsTurn}
use Rattle.tools.proofs.Sessions.{Meeting}
use Rattle.tools.proofs.scripts.turns.meet_each.Given as goal

-- what was met so far, and what is left
abbrev pub invariant-loop-result : goal.invariant-loop-result
invariant-loop-result g l =
    (script : ℕ × ℕ × List TimedCall) (played : Played) (scripts : List (ℕ × ℕ × List TimedCall))
    → IsTurn g.C.Client.vouches g.C.Client.ended script played (g.C.Client.state l.fn.client)
    → AreResults g.C.Client.vouches g.C.Client.ended g.C.Client.state scripts l.fn.results.items
    → Meeting g.C.Client.vouches g.C.Client.ended g.C.Client.state script played scripts (g.C.Client.state l.client) l.left.items
    l.others.items

abbrev pub decreases-loop-result : goal.decreases-loop-result
decreases-loop-result g l = length l.left.items
