use Rattle.std.proofs.Common.{◌≡◌, ◌+◌, length, take}
use Rattle.tools.specs.Made.{Plays, some_cut}
use Rattle.tools.proofs.scripts.turns.make_calls.Given as goal

-- the calls so far were made, and it is known whether one was cut; there is room for what comes of the others
abbrev pub invariant-loop-timed : goal.invariant-loop-timed
invariant-loop-timed g l =
    Plays g.C.Client.vouches g.C.Client.ended (g.C.Client.state l.fn.client) (take l.timed-index l.calls) l.outcomes.items
    (g.C.Client.state l.client)
    × (l.cut ≡ some_cut l.outcomes.items)
    × (l.outcomes.room + l.timed-index ≡ length l.calls)
