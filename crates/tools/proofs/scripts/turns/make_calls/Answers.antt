use Rattle.std.proofs.Common.{◌∙◌, arith}
use Rattle.tools.proofs.Plays.{plays_next, cut_more}
use Rattle.tools.proofs.scripts.turns.make_calls.Goals as goal

pub loop-timed-preserved : goal.loop-timed-preserved
loop-timed-preserved g c =
    rw c.push_reserved.ensures.items (
      plays_next g.C.Client.vouches g.C.Client.ended (g.C.Client.state c.args.client.now) (g.C.Client.state c.loop-timed.client) _
          c.args.calls.now c.loop-timed.timed-index _ c.loop-timed.outcomes.items
          c.loop-timed-test.true c.loop-timed.invariant.0 c.loop-timed.cut c.call_unless-outcome.result c.loop-timed.invariant.1
          c.call_unless-outcome.ensures,
      c.is_cut-cut.ensures ∙ cut_more g.C.Client.vouches g.C.Client.ended _ _ c.loop-timed.outcomes.items _ c.loop-timed.cut
          c.call_unless-outcome.result c.loop-timed.invariant.1 c.call_unless-outcome.ensures,
      omega (arith, c.push_reserved.ensures.room, c.loop-timed.invariant.2),
    )
