use Rattle.world.proofs.Ending.{runs_out, few_wait, left_starved}
use Rattle.world.proofs.run_loop.turns.run_out.Goals as goal

pub unanswered_calls-requires : goal.unanswered_calls-requires
unanswered_calls-requires g c = few_wait c.in_ok-cut.cut _ _ _ _ _ _ _ _ c.in_ok-cut.ensures.ends c.in-Some.ensures.waiting c.requires.few

pub returns-clause-out : goal.returns-clause-out
returns-clause-out g c =
    runs_out c.in_ok-cut.cut _ _ _ _ _ _ _ _ c.in_ok-cut.ensures.ends c.requires.sound c.requires.idle.live
    c.in-Some.ensures.spent c.in-Some.ensures.waiting c.unanswered_calls.ensures (λ v marks. g.met.L.Ran.guarantees _ v marks)

pub returns-in_default-clause-starved : goal.returns-in_default-clause-starved
returns-in_default-clause-starved g c = left_starved c.in_ok-cut.cut _ _ _ _ _ _ c.in_ok-cut.ensures.ends (c.left_waiting.ensures.none c.in_default.is)
