use Rattle.std.proofs.Common.{arith}
use Rattle.world.proofs.Standing.{runs_stays}
use Rattle.world.proofs.Turning.{goes_more, more_runs, more_idle, ends_done, ends_cut}
use Rattle.world.proofs.run_loop.turns.turns.Goals as goal

pub loop-init : goal.loop-init
loop-init g c = record { ready = c.requires.ready; few = omega arith; runs = runs_stays _ _ _ _; idle = c.requires.idle }

pub loop-preserved : goal.loop-preserved
loop-preserved g c = record {
  ready = c.in_ok-turn.ensures.ready;
  few = goes_more _ _ _ _ _ _ _ _ _ _ c.in-More.is c.in_ok-turn.ensures.course c.in_ok-turn.ensures.absorbed c.loop.invariant.few;
  runs = more_runs _ _ _ _ _ _ _ _ _ _ c.in-More.is c.loop.invariant.runs c.in_ok-turn.ensures.course;
  idle = more_idle _ _ _ _ _ _ _ c.in-More.is c.in_ok-turn.ensures.course;
}

pub returns-in-Done-clause-ends : goal.returns-in-Done-clause-ends
returns-in-Done-clause-ends g c = ends_done _ _ _ _ _ _ _ _ _ _ c.in-Done.is c.loop.invariant.runs c.in_ok-turn.ensures.course

pub returns-in-Cut-clause-ends : goal.returns-in-Cut-clause-ends
returns-in-Cut-clause-ends g c = ends_cut _ _ _ _ _ _ _ _ _ _ c.in-Cut.is c.loop.invariant.runs c.in_ok-turn.ensures.course
