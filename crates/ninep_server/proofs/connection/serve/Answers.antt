use Rattle.talks.specs.Talks.{MayHear}
use Rattle.ninep_fids.specs.Knowledge.{known_of}
use Rattle.ninep_server.specs.Messages.{plan_of}
use Rattle.ninep_server.specs.Progress.{left_of_turn}
use Rattle.ninep_server.proofs.Turns.{begins}
use Rattle.ninep_server.proofs.Bounds.{plan_within, runs_out}
use Rattle.ninep_server.proofs.Following.{carried, carried_further, begins_few, goes_few}
use Rattle.ninep_server.proofs.connection.serve.Goals as goal

pub turns-init : goal.turns-init
turns-init g c = record {
  reached = begins (MayHear g.S.Sessions.called g.S.Sessions.entered g.S.Sessions.left c.args.now) c.args.sessions.now
      c.begin-turn.result c.begin-turn.ensures.plain;
  carried = carried (MayHear g.S.Sessions.called g.S.Sessions.entered g.S.Sessions.left c.args.now)
      (plan_of (known_of c.args.knows.now) c.args.now c.args.request.now) (left_of_turn c.begin-turn.result) c.args.sessions.now
      (known_of c.args.knows.now) (known_of c.begin-turn.new.knows) c.begin-turn.ensures.begun;
  few = λ n e. begins_few n (plan_of (known_of c.args.knows.now) c.args.now c.args.request.now) (left_of_turn c.begin-turn.result)
      (known_of c.args.knows.now) (known_of c.begin-turn.new.knows) e
      (plan_within (known_of c.args.knows.now) c.args.now c.args.request.now) c.begin-turn.ensures.begun;
}

pub turns-preserved : goal.turns-preserved
turns-preserved g c = record {
  reached = c.step-turn.ensures.reaches c.args.sessions.now c.turns.invariant.reached;
  carried = carried_further (MayHear g.S.Sessions.called g.S.Sessions.entered g.S.Sessions.left c.args.now)
      (plan_of (known_of c.args.knows.now) c.args.now c.args.request.now) (left_of_turn c.turns.turn) (left_of_turn c.step-turn.result)
      c.args.sessions.now c.turns.sessions c.step-turn.new.sessions (known_of c.args.knows.now) (known_of c.turns.knows)
      (known_of c.step-turn.new.knows) c.turns.invariant.carried c.step-turn.ensures.carried;
  few = λ n e. goes_few n c.turns._asked (left_of_turn c.turns.turn) (left_of_turn c.step-turn.result) e c.turns.invariant.few
      (c.step-turn.ensures.few n);
}

pub unreachable-requires : goal.unreachable-requires
unreachable-requires g c =
    runs_out c.turns.turn c.turns._asked c.turns-test.false c.turns.auto._asked-end c.in-Sync.is c.turns.invariant.few
