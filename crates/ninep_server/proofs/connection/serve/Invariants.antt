use Rattle.std.proofs.Common.{◌≡◌, ◌+◌, ℕ}
use Rattle.talks.specs.Talks.{MayHear}
use Rattle.ninep_fids.specs.Knowledge.{known_of}
use Rattle.ninep_server.specs.Turns.{Reaches}
use Rattle.ninep_server.specs.Messages.{plan_of}
use Rattle.ninep_server.specs.Progress.{IsCarriedOn, Within, left_of_turn}
use Rattle.ninep_server.proofs.connection.serve.Given as goal

abbrev pub invariant-turns : goal.invariant-turns
invariant-turns g l = record {
  reached : Reaches (MayHear g.S.Sessions.called g.S.Sessions.entered g.S.Sessions.left l.now) l.fn.sessions l.turn l.sessions;
  carried : IsCarriedOn (MayHear g.S.Sessions.called g.S.Sessions.entered g.S.Sessions.left l.now)
      (plan_of (known_of l.fn.knows) l.now l.request) l.fn.sessions (known_of l.fn.knows) (left_of_turn l.turn) l.sessions
      (known_of l.knows);
  few : (n : ℕ) → n + l._asked ≡ 16 → Within (left_of_turn l.turn) n;
}
