use Rattle.std.proofs.Common.{◌≡◌, None, replicate}
use Rattle.descriptors.proofs.table.Descriptors.new.Given as goal

abbrev pub invariant-loop-session : goal.invariant-loop-session
invariant-loop-session l = l.sessions.items ≡ replicate l._session (replicate 32 None)
