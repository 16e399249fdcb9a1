use Rattle.std.proofs.Common.{◌≡◌, None, take}
use Rattle.std.specs.Prelude.{position, ◌==◌}
use Rattle.reissue.specs.declared.pending.Pending.{Pending}
use Rattle.reissue.proofs.queue.Queue.find.Given as goal

abbrev pub invariant-loop-at : goal.invariant-loop-at
invariant-loop-at l = position (λ (p : Pending). p.request.id == l.id) (take l.at l.self) ≡ None
