use Rattle.std.proofs.Common.{rules, sym, ap, ◌∙◌, arith}
use Rattle.std.specs.Prelude.{◌==◌}
use Rattle.reissue.specs.declared.pending.Pending.{Pending}
use Rattle.reissue.proofs.Finding.{position_here}
use Rattle.reissue.proofs.queue.Queue.find.Goals as goal

pub returns-then-get-id : goal.returns-then-get-id
returns-then-get-id c =
    sym (position_here (λ (p : Pending). p.request.id == c.args.id) c.args.self.now c.loop-at.at c.args.within c.get.result.now
    (omega arith) c.requires c.loop-at.invariant
    (ap (λ (p : Pending). p.request.id == c.args.id) (sym c.get.ensures) ∙ search rules))
