use Rattle.std.proofs.Common.{ap, sym}
use Rattle.tree.specs.Refusals.{◌>>=◌}
use Rattle.tree.specs.Walk.{next}
use Rattle.block_store.proofs.Turns.{reads_as, reads_then}
use Rattle.path.proofs.Ending.{answers_as, answers_exit}
use Rattle.path.proofs.Going.{directory_at, stepped}
use Rattle.path.proofs.step.step.Goals as goal

pub returns-in_err-inode-clause-reads : goal.returns-in_err-inode-clause-reads
returns-in_err-inode-clause-reads g c =
    reads_as _ _ _ _ _
    (λ d p t holds there. answers_exit _ _ _ _ c.from_residual.ensures.1 (λ e is. record { answer = sym (ap (λ x. x >>= λ dir. next c.args.here dir.0 dir.1 c.args.part.now) is); there = tt }) (p t holds there))
    c.in_err-inode.ensures.reads

pub returns-clause-reads : goal.returns-clause-reads
returns-clause-reads g c =
    let a = c.args in
    let i = c.in_ok-inode.inode in
    reads_then _ g.met.B.Blocks.lawful _ _ _ _ _ _
    (λ d p q t holds there.
    let entered = p t holds there in
    answers_as _ _ _ (λ r is. stepped a.geometry.now d t a.user a.here i a.part.now r holds there entered is)
    (q (directory_at a.geometry.now d t a.user a.here i holds entered)))
    c.in_ok-inode.ensures.reads c.next.ensures.reads
