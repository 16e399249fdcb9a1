use Rattle.block_store.proofs.Turns.{reads_as}
use Rattle.path.proofs.Ending.{answers_as}
use Rattle.path.proofs.Finding.{walks_of}
use Rattle.path.proofs.step.walk.Goals as goal

pub returns-clause-reads : goal.returns-clause-reads
returns-clause-reads g c =
    reads_as _ _ _ _ _
    (λ d p t holds. answers_as _ _ _ (λ r is. walks_of t c.args.user _ _ c.args.path.now r c.start.ensures c.parts.ensures is) (p t holds))
    c.walk_parts.ensures.reads
