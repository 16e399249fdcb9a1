use Rattle.block_store.proofs.Turns.{ends_as}
use Rattle.block_store.proofs.Ending.{turns_three}
use Rattle.file.proofs.Resizing.{resizes, may_store}
use Rattle.file.proofs.file_pages.changing.resize.Goals as goal

pub returns-clause-turns : goal.returns-clause-turns
returns-clause-turns g c =
    let a = c.args in
    turns_three _ g.met.B.Blocks.lawful _ _ _ _ _ _ _ _
    (λ d x y f p q r. ends_as c.store.result _ _ _ _
    (λ u h. resizes a.geometry.now d x y f a.number a.size c.in_ok-inode.inode p q.0 q.1 h)
    (λ may. may_store a.geometry.now d x y a.number a.size p q.0 may) r)
    c.in_ok-pad_rest.ensures.turns c.in_ok-inode.ensures.reads.turns c.store.ensures.turns
