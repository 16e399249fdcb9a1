use Rattle.block_store.proofs.Turns.{turns_as, turns_then, ends_as}
use Rattle.block_store.proofs.Ending.{ends_exit}
use Rattle.inode_operations.proofs.Whole.{may_rename_it, then_settle, settled_within}
use Rattle.inode_operations.proofs.moves.move_within.Goals as goal

pub returns-in_err-rename-clause-turns : goal.returns-in_err-rename-clause-turns
returns-in_err-rename-clause-turns g c =
    turns_as _ _ _ _ _
    (λ d e p. ends_exit _ _ _ _ _ _ c.from_residual.ensures.1 (λ k. may_rename_it c.args.geometry.now c.requires.on.geometry c.args.what.now d k) p) c.in_err-rename.ensures.turns

pub returns-clause-turns : goal.returns-clause-turns
returns-clause-turns g c =
    let v = c.args.geometry.now in
    let m = c.args.what.now in
    turns_then _ g.met.B.Blocks.lawful _ _ _ _ _ _
    (λ d e f p q. ends_as _ _ _ _ _ (λ x s. settled_within v c.requires.on.geometry m d e f p s) (λ k. then_settle v c.requires.on.geometry m d e p k) q)
    c.in_ok-rename.ensures.turns c.settle.ensures.turns
