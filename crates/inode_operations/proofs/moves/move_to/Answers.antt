use Rattle.block_store.proofs.Turns.{turns_as, turns_then, ends_as}
use Rattle.block_store.proofs.Ending.{ends_exit, turns_three}
use Rattle.inode_operations.proofs.Whole.{can_out_to, can_put_to, can_settle_to, moved_to}
use Rattle.inode_operations.proofs.moves.move_to.Goals as goal

pub returns-in_err-take_out-clause-turns : goal.returns-in_err-take_out-clause-turns
returns-in_err-take_out-clause-turns g c =
    turns_as _ _ _ _ _ (λ d e p. ends_exit _ _ _ _ _ _ c.from_residual.ensures.1 (λ k. can_out_to c.args.geometry.now c.args.what.now d k) p) c.in_err-take_out.ensures.turns

pub returns-in_err-put_in-clause-turns : goal.returns-in_err-put_in-clause-turns
returns-in_err-put_in-clause-turns g c =
    turns_then _ g.met.B.Blocks.lawful _ _ _ _ _ _
    (λ d e f p q. ends_exit _ _ _ _ _ _ c.from_residual-in_err-put_in.ensures.1 (λ k. can_put_to c.args.geometry.now c.args.what.now d e p k) q)
    c.in_ok-take_out.ensures.turns c.in_err-put_in.ensures.turns

pub returns-clause-turns : goal.returns-clause-turns
returns-clause-turns g c =
    turns_three _ g.met.B.Blocks.lawful _ _ _ _ _ _ _ _
    (λ d e f h p q r. ends_as _ _ _ _ _ (λ x s. moved_to c.args.geometry.now c.args.what.now d e p f h q s) (λ k. can_settle_to c.args.geometry.now c.args.what.now d e p f q k) r)
    c.in_ok-take_out.ensures.turns c.in_ok-put_in.ensures.turns c.settle.ensures.turns
