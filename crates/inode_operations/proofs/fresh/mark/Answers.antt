use Rattle.std.proofs.Common.{true}
use Rattle.bitmap.specs.Maps.{with_number}
use Rattle.bitmap.specs.declared.Map.TheVariants as map
use Rattle.block_store.proofs.Turns.{turns_as, turns_then}
use Rattle.block_store.proofs.Ending.{alters_over, ends_exit}
use Rattle.inode_operations.proofs.fresh.mark.Goals as goal

pub returns-in_err-store-clause-turns : goal.returns-in_err-store-clause-turns
returns-in_err-store-clause-turns g c =
    turns_as _ _ _ _ _ (λ d e p. ends_exit _ _ _ _ _ _ c.from_residual.ensures.1 (λ t. t) p) c.in_err-store.ensures.turns

pub returns-clause-turns : goal.returns-clause-turns
returns-clause-turns g c =
    turns_then _ g.met.B.Blocks.lawful _ _ _ _ _ _
    (λ d e f p q. alters_over c.args.geometry.now (λ u. with_number map.Inodes u c.args.number true) _ d e f p q)
    c.in_ok-store.ensures.turns c.in_ok-set.ensures.turns
