use Rattle.block_store.proofs.Turns.{turns_then}
use Rattle.block_store.proofs.Ending.{ends_exit}
use Rattle.zone.proofs.Taking.{zone_taken}
use Rattle.zone.proofs.steps.take.Goals as goal

pub returns-in_err-clear_zone-clause-turns : goal.returns-in_err-clear_zone-clause-turns
returns-in_err-clear_zone-clause-turns g c =
    turns_then _ g.met.B.Blocks.lawful _ _ _ _ _ _ (λ d e f p q. ends_exit _ _ _ _ _ _ c.from_residual-in_err-clear_zone.ensures.1 (λ t. p.data_zone) q)
    c.in_ok-zone.ensures.turns c.in_err-clear_zone.ensures.turns

pub returns-clause-turns : goal.returns-clause-turns
returns-clause-turns g c =
    turns_then _ g.met.B.Blocks.lawful _ _ _ _ _ _ (λ d e f p q. zone_taken c.args.geometry.now d e f _ p q) c.in_ok-zone.ensures.turns c.in_ok-clear_zone.ensures.turns
