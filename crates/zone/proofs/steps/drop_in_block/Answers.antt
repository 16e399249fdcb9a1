use Rattle.block_store.proofs.Turns.{turns_then}
use Rattle.zone.proofs.Taking.{dropped_and_some}
use Rattle.zone.proofs.steps.drop_in_block.Goals as goal

pub returns-clause-turns : goal.returns-clause-turns
returns-clause-turns g c =
    turns_then _ g.met.B.Blocks.lawful _ _ _ _ _ _ (λ d e f p q. dropped_and_some c.args.geometry.now d e f c.args.block c.args.index _ p q)
    c.in_ok-drop_number.ensures.turns c.in_ok-some_number.ensures.reads.turns
