use Rattle.block_store.proofs.Turns.{turns_as, turns_then}
use Rattle.zone.proofs.Taking.{not_full, zone_marked}
use Rattle.zone.proofs.steps.mark_free.Goals as goal

pub returns-in_ok-set-in-Some-clause-turns : goal.returns-in_ok-set-in-Some-clause-turns
returns-in_ok-set-in-Some-clause-turns g c =
    turns_then _ g.met.B.Blocks.lawful _ _ _ _ _ _ (λ d e f p q. zone_marked c.args.geometry.now d e f _ c.in-Some.bit c.in-Some.is p q)
    c.in_ok-bit.ensures.reads.turns c.in_ok-set-in-Some.ensures.turns

pub returns-in-None-clause-turns : goal.returns-in-None-clause-turns
returns-in-None-clause-turns g c = turns_as _ _ _ _ _ (λ d e p. not_full c.args.geometry.now d _ c.in-None.is p.1) c.in_ok-bit.ensures.reads.turns
