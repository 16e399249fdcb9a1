use Rattle.std.proofs.Common.{◌∙◌, sym, subst}
use Rattle.volume.specs.Pieces.{pieces}
use Rattle.block_store.proofs.Turns.{turns_then}
use Rattle.zone.specs.Steps.{HasRoom}
use Rattle.block_store.proofs.Ending.{ends_exit, turns_three}
use Rattle.zone.proofs.Taking.{number_filled}
use Rattle.zone.proofs.steps.hold_number.Goals as goal

pub returns-in_err-zone-clause-turns : goal.returns-in_err-zone-clause-turns
returns-in_err-zone-clause-turns g c =
    let v = c.args.geometry.now in
    turns_then _ g.met.B.Blocks.lawful _ _ _ _ _ _
    (λ d e f p q. ends_exit _ _ _ _ _ _ c.from_residual-in_err-zone.ensures.1
    (λ t. subst (λ x. HasRoom v (pieces v x)) (sym p.0) (t.room (sym p.1 ∙ c.if-there-ne0.false))) q)
    c.in_ok-there.ensures.reads.turns c.in_err-zone.ensures.turns

pub returns-in_err-set_number-clause-turns : goal.returns-in_err-set_number-clause-turns
returns-in_err-set_number-clause-turns g c =
    turns_three _ g.met.B.Blocks.lawful _ _ _ _ _ _ _ _ (λ d e f h p q r. ends_exit _ _ _ _ _ _ c.from_residual-in_err-set_number.ensures.1 (λ t. t.names) r)
    c.in_ok-there.ensures.reads.turns c.in_ok-zone.ensures.turns c.in_err-set_number.ensures.turns

pub returns-clause-turns : goal.returns-clause-turns
returns-clause-turns g c =
    turns_three _ g.met.B.Blocks.lawful _ _ _ _ _ _ _ _
    (λ d e f h p t a. number_filled c.args.geometry.now d e f h c.args.block c.args.index _ c.in_ok-zone.zone p.0 p.1 c.if-there-ne0.false t a)
    c.in_ok-there.ensures.reads.turns c.in_ok-zone.ensures.turns c.in_ok-set_number.ensures.turns
