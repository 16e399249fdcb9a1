use Rattle.std.proofs.Common.{◌∙◌, sym, ap, subst}
use Rattle.volume.specs.Pieces.{pieces}
use Rattle.volume.specs.Nodes.{slot}
use Rattle.block_store.proofs.Turns.{turns_then}
use Rattle.zone.specs.Steps.{HasRoom}
use Rattle.block_store.proofs.Ending.{ends_exit, turns_three}
use Rattle.zone.proofs.Taking.{slot_filled}
use Rattle.zone.proofs.steps.hold_slot.Goals as goal

pub returns-in_err-zone-clause-turns : goal.returns-in_err-zone-clause-turns
returns-in_err-zone-clause-turns g c =
    let v = c.args.geometry.now in
    turns_then _ g.met.B.Blocks.lawful _ _ _ _ _ _
    (λ d e f p q. ends_exit _ _ _ _ _ _ c.from_residual-in_err-zone.ensures.1
    (λ t. subst (λ x. HasRoom v (pieces v x)) (sym p.0) (t.room (sym (ap (λ i. slot i c.args.slot) p.1) ∙ c.if-there-ne0.false))) q)
    c.in_ok-changed.ensures.reads.turns c.in_err-zone.ensures.turns

pub returns-in_err-store-clause-turns : goal.returns-in_err-store-clause-turns
returns-in_err-store-clause-turns g c =
    turns_three _ g.met.B.Blocks.lawful _ _ _ _ _ _ _ _ (λ d e f h p q r. ends_exit _ _ _ _ _ _ c.from_residual-in_err-store.ensures.1 (λ t. t.inode) r)
    c.in_ok-changed.ensures.reads.turns c.in_ok-zone.ensures.turns c.in_err-store.ensures.turns

pub returns-clause-turns : goal.returns-clause-turns
returns-clause-turns g c =
    turns_three _ g.met.B.Blocks.lawful _ _ _ _ _ _ _ _
    (λ d e f h p t a. slot_filled c.args.geometry.now d e f h c.args.inode c.args.slot c.in_ok-zone.zone c.in_ok-changed.changed p.0 p.1 c.if-there-ne0.false t a)
    c.in_ok-changed.ensures.reads.turns c.in_ok-zone.ensures.turns c.in_ok-store.ensures.turns
