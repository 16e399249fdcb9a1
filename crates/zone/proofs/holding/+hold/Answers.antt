use Rattle.volume.specs.Pieces.{pieces}
use Rattle.block_store.proofs.Turns.{turns_none, turns_as, turns_then, ends_as}
use Rattle.block_store.proofs.Ending.{ends_exit}
use Rattle.zone.proofs.Filling.{here_above}
use Rattle.zone.proofs.Held.{slot_held, may_hold_slot, no_place, word_held, may_hold_number}
use Rattle.zone.proofs.holding.+hold.Goals as goal

pub returns-then-place-first-clause-turns : goal.returns-then-place-first-clause-turns
returns-then-place-first-clause-turns g t c =
    let a = c.args in
    turns_as _ _ _ _ _ (λ d e h. ends_as c.hold_slot.result _ _ _ _
    (λ z held. slot_held a.geometry.now d e a.inode a.level a.place _ _ z c.first_places-first.ensures c.if-place-first.true c.slot_of.ensures.slot held)
    (λ may. may_hold_slot a.geometry.now d e a.inode a.level a.place _ _ 0 c.first_places-first.ensures c.if-place-first.true c.slot_of.ensures.slot may) h)
    c.hold_slot.ensures.turns

pub returns-then-level-eq3-clause-turns : goal.returns-then-level-eq3-clause-turns
returns-then-level-eq3-clause-turns g t c =
    let a = c.args in
    turns_as _ _ _ _ _ (λ d e h. λ may. no_place a.geometry.now (pieces a.geometry.now d) a.inode a.level a.place _ c.first_places-first.ensures c.if-place-first.false c.if-level-eq3.true may)
    (turns_none _ g.met.B.Blocks.lawful _ c.requires.on.ready)

pub returns-in_err-block-clause-turns : goal.returns-in_err-block-clause-turns
returns-in_err-block-clause-turns g t c =
    let a = c.args in
    turns_as _ _ _ _ _ (λ d e h. ends_exit _ _ _ _ _ _ c.from_residual.ensures.1
    (λ may. here_above a.geometry.now (pieces a.geometry.now d) a.inode a.level a.place _ _ may c.first_places-first.ensures c.numbers_in_zone-width.ensures c.if-place-first.false) h)
    c.in_err-block.ensures.turns

pub returns-clause-turns : goal.returns-clause-turns
returns-clause-turns g t c =
    let a = c.args in
    turns_then _ g.met.B.Blocks.lawful _ _ _ _ _ _
    (λ d e h p q. ends_as c.hold_number.result _ _ _ _
    (λ z held. word_held a.geometry.now d e h a.inode a.level a.place _ _ _ z c.first_places-first.ensures c.numbers_in_zone-width.ensures c.if-place-first.false p held)
    (λ may. may_hold_number a.geometry.now d e h a.inode a.level a.place _ _ _ 0 c.first_places-first.ensures c.numbers_in_zone-width.ensures c.if-place-first.false p may) q)
    c.in_ok-block.ensures.turns c.hold_number.ensures.turns
