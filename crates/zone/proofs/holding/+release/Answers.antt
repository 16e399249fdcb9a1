use Rattle.block_store.proofs.Turns.{turns_as, turns_then, ends_as}
use Rattle.block_store.proofs.Ending.{ends_exit, turns_three}
use Rattle.zone.proofs.Held.{slot_released, may_drop_slot, may_drop_number, word_released, word_released_on, may_go_on}
use Rattle.zone.proofs.holding.+release.Goals as goal

pub returns-then-place-first-clause-turns : goal.returns-then-place-first-clause-turns
returns-then-place-first-clause-turns g t c =
    let a = c.args in
    turns_as _ _ _ _ _ (λ d e h. ends_as c.drop_slot.result _ _ _ _
    (λ x gone. slot_released a.geometry.now d e a.inode a.level a.place _ _ c.first_places-first.ensures c.if-place-first.true c.slot_of.ensures.slot gone)
    (λ may. may_drop_slot a.geometry.now d e a.inode a.level a.place _ _ c.first_places-first.ensures c.if-place-first.true c.slot_of.ensures.slot may) h)
    c.drop_slot.ensures.turns

pub returns-in_err-drop_in_block-clause-turns : goal.returns-in_err-drop_in_block-clause-turns
returns-in_err-drop_in_block-clause-turns g t c =
    let a = c.args in
    turns_then _ g.met.B.Blocks.lawful _ _ _ _ _ _
    (λ d i e p q. ends_exit _ _ _ _ _ _ c.from_residual-in_err-drop_in_block.ensures.1
    (λ may. may_drop_number a.geometry.now d i e a.inode a.level a.place _ _ _ c.requires.level c.if-level-eq3.false c.first_places-first.ensures c.numbers_in_zone-width.ensures c.if-place-first.false p.0 p.1 may) q)
    c.in_ok-block.ensures.reads.turns c.in_err-drop_in_block.ensures.turns

pub returns-in-Some-clause-turns : goal.returns-in-Some-clause-turns
returns-in-Some-clause-turns g t c =
    let a = c.args in
    turns_then _ g.met.B.Blocks.lawful _ _ _ _ _ _
    (λ d i e p q. word_released a.geometry.now d i e a.inode a.level a.place _ _ _ c.requires.level c.if-level-eq3.false c.first_places-first.ensures c.numbers_in_zone-width.ensures c.if-place-first.false p.0 p.1
    _ _ c.in-Some.is q)
    c.in_ok-block.ensures.reads.turns c.in_ok-drop_in_block.ensures.turns

pub returns-in-None-clause-turns : goal.returns-in-None-clause-turns
returns-in-None-clause-turns g t c =
    let a = c.args in
    turns_three _ g.met.B.Blocks.lawful _ _ _ _ _ _ _ _
    (λ d i e z p q r. ends_as c.release.result _ _ _ _
    (λ x gone. word_released_on a.geometry.now d i e a.inode a.level a.place _ _ _ c.requires.level c.if-level-eq3.false c.first_places-first.ensures c.numbers_in_zone-width.ensures c.if-place-first.false p.0 p.1
    z _ c.in-None.is q gone)
    (λ may. may_go_on a.geometry.now d i e a.inode a.level a.place _ _ _ c.requires.level c.if-level-eq3.false c.first_places-first.ensures c.numbers_in_zone-width.ensures c.if-place-first.false p.0 p.1
    _ c.in-None.is q may) r)
    c.in_ok-block.ensures.reads.turns c.in_ok-drop_in_block.ensures.turns c.release.ensures.turns
