use Rattle.descriptors.specs.Table.{files_of}
use Rattle.block_store.proofs.Turns.{ends_as, turns_as, turns_then}
use Rattle.block_store.proofs.Ending.{ends_exit}
use Rattle.calls_rename.proofs.Carried.{can_drop, can_over, name_some, onto_and_dropped}
use Rattle.calls_rename.proofs.carrying.move_onto.Goals as goal

pub move_over-requires-clause-named : goal.move_over-requires-clause-named
move_over-requires-clause-named g c = name_some c.args.what.now.old.now c.requires.named.old

pub move_over-requires-clause-over : goal.move_over-requires-clause-over
move_over-requires-clause-over g c = name_some c.args.what.now.new.now c.requires.named.new

pub returns-in_err-move_over-clause-turns : goal.returns-in_err-move_over-clause-turns
returns-in_err-move_over-clause-turns g c =
    let a = c.args in
    turns_as _ _ _ _ _
    (λ d e p. ends_exit _ _ _ _ _ _ c.from_residual.ensures.1 (λ k. can_over a.geometry.now a.what.now (files_of a.opens.now) a.other d k) p)
    c.in_err-move_over.ensures.turns

pub returns-clause-turns : goal.returns-clause-turns
returns-clause-turns g c =
    let a = c.args in
    let v = a.geometry.now in
    let m = a.what.now in
    let f = files_of a.opens.now in
    turns_then _ g.met.B.Blocks.lawful _ _ _ _ _ _
    (λ d e h p q. ends_as c.drop_replaced.result _ _ _ _ (λ x r. onto_and_dropped v m f a.other d e h p r) (λ k. can_drop v m f a.other d e p k) q)
    c.in_ok-move_over.ensures.turns c.drop_replaced.ensures.turns
