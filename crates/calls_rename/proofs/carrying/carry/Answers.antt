use Rattle.std.proofs.Common.{sym, subst}
use Rattle.descriptors.specs.Table.{files_of}
use Rattle.block_store.proofs.Turns.{turns_as}
use Rattle.inode_operations.specs.Leads.{Makes}
use Rattle.calls_rename.specs.Carrying.{MayCarry, carried}
use Rattle.calls_rename.proofs.carrying.carry.Goals as goal

pub returns-in-Some-clause-turns : goal.returns-in-Some-clause-turns
returns-in-Some-clause-turns g c =
    let a = c.args in
    let v = a.geometry.now in
    let f = files_of a.opens.now in
    let x = a.asked.now in
    turns_as _ _ _ _ _
    (λ d e p. subst (λ o. Makes v (MayCarry v f x.what o) (carried x.what o) c.move_onto.result d e) (sym c.in-Some.is) p)
    c.move_onto.ensures.turns

pub returns-in-None-clause-turns : goal.returns-in-None-clause-turns
returns-in-None-clause-turns g c =
    let a = c.args in
    let v = a.geometry.now in
    let f = files_of a.opens.now in
    let x = a.asked.now in
    turns_as _ _ _ _ _
    (λ d e p. subst (λ o. Makes v (MayCarry v f x.what o) (carried x.what o) c.move_aside.result d e) (sym c.in-None.is) p)
    c.move_aside.ensures.turns
