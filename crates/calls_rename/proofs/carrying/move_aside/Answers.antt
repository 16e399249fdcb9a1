use Rattle.block_store.proofs.Turns.{ends_as, turns_as}
use Rattle.calls_rename.proofs.Carried.{aside_to, aside_within, can_to, can_within, name_short, name_some}
use Rattle.calls_rename.proofs.carrying.move_aside.Goals as goal

pub move_within-requires-clause-named : goal.move_within-requires-clause-named
move_within-requires-clause-named g c = name_some c.args.what.now.old.now c.requires.named.old

pub move_within-requires-clause-short : goal.move_within-requires-clause-short
move_within-requires-clause-short g c = name_short c.args.what.now.new.now c.requires.named.new

pub returns-then-what-clause-turns : goal.returns-then-what-clause-turns
returns-then-what-clause-turns g c =
    let a = c.args in
    let v = a.geometry.now in
    let m = a.what.now in
    turns_as _ _ _ _ _
    (λ d e p. ends_as c.move_within.result _ _ _ _ (λ x r. aside_within v m d e c.if-what.true r) (λ k. can_within v m d c.if-what.true k) p)
    c.move_within.ensures.turns

pub move_to-requires-clause-named : goal.move_to-requires-clause-named
move_to-requires-clause-named g c = name_some c.args.what.now.old.now c.requires.named.old

pub move_to-requires-clause-short : goal.move_to-requires-clause-short
move_to-requires-clause-short g c = name_short c.args.what.now.new.now c.requires.named.new

pub returns-clause-turns : goal.returns-clause-turns
returns-clause-turns g c =
    let a = c.args in
    let v = a.geometry.now in
    let m = a.what.now in
    turns_as _ _ _ _ _
    (λ d e p. ends_as c.move_to.result _ _ _ _ (λ x r. aside_to v m d e c.if-what.false r) (λ k. can_to v m d c.if-what.false k) p)
    c.move_to.ensures.turns
