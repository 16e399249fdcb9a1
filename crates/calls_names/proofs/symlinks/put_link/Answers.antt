use Rattle.std.proofs.Common.{◌<◌, length, arith, rules}
use Rattle.block_store.proofs.Ending.{ends_exit}
use Rattle.block_store.proofs.Turns.{ends_as, turns_as, turns_none, turns_then}
use Rattle.calls_names.specs.Making.{MakesLinkAt, MayMakeAt}
use Rattle.calls_names.proofs.Putting.{link_done, may_make_link, may_name_link, name_short}
use Rattle.calls_names.proofs.symlinks.put_link.Goals as goal

pub returns-then-place-gt-MAX_NAME-clause-turns : goal.returns-then-place-gt-MAX_NAME-clause-turns
returns-then-place-gt-MAX_NAME-clause-turns g c =
    let a = c.args in
    let big : 60 < length a.place.now.name.now = search rules in
    turns_as _ _ _ _ _ (λ d e p may. let short = name_short a.place.now.name.now may.vacant.named in absurd (omega (arith, big, short)))
    (turns_none _ g.met.B.Blocks.lawful _ c.requires.on.ready)

pub returns-in_err-new_link-clause-turns : goal.returns-in_err-new_link-clause-turns
returns-in_err-new_link-clause-turns g c =
    let a = c.args in
    turns_as _ _ _ _ _
    (λ d e p. ends_exit _ _ _ _ _ _ c.from_residual.ensures.1
    (λ may. may_make_link a.geometry.now c.requires.on.geometry d a.place.now a.number 1 a.now 0 a.user may (omega arith)) p)
    c.in_err-new_link.ensures.turns

pub returns-clause-turns : goal.returns-clause-turns
returns-clause-turns g c =
    let a = c.args in
    let v = a.geometry.now in
    let ok = c.requires.on.geometry in
    turns_then _ g.met.B.Blocks.lawful _ _ _ _ _ _
    (λ d e f p q. ends_as _ _ (λ x. MakesLinkAt v a.user a.now a.target.now a.place.now a.number d f) _
    (MayMakeAt v d a.place.now a.number 1)
    (λ x inserts may. link_done v ok d a.place.now a.number 1 a.now 0 a.user may a.target.now (omega arith) e p f inserts)
    (λ may. may_name_link v ok d a.place.now a.number 1 a.now 0 a.user may a.target.now (omega arith) e p) q)
    c.in_ok-new_link.ensures.turns c.insert.ensures.turns
