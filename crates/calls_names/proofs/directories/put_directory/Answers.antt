use Rattle.std.proofs.Common.{◌<◌, length, arith, rules}
use Rattle.block_store.proofs.Ending.{ends_exit, turns_three}
use Rattle.block_store.proofs.Turns.{ends_as, turns_as, turns_none, turns_then}
use Rattle.calls_names.specs.Making.{MakesDirectoryAt, MayMakeDirectoryAt}
use Rattle.calls_names.proofs.Putting.{all_done, name_short, to_enter, to_link, to_make}
use Rattle.calls_names.proofs.directories.put_directory.Goals as goal

pub returns-then-place-gt-MAX_NAME-clause-turns : goal.returns-then-place-gt-MAX_NAME-clause-turns
returns-then-place-gt-MAX_NAME-clause-turns g c =
    let a = c.args in
    let big : 60 < length a.place.now.name.now = search rules in
    turns_as _ _ _ _ _ (λ d e p may. let short = name_short a.place.now.name.now may.make.vacant.named in absurd (omega (arith, big, short)))
    (turns_none _ g.met.B.Blocks.lawful _ c.requires.on.ready)

pub returns-in_err-new_directory-clause-turns : goal.returns-in_err-new_directory-clause-turns
returns-in_err-new_directory-clause-turns g c =
    let a = c.args in
    turns_as _ _ _ _ _
    (λ d e p. ends_exit _ _ _ _ _ _ c.from_residual.ensures.1
    (λ may. to_make a.geometry.now c.requires.on.geometry d a.place.now a.number a.now a.mode a.user may) p)
    c.in_err-new_directory.ensures.turns

pub returns-in_err-insert-clause-turns : goal.returns-in_err-insert-clause-turns
returns-in_err-insert-clause-turns g c =
    let a = c.args in
    turns_then _ g.met.B.Blocks.lawful _ _ _ _ _ _
    (λ d e f p q. ends_exit _ _ _ _ _ _ c.from_residual-in_err-insert.ensures.1
    (λ may. to_enter a.geometry.now c.requires.on.geometry d a.place.now a.number a.now a.mode a.user may e p) q)
    c.in_ok-new_directory.ensures.turns c.in_err-insert.ensures.turns

pub returns-clause-turns : goal.returns-clause-turns
returns-clause-turns g c =
    let a = c.args in
    let v = a.geometry.now in
    let ok = c.requires.on.geometry in
    turns_three _ g.met.B.Blocks.lawful _ _ _ _ _ _ _ _
    (λ d e f h p q r. ends_as _ _ (λ x. MakesDirectoryAt v a.user a.now a.mode a.place.now a.number d h) _ (MayMakeDirectoryAt v d a.place.now a.number)
    (λ x adds may. all_done v ok d a.place.now a.number a.now a.mode a.user may e p f q h adds)
    (λ may. to_link v ok d a.place.now a.number a.now a.mode a.user may e p f q) r)
    c.in_ok-new_directory.ensures.turns c.in_ok-insert.ensures.turns c.add_link.ensures.turns
