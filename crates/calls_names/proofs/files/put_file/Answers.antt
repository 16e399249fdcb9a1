use Rattle.std.proofs.Common.{◌<◌, length, arith, rules}
use Rattle.tree.specs.Changes.{empty_file, new_node}
use Rattle.block_store.proofs.Ending.{ends_exit}
use Rattle.block_store.proofs.Turns.{ends_as, turns_as, turns_none, turns_then}
use Rattle.calls_names.specs.Making.{MakesFileAt, MayMakeAt}
use Rattle.calls_names.proofs.Putting.{file_done, file_small, file_stands, may_enter, may_make_file, name_short}
use Rattle.calls_names.proofs.files.put_file.Goals as goal

pub returns-then-place-gt-MAX_NAME-clause-turns : goal.returns-then-place-gt-MAX_NAME-clause-turns
returns-then-place-gt-MAX_NAME-clause-turns g c =
    let a = c.args in
    let big : 60 < length a.place.now.name.now = search rules in
    turns_as _ _ _ _ _ (λ d e p may. let short = name_short a.place.now.name.now may.vacant.named in absurd (omega (arith, big, short)))
    (turns_none _ g.met.B.Blocks.lawful _ c.requires.on.ready)

pub returns-in_err-new_file-clause-turns : goal.returns-in_err-new_file-clause-turns
returns-in_err-new_file-clause-turns g c =
    let a = c.args in
    turns_as _ _ _ _ _
    (λ d e p. ends_exit _ _ _ _ _ _ c.from_residual.ensures.1
    (λ may. may_make_file a.geometry.now c.requires.on.geometry d a.place.now a.number 0 a.now a.mode a.user may) p)
    c.in_err-new_file.ensures.turns

pub returns-clause-turns : goal.returns-clause-turns
returns-clause-turns g c =
    let a = c.args in
    let v = a.geometry.now in
    let ok = c.requires.on.geometry in
    turns_then _ g.met.B.Blocks.lawful _ _ _ _ _ _
    (λ d e f p q. ends_as _ _ (λ x. MakesFileAt v a.user a.now a.mode a.place.now a.number d f) _ (MayMakeAt v d a.place.now a.number 0)
    (λ x inserts may. file_done v ok d a.place.now a.number 0 a.now a.mode a.user may e f p inserts)
    (λ may. may_enter v ok d a.place.now a.number 0 a.now a.mode a.user may (new_node a.now a.user a.mode 1 empty_file) e
    (file_small v ok d a.place.now a.number 0 a.now a.mode a.user may) (file_stands v ok d a.place.now a.number 0 a.now a.mode a.user may e p)) q)
    c.in_ok-new_file.ensures.turns c.insert.ensures.turns
