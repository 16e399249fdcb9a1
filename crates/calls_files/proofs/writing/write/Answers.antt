use Rattle.std.proofs.Common.{◌≡◌, ◌+◌, ◌<◌, length, refl, sym, subst, ◌∙◌, arith, rules}
use Rattle.lemmas.proofs.Lists.{bytes_are_low}
use Rattle.volume.specs.Pieces.{pieces}
use Rattle.descriptors.specs.Table.{files_of}
use Rattle.file.specs.PageChanges.{MayChange}
use Rattle.block_store.proofs.Turns.{turns_as, turns_then}
use Rattle.calls_attributes.proofs.Exits.{ends_exit}
use Rattle.calls_attributes.proofs.Looks.{found_some, found_none, said_of}
use Rattle.calls_files.proofs.WriteCall.{write_closed, write_refused, write_none, write_full, write_done, may_change_held, from_start}
use Rattle.calls_files.proofs.writing.write.Goals as goal

pub returns-in_default-clause-turns : goal.returns-in_default-clause-turns
returns-in_default-clause-turns g c =
    let a = c.args in
    turns_as _ _ _ _ _ (λ d e x. write_closed a.geometry.now c.requires.on.geometry d a.session a.fd a.now a.bytes (files_of a.opens.now) e x.0
    (found_none _ _ c.in_default.is c.in_ok-file.ensures.file))
    c.in_ok-file.ensures.reads.turns

pub returns-in-Some-refusal-clause-turns : goal.returns-in-Some-refusal-clause-turns
returns-in-Some-refusal-clause-turns g c =
    let a = c.args in
    turns_as _ _ _ _ _ (λ d e x. write_refused a.geometry.now c.requires.on.geometry d a.session a.fd a.now a.bytes (files_of a.opens.now) c.in-Some.file
    (found_some _ _ _ c.in-Some.is c.in_ok-file.ensures.file) (said_of _ _ _ c.in-Some.is x.1) e c.in-Some-refusal.refusal x.0
    (sym c.refusal.ensures ∙ c.in-Some-refusal.is))
    c.in_ok-file.ensures.reads.turns

pub returns-then-is_empty-clause-turns : goal.returns-then-is_empty-clause-turns
returns-then-is_empty-clause-turns g c =
    let a = c.args in
    let none : length a.bytes.now ≡ 0 = search rules in
    turns_as _ _ _ _ _ (λ d e x. write_none a.geometry.now c.requires.on.geometry d a.session a.fd a.now a.bytes (files_of a.opens.now) c.in-Some.file
    (found_some _ _ _ c.in-Some.is c.in_ok-file.ensures.file) (said_of _ _ _ c.in-Some.is x.1) (sym c.refusal.ensures ∙ c.in_default-refusal.is) e x.0 none)
    c.in_ok-file.ensures.reads.turns

pub returns-in_err-write_if_room-clause-turns : goal.returns-in_err-write_if_room-clause-turns
returns-in_err-write_if_room-clause-turns g c =
    let a = c.args in
    turns_then _ g.met.B.Blocks.lawful _ _ _ _ _ _
    (λ d e h x y. ends_exit _ _ _ _ _ _ c.from_residual-in_err-write_if_room.ensures.1
    (λ held. subst (λ z. MayChange a.geometry.now (pieces a.geometry.now z) c.from.result) (sym x.0)
    (subst (λ n. MayChange a.geometry.now (pieces a.geometry.now d) n) (sym c.from.ensures)
    (may_change_held a.geometry.now c.requires.on.geometry d a.session a.fd a.now a.bytes (files_of a.opens.now) c.in-Some.file
    (found_some _ _ _ c.in-Some.is c.in_ok-file.ensures.file) (said_of _ _ _ c.in-Some.is x.1) held))) y)
    c.in_ok-file.ensures.reads.turns c.in_err-write_if_room.ensures.turns

pub returns-then-not-branch-clause-turns : goal.returns-then-not-branch-clause-turns
returns-then-not-branch-clause-turns g c =
    let a = c.args in
    let some : 0 < length a.bytes.now = search rules in
    turns_then _ g.met.B.Blocks.lawful _ _ _ _ _ _
    (λ d e h x y. write_full a.geometry.now c.requires.on.geometry d a.session a.fd a.now a.bytes (files_of a.opens.now) c.in-Some.file
    (found_some _ _ _ c.in-Some.is c.in_ok-file.ensures.file) (said_of _ _ _ c.in-Some.is x.1) (sym c.refusal.ensures ∙ c.in_default-refusal.is)
    some c.write_place-at.result c.write_place-at.ensures h
    (from_start a.geometry.now _ _ _ _ _ _ _ _ _ _ c.from.ensures c.if-not-branch.true x.0 y))
    c.in_ok-file.ensures.reads.turns c.in_ok-write_if_room.ensures.turns

pub returns-clause-turns : goal.returns-clause-turns
returns-clause-turns g c =
    let a = c.args in
    let some : 0 < length a.bytes.now = search rules in
    turns_then _ g.met.B.Blocks.lawful _ _ _ _ _ _
    (λ d e h x y. write_done a.geometry.now c.requires.on.geometry d a.session a.fd a.now a.bytes (files_of a.opens.now) c.in-Some.file
    (found_some _ _ _ c.in-Some.is c.in_ok-file.ensures.file) (said_of _ _ _ c.in-Some.is x.1) (sym c.refusal.ensures ∙ c.in_default-refusal.is)
    some c.write_place-at.result c.write_place-at.ensures h (c.write_place-at.result + length a.bytes.now) (files_of c.set_position.new.self) c.requires.session
    (let k = c.ranges.now.fits in omega (arith, k)) (bytes_are_low a.bytes.now c.type_inv.bytes)
    (from_start a.geometry.now _ _ _ _ _ _ _ _ _ _ c.from.ensures c.if-not-branch.false x.0 y) refl c.set_position.ensures)
    c.in_ok-file.ensures.reads.turns c.in_ok-write_if_room.ensures.turns
