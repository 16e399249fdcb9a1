use Rattle.std.proofs.Common.{sym, ap, ◌∙◌, w64}
use Rattle.std.proofs.lemmas.Int.{to_z-of_z}
use Rattle.tree.specs.FileCalls.{seek_place}
use Rattle.block_store.proofs.Turns.{turns_as}
use Rattle.descriptors.specs.Table.{files_of}
use Rattle.calls_files.specs.Seeking.{may_lie}
use Rattle.calls_attributes.proofs.Looks.{found_some, found_none, said_of, none_left}
use Rattle.calls_files.proofs.SeekCall.{seek_closed, seek_barred, seek_nowhere, seek_done}
use Rattle.calls_files.proofs.seeking.seek.Goals as goal

pub returns-in_default-clause-turns : goal.returns-in_default-clause-turns
returns-in_default-clause-turns g c =
    let a = c.args in
    turns_as _ _ _ _ _ (λ d e x. seek_closed a.geometry.now d e x.0 a.session a.fd a.whence a.offset (files_of a.opens.now)
    (found_none _ _ (none_left _ c.in_default.not-Some) c.in_ok-file.ensures.file))
    c.in_ok-file.ensures.reads.turns

pub returns-then-is_directory-clause-turns : goal.returns-then-is_directory-clause-turns
returns-then-is_directory-clause-turns g c =
    let a = c.args in
    turns_as _ _ _ _ _ (λ d e x. seek_barred a.geometry.now d e x.0 a.session a.fd a.whence a.offset (files_of a.opens.now) c.in-Some.file
    (found_some _ _ _ c.in-Some.is c.in_ok-file.ensures.file) (said_of _ _ _ c.in-Some.is x.1)
    (sym c.is_directory.ensures ∙ c.if-is_directory.true))
    c.in_ok-file.ensures.reads.turns

pub returns-in-None-clause-turns : goal.returns-in-None-clause-turns
returns-in-None-clause-turns g c =
    let a = c.args in
    turns_as _ _ _ _ _ (λ d e x. seek_nowhere a.geometry.now d e x.0 a.session a.fd a.whence a.offset (files_of a.opens.now) c.in-Some.file
    (found_some _ _ _ c.in-Some.is c.in_ok-file.ensures.file) (said_of _ _ _ c.in-Some.is x.1)
    (sym c.is_directory.ensures ∙ c.if-is_directory.false) c.place.result
    (c.place.ensures.place ∙ ap (λ z. may_lie (seek_place c.base.result z)) (to_z-of_z w64 a.offset c.ranges.offset) ∙ ap (λ n. may_lie (seek_place n a.offset)) c.base.ensures) c.in-None.is)
    c.in_ok-file.ensures.reads.turns

pub returns-in-Some-place-clause-turns : goal.returns-in-Some-place-clause-turns
returns-in-Some-place-clause-turns g c =
    let a = c.args in
    turns_as _ _ _ _ _ (λ d e x. seek_done a.geometry.now d e x.0 a.session a.fd a.whence a.offset (files_of a.opens.now) c.in-Some.file
    (found_some _ _ _ c.in-Some.is c.in_ok-file.ensures.file) (said_of _ _ _ c.in-Some.is x.1)
    (sym c.is_directory.ensures ∙ c.if-is_directory.false) c.place.result
    (c.place.ensures.place ∙ ap (λ z. may_lie (seek_place c.base.result z)) (to_z-of_z w64 a.offset c.ranges.offset) ∙ ap (λ n. may_lie (seek_place n a.offset)) c.base.ensures)
    c.requires.session c.in-Some-place.position (files_of c.set_position.new.self) c.in-Some-place.is c.set_position.ensures)
    c.in_ok-file.ensures.reads.turns
