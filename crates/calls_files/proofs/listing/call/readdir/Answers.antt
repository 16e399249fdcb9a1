use Rattle.std.proofs.Common.{sym, ap, subst, ◌∙◌}
use Rattle.volume.specs.Reading.{Disk}
use Rattle.volume.specs.Pieces.{pieces}
use Rattle.volume.specs.Nodes.{directory_of, entry_count_of, file_byte}
use Rattle.descriptors.specs.Table.{files_of}
use Rattle.block_store.proofs.Turns.{turns_as, turns_then}
use Rattle.block_store.proofs.Ending.{ends_exit}
use Rattle.calls_attributes.proofs.Looks.{found_some, found_none, said_of, none_left, given_ok}
use Rattle.calls_files.specs.Numbers.{HasInodes}
use Rattle.calls_files.proofs.Gathering.{numbers_small}
use Rattle.calls_files.proofs.ReaddirCall.{readdir_closed, readdir_refused, readdir_lacks, readdir_done, kind_of}
use Rattle.calls_files.proofs.listing.call.readdir.Goals as goal

pub returns-in_default-clause-turns : goal.returns-in_default-clause-turns
returns-in_default-clause-turns g c =
    let a = c.args in
    turns_as _ _ _ _ _ (λ d e x. readdir_closed a.geometry.now d e x.0 a.session a.fd (files_of a.opens.now)
    (found_none _ _ (none_left _ c.in_default.not-Some) c.in_ok-file.ensures.file))
    c.in_ok-file.ensures.reads.turns

pub returns-in-Some-refusal-clause-turns : goal.returns-in-Some-refusal-clause-turns
returns-in-Some-refusal-clause-turns g c =
    let a = c.args in
    turns_as _ _ _ _ _ (λ d e x. readdir_refused a.geometry.now d e x.0 a.session a.fd (files_of a.opens.now) c.in-Some.file
    (found_some _ _ _ c.in-Some.is c.in_ok-file.ensures.file) (said_of _ _ _ c.in-Some.is x.1) c.in-Some-refusal.refusal
    (sym c.refusal.ensures ∙ c.in-Some-refusal.is))
    c.in_ok-file.ensures.reads.turns

pub returns-in_err-entries-clause-turns : goal.returns-in_err-entries-clause-turns
returns-in_err-entries-clause-turns g c =
    let a = c.args in
    let i = c.in-Some.file.inode in
    let may = sym c.refusal.ensures ∙ none_left _ c.in_default-refusal.not-Some in
    turns_then _ g.met.B.Blocks.lawful _ _ _ _ _ _ (λ d m e x y. ends_exit _ _ _ _ _ _ c.from_residual-in_err-entries.ensures.1
    (λ held. subst (λ (z : Disk). HasInodes (file_byte a.geometry.now (pieces a.geometry.now z) i) (entry_count_of i)) (sym x.0)
    (numbers_small a.geometry.now d c.requires.on.geometry (files_of a.opens.now) a.session a.fd c.in-Some.file
    (found_some _ _ _ c.in-Some.is c.in_ok-file.ensures.file) (said_of _ _ _ c.in-Some.is x.1)
    (kind_of a.geometry.now d d (λ j. d) a.session a.fd (files_of a.opens.now) c.in-Some.file (found_some _ _ _ c.in-Some.is c.in_ok-file.ensures.file) (said_of _ _ _ c.in-Some.is x.1) may) held)) y.1)
    c.in_ok-file.ensures.reads.turns c.in_err-entries.ensures.reads.turns

pub returns-in-Err-clause-turns : goal.returns-in-Err-clause-turns
returns-in-Err-clause-turns g c =
    let a = c.args in
    let may = sym c.refusal.ensures ∙ none_left _ c.in_default-refusal.not-Some in
    turns_then _ g.met.B.Blocks.lawful _ _ _ _ _ _ (λ d m e x y. readdir_lacks a.geometry.now d e (y.0 ∙ x.0) a.session a.fd (files_of a.opens.now) c.in-Some.file
    (found_some _ _ _ c.in-Some.is c.in_ok-file.ensures.file) (said_of _ _ _ c.in-Some.is x.1) may)
    c.in_ok-file.ensures.reads.turns c.in_ok-entries.ensures.reads.turns

pub returns-in-Ok-clause-turns : goal.returns-in-Ok-clause-turns
returns-in-Ok-clause-turns g c =
    let a = c.args in
    let may = sym c.refusal.ensures ∙ none_left _ c.in_default-refusal.not-Some in
    turns_then _ g.met.B.Blocks.lawful _ _ _ _ _ _ (λ d m e x y. readdir_done a.geometry.now d e (y.0 ∙ x.0) a.session a.fd (files_of a.opens.now) c.in-Some.file
    (found_some _ _ _ c.in-Some.is c.in_ok-file.ensures.file) (said_of _ _ _ c.in-Some.is x.1) may _
    (given_ok _ _ _ c.in-Ok.is y.1 ∙ ap (λ (z : Disk). (directory_of a.geometry.now (pieces a.geometry.now z) c.in-Some.file.inode).names) x.0))
    c.in_ok-file.ensures.reads.turns c.in_ok-entries.ensures.reads.turns
