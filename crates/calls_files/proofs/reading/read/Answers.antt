use Rattle.std.proofs.Common.{◌≡◌, ◌+◌, sym, ap, ◌∙◌, length, rules}
use Rattle.volume.specs.Reading.{Disk}
use Rattle.volume.specs.Pieces.{pieces}
use Rattle.volume.specs.Nodes.{file_of}
use Rattle.tree.specs.FileCalls.{bytes_read}
use Rattle.descriptors.specs.Table.{files_of}
use Rattle.block_store.proofs.Turns.{turns_as, turns_then}
use Rattle.calls_attributes.proofs.Looks.{found_some, found_none, said_of, none_left, given_ok, too_big}
use Rattle.calls_files.proofs.ReadCall.{read_closed, read_refused, read_lacks, read_done, size_held}
use Rattle.calls_files.proofs.reading.read.Goals as goal

pub returns-in-Some-refusal-clause-turns : goal.returns-in-Some-refusal-clause-turns
returns-in-Some-refusal-clause-turns g c =
    let a = c.args in
    turns_as _ _ _ _ _ (λ d e x. read_refused a.geometry.now d e x.0 a.session a.fd a.count (files_of a.opens.now) c.in-Some.file
    (found_some _ _ _ c.in-Some.is c.in_ok-file.ensures.file) (said_of _ _ _ c.in-Some.is x.1) c.in-Some-refusal.refusal
    (sym c.refusal.ensures ∙ c.in-Some-refusal.is))
    c.in_ok-file.ensures.reads.turns

pub returns-in_default-clause-turns : goal.returns-in_default-clause-turns
returns-in_default-clause-turns g c =
    let a = c.args in
    turns_as _ _ _ _ _ (λ d e x. read_closed a.geometry.now d e x.0 a.session a.fd a.count (files_of a.opens.now)
    (found_none _ _ (none_left _ c.in_default.not-Some) c.in_ok-file.ensures.file))
    c.in_ok-file.ensures.reads.turns

pub returns-then-file-gt-MAX_SIZE-clause-turns : goal.returns-then-file-gt-MAX_SIZE-clause-turns
returns-then-file-gt-MAX_SIZE-clause-turns g c =
    let a = c.args in
    let may = sym c.refusal.ensures ∙ none_left _ c.in_default-refusal.not-Some in
    turns_as _ _ _ _ _ (λ d e x. λ held. too_big _ c.if-file-gt-MAX_SIZE.true
    (size_held a.geometry.now d e x.0 a.session a.fd a.count (files_of a.opens.now) c.in-Some.file
    (found_some _ _ _ c.in-Some.is c.in_ok-file.ensures.file) (said_of _ _ _ c.in-Some.is x.1) may held))
    c.in_ok-file.ensures.reads.turns

pub returns-in-Err-clause-turns : goal.returns-in-Err-clause-turns
returns-in-Err-clause-turns g c =
    let a = c.args in
    let may = sym c.refusal.ensures ∙ none_left _ c.in_default-refusal.not-Some in
    turns_then _ g.met.B.Blocks.lawful _ _ _ _ _ _ (λ d e h x y. read_lacks a.geometry.now d h (y.0 ∙ x.0) a.session a.fd a.count (files_of a.opens.now) c.in-Some.file
    (found_some _ _ _ c.in-Some.is c.in_ok-file.ensures.file) (said_of _ _ _ c.in-Some.is x.1) may)
    c.in_ok-file.ensures.reads.turns c.in_ok-bytes.ensures.reads.turns

pub returns-in-Ok-clause-turns : goal.returns-in-Ok-clause-turns
returns-in-Ok-clause-turns g c =
    let a = c.args in
    let file = c.in-Some.file in
    let may = sym c.refusal.ensures ∙ none_left _ c.in_default-refusal.not-Some in
    let counted : c.len.result ≡ length c.in-Ok.bytes.items = search rules in
    turns_then _ g.met.B.Blocks.lawful _ _ _ _ _ _ (λ d e h x y. read_done a.geometry.now d h (y.0 ∙ x.0) a.session a.fd a.count (files_of a.opens.now) file
    (found_some _ _ _ c.in-Some.is c.in_ok-file.ensures.file) (said_of _ _ _ c.in-Some.is x.1) may c.requires.session
    c.in-Ok.bytes.items (file.position + c.len.result) (files_of c.set_position.new.self)
    (given_ok _ _ _ c.in-Ok.is y.1 ∙ ap (λ (z : Disk). bytes_read (file_of a.geometry.now (pieces a.geometry.now z) file.inode) file.position a.count) x.0)
    (ap (λ n. file.position + n) counted) c.set_position.ensures)
    c.in_ok-file.ensures.reads.turns c.in_ok-bytes.ensures.reads.turns
