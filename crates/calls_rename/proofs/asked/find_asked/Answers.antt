use Rattle.std.proofs.Common.{◌≡◌, ◌<◌, ◌∙◌, true, false, sym, arith}
use Rattle.std.specs.Prelude.{Ok}
use Rattle.tree.specs.IsCall.{IsBytes}
use Rattle.tree.specs.Walk.{has_last_name, read_path}
use Rattle.block_store.proofs.Turns.{ends_as, reads_as, reads_none}
use Rattle.calls_rename.proofs.Finding.{asked_as_found, named_in_asked, new_not_read, new_unnamed, old_not_read, old_unnamed}
use Rattle.calls_rename.proofs.asked.find_asked.Goals as goal

pub returns-in-Err-clause-reads : goal.returns-in-Err-clause-reads
returns-in-Err-clause-reads g c =
    let a = c.args in
    reads_none _ g.met.B.Blocks.lawful _ _ c.requires.on.ready (λ d. old_not_read a.geometry.now d a.user a.old a.new c.in-Err.errno (sym c.in-Err.ensures.parsed))

pub returns-in-Err-parse-clause-reads : goal.returns-in-Err-parse-clause-reads
returns-in-Err-parse-clause-reads g c =
    let a = c.args in
    let old_read : read_path a.old ≡ Ok c.in-Ok.path = sym c.in-Ok.ensures.parsed in
    reads_none _ g.met.B.Blocks.lawful _ _ c.requires.on.ready (λ d. new_not_read a.geometry.now d a.user a.old a.new c.in-Ok.path old_read c.in-Err-parse.errno (sym c.in-Err-parse.ensures.parsed))

pub returns-then-not-has_last_name-clause-reads : goal.returns-then-not-has_last_name-clause-reads
returns-then-not-has_last_name-clause-reads g c =
    let a = c.args in
    let from = c.in-Ok.path in
    let to = c.in-Ok-parse.path in
    let old_read : read_path a.old ≡ Ok from = sym c.in-Ok.ensures.parsed in
    let new_read : read_path a.new ≡ Ok to = sym c.in-Ok-parse.ensures.parsed in
    let none : has_last_name from ≡ false = sym c.has_last_name.ensures ∙ c.if-not-has_last_name.true in
    reads_none _ g.met.B.Blocks.lawful _ _ c.requires.on.ready (λ d. old_unnamed a.geometry.now d a.user a.old a.new from old_read to new_read none)

pub returns-then-not-has_last_name-2-clause-reads : goal.returns-then-not-has_last_name-2-clause-reads
returns-then-not-has_last_name-2-clause-reads g c =
    let a = c.args in
    let from = c.in-Ok.path in
    let to = c.in-Ok-parse.path in
    let old_read : read_path a.old ≡ Ok from = sym c.in-Ok.ensures.parsed in
    let new_read : read_path a.new ≡ Ok to = sym c.in-Ok-parse.ensures.parsed in
    let last : has_last_name from ≡ true = sym c.has_last_name.ensures ∙ c.if-not-has_last_name.false in
    let none : has_last_name to ≡ false = sym c.has_last_name-2.ensures ∙ c.if-not-has_last_name-2.true in
    reads_none _ g.met.B.Blocks.lawful _ _ c.requires.on.ready (λ d. new_unnamed a.geometry.now d a.user a.old a.new from old_read to new_read last none)

pub returns-clause-reads : goal.returns-clause-reads
returns-clause-reads g c =
    let a = c.args in
    let from = c.in-Ok.path in
    let to = c.in-Ok-parse.path in
    let old_read : read_path a.old ≡ Ok from = sym c.in-Ok.ensures.parsed in
    let new_read : read_path a.new ≡ Ok to = sym c.in-Ok-parse.ensures.parsed in
    let last : has_last_name from ≡ true = sym c.has_last_name.ensures ∙ c.if-not-has_last_name.false in
    let last_too : has_last_name to ≡ true = sym c.has_last_name-2.ensures ∙ c.if-not-has_last_name-2.false in
    reads_as _ _ _ _ _
    (λ d p. ends_as c.find_both.result _ _ _ _ (λ r f. asked_as_found a.geometry.now d a.user a.old a.new from old_read to new_read last last_too r f) (λ x. x) p)
    c.find_both.ensures.reads

pub returns-clause-named : goal.returns-clause-named
returns-clause-named g c =
    let a = c.args in
    let from = c.in-Ok.path in
    let to = c.in-Ok-parse.path in
    let old_read : read_path a.old ≡ Ok from = sym c.in-Ok.ensures.parsed in
    let new_read : read_path a.new ≡ Ok to = sym c.in-Ok-parse.ensures.parsed in
    let last : has_last_name from ≡ true = sym c.has_last_name.ensures ∙ c.if-not-has_last_name.false in
    let last_too : has_last_name to ≡ true = sym c.has_last_name-2.ensures ∙ c.if-not-has_last_name-2.false in
    let bytes : IsBytes a.old.bytes.now = c.are_bytes.ensures in
    let bytes_too : IsBytes a.new.bytes.now = c.are_bytes-2.ensures in
    named_in_asked a.geometry.now (λ b k. 0) a.user a.old a.new from old_read to new_read last last_too bytes bytes_too a.now c.find_both.result c.find_both.ensures.between
