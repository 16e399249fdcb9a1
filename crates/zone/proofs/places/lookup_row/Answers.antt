use Rattle.std.proofs.Common.{rules, ◌≡◌, ◌≤◌, ◌+◌, ◌-◌, ◌%◌, length, drop, arith}
use Rattle.volume.specs.Pieces.{pieces}
use Rattle.volume.proofs.Volumes.{numbers_sized}
use Rattle.block_store.proofs.Turns.{reads_none, reads_then, if_cut}
use Rattle.zone.proofs.Rows.{direct_row, row_found}
use Rattle.zone.proofs.places.lookup_row.Goals as goal

pub returns-then-page-first-clause-reads : goal.returns-then-page-first-clause-reads
returns-then-page-first-clause-reads g c =
    let a = c.args in
    let n = c.min-count.result in
    let ten : length a.inode.now.zones ≡ 10 = search rules in
    let within : a.page + n ≤ 7 = omega arith in
    let same : a.page + n - a.page ≡ n = omega arith in
    reads_none _ g.met.B.Blocks.lawful _ _ c.requires.on.ready
    (λ d. direct_row a.geometry.now (pieces a.geometry.now d) a.inode.now a.page n (a.page + n - a.page) c.copy_from_slice.new.self (drop n a.into.now) ten within same
    c.copy_from_slice.ensures.after)

pub returns-in_err-numbers-clause-reads : goal.returns-in_err-numbers-clause-reads
returns-in_err-numbers-clause-reads g c =
    reads_then _ g.met.B.Blocks.lawful _ _ _ _ _ _ (λ d p q. if_cut c.from_residual-in_err-numbers.result _ c.from_residual-in_err-numbers.ensures.0)
    c.in_ok-block.ensures.reads c.in_err-numbers.ensures.reads

pub returns-clause-reads : goal.returns-clause-reads
returns-clause-reads g c =
    let a = c.args in
    let w = c.numbers_in_zone-width.result in
    let f = c.first_places-first.result in
    let n = c.min-count-2.result in
    let within : (a.page - f) % w + n ≤ w = search rules in
    let many : length c.numbers.new.into ≡ n = search rules in
    reads_then _ g.met.B.Blocks.lawful _ _ _ _ _ _
    (λ d p q. row_found a.geometry.now (pieces a.geometry.now d) a.inode.now a.page f w c.in_ok-block.block n c.numbers.new.into (drop n a.into.now)
    (numbers_sized a.geometry.now c.requires.on.geometry) c.first_places-first.ensures c.numbers_in_zone-width.ensures c.if-page-first.false within many p q)
    c.in_ok-block.ensures.reads c.in_ok-numbers.ensures.reads
