use Rattle.std.proofs.Common.{rules, ◌≡◌, ◌≤◌, length, take, drop, length-take, arith}
use Rattle.volume.specs.Pieces.{pieces}
use Rattle.block_store.proofs.Turns.{reads_as, if_ok}
use Rattle.file.proofs.Joined.{row_in_front}
use Rattle.file.proofs.file_pages.rows.find_row.Goals as goal

pub returns-clause-reads : goal.returns-clause-reads
returns-clause-reads g c =
    let a = c.args in
    let most = c.min-most.result in
    let many : length c.lookup_row.new.into ≡ length (take most a.zones.now) = search rules in
    reads_as _ _ _ _ _
    (λ d p. row_in_front a.geometry.now (pieces a.geometry.now d) a.inode.now _ _ c.lookup_row.new.into (drop most a.zones.now) c.lookup_row.result many
    c.lookup_row.ensures.some p)
    c.lookup_row.ensures.reads

pub returns-clause-some : goal.returns-clause-some
returns-clause-some g c =
    let a = c.args in
    let most = c.min-most.result in
    let low : length (take most a.zones.now) ≤ length a.zones.now = let l = length-take most a.zones.now in omega (arith, l) in
    if_ok c.lookup_row.result _ _ (λ n h. (h.0, omega (arith, h.1, low))) c.lookup_row.ensures.some
