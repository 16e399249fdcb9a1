use Rattle.std.proofs.Common.{◌/◌}
use Rattle.block_store.proofs.Turns.{turns_as, turns_then, ends_as}
use Rattle.block_store.proofs.Ending.{ends_exit}
use Rattle.file.proofs.Chunk.{may_hold, writes_chunk, chunk_zone}
use Rattle.file.proofs.changing.write_chunk.Goals as goal

pub returns-in_err-zone-clause-turns : goal.returns-in_err-zone-clause-turns
returns-in_err-zone-clause-turns g c =
    let a = c.args in
    turns_as _ _ _ _ _ (λ d e p. ends_exit _ _ _ _ _ _ c.from_residual.ensures.1 (λ may. may_hold a.geometry.now d a.number a.at a.bytes.now c.requires.some c.requires.end may) p)
    c.in_err-zone.ensures.turns

pub returns-clause-turns : goal.returns-clause-turns
returns-clause-turns g c =
    let a = c.args in
    let page = a.at / a.geometry.now.block_size in
    turns_then _ g.met.B.Blocks.lawful _ _ _ _ _ _
    (λ d e f p q. ends_as c.write_page.result _ _ _ _
    (λ u h. writes_chunk a.geometry.now d e f a.number a.at c.in_ok-zone.zone a.bytes.now c.requires.some c.requires.end c.requires.within p (h a.number page))
    (λ may. chunk_zone a.geometry.now d e a.number a.at c.in_ok-zone.zone a.bytes.now c.requires.some c.requires.end p may) q)
    c.in_ok-zone.ensures.turns c.write_page.ensures.turns
