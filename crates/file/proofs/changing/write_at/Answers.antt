use Rattle.block_store.proofs.Turns.{turns_then, ends_as}
use Rattle.file.proofs.SoFar.{writes_at, may_write_inside}
use Rattle.file.proofs.changing.write_at.Goals as goal

pub returns-clause-turns : goal.returns-clause-turns
returns-clause-turns g c =
    let a = c.args in
    turns_then _ g.met.B.Blocks.lawful _ _ _ _ _ _
    (λ d e f p q. ends_as c.write_inside.result _ _ _ _ (λ u h. writes_at a.geometry.now d e a.number a.at a.bytes.now p f h)
    (λ may. may_write_inside a.geometry.now d e a.number a.at a.bytes.now p may) q)
    c.in_ok-grow.ensures.turns c.write_inside.ensures.turns
