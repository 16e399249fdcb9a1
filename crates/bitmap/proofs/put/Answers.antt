use Rattle.block_store.proofs.Turns.{turns_then, on_ok}
use Rattle.bitmap.proofs.Maps.{was_put}
use Rattle.bitmap.proofs.put.Goals as goal

pub returns-clause-turns : goal.returns-clause-turns
returns-clause-turns g c =
    let p = c.place_of-place in
    let b = c.with_bit-changed in
    turns_then _ g.met.B.Blocks.lawful _ _ _ _ _ _
    (λ d e f x y. on_ok c.write_bytes.result _ _
    (λ after. was_put c.args.map c.args.geometry.now c.requires.on.geometry d e f c.args.number p.result.block p.result.byte p.result.bit c.in_ok-byte.byte
    b.result c.args.inside c.requires.number p.ensures.block p.ensures.byte p.ensures.bit b.ensures.this b.ensures.others x.0 x.1 after) y)
    c.in_ok-byte.ensures.reads.turns c.write_bytes.ensures.turns
