use Rattle.block_store.proofs.Replaced.{turns_replaced}
use Rattle.block_store.proofs.words.replace.Goals as goal

pub returns-clause-turns : goal.returns-clause-turns
returns-clause-turns g c =
    turns_replaced _ g.met.B.Blocks.lawful _ _ _ c.args.block c.args.bytes.now c.requires.whole c.in_ok-frame.ensures.turns
    (c.change.ensures.turns c.args.block c.in_ok-frame.ensures.frame)
