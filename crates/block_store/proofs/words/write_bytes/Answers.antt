use Rattle.block_store.proofs.Turns.{turns_after}
use Rattle.block_store.proofs.words.write_bytes.Goals as goal

pub returns-clause-turns : goal.returns-clause-turns
returns-clause-turns g c =
    turns_after _ g.met.B.Blocks.lawful _ _ _ _ c.fetch.ensures.turns (c.change.ensures.turns c.args.block c.in_ok-frame.ensures.frame)
