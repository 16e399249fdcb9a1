use Rattle.block_store.specs.Volume.{IsOn}
use Rattle.bench_layers.proofs.bench_bytes.at_hand.empty.Given as goal

abbrev pub invariant-loop-block : goal.invariant-loop-block
invariant-loop-block g l = IsOn g.B.Blocks.world l.geometry l.blocks
