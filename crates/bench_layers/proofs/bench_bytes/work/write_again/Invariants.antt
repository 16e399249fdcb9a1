use Rattle.block_store.specs.Volume.{IsOn}
use Rattle.bench_layers.proofs.bench_bytes.work.write_again.Given as goal

abbrev pub invariant-loop : goal.invariant-loop
invariant-loop g l = IsOn g.B.Blocks.world l.geometry l.blocks
