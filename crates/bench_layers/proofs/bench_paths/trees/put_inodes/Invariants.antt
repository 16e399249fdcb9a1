use Rattle.block_store.specs.Volume.{IsOn}
use Rattle.bench_layers.proofs.bench_paths.trees.put_inodes.Given as goal

abbrev pub invariant-loop-number : goal.invariant-loop-number
invariant-loop-number g l = IsOn g.B.Blocks.world l.geometry l.blocks
