use Rattle.std.proofs.Common.{◌≡◌, ℕ, ◌≤◌, ◌<◌}
use Rattle.tests_frames.proofs.blocks.clear_run.Given as goal

abbrev pub invariant-loop-nth : goal.invariant-loop-nth
invariant-loop-nth g l = record {
  ready : g.B.Blocks.world.ready l.blocks;
  size : g.B.Blocks.world.size l.blocks ≡ 4096;
  inside : (block : ℕ) → 2 ≤ block → block < 512 → g.B.Blocks.world.writable l.blocks block;
}
